-- For each function of include/asterix.h, no two distinct results meet its statement: every member of the struct is fixed, and what a lent output then holds.
--
-- In order: checking; finding; one item; adding a record; least lengths. Assumes nothing.
use Prim.Native.Nat.{ℕ}
use mathlib.Core.Path.{◌≡◌, sym, ◌∙◌}
use mathlib.Core.List.{List}
use lib.IntN.{ℤ}
use lib.ListN.{length}
use Rattle.rules.specs.Catalogue.{categories}
use Rattle.rules.specs.Entry.{leaves, check_block, check_recording, find_record, find_item, read_one, write_one, add_record, leaves_added, least_length}
use Rattle.items.specs.Answers.{profile_in}
use Rattle.sets.specs.Sets.{frns_of}
use Rattle.asterix.specs.declared.BlockChecked.{BlockChecked}
use Rattle.asterix.specs.declared.RecordingChecked.{RecordingChecked}
use Rattle.asterix.specs.declared.RecordFound.{RecordFound}
use Rattle.asterix.specs.declared.ItemFound.{ItemFound}
use Rattle.asterix.specs.declared.ItemRead.{ItemRead}
use Rattle.asterix.specs.declared.ItemWritten.{ItemWritten}
use Rattle.asterix.specs.declared.RecordAdded.{RecordAdded}
use Rattle.asterix.specs.Answers.{block_checked, recording_checked, record_found, item_found, item_read, item_written, record_added}

-- ---- `asterix_check_block`, `asterix_check_recording`

pub one_check_block : (block : List ℕ) (a b : BlockChecked) → a ≡ block_checked (check_block categories block) → b ≡ block_checked (check_block categories block) → a ≡ b
one_check_block block a b p q = p ∙ sym q

pub one_check_recording : (recording : List ℕ) (a b : RecordingChecked)
    → a ≡ recording_checked (check_recording categories recording) → b ≡ recording_checked (check_recording categories recording) → a ≡ b
one_check_recording recording a b p q = p ∙ sym q

-- ---- `asterix_find_record`, `asterix_find_item`

pub one_find_record : (block : List ℕ) (n : ℕ) (a b : RecordFound) → a ≡ record_found (find_record categories block n) → b ≡ record_found (find_record categories block n) → a ≡ b
one_find_record block n a b p q = p ∙ sym q

pub one_find_item : (block : List ℕ) (reference n : ℕ) (a b : ItemFound)
    → a ≡ item_found (find_item categories block reference n) → b ≡ item_found (find_item categories block reference n) → a ≡ b
one_find_item block reference n a b p q = p ∙ sym q

-- ---- `asterix_read_item`, `asterix_write_item`: the answer, and what the output then holds

pub one_read_item : (category reference : ℕ) (item : List ℕ) (fields : List ℤ) (a b : ItemRead) (left right : List ℤ)
    → a ≡ item_read (read_one categories category reference item) → left ≡ leaves (read_one categories category reference item) fields
    → b ≡ item_read (read_one categories category reference item) → right ≡ leaves (read_one categories category reference item) fields → (a ≡ b) × (left ≡ right)
one_read_item category reference item fields a b left right p l q r = (p ∙ sym q, l ∙ sym r)

pub one_write_item : (category reference : ℕ) (fields : List ℤ) (out : List ℕ) (a b : ItemWritten) (left right : List ℕ)
    → a ≡ item_written (write_one categories category reference fields (length out)) → left ≡ leaves (write_one categories category reference fields (length out)) out
    → b ≡ item_written (write_one categories category reference fields (length out)) → right ≡ leaves (write_one categories category reference fields (length out)) out
    → (a ≡ b) × (left ≡ right)
one_write_item category reference fields out a b left right p l q r = (p ∙ sym q, l ∙ sym r)

-- ---- `asterix_add_record`: the answer, and what the output then holds

pub one_add_record : (out : List ℕ) (used frns : ℕ) (items : List ℕ) (a b : RecordAdded) (left right : List ℕ)
    → a ≡ record_added (add_record categories out used (frns_of frns) items) → left ≡ leaves_added (add_record categories out used (frns_of frns) items) out
    → b ≡ record_added (add_record categories out used (frns_of frns) items) → right ≡ leaves_added (add_record categories out used (frns_of frns) items) out → (a ≡ b) × (left ≡ right)
one_add_record out used frns items a b left right p l q r = (p ∙ sym q, l ∙ sym r)

-- ---- `asterix_least_length`

pub one_least_length : (category place octet a b : ℕ)
    → a ≡ least_length categories (profile_in category categories) place octet → b ≡ least_length categories (profile_in category categories) place octet → a ≡ b
one_least_length category place octet a b p q = p ∙ sym q
