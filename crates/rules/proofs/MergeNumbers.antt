-- Numbers of W-201 (document 02), shown of the rules themselves: at the ends of the rule which record goes first, and a log of each category with its
-- times. An edit of a category's row is refused at them. Assumes nothing.
use Prim.Native.Nat.{ℕ}
use mathlib.Core.Path.{◌≡◌, refl}
use mathlib.Core.Bool.{true, false}
use mathlib.Core.Option.{none, some}
use mathlib.Core.List.{List, [], ◌∷◌}
use lib.IntN.{pos, negsuc}
use Rattle.rules.specs.Answer.{◌>>=◌, need◌or◌then◌, when◌then◌else◌, expect◌or◌, later, octets_of}
use Rattle.rules.specs.Field.{put, get, pack, unpack}
use Rattle.rules.specs.Chain.{octets, joined, read_num, write_num, write_many, read_many, write_chain, read_chain}
use Rattle.rules.specs.Format.{write_parts, read_parts, pack_all, unpack_all, read_plain, write_plain}
use Rattle.rules.specs.Layout.{read_item, write_item}
use Rattle.rules.specs.Presence.{flags, number, usable, house, numbers, flag_rows, write_presence, read_presence, write_row, write_rows, write_places, read_row, read_rows, read_places}
use Rattle.rules.specs.Record.{value_of, spelled, type_of, message_of, judge, write_place, read_place, write_record, read_record}
use Rattle.rules.specs.Block.{category_of, read_up_to, read_all, read_head, read_body, read_block}
use Rattle.rules.specs.Catalogue.{categories}
use Rattle.rules.specs.Block.{write_all, write_block}
use Rattle.rules.specs.Recording.{read_recording}
use Rattle.rules.specs.Merge.{mod_day, gap, in_range, record_time, log_a, log_b, first, Head, heads_of, block_heads, accepted, log_of, from_place, finished, barred, goes, stay, step_from, with_places, step_of, merge_step}

-- ---- times

-- over midnight
pub midnight : gap (pos 0) 11_059_199 0 ≡ 1
unfolding gap mod_day
midnight = refl

-- exactly half a day is A's, one unit more B's
pub half_a_day : (first (pos 0) (some 0) (some 5_529_600) ≡ log_a) × (first (pos 0) (some 0) (some 5_529_601) ≡ log_b)
unfolding first gap mod_day
half_a_day = (refl, refl)

pub offset_ends : (in_range (pos 46_080) ≡ true) × (in_range (negsuc 46_079) ≡ true) × (in_range (pos 46_081) ≡ false) × (in_range (negsuc 46_080) ≡ false)
offset_ends = (refl, refl, refl, refl)

-- ---- logs, every time in them 08:00:00

-- Track data
abbrev pub tracks : List ℕ
tracks =
    0x11 ∷ 0x00 ∷ 0x1f ∷ 0xeb ∷ 0xf8 ∷ 1 ∷ 2 ∷ 3 ∷ 4 ∷ 010 ∷ 0xab ∷ 0xcd ∷ 0xef ∷ 0x38 ∷ 0x40 ∷ 0x00
    ∷ 0 ∷ 0 ∷ 0 ∷ 0 ∷ 0 ∷ 0 ∷ 0 ∷ 0 ∷ 0 ∷ 0 ∷ 0 ∷ 0 ∷ 0 ∷ 0 ∷ 0 ∷ []

-- GICB_response, and GICB_extraction, whose time counts as none
abbrev pub extractions : List ℕ
extractions =
    0x12 ∷ 0x00 ∷ 0x2a ∷ 0xf9 ∷ 0x0d ∷ 0x80 ∷ 1 ∷ 2 ∷ 3 ∷ 4 ∷ 0x43 ∷ 0x00 ∷ 0xab ∷ 0xcd ∷ 0xef ∷ 0 ∷ 0 ∷ 0 ∷ 1 ∷ 0x10 ∷ 0x38 ∷ 0x40 ∷ 0x00
    ∷ 0xe9 ∷ 0x0d ∷ 0x80 ∷ 1 ∷ 2 ∷ 3 ∷ 4 ∷ 0x40 ∷ 0xab ∷ 0xcd ∷ 0xef ∷ 0 ∷ 0 ∷ 0 ∷ 1 ∷ 0x10 ∷ 0x38 ∷ 0x40 ∷ 0x00 ∷ []

abbrev track : Head
track = record { place = 3; size = 28; time = some 3_686_400 }

abbrev response : Head
response = record { place = 3; size = 20; time = some 3_686_400 }

abbrev extraction : Head
extraction = record { place = 23; size = 19; time = none }

pub log_017 : log_of categories tracks ≡ accepted (track ∷ []) 31
unfolding ◌>>=◌ need◌or◌then◌ when◌then◌else◌ expect◌or◌ later octets_of get unpack joined octets read_num write_num write_many read_many write_chain read_chain write_parts read_parts put pack pack_all unpack_all read_plain write_plain read_item write_item flags number usable house numbers flag_rows read_presence write_presence read_row read_rows read_places write_row write_rows write_places value_of spelled type_of message_of judge read_place write_place read_record write_record read_up_to read_all category_of read_head read_body read_block categories write_all write_block read_recording record_time heads_of block_heads log_of
log_017 = refl

pub log_018 : log_of categories extractions ≡ accepted (response ∷ extraction ∷ []) 42
unfolding ◌>>=◌ need◌or◌then◌ when◌then◌else◌ expect◌or◌ later octets_of get unpack joined octets read_num write_num write_many read_many write_chain read_chain write_parts read_parts put pack pack_all unpack_all read_plain write_plain read_item write_item flags number usable house numbers flag_rows read_presence write_presence read_row read_rows read_places write_row write_rows write_places value_of spelled type_of message_of judge read_place write_place read_record write_record read_up_to read_all category_of read_head read_body read_block categories write_all write_block read_recording record_time heads_of block_heads log_of
log_018 = refl

-- equal times are A's; an offset of -1 turns them to B's; an untimed record goes before a timed one; at both ends; the offset before the place
pub steps_from : (merge_step categories tracks extractions 3 3 (pos 0) ≡ goes log_a track 31 3)
    × (merge_step categories tracks extractions 3 3 (negsuc 0) ≡ goes log_b response 3 23)
    × (merge_step categories tracks extractions 3 23 (pos 0) ≡ goes log_b extraction 3 42)
    × (merge_step categories tracks extractions 31 42 (pos 0) ≡ stay finished 31 42)
    × (merge_step categories tracks extractions 0 3 (pos 0) ≡ stay (barred 23) 0 3)
    × (merge_step categories tracks extractions 0 3 (pos 46_081) ≡ stay (barred 22) 0 3)
unfolding merge_step step_of with_places from_place step_from first gap mod_day when◌then◌else◌
steps_from = rw (log_017, log_018) (refl, refl, refl, refl, refl, refl)
