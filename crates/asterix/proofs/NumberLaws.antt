-- Every refusal of the rules has a number from 1 to 21, whatever octets are lent: so a struct's `number` is 0 exactly where the work was done.
--
-- In order: answers; items, and an FSPEC and the items that it names; a record; blocks; finding; walking a log; one item; adding a record; the structs. Assumes nothing.
use Prim.Native.Nat.{ℕ, zero, suc, ◌+◌, ◌-◌, ◌*◌, ◌≤◌}
use mathlib.Core.Path.{◌≡◌, refl, sym, ap, ◌∙◌, subst}
use mathlib.Core.Bool.{Bool, true, false, ◌&&◌}
use mathlib.Core.Option.{Option, none, some}
use mathlib.Core.List.{List, [], ◌∷◌}
use native.Mathlib.Omega.{arith}
use native.Mathlib.Nat.{le_refl}
use lib.Dec.{T, leb, eqb, leb→le}
use lib.IntN.{ℤ, pos, negsuc}
use lib.ListN.{length, take}
use Rattle.rules.specs.Answer.{octets_of, Answer, ok, refused, ◌>>=◌, need◌or◌then◌, when◌then◌else◌, expect◌or◌, later, Read, Write}
use Rattle.rules.specs.Chain.{flatten, read_num}
use Rattle.rules.specs.Layout.{Values, in_parts, in_subfields}
use Rattle.rules.specs.Presence.{read_rows, read_places}
use Rattle.rules.specs.Record.{write_record, Place, Message, Category, Record, items, places, value_of, spelled, type_of, message_of, judge, read_place, read_record}
use Rattle.rules.specs.Block.{category_of, read_up_to, read_all, Head, read_head, read_body, read_block}
use Rattle.rules.specs.Recording.{read_recording}
use Rattle.rules.specs.Catalogue.{categories}
use Rattle.rules.specs.Entry.{check_block, check_recording, open_block, numbered, find_record, find_item, layout_as, layout_of, read_one, write_one, Added, added, refused_old, refused_new, old_block, new_record, join_record, in_new, in_old, add_record}
use Rattle.rules.proofs.AnswerLaws.{Only, refused_ok, Octets, Split, Laws, Starts, after}
use Rattle.rules.proofs.AnswerLaws.{ok_inj, bind_elim, later_inv}
use Rattle.rules.proofs.Refusals.{Reads, num_read, rows_read, places_read, item_read_lem, fields_read, fields_written}
use Rattle.rules.proofs.ChainLaws.{octets_take}
use Rattle.rules.proofs.RecordLaws.{record_laws, record_starts}
use Rattle.rules.proofs.BlockLaws.{HeadCame, head_forth, block_laws, block_starts}
use Rattle.blocks.proofs.LoopLaws.{Taken, taken}
use Rattle.asterix.proofs.Numbered as numbered
use Rattle.walking.specs.declared.Cursor as walking-cursor
use Rattle.walking.specs.Met as met
use Rattle.walking.specs.Met.{Walked}
use Rattle.walking.specs.Walk.{more, stays, answered, open_in, open_at, block_at, record_in, record_at, next_record}
use Rattle.asterix.specs.declared.RecordMet.{RecordMet}
use Rattle.asterix.specs.Answers.{record_met}
use Rattle.asterix.specs.Answers.{block_checked, recording_checked, record_found, item_found, item_read, item_written, record_added}

-- ---- answers

pub T-both : (a b : Bool) → T (a && b) → T a × T b
T-both true b t = (tt, t)
T-both false b t = absurd t

abbrev Number : ℕ → Type 0
Number n = numbered.Number 1 21 n

abbrev pub Numbered : {A : Type 0} → Answer A → Type 0
Numbered m = numbered.Numbered 1 21 m

done : {A : Type 0} (a : A) → Numbered (ok a)
done a = numbered.done 1 21 a

refusal : {A : Type 0} (m q : ℕ) → Number m → Numbered {A = A} (refused m q)
refusal m q h = numbered.refusal 1 21 m q h

test : {A : Type 0} (t : Bool) (m : ℕ) (x : Answer A) → Number m → Numbered x → Numbered (need t or m then x)
test t m x h i = numbered.test 1 21 t m x h i

either : {A : Type 0} (t : Bool) (x y : Answer A) → Numbered x → Numbered y → Numbered (when t then x else y)
either t x y h i = numbered.either 1 21 t x y h i

lookup : {A : Type 0} (x : Option A) (m : ℕ) → Number m → Numbered (expect x or m)
lookup x m h = numbered.lookup 1 21 x m h

step : {A B : Type 0} (m : Answer A) (f : A → Answer B) → Numbered m → ((a : A) → m ≡ ok a → Numbered (f a)) → Numbered (m >>= f)
step m f h i = numbered.step 1 21 m f h i

on : {A : Type 0} (k : ℕ) (m : Answer A) → Numbered m → Numbered (later k m)
on k m h = numbered.on 1 21 k m h

-- ---- items, and an FSPEC and the items that it names

abbrev OfNumber : ℕ → ℕ → Type 0
OfNumber n p = Number n

from_only : {A : Type 0} (m : Answer A) → Only OfNumber m → Numbered m
from_only m h n p e = subst (Only OfNumber) e h

reads : Reads OfNumber
reads = record { six = tt; seven = tt; eight = tt; nine = tt; ten = tt; eleven = tt }

number_read : (cut k : ℕ) (bs : List ℕ) → Number cut → Numbered (read_num cut k bs)
number_read cut k bs h = from_only _ (num_read OfNumber cut k bs h)

place_read_lem : (p : Place) (bs : List ℕ) → Only OfNumber (read_place p bs)
unfolding read_place
place_read_lem p bs = item_read_lem OfNumber reads p.layout bs

rows_numbered : (ps : List (List (Option Place))) (ts : List (List Bool)) (bs : List ℕ) → Numbered (read_rows read_place ps ts bs)
rows_numbered ps ts bs = from_only _ (rows_read read_place OfNumber (λ k n p h. h) tt tt place_read_lem ps ts bs)

places_numbered : (ps : List (List (Option Place))) (bs : List ℕ) → Numbered (read_places read_place 5 ps bs)
places_numbered ps bs = from_only _ (places_read read_place OfNumber (λ k n p h. h) tt tt place_read_lem 5 ps bs tt tt)

-- ---- a record

type_spelled : (t : ℕ) (vs : List ℤ) → Numbered (spelled t vs)
unfolding spelled
type_spelled t [] = done _
type_spelled t (pos n ∷ vs) = type_spelled (t * 16 + n) vs
type_spelled t (negsuc n ∷ vs) = refusal 13 0 tt

type_read : (x : Option Values) → Numbered (type_of x)
unfolding type_of
type_read none = refusal 12 0 tt
type_read (some (in_parts vs)) = type_spelled 0 (flatten vs)
type_read (some (in_subfields rs)) = refusal 13 0 tt

message_found : (t : ℕ) (ms : List Message) → Numbered (message_of t ms)
unfolding message_of
message_found t [] = refusal 13 0 tt
message_found t (m ∷ ms) = either _ _ _ (done _) (message_found t ms)

judged : (c : Category) (r : Record) → Numbered (judge c r)
unfolding judge
judged c r = step _ _ (type_read (value_of 0 (items c r))) (λ t e. step _ _ (message_found t c.messages) (λ m f. test _ 14 _ tt (test _ 15 _ tt (done _))))

record_read : (c : Category) (bs : List ℕ) → Numbered (read_record c bs)
unfolding read_record
record_read c bs = step _ _ (places_numbered c.profile bs) (λ x e. step _ _ (judged c x.0) (λ s f. done _))

-- ---- blocks

-- things end to end, each of one octet at least: there are no more of them than octets, so the count of turns never ends the work
up_to-read : {A : Type 0} {r : Read A} {w : Write A} → Laws r w → Starts r → ((bs : List ℕ) → Octets bs → Numbered (r bs))
    → (f : ℕ) (bs : List ℕ) → Octets bs → length bs ≤ f → Numbered (read_up_to r f bs)
unfolding read_up_to
up_to-read laws starts h zero [] o l = done _
up_to-read laws starts h zero (b ∷ bs) o l = absurd (omega arith)
up_to-read laws starts h (suc f) [] o l = done _
up_to-read {r = r} {w = w} laws starts h (suc f) (b ∷ bs) o l =
    step (r (b ∷ bs)) _ (h (b ∷ bs) o) λ x e.
    let s : Split w x.0 (b ∷ bs) x.1 = laws.forth x.0 (b ∷ bs) x.1 o e in
    let t : Taken (b ∷ bs) x.1 (suc (length bs) - length x.1) = taken laws starts x.0 (b ∷ bs) x.1 o e in
    step _ _ (on _ _ (up_to-read laws starts h f x.1 (after s o) (omega (arith, t.some)))) (λ y g. done _)

all_read : {A : Type 0} {r : Read A} {w : Write A} → Laws r w → Starts r → ((bs : List ℕ) → Octets bs → Numbered (r bs))
    → (bs : List ℕ) → Octets bs → Numbered (read_all r bs)
unfolding read_all
all_read laws starts h bs o = up_to-read laws starts h (length bs) bs o (le_refl _)

head_read : (cs : List Category) (fits : ℕ → ℕ → Bool) (bs : List ℕ) → Numbered (read_head fits cs bs)
unfolding read_head
head_read cs fits bs =
    step _ _ (number_read 1 1 bs tt) λ x e.
    step _ _ (number_read 1 2 x.1 tt) λ y f.
    step _ _ (lookup (category_of x.0 cs) 2 tt) λ c g.
    test _ 3 _ tt (test _ 3 _ tt (done _))

body_read : (h : Head) (bs : List ℕ) → Octets bs → Numbered (read_body h bs)
unfolding read_body
body_read h bs o =
    step _ _ (on 3 _ (all_read (record_laws h.category) (record_starts h.category) (λ us p. record_read h.category us) _ (octets_take (h.len - 3) bs o))) (λ rs e. done _)

block_read : (cs : List Category) (fits : ℕ → ℕ → Bool) (bs : List ℕ) → Octets bs → Numbered (read_block fits cs bs)
unfolding read_block
block_read cs fits bs o =
    step _ _ (head_read cs fits bs) λ x e.
    let h : HeadCame fits cs x.0 bs x.1 = head_forth fits cs x.0 bs x.1 o e in
    test _ 4 _ tt (step _ _ (body_read x.0 x.1 h.octets) (λ y f. done _))

block_checked_lem : (cs : List Category) (bs : List ℕ) → Octets bs → Numbered (check_block cs bs)
unfolding check_block
block_checked_lem cs bs o = step _ _ (block_read cs eqb bs o) (λ x e. done _)

pub recording_checked_lem : (cs : List Category) (bs : List ℕ) → Octets bs → Numbered (check_recording cs bs)
unfolding check_recording read_recording
recording_checked_lem cs bs o = step _ _ (all_read (block_laws cs) (block_starts cs) (block_read cs leb) bs o) (λ ks e. done _)

-- ---- finding

block_opened : (cs : List Category) (bs : List ℕ) → Octets bs → Numbered (open_block cs bs)
unfolding open_block
block_opened cs bs o = step _ _ (block_read cs eqb bs o) (λ x e. step _ _ (lookup (category_of x.0.cat cs) 2 tt) (λ c f. done _))

record_numbered : (c : Category) (k : ℕ) (rs : List Record) (n : ℕ) → Numbered (numbered c k rs n)
unfolding numbered
record_numbered c k [] n = refusal 19 0 tt
record_numbered c k (r ∷ rs) zero = done _
record_numbered c k (r ∷ rs) (suc n) = record_numbered c (k + length (octets_of (write_record c r))) rs n

record_found_lem : (cs : List Category) (bs : List ℕ) (n : ℕ) → Octets bs → Numbered (find_record cs bs n)
unfolding find_record
record_found_lem cs bs n o = step _ _ (block_opened cs bs o) (λ b e. step _ _ (record_numbered b.category 3 b.records n) (λ r f. done _))

item_found_lem : (cs : List Category) (bs : List ℕ) (ref n : ℕ) → Octets bs → Numbered (find_item cs bs ref n)
unfolding find_item
item_found_lem cs bs ref n o =
    step _ _ (block_opened cs bs o) (λ b e. test _ 21 _ tt (step _ _ (record_numbered b.category 3 b.records n) (λ r f. on _ _ (lookup _ 20 tt))))

-- ---- walking a log

head_opened : (bs : List ℕ) (e : ℕ) → Numbered (open_at bs e)
unfolding open_at open_in
head_opened bs e = on e _ (step _ _ (head_read categories leb _) (λ x f. test _ 4 _ tt (done _)))

block_met : (bs : List ℕ) (c : walking-cursor.Cursor) → Numbered (block_at bs c)
unfolding block_at
block_met bs c = either _ _ _ (done _) (head_opened bs c.end)

record_met_lem : (bs : List ℕ) (c : walking-cursor.Cursor) → Numbered (record_at bs c)
unfolding record_at record_in
record_met_lem bs c = on c.place _ (step _ _ (lookup _ 2 tt) (λ k e. step _ _ (record_read k _) (λ x f. done _)))

-- what a step passes is a record
record_passed : (bs : List ℕ) (d : walking-cursor.Cursor) (w : Walked) → record_at bs d ≡ ok w → (s l k : ℕ) × (w.met ≡ met.Record k s l)
unfolding record_at record_in
record_passed bs d w h =
    bind_elim _ _ (later_inv d.place _ h) λ k e h₁.
    bind_elim _ _ h₁ λ x f h₂.
    (_, _, _, ap (λ v. v.met) (sym (ok_inj h₂)))

answer_met : (c : walking-cursor.Cursor) (a : Answer Walked) → Numbered a → ((w : Walked) → a ≡ ok w → (s l k : ℕ) × (w.met ≡ met.Record k s l))
    → (n p : ℕ) → (answered c a).met ≡ met.Refused n p → Number n
answer_met c (ok w) h i n p e =
    let (s, l, k, f) = i w refl in
    let z : met.Record k s l ≡ met.Refused n p = sym f ∙ e in
    let z : ◌≡◌ {A = ℕ} 0 1 = cc in
    absurd (omega arith)
answer_met c (refused m q) h i n p e = let z : m ≡ n = cc in subst Number z (h m q refl)

step_met : (t : Bool) (c : walking-cursor.Cursor) (a : Answer Walked) → Numbered a → ((w : Walked) → a ≡ ok w → (s l k : ℕ) × (w.met ≡ met.Record k s l))
    → (n p : ℕ) → (when t then answered c a else stays c met.Finished).met ≡ met.Refused n p → Number n
unfolding when◌then◌else◌
step_met true c a h i n p e = answer_met c a h i n p e
step_met false c a h i n p e = let z : ◌≡◌ {A = ℕ} 0 1 = cc in absurd (omega arith)

refusal_met : (bs : List ℕ) (c : walking-cursor.Cursor) (n p : ℕ) → (next_record bs c).met ≡ met.Refused n p → Number n
unfolding next_record
refusal_met bs c n p e =
    step_met (more (length bs) c) c _ (step _ _ (block_met bs c) (λ d f. record_met_lem bs d))
    (λ w h. bind_elim _ _ h λ d f h₁. record_passed bs d w h₁) n p e

-- ---- one item

layout_found : (cs : List Category) (cat ref : ℕ) → Numbered (layout_of cs cat ref)
unfolding layout_of
layout_found cs cat ref = step _ _ (lookup (category_of cat cs) 21 tt) (λ c e. lookup (layout_as ref (places c)) 21 tt)

one_read : (cs : List Category) (cat ref : ℕ) (bs : List ℕ) → Numbered (read_one cs cat ref bs)
unfolding read_one
one_read cs cat ref bs =
    step _ _ (layout_found cs cat ref) (λ l e. step _ _ (from_only _ (fields_read OfNumber reads l bs)) (λ x f. on _ _ (test _ 18 _ tt (done _))))

one_written : (cs : List Category) (cat ref : ℕ) (fs : List ℤ) (room : ℕ) → Numbered (write_one cs cat ref fs room)
unfolding write_one
one_written cs cat ref fs room =
    step _ _ (layout_found cs cat ref) (λ l e. step _ _ (from_only _ (fields_written OfNumber tt l fs)) (λ bs f. test _ 16 _ tt (done _)))

-- ---- adding a record

old_read : (cs : List Category) (out : List ℕ) (used : ℕ) → Octets out → Numbered (old_block cs out used)
unfolding old_block
old_read cs out used o =
    test _ 16 _ tt
    (step _ _ (head_read cs eqb (take used out)) λ x e.
    let h : HeadCame eqb cs x.0 (take used out) x.1 = head_forth eqb cs x.0 (take used out) x.1 (octets_take used out o) e in
    step _ _ (body_read x.0 x.1 h.octets) (λ y f. done _))

new_read : (c : Category) (fs bs : List ℕ) → Numbered (new_record c fs bs)
unfolding new_record
new_read c fs bs =
    test _ 7 _ tt
    (test _ 8 _ tt
    (step _ _ (rows_numbered c.profile _ bs) (λ x e. step _ _ (on _ _ (test _ 18 _ tt (done _))) (λ r f. step _ _ (judged c r) (λ t g. done _)))))

record_joined : (room : ℕ) (old new : List ℕ) → Numbered (join_record room old new)
unfolding join_record
record_joined room old new = test _ 17 _ tt (test _ 16 _ tt (done _))

-- the answer of adding, without where a refusal's place lies
abbrev pub answer_of : Added → Answer (List ℕ)
answer_of (added bs) = ok bs
answer_of (refused_old n p) = refused n p
answer_of (refused_new n p) = refused n p

in_old_lem : (a : Answer Category) (f : Category → Added) → Numbered a → ((c : Category) → Numbered (answer_of (f c))) → Numbered (answer_of (in_old a f))
in_old_lem (ok c) f h i = i c
in_old_lem (refused m q) f h i = refusal m q (h m q refl)

in_new_lem : (a : Answer (List ℕ)) → Numbered a → Numbered (answer_of (in_new a))
in_new_lem (ok bs) h = done bs
in_new_lem (refused m q) h = h

record_added_lem : (cs : List Category) (out : List ℕ) (used : ℕ) (fs bs : List ℕ) → Octets out → Numbered (answer_of (add_record cs out used fs bs))
unfolding add_record
record_added_lem cs out used fs bs o = in_old_lem _ _ (old_read cs out used o) (λ c. in_new_lem _ (step _ _ (new_read c fs bs) (λ new e. record_joined (length out) (take used out) new)))

-- ---- the structs

-- a number tells an answer: it is 0 exactly where the work was done, and at most 21
pub record Tells {A : Type 0} (a : Answer A) (n : ℕ) : Type 0 where
  pub accepted : (v : A) → a ≡ ok v → n ≡ 0
  pub zero : n ≡ 0 → (v : A) × (a ≡ ok v)
  pub most : n ≤ 21

tells : {A : Type 0} (number : Answer A → ℕ) → ((v : A) → number (ok v) ≡ 0) → ((n p : ℕ) → number (refused n p) ≡ n) → (a : Answer A) → Numbered a → Tells a (number a)
tells number d r (ok v) h = record { accepted = λ w e. d v; zero = λ e. (v, refl); most = omega (arith, d v) }
tells number d r (refused n p) h =
    let t : T (leb 1 n) × T (leb n 21) = T-both (leb 1 n) (leb n 21) (h n p refl) in
    record {
      accepted = λ w e. refused_ok e;
      zero = λ e. absurd (omega (arith, r n p, leb→le 1 n t.0));
      most = omega (arith, r n p, leb→le n 21 t.1);
    }

abbrev number_of : Answer (List ℕ) → ℕ
number_of (ok bs) = 0
number_of (refused n p) = n

number_added : (a : Added) → number_of (answer_of a) ≡ (record_added a).number
unfolding record_added
number_added (added bs) = refl
number_added (refused_old n p) = refl
number_added (refused_new n p) = refl

pub check_block_tells : (block : List ℕ) → Octets block → Tells (check_block categories block) (block_checked (check_block categories block)).number
unfolding block_checked
check_block_tells block o = tells (λ a. (block_checked a).number) (λ v. refl) (λ n p. refl) (check_block categories block) (block_checked_lem categories block o)

pub check_recording_tells : (recording : List ℕ) → Octets recording → Tells (check_recording categories recording) (recording_checked (check_recording categories recording)).number
unfolding recording_checked
check_recording_tells recording o =
    tells (λ a. (recording_checked a).number) (λ v. refl) (λ n p. refl) (check_recording categories recording) (recording_checked_lem categories recording o)

pub find_record_tells : (block : List ℕ) (n : ℕ) → Octets block → Tells (find_record categories block n) (record_found (find_record categories block n)).number
unfolding record_found
find_record_tells block n o = tells (λ a. (record_found a).number) (λ v. refl) (λ m p. refl) (find_record categories block n) (record_found_lem categories block n o)

pub find_item_tells : (block : List ℕ) (reference n : ℕ) → Octets block → Tells (find_item categories block reference n) (item_found (find_item categories block reference n)).number
unfolding item_found
find_item_tells block reference n o = tells (λ a. (item_found a).number) (λ v. refl) (λ m p. refl) (find_item categories block reference n) (item_found_lem categories block reference n o)

-- a struct tells a step: `met` is 1 exactly where a record was met, and `number` is a refusal's, 1 to 21, or 0
pub record TellsMet (w : Walked) (r : RecordMet) : Type 0 where
  pub record_met : (s l k : ℕ) → w.met ≡ met.Record k s l → (r.met ≡ 1) × (r.number ≡ 0)
  pub finished : w.met ≡ met.Finished → (r.met ≡ 0) × (r.number ≡ 0)
  pub refused : (n p : ℕ) → w.met ≡ met.Refused n p → (r.met ≡ 0) × (r.number ≡ n) × (1 ≤ n) × (n ≤ 21)

pub next_record_tells : (recording : List ℕ) (cursor : walking-cursor.Cursor) → TellsMet (next_record recording cursor) (record_met (next_record recording cursor))
unfolding record_met
next_record_tells recording cursor =
    let w : Walked = next_record recording cursor in
    record {
      record_met = λ s l k e. rw e (refl, refl);
      finished = λ e. rw e (refl, refl);
      refused = λ n p e.
          let t : T (leb 1 n) × T (leb n 21) = T-both (leb 1 n) (leb n 21) (refusal_met recording cursor n p e) in
          rw e (refl, refl, leb→le 1 n t.0, leb→le n 21 t.1);
    }

pub read_item_tells : (category reference : ℕ) (item : List ℕ) → Tells (read_one categories category reference item) (item_read (read_one categories category reference item)).number
unfolding item_read
read_item_tells category reference item = tells (λ a. (item_read a).number) (λ v. refl) (λ n p. refl) (read_one categories category reference item) (one_read categories category reference item)

pub write_item_tells : (category reference : ℕ) (fields : List ℤ) (room : ℕ)
    → Tells (write_one categories category reference fields room) (item_written (write_one categories category reference fields room)).number
unfolding item_written
write_item_tells category reference fields room =
    tells (λ a. (item_written a).number) (λ v. refl) (λ n p. refl) (write_one categories category reference fields room) (one_written categories category reference fields room)

pub add_record_tells : (out : List ℕ) (used : ℕ) (frns items : List ℕ) → Octets out
    → Tells (answer_of (add_record categories out used frns items)) (record_added (add_record categories out used frns items)).number
add_record_tells out used frns items o =
    subst (Tells (answer_of (add_record categories out used frns items))) (number_added (add_record categories out used frns items))
    (tells number_of (λ v. refl) (λ n p. refl) (answer_of (add_record categories out used frns items)) (record_added_lem categories out used frns items o))
