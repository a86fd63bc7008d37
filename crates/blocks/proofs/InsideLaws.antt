-- A refusal's place lies in the octets that were read, or at their end.
--
-- In order: answers; an FSPEC; items; a record; things end to end; a block. Assumes nothing.
use Prim.Native.Nat.{ℕ, zero, suc, ◌+◌, ◌-◌, ◌*◌, ◌≤◌}
use mathlib.Core.Path.{◌≡◌, refl, sym, ap, ◌∙◌, subst}
use mathlib.Core.Bool.{Bool, true, false}
use mathlib.Core.Option.{Option, none, some}
use mathlib.Core.List.{List, [], ◌∷◌}
use native.Mathlib.Omega.{arith}
use lib.Dec.{leb}
use lib.IntN.{ℤ, pos, negsuc}
use lib.ListN.{length, take, length-append, length-take}
use Rattle.rules.specs.Answer.{Answer, ok, refused, ◌>>=◌, need◌or◌then◌, when◌then◌else◌, expect◌or◌, later, Read, Write}
use Rattle.rules.specs.Chain.{flatten, read_num}
use Rattle.rules.specs.Layout.{Values, in_parts, in_subfields}
use Rattle.rules.specs.Presence.{flag_rows, write_presence, read_presence, write_row, read_row, read_rows, read_places}
use Rattle.rules.specs.Record.{Place, Message, Category, Record, items, value_of, spelled, type_of, message_of, judge, write_place, read_place, read_record}
use Rattle.rules.specs.Block.{category_of, read_up_to, read_all, read_head, read_body, read_block}
use Rattle.rules.specs.Catalogue.{categories}
use Rattle.rules.proofs.AnswerLaws.{Only, refused_ok, Octets, Split, Laws, after}
use Rattle.rules.proofs.Refusals.{num_read, chain_read}
use Rattle.rules.proofs.ChainLaws.{octets_take}
use Rattle.rules.proofs.PresenceLaws.{presence_laws, row_forth}
use Rattle.rules.proofs.RecordLaws.{place_laws, record_laws}
use Rattle.rules.proofs.BlockLaws.{HeadCame, head_forth}
use Rattle.records.proofs.PlaceLaws.{AtStart, item_start}
use Rattle.blocks.specs.Read.{check_front}

-- ---- answers

abbrev pub Inside : {A : Type 0} → ℕ → Answer A → Type 0
Inside k m = (n p : ℕ) → m ≡ refused n p → p ≤ k

-- a refusal at the start
start_inside : {A : Type 0} (k : ℕ) (m : Answer A) → Only AtStart m → Inside k m
start_inside k m h n p e = let z : p ≡ 0 = subst (Only AtStart) e h in omega arith

pub ok_inside : {A : Type 0} (k : ℕ) (a : A) → Inside k (ok a)
ok_inside k a n p e = refused_ok (sym e)

no_inside : {A : Type 0} (k m : ℕ) → Inside {A = A} k (refused m 0)
no_inside k m n p e = let z : p ≡ 0 = cc in omega arith

need_inside : {A : Type 0} (k : ℕ) (t : Bool) (m : ℕ) (x : Answer A) → Inside k x → Inside k (need t or m then x)
unfolding need◌or◌then◌
need_inside k true m x h = h
need_inside k false m x h = no_inside k m

if_inside : {A : Type 0} (k : ℕ) (t : Bool) (x y : Answer A) → Inside k x → Inside k y → Inside k (when t then x else y)
unfolding when◌then◌else◌
if_inside k true x y h i = h
if_inside k false x y h i = i

pub bind_inside : {A B : Type 0} (k : ℕ) (m : Answer A) (f : A → Answer B) → Inside k m → ((a : A) → m ≡ ok a → Inside k (f a)) → Inside k (m >>= f)
unfolding ◌>>=◌
bind_inside k (ok a) f h i = i a refl
bind_inside k (refused m q) f h i = λ n p e. h n p (cc)

later_inside : {A : Type 0} (j d k : ℕ) (m : Answer A) → Inside j m → d + j ≤ k → Inside k (later d m)
unfolding later
later_inside j d k (ok a) h l = ok_inside k a
later_inside j d k (refused m q) h l = λ n p e. let z : d + q ≡ p = cc in omega (arith, h m q refl)

-- what is read on, so many octets after the start
on_inside : {A B : Type 0} (bs rest : List ℕ) (m : Answer A) (f : A → Answer B) → length rest ≤ length bs → Inside (length rest) m → ((a : A) → Inside (length bs) (f a))
    → Inside (length bs) (later (length bs - length rest) m >>= f)
on_inside bs rest m f l h i =
    bind_inside (length bs) (later (length bs - length rest) m) f (later_inside (length rest) (length bs - length rest) (length bs) m h (omega arith)) (λ a e. i a)

-- ---- an FSPEC

num_inside : (k cut c : ℕ) (bs : List ℕ) → Inside k (read_num cut c bs)
num_inside k cut c bs = start_inside k _ (num_read AtStart cut c bs refl)

flags_inside : (k : ℕ) (ps : List (List (Option Place))) (ns : List ℕ) → Inside k (flag_rows ps ns)
unfolding flag_rows
flags_inside k ps [] = ok_inside k _
flags_inside k [] (n ∷ ns) = no_inside k 8
flags_inside k (p ∷ ps) (n ∷ ns) = need_inside k _ _ _ (need_inside k _ _ _ (bind_inside k _ _ (flags_inside k ps ns) (λ ts e. ok_inside k _)))

presence_inside : (k cut : ℕ) (ps : List (List (Option Place))) (bs : List ℕ) → Inside k (read_presence cut ps bs)
unfolding read_presence
presence_inside k cut ps bs =
    bind_inside k _ _ (start_inside k _ (chain_read AtStart cut 6 _ bs refl refl)) (λ x e. bind_inside k _ _ (need_inside k _ _ _ (flags_inside k ps x.0)) (λ ts f. ok_inside k _))

-- ---- items

left_less : {A : Type 0} {w : Write A} {a : A} {bs rest : List ℕ} → Split w a bs rest → length rest ≤ length bs
left_less {rest = rest} s = omega (arith, ap length s.joins ∙ length-append s.out rest)

place_inside : (k : ℕ) (p : Place) (bs : List ℕ) → Inside k (read_place p bs)
unfolding read_place
place_inside k p bs n q e = omega (arith, item_start p.layout bs n q e)

row_inside : (ps : List (Option Place)) (ts : List Bool) (bs : List ℕ) → Octets bs → Inside (length bs) (read_row read_place ps ts bs)
unfolding read_row
row_inside [] [] bs o = ok_inside _ _
row_inside [] (t ∷ ts) bs o = no_inside _ 8
row_inside (p ∷ ps) [] bs o = no_inside _ 8
row_inside (p ∷ ps) (false ∷ ts) bs o = bind_inside _ _ _ (row_inside ps ts bs o) (λ x e. ok_inside _ _)
row_inside (none ∷ ps) (true ∷ ts) bs o = no_inside _ 8
row_inside (some p ∷ ps) (true ∷ ts) bs o =
    bind_inside (length bs) (read_place p bs) _ (place_inside (length bs) p bs) λ x e.
    let s : Split (write_place p) x.0 bs x.1 = (place_laws p).forth x.0 bs x.1 o e in
    on_inside bs x.1 (read_row read_place ps ts x.1) _ (left_less s) (row_inside ps ts x.1 (after s o)) (λ y. ok_inside _ _)

rows_inside : (ps : List (List (Option Place))) (ts : List (List Bool)) (bs : List ℕ) → Octets bs → Inside (length bs) (read_rows read_place ps ts bs)
unfolding read_rows
rows_inside ps [] bs o = ok_inside _ _
rows_inside [] (t ∷ ts) bs o = no_inside _ 8
rows_inside (p ∷ ps) (t ∷ ts) bs o =
    bind_inside (length bs) (read_row read_place p t bs) _ (row_inside p t bs o) λ x e.
    let s : Split (write_row write_place p) x.0 bs x.1 = (row_forth place_laws p t x.0 bs x.1 o e).0 in
    on_inside bs x.1 (read_rows read_place ps ts x.1) _ (left_less s) (rows_inside ps ts x.1 (after s o)) (λ y. ok_inside _ _)

-- ---- a record

spelled_inside : (k t : ℕ) (vs : List ℤ) → Inside k (spelled t vs)
unfolding spelled
spelled_inside k t [] = ok_inside k t
spelled_inside k t (pos n ∷ vs) = spelled_inside k (t * 16 + n) vs
spelled_inside k t (negsuc n ∷ vs) = no_inside k 13

type_inside : (k : ℕ) (x : Option Values) → Inside k (type_of x)
unfolding type_of
type_inside k none = no_inside k 12
type_inside k (some (in_parts vs)) = spelled_inside k 0 (flatten vs)
type_inside k (some (in_subfields rs)) = no_inside k 13

message_inside : (k t : ℕ) (ms : List Message) → Inside k (message_of t ms)
unfolding message_of
message_inside k t [] = no_inside k 13
message_inside k t (m ∷ ms) = if_inside k _ _ _ (ok_inside k m) (message_inside k t ms)

judge_inside : (k : ℕ) (c : Category) (r : Record) → Inside k (judge c r)
unfolding judge
judge_inside k c r =
    bind_inside k _ _ (type_inside k (value_of 0 (items c r))) (λ t e. bind_inside k _ _ (message_inside k t c.messages) (λ m f. need_inside k _ _ _ (need_inside k _ _ _ (ok_inside k _))))

pub record_inside : (c : Category) (bs : List ℕ) → Octets bs → Inside (length bs) (read_record c bs)
unfolding read_record read_places
record_inside c bs o =
    bind_inside (length bs) _ _
    (bind_inside (length bs) (read_presence 5 c.profile bs) _ (presence_inside (length bs) 5 c.profile bs) λ x e.
    let s : Split (write_presence c.profile) x.0 bs x.1 = (presence_laws 5 c.profile).forth x.0 bs x.1 o e in
    later_inside (length x.1) (length bs - length x.1) (length bs) _ (rows_inside c.profile x.0 x.1 (after s o)) (omega (arith, left_less s)))
    (λ x e. bind_inside (length bs) _ _ (judge_inside (length bs) c x.0) (λ t f. ok_inside _ _))

-- ---- things end to end

pub up_to-inside : {A : Type 0} {r : Read A} {w : Write A} → Laws r w → ((bs : List ℕ) → Octets bs → Inside (length bs) (r bs))
    → (f : ℕ) (bs : List ℕ) → Octets bs → Inside (length bs) (read_up_to r f bs)
unfolding read_up_to
up_to-inside laws i zero [] o = ok_inside _ _
up_to-inside laws i zero (b ∷ bs) o = no_inside _ 0
up_to-inside laws i (suc f) [] o = ok_inside _ _
up_to-inside {r = r} {w = w} laws i (suc f) (b ∷ bs) o =
    bind_inside (suc (length bs)) (r (b ∷ bs)) _ (i (b ∷ bs) o) λ x e.
    let s : Split w x.0 (b ∷ bs) x.1 = laws.forth x.0 (b ∷ bs) x.1 o e in
    on_inside (b ∷ bs) x.1 (read_up_to r f x.1) _ (left_less s) (up_to-inside laws i f x.1 (after s o)) (λ y. ok_inside _ _)

-- ---- a block

category_inside : (k : ℕ) (x : Option Category) → Inside k (expect x or 2)
unfolding expect◌or◌
category_inside k none = no_inside k 2
category_inside k (some c) = ok_inside k c

head_inside : (k : ℕ) (fits : ℕ → ℕ → Bool) (bs : List ℕ) → Inside k (read_head fits categories bs)
unfolding read_head
head_inside k fits bs =
    bind_inside k _ _ (num_inside k 1 1 bs) λ x e.
    bind_inside k _ _ (num_inside k 1 2 x.1) λ y f.
    bind_inside k _ _ (category_inside k (category_of x.0 categories)) λ c g.
    need_inside k _ _ _ (need_inside k _ _ _ (ok_inside k _))

pub block_inside : (bs : List ℕ) → Octets bs → Inside (length bs) (read_block leb categories bs)
unfolding read_block read_body read_all
block_inside bs o =
    bind_inside (length bs) _ _ (head_inside (length bs) leb bs) λ x e.
    need_inside (length bs) _ _ _
    (bind_inside (length bs) _ _
    (bind_inside (length bs) _ _
    (let h : HeadCame leb categories x.0 bs x.1 = head_forth leb categories x.0 bs x.1 o e in
    later_inside (length (take (x.0.len - 3) x.1)) 3 (length bs) _
    (up_to-inside (record_laws x.0.category) (record_inside x.0.category) _ (take (x.0.len - 3) x.1) (octets_take (x.0.len - 3) x.1 h.octets))
    (omega (arith, h.left, length-take (x.0.len - 3) x.1)))
    (λ rs f. ok_inside _ _))
    (λ y f. ok_inside _ _))

pub front_inside : (bs : List ℕ) → Octets bs → Inside (length bs) (check_front bs)
unfolding check_front
front_inside bs o = bind_inside (length bs) (read_block leb categories bs) _ (block_inside bs o) (λ x e. ok_inside _ _)
