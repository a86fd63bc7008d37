-- An item read as the code reads it, by its row of the tables: how many octets it takes, and its fields as one list of numbers. A compound item (document
-- 02, W-205) is its primary octets, then the subfields that they name. `proofs/ItemLaws` has that this is the rules' `read_fields`. Assumes nothing.
--
-- In order: primary octets; the fields of parts; subfields; an item; its shape; its fields in an output; room for them.
use Rattle.std.specs.Prelude.{ℕ, zero, suc, ◌+◌, ◌-◌, ◌*◌, ◌/◌, ◌%◌, ◌^◌, ◌<◌, ◌≤◌, ◌≡◌, Result, Bool, true, false, cond, ◌&&◌, List, [], ◌∷◌, ◌++◌, leb, ltb, eqb, ℤ, pos, length, drop, replicate}
use Rattle.std.specs.Int.Bits.{bit_and}
use Rattle.std.proofs.lemmas.List.Edits.{sets}
use Rattle.rules.specs.Answer.{Answer, ok, refused, ◌>>=◌, need◌or◌then◌, when◌then◌else◌}
use Rattle.rules.specs.Chain.{flatten}
use Rattle.rules.specs.Presence.{flags}
use Rattle.rules.specs.Layout.{at_start}
use Rattle.rules.specs.FieldList.{absent_field}
use Rattle.rules.specs.Told.{told_as, begun_as}
use Rattle.rules.specs.declared.faults.Fault.{Fault}
use Rattle.rules.specs.declared.faults.Refusal.{Refusal}
use Rattle.tables.specs.declared.tables.Kind.{Kind}
use Rattle.tables.specs.declared.tables.Kind.TheVariants.{Compound}
use Rattle.tables.specs.declared.tables.LayoutRow.{LayoutRow}
use Rattle.tables.specs.Tables.{same_kind, primary_count, primary_at, subfield_at, layout_at}
use Rattle.layouts.specs.Read.{Shaped, holds, part_values, head_of, step_of, whole_of}
use Rattle.compounds.specs.declared.fields.Stored.{Stored}
use Rattle.compounds.specs.declared.primary.PrimaryOctets.{PrimaryOctets}

-- ---- primary octets: the bits that they set, seven to each printed octet, the first octet's highest; and how many octets there are

abbrev pub Bits : Type 0
Bits = ℕ × ℕ

abbrev pub bits_is : PrimaryOctets → Bits
bits_is p = (p.bits, p.count)

abbrev pub primary_is : Result PrimaryOctets Fault → Answer Bits
primary_is r = begun_as bits_is r

-- every bit of an octet, FX apart, has a subfield
abbrev pub known : ℕ → ℕ → Bool
known row n = eqb (bit_and n (primary_at row / 2)) n

-- the last octet: 7 where it is 00, 8
unfoldable pub last_of : ℕ → ℕ → ℕ → Answer Bits
last_of row left x = need ltb 0 (x / 2) or 7 then need known row (x / 2) or 8 then ok (x / 2 * 2 ^ (7 * left), 1)

-- one before others, of which so many are printed
unfoldable pub before_of : ℕ → ℕ → ℕ → Answer Bits → Answer Bits
before_of row left x after = do
  (b, k) ← after
  need known row (x / 2) or 8 then ok (x / 2 * 2 ^ (7 * left) + b, k + 1)

-- what so many printed octets can say
abbrev pub Small : ℕ → Answer Bits → Type 0
Small left (ok x) = (x.0 < 2 ^ (7 * left)) × (x.1 ≤ left)
Small left (refused n p) = Unit {0}

-- from a row of the table on, so many printed octets left: 9 where one is not there, 6 where FX asks for more, 7 where the last is 00, 8
unfoldable pub primary : ℕ → ℕ → List ℕ → Answer Bits
primary row zero bs = refused 6 0
primary row (suc left) [] = refused 9 0
primary row (suc left) (x ∷ bs) =
    when eqb (x % 2) 0
    then last_of row left x
    else before_of row left x (primary (row + 1) left bs)

-- ---- the fields of parts

-- what was read: the fields, and how many octets
abbrev pub Told : Type 0
Told = List ℤ × ℕ

-- a subfield that has a count or length octet is listed with the number of its parts before them
abbrev pub count_of : Bool → Kind → ℕ → List ℤ
count_of sub kind c = cond (sub && eqb (head_of kind) 1) (pos c ∷ []) []

-- the parts' values, and one `absent_field` for each printed part that is not there
unfoldable pub part_fields : Bool → LayoutRow → ℕ → List ℕ → List ℤ
part_fields sub l c bs =
    count_of sub l.kind c
    ++ (flatten (part_values (step_of l.kind) l.first c (drop (head_of l.kind) bs)) ++ replicate (step_of l.kind * (l.most - c)) absent_field)

-- an item that is not compound, or a subfield
unfoldable pub plain_read : Bool → LayoutRow → List ℕ → Answer Told
plain_read sub l bs = whole_of l bs >>= λ s. ok (part_fields sub l s.0 bs, s.1)

-- ---- subfields: for each bit, the first one's place in the table given

-- one that is not there is one number, a bit without a subfield none
abbrev pub absent_at : ℕ → List ℤ
absent_at i = cond (eqb (subfield_at i) 0) [] (absent_field ∷ [])

abbrev pub place_read : ℕ → Bool → List ℕ → Answer Told
place_read i true bs = plain_read true (layout_at (subfield_at i)) bs
place_read i false bs = ok (absent_at i, 0)

unfoldable pub subfields_read : ℕ → List Bool → List ℕ → Answer Told
subfields_read i [] bs = ok ([], 0)
subfields_read i (t ∷ ts) bs = do
  (v, n) ← place_read i t bs
  (vs, m) ← subfields_read (i + 1) ts (drop n bs)
  ok (v ++ vs, n + m)

-- ---- an item

-- how many printed primary octets it has, and bits of them
abbrev pub printed : LayoutRow → ℕ
printed l = l.end - l.first

unfoldable pub compound_read : LayoutRow → List ℕ → Answer Told
compound_read l bs = do
  (b, k) ← primary l.first (printed l) bs
  (vs, n) ← at_start (subfields_read (7 * l.first) (flags (7 * printed l) b) (drop k bs))
  ok (vs, k + n)

unfoldable pub item_read : LayoutRow → List ℕ → Answer Told
item_read l bs = when same_kind l.kind Compound then compound_read l bs else plain_read false l bs

-- how many octets
unfoldable pub item_size : LayoutRow → List ℕ → Answer ℕ
item_size l bs = item_read l bs >>= λ x. ok x.1

-- ---- the same as shapes: how many parts, none of a compound item, and how many octets

-- octets, from so many on; a refusal is at the item's start
abbrev pub size_from : ℕ → Answer Told → Answer Shaped
size_from k (ok x) = ok (0, k + x.1)
size_from k (refused n p) = refused n 0

-- what the code has of them: the octets, or why not
abbrev pub octets_is : Result ℕ Refusal → Answer Shaped
octets_is r = told_as (λ n. (0, n)) r

unfoldable pub shaped : LayoutRow → List ℕ → Answer Shaped
shaped l bs = when same_kind l.kind Compound then size_from 0 (compound_read l bs) else whole_of l bs

-- so many parts were read
abbrev pub Fits : LayoutRow → List ℕ → ℕ → Type 0
Fits l bs c = (long : ℕ) × (whole_of l bs ≡ ok (c, long))

abbrev pub Checked : LayoutRow → List ℕ → ℕ → Type 0
Checked l bs c = (long : ℕ) × (shaped l bs ≡ ok (c, long))

-- ---- the same as fields in an output

-- how many octets were read, and the place after what was stored
abbrev pub Kept : Answer Told → ℕ → Stored → List ℤ → List ℤ → Type 0
Kept (ok x) q r old new = (r.octets ≡ x.1) × (r.next ≡ q + length x.0) × (new ≡ sets old q x.0)
Kept (refused n p) q r old new = Unit {0}

abbrev pub KeptAll : Answer Told → ℕ → List ℤ → List ℤ → Type 0
KeptAll (ok x) r old new = (r ≡ length x.0) × (new ≡ sets old 0 x.0)
KeptAll (refused n p) r old new = (r ≡ 0) × (new ≡ old)

-- ---- room for the fields

-- the most numbers that an item which is not compound, or a subfield, is listed with
abbrev pub most_fields : LayoutRow → ℕ
most_fields l = suc (holds (step_of l.kind) l.first l.most + step_of l.kind * l.most)

-- and so many subfields, the first one's place given
abbrev pub most_in : ℕ → ℕ → ℕ
most_in i zero = 0
most_in i (suc n) = most_fields (layout_at (subfield_at i)) + most_in (i + 1) n

-- a row that the code can work with: the primary octets of a compound item are in the table, and there is room for what is listed
unfoldable pub item_sound : LayoutRow → Bool
item_sound l =
    cond (same_kind l.kind Compound)
    (leb l.first l.end && leb l.end primary_count && leb (printed l) 2 && leb (most_in (7 * l.first) (7 * printed l)) 8_192)
    (leb (most_fields l) 8_192)
