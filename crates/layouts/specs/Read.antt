-- The reading rule of an item as the code follows it, over the rows of the tables: first its shape, how many parts it has and how many octets
-- it takes; then its parts, one after another. `proofs/ReadLaws` has that these are the rules' `read_plain`. Assumes nothing.
use Rattle.std.specs.Prelude.{ℕ, zero, suc, ◌+◌, ◌-◌, ◌*◌, ◌/◌, ◌%◌, ◌^◌, ◌≡◌, ◌≤◌, ◌<◌, Result, Bool, true, false, cond, ◌&&◌, List, [], ◌∷◌, map, leb, ltb, eqb, ℤ, pos, negsuc, length, take, drop, get_or}
use Rattle.std.specs.Int.Signed.{le_z}
use Rattle.std.proofs.Math.Seq.{slice}
use Rattle.rules.specs.Answer.{Answer, ok, refused, ◌>>=◌, need◌or◌then◌, when◌then◌else◌, Read}
use Rattle.rules.specs.Field.{Field, spare, value, unsigned, signed}
use Rattle.rules.specs.Chain.{joined, flatten}
use Rattle.rules.specs.Format.{PartValues}
use Rattle.rules.specs.Told.{told_as}
use Rattle.rules.specs.declared.faults.Refusal.{Refusal}
use Rattle.tables.specs.declared.tables.Holds.TheVariants.{Twos, Spare}
use Rattle.tables.specs.declared.tables.Kind.{Kind}
use Rattle.tables.specs.declared.tables.Kind.TheVariants.{NoItem, Fixed, Repeated, Led, Extended, Compound}
use Rattle.tables.specs.declared.tables.FieldRow.{FieldRow}
use Rattle.tables.specs.declared.tables.GroupRow.{GroupRow}
use Rattle.tables.specs.declared.tables.LayoutRow.{LayoutRow}
use Rattle.tables.specs.Tables.{same_holds, field_count, group_count, fields, field_row, group_at}
use Rattle.layouts.specs.declared.parts.Parts.{Parts}
use Rattle.layouts.specs.declared.parts.Run.{Run}

infixr 10 need◌or◌further◌then◌
-- ---- the fields of a part

-- the rows of the fields from a place to before a place
unfoldable pub rows : ℕ → ℕ → List FieldRow
rows a e = slice a e (map field_row fields)

-- a code of w bits in two's complement
unfoldable pub twos_of : ℕ → ℕ → ℤ
twos_of w c = cond (ltb c (2 ^ (w - 1))) (pos c) (negsuc (2 ^ w - suc c))

-- the value that a field's code stands for
unfoldable pub value_of : FieldRow → ℕ → ℤ
value_of f c = cond (same_holds f.holds Twos) (twos_of f.bits c) (pos c)

unfoldable pub within : FieldRow → ℤ → Bool
within f v = le_z f.least v && le_z v f.greatest

unfoldable pub is_spare : FieldRow → Bool
is_spare f = same_holds f.holds Spare

abbrev pub width : List FieldRow → ℕ
width [] = 0
width (f ∷ fs) = f.bits + width fs

-- each field of a number is within its range
abbrev pub legal : List FieldRow → ℕ → Bool
legal [] n = true
legal (f ∷ fs) n = within f (value_of f (n / 2 ^ width fs)) && legal fs (n % 2 ^ width fs)

-- a spare field has no value
abbrev pub shown : FieldRow → ℤ → List ℤ → List ℤ
shown f v vs = cond (is_spare f) vs (v ∷ vs)

abbrev pub takes : FieldRow → ℕ
takes f = cond (is_spare f) 0 1

abbrev pub values : List FieldRow → ℕ → List ℤ
values [] n = []
values (f ∷ fs) n = shown f (value_of f (n / 2 ^ width fs)) (values fs (n % 2 ^ width fs))

abbrev pub count : List FieldRow → ℕ
count [] = 0
count (f ∷ fs) = takes f + count fs

-- ---- parts end to end: `step` is 1 where each has its own group and an FX bit, and 0 where all share one group

-- the rows of a group's fields; the number of a part that starts the octets, without its FX bit
abbrev pub rows_at : ℕ → List FieldRow
rows_at g = rows (group_at g).first (group_at g).end

abbrev pub part_at : ℕ → ℕ → List ℕ → ℕ
part_at step g bs = joined (take (group_at g).octets bs) / 2 ^ step

-- how many octets so many parts take, and how many values they have, the first by the group at a place
unfoldable pub span : ℕ → ℕ → ℕ → ℕ
span step g zero = 0
span step g (suc c) = (group_at g).octets + span step (g + step) c

unfoldable pub holds : ℕ → ℕ → ℕ → ℕ
holds step g zero = 0
holds step g (suc c) = count (rows_at g) + holds step (g + step) c

-- the tables have a row for each part, and its fields fill its octets, but for the FX bit
abbrev pub part_sound : ℕ → GroupRow → Bool
part_sound step r = leb r.end field_count && leb 1 r.octets && leb r.octets 8 && eqb (width (rows r.first r.end) + step) (8 * r.octets)

unfoldable pub parts_sound : ℕ → ℕ → ℕ → Bool
parts_sound step g zero = true
parts_sound step g (suc c) = ltb g group_count && part_sound step (group_at g) && parts_sound step (g + step) c

unfoldable pub parts_legal : ℕ → ℕ → ℕ → List ℕ → Bool
parts_legal step g zero bs = true
parts_legal step g (suc c) bs = legal (rows_at g) (part_at step g bs) && parts_legal step (g + step) c (drop (group_at g).octets bs)

-- where the first field at fault among so many parts stands, the first of which starts at a place, counted from the item's first octet: at the
-- item's start, whichever field it is
unfoldable pub fault_at : ℕ → ℕ → ℕ → ℕ → List ℕ → ℕ
fault_at step g c at bs = 0

-- the rest where the test passes, and else the refusal, so many octets further on
unfoldable pub need◌or◌further◌then◌ : {A : Type 0} → Bool → ℕ → ℕ → Answer A → Answer A
need true or n further p then x = x
need false or n further p then x = refused n p

unfoldable pub part_values : ℕ → ℕ → ℕ → List ℕ → List (List ℤ)
part_values step g zero bs = []
part_values step g (suc c) bs = values (rows_at g) (part_at step g bs) ∷ part_values step (g + step) c (drop (group_at g).octets bs)

-- the same of a run; and that the code can walk it: its parts are sound and there
abbrev pub run_legal : Run → List ℕ → Bool
run_legal r bs = parts_legal r.step r.group r.count (drop r.at bs)

abbrev pub run_fault : Run → List ℕ → ℕ
run_fault r bs = fault_at r.step r.group r.count r.at bs

abbrev pub run_holds : Run → ℕ
run_holds r = holds r.step r.group r.count

abbrev pub run_values : Run → List ℕ → List ℤ
run_values r bs = flatten (part_values r.step r.group r.count (drop r.at bs))

abbrev pub run_sound : Run → List ℕ → Type 0
run_sound r bs = (r.step ≤ 1) × (parts_sound r.step r.group r.count ≡ true) × (r.at + span r.step r.group r.count ≤ length bs)

-- the same of its first part
abbrev pub first_sound : Run → List ℕ → Type 0
first_sound r bs = (r.step ≤ 1) × (r.group < group_count) × (part_sound r.step (group_at r.group) ≡ true) × (r.at + (group_at r.group).octets ≤ length bs)

-- the parts after the first
abbrev pub run_rest : Run → Run
run_rest r = record { at = r.at + (group_at r.group).octets; count = r.count - 1; group = r.group + r.step; step = r.step }

-- ---- shapes: how many parts, and how many octets

abbrev pub Shaped : Type 0
Shaped = ℕ × ℕ

abbrev pub parts_is : Parts → Shaped
parts_is p = (p.count, p.long)

abbrev pub shape_is : Result Parts Refusal → Answer Shaped
shape_is r = told_as parts_is r

-- so many printed parts, the first by the group at a place: 9 where one is cut, 6 where FX asks for more
unfoldable pub chain : ℕ → ℕ → List ℕ → Answer Shaped
chain g zero bs = refused 6 0
chain g (suc n) bs =
    need leb (group_at g).octets (length bs) or 9 then
    when eqb (joined (take (group_at g).octets bs) % 2) 0
    then ok (1, (group_at g).octets)
    else chain (g + 1) n (drop (group_at g).octets bs) >>= λ s. ok (s.0 + 1, s.1 + (group_at g).octets)

-- an octet before the parts; each part its own group
abbrev pub head_of : Kind → ℕ
head_of NoItem = 0
head_of Fixed = 0
head_of Repeated = 1
head_of Led = 1
head_of Extended = 0
head_of Compound = 0

abbrev pub step_of : Kind → ℕ
step_of NoItem = 0
step_of Fixed = 0
step_of Repeated = 0
step_of Led = 0
step_of Extended = 1
step_of Compound = 0

-- the run of an item's parts
abbrev pub run_of : LayoutRow → ℕ → Run
run_of l c = record { at = head_of l.kind; count = c; group = l.first; step = step_of l.kind }

-- a list of c parts, from a least to a greatest number, in so many octets
unfoldable pub list_shape : ℕ → ℕ → ℕ → ℕ → ℕ → Answer Shaped
list_shape lo hi size c have =
    need leb (1 + c * size) have or 9 then
    need leb lo c or 11 then
    need leb c hi or 11 then ok (c, 1 + c * size)

-- by how the parts lie: 21 no parts, 9 the count or length octet, 10 the length, 9 the body, 11 the count
unfoldable pub shape_by : Kind → ℕ → ℕ → ℕ → ℕ → List ℕ → Answer Shaped
shape_by NoItem lo hi a e bs = refused 21 0
shape_by Fixed lo hi a e bs = need leb (group_at a).octets (length bs) or 9 then ok (1, (group_at a).octets)
shape_by Repeated lo hi a e bs =
    need leb 1 (length bs) or 9 then list_shape lo hi (group_at a).octets (get_or bs 0 0) (length bs)
shape_by Led lo hi a e bs =
    need leb 1 (length bs) or 9 then
    need ltb lo (get_or bs 0 0) or 10 then
    need leb (get_or bs 0 0) (length bs) or 9 then ok (get_or bs 0 0 - 1, get_or bs 0 0)
shape_by Extended lo hi a e bs = chain a (e - a) bs
shape_by Compound lo hi a e bs = refused 21 0

unfoldable pub shape_of : LayoutRow → List ℕ → Answer Shaped
shape_of l bs = shape_by l.kind l.least l.most l.first l.end bs

-- the shape of an item whose fields are legal
unfoldable pub whole_of : LayoutRow → List ℕ → Answer Shaped
whole_of l bs = do
  s ← shape_of l bs
  need parts_legal (step_of l.kind) l.first s.0 (drop (head_of l.kind) bs) or 11 further fault_at (step_of l.kind) l.first s.0 (head_of l.kind) bs then ok s

-- how many octets it takes
unfoldable pub whole_size : LayoutRow → List ℕ → Answer ℕ
whole_size l bs = do
  s ← whole_of l bs
  ok s.1

-- ---- an item with one part

unfoldable pub single_size : ℕ → List ℕ → Answer ℕ
single_size g bs =
    need leb (group_at g).octets (length bs) or 9 then
    need legal (rows_at g) (part_at 0 g bs) or 11 further fault_at 0 g 1 0 bs then ok (group_at g).octets

-- ---- an item by its row: its shape, then its fields

abbrev pub read_kind : Kind → ℕ → ℕ → ℕ → ℕ → Read PartValues
read_kind k lo hi a e bs = do
  (c, long) ← shape_by k lo hi a e bs
  need parts_legal (step_of k) a c (drop (head_of k) bs) or 11 further fault_at (step_of k) a c (head_of k) bs then ok (part_values (step_of k) a c (drop (head_of k) bs), drop long bs)

unfoldable pub read_by : LayoutRow → Read PartValues
read_by l bs = read_kind l.kind l.least l.most l.first l.end bs

-- ---- rows that the code can work with

-- one octet of eight bits
abbrev pub is_octet : List Field → Bool
is_octet [] = false
is_octet (spare w ∷ fs) = false
is_octet (value w (unsigned lo hi) ∷ []) = eqb w 8 && eqb lo 0 && eqb hi 255
is_octet (value w (unsigned lo hi) ∷ (f ∷ fs)) = false
is_octet (value w (signed lo hi) ∷ fs) = false

abbrev pub row_sound_by : Kind → ℕ → ℕ → ℕ → Bool
row_sound_by NoItem hi a e = true
row_sound_by Fixed hi a e = eqb hi 1 && leb (group_at a).octets 7
row_sound_by Repeated hi a e = leb 1 hi
row_sound_by Led hi a e = eqb hi 254 && eqb (group_at a).octets 1 && is_octet (slice (group_at a).first (group_at a).end fields)
row_sound_by Extended hi a e = eqb (a + hi) e && leb e group_count
row_sound_by Compound hi a e = true

-- there is a sound group for each part that an item may have, and room for all their values
unfoldable pub row_sound : LayoutRow → Bool
row_sound l =
    parts_sound (step_of l.kind) l.first l.most && leb (holds (step_of l.kind) l.first l.most) 8_192 && row_sound_by l.kind l.most l.first l.end
