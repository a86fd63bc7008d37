-- The writing rule of a format as the code follows it, and of an item: the values are cut into parts until none is left, packed one part after
-- another, and the parts are laid one after another behind the octet that counts them. `proofs/FormatLaws` and `proofs/CutLaws` have that these are
-- the rules' `write_plain` and `write_fields`. Assumes nothing.
use Rattle.tables.specs.declared.tables.Kind.TheVariants.{Repeated, Led, Extended}
use Rattle.tables.specs.Tables.{same_kind}
use Rattle.std.specs.Prelude.{ℕ, suc, ◌+◌, ◌*◌, ◌^◌, Bool, true, false, cond, List, [], ◌∷◌, ◌++◌, map, leb, ltb, eqb, length, get_or, take, drop, replicate, ℤ}
use Rattle.std.proofs.Math.Seq.{slice}
use Rattle.rules.specs.Answer.{Answer, ok, refused, ◌>>=◌, need◌or◌then◌, when◌then◌else◌, octets_of, Write}
use Rattle.rules.specs.Field.{Field, Kind, spare, value, unsigned, any, arity, put, pack}
use Rattle.rules.specs.Chain.{octets}
use Rattle.rules.specs.Format.{Group, Format, fixed, repeated, led, extended, group, groups, PartValues, pack_all, write_plain}
use Rattle.tables.specs.Tables.{fields, group_rows, group_at, layout_at, group_is}
use Rattle.tables.specs.Tables as tables
use Rattle.writing.specs.declared.formats.Packed.{Packed}
use Rattle.writing.specs.declared.formats.Counted.{Counted}

-- the values of the parts that a list makes: it is cut until nothing is left
unfoldable pub parts_from : List (List Field) → List ℤ → Answer PartValues
parts_from [] vs = need eqb (length vs) 0 or 11 then ok []
parts_from (g ∷ gs) vs =
    when eqb (length vs) 0
    then ok []
    else need leb (arity g) (length vs) or 11 then do
      ps ← parts_from gs (drop (arity g) vs)
      ok (take (arity g) vs ∷ ps)

unfoldable pub cut : Format → Write (List ℤ)
cut s vs = do
  ps ← parts_from (groups s) vs
  write_plain s ps

-- the group of each part that an item may have, first part first
abbrev pub parts_of : Format → List Group
parts_of (fixed g) = g ∷ []
parts_of (repeated lo hi g) = replicate hi g
parts_of (led lo) = replicate 254 (group 1 (any 8 ∷ []))
parts_of (extended gs) = gs

abbrev pub fields_of : List Group → List (List Field)
fields_of gs = map (λ g. g.fields) gs

-- the number that the first values of a list make
unfoldable pub pack_first : List Field → List ℤ → Answer ℕ
pack_first fs vs = pack fs (take (arity fs) vs)

-- the numbers that the values of a list make, a part for each
unfoldable pub numbers_of : List Group → List ℤ → Answer (List ℕ)
numbers_of gs vs = do
  ps ← parts_from (fields_of gs) vs
  pack_all (fields_of gs) ps

-- whether the lowest bit of a part says that another follows
abbrev pub chained : Format → Bool
chained (fixed g) = false
chained (repeated lo hi g) = false
chained (led lo) = false
chained (extended gs) = true

-- a part's number with that bit
abbrev pub marked : Bool → Bool → ℕ → ℕ
marked false more n = n
marked true true n = n * 2 + 1
marked true false n = n * 2

-- the octets of the parts
unfoldable pub laid_parts : Bool → List Group → List ℕ → List ℕ
laid_parts fx [] ns = []
laid_parts fx (g ∷ gs) [] = []
laid_parts fx (g ∷ gs) (n ∷ ns) = octets g.size (marked fx (ltb 0 (length ns)) n) ++ laid_parts fx gs ns

-- the octet before so many parts
abbrev pub head_of : Format → ℕ → List ℕ
head_of (fixed g) k = []
head_of (repeated lo hi g) k = k ∷ []
head_of (led lo) k = suc k ∷ []
head_of (extended gs) k = []

-- ---- what stands at a place of the tables

unfoldable pub field_in : ℕ → Field
field_in i = get_or fields i (value 0 (unsigned 0 0))

abbrev pub no_group : Group
no_group = group 0 []

unfoldable pub group_in : ℕ → Group
group_in j = group_is (group_at j)

-- the parts of the layout at a place
unfoldable pub parts_at : ℕ → List Group
parts_at i =
    cond (same_kind (layout_at i).kind Extended)
    (slice (layout_at i).first (layout_at i).end (map group_is (group_rows 0 tables.groups)))
    (replicate (layout_at i).most (group_in (layout_at i).first))

unfoldable pub chained_at : ℕ → Bool
chained_at i = same_kind (layout_at i).kind Extended

unfoldable pub head_at : ℕ → ℕ → List ℕ
head_at i k = cond (same_kind (layout_at i).kind Repeated) (k ∷ []) (cond (same_kind (layout_at i).kind Led) (suc k ∷ []) [])

-- ---- what the functions answer

abbrev pub width_of : Field → ℕ
width_of (spare w) = w
width_of (value w k) = w

-- a spare field's bits hold 0
abbrev pub kind_of : Field → Kind
kind_of (spare w) = unsigned 0 0
kind_of (value w k) = k

-- the bits that stand for the first value of a list
unfoldable pub code_for : Field → List ℤ → Answer ℕ
code_for f [] = refused 11 0
code_for f (v ∷ vs) = do
  c ← put (width_of f) (kind_of f) v
  need ltb c (2 ^ width_of f) or 11 then ok c

abbrev pub Part : Type 0
Part = Packed

abbrev pub part : ℕ → ℕ → Part
part n k = record { number = n; next = k }

unfoldable pub pack_from : List Field → List ℤ → ℕ → Answer Part
pack_from fs vs at = do
  n ← pack_first fs (drop at vs)
  ok (part n (at + arity fs))

abbrev pub Parts : Type 0
Parts = Counted

abbrev pub parts : ℕ → ℕ → Parts
parts k n = record { count = k; size = n }

unfoldable pub count_parts : Bool → List Group → List ℤ → Answer Parts
count_parts fx gs vs = do
  ns ← numbers_of gs vs
  ok (parts (length ns) (length (laid_parts fx gs ns)))

unfoldable pub lay_parts : Bool → List Group → List ℤ → Answer (List ℕ)
lay_parts fx gs vs = do
  ns ← numbers_of gs vs
  ok (laid_parts fx gs ns)

-- ---- a whole format, by its row

-- how many parts, and the octets
pub record Cut : Type 0 where
  pub count : ℕ
  pub octets : List ℕ

unfoldable pub cut_at : ℕ → List ℤ → Answer Cut
cut_at i vs = do
  ns ← numbers_of (parts_at i) vs
  need leb (layout_at i).least (length ns) or 11 then
      ok (record { count = length ns; octets = head_at i (length ns) ++ laid_parts (chained_at i) (parts_at i) ns })

unfoldable pub size_at : ℕ → List ℤ → Answer Parts
size_at i vs = do
  c ← cut_at i vs
  ok (parts c.count (length c.octets))

unfoldable pub octets_at : ℕ → List ℤ → List ℕ
octets_at i vs = octets_of do
  c ← cut_at i vs
  ok c.octets
