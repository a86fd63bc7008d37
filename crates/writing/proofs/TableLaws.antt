-- What the tables hold for a writer, by computed tests over each whole table: each row stands for a field, a group or a layout of the rules, and
-- each is sound.
--
-- In order: fields; groups; layouts. Assumes nothing.
use Rattle.tables.specs.declared.tables.Kind.{Kind}
use Rattle.tables.specs.declared.tables.Kind.TheVariants.{Led, Extended}
use Rattle.tables.specs.Tables.{same_kind}
use Rattle.tables.proofs.KindLaws.{kind_same, kind_other}
use Prim.Native.Nat.{ℕ, suc, ◌+◌, ◌-◌, ◌<◌, ◌≤◌}
use mathlib.Core.Path.{◌≡◌, sym, ap, ◌∙◌, subst}
use mathlib.Core.Bool.{Bool, true, false, cond, ◌&&◌, false≢true, true≢false}
use mathlib.Core.List.{List, ◌∷◌, map}
use native.Mathlib.Omega.{arith}
use lib.Dec.{T, leb, eqb, leb→le, eqb→eq}
use lib.ListN.{length, length-map, take, get_or, replicate, get_or-map, get_or-replicate}
use lib.Seq.{slice, length-slice, get_or-drop, get_or-take}
use Rattle.rules.specs.Field.{unsigned, value}
use Rattle.rules.specs.Format.{Group}
use Rattle.rules.specs.Catalogue.{categories}
use Rattle.tables.specs.Tables.{field_count, group_count, fields, groups, layouts, field_row, field_at, group_rows, no_group_row, group_at, layout_rows, no_layout_row, layout_at, group_is}
use Rattle.tables.proofs.TableLaws.{groups_long}
use Rattle.tables.specs.declared.tables.GroupRow.{GroupRow}
use Rattle.tables.specs.declared.tables.LayoutRow.{LayoutRow}
use Rattle.writing.specs.Write.{field_in, no_group, group_in, parts_at, chained_at}
use Rattle.writing.proofs.Sound.{SoundField, SoundGroup, Sound, every, every_at, every_in, both, field_test, field_sound, group_test, group_sound, parts_test, parts_sound_lem}

-- ---- fields

pub field_row_lem : (i : ℕ) → field_at i ≡ field_row (field_in i)
unfolding field_at field_in
field_row_lem i = get_or-map field_row fields i (value 0 (unsigned 0 0))

fields_sound : T (every field_test fields)
unfolding fields groups layouts categories
fields_sound = tt

pub field_in_sound : (i : ℕ) → i < field_count → SoundField (field_in i)
unfolding field_in
field_in_sound i h = field_sound (field_in i) (every_in field_test fields (value 0 (unsigned 0 0)) fields_sound i h)

-- ---- groups

abbrev group_row_test : GroupRow → Bool
group_row_test r = leb r.end field_count && group_test false (group_is r)

group_rows_lem : T (every group_row_test (group_rows 0 groups))
unfolding fields groups layouts categories
group_rows_lem = tt

group_row : (j : ℕ) → T (group_row_test (group_at j))
unfolding group_at fields groups layouts categories
group_row j = every_at group_row_test (group_rows 0 groups) no_group_row group_rows_lem tt j

pub group_end : (j : ℕ) → (group_at j).end ≤ field_count
group_end j = leb→le _ _ (both (leb (group_at j).end field_count) (group_test false (group_is (group_at j))) (group_row j)).0

pub group_in_sound : (j : ℕ) → SoundGroup false (group_in j)
unfolding group_in
group_in_sound j = group_sound false (group_in j) (both (leb (group_at j).end field_count) (group_test false (group_is (group_at j))) (group_row j)).1

-- ---- layouts

abbrev row_parts : LayoutRow → List Group
row_parts r = cond (same_kind r.kind Extended) (slice r.first r.end (map group_is (group_rows 0 groups))) (replicate r.most (group_is (group_at r.first)))

-- so many parts, and one fewer after a length octet; its groups are in the table
abbrev layout_row_test : LayoutRow → Bool
layout_row_test r = (eqb (length (row_parts r)) r.most && cond (same_kind r.kind Led) (leb r.most 254) true) && ((leb (suc r.first) group_count && leb r.end group_count) && parts_test (same_kind r.kind Extended) (row_parts r))

layout_rows_lem : T (every layout_row_test (no_layout_row ∷ layout_rows 0 0 layouts))
unfolding group_at fields groups layouts categories
layout_rows_lem = tt

layout_row_lem : (i : ℕ) → T (layout_row_test (layout_at i))
unfolding layout_at groups layouts categories
layout_row_lem i = every_at layout_row_test (no_layout_row ∷ layout_rows 0 0 layouts) no_layout_row layout_rows_lem tt i

-- what the test says of a row
pub record LayoutRowIs (i : ℕ) : Type 0 where
  pub most : length (parts_at i) ≡ (layout_at i).most
  pub led_few : same_kind (layout_at i).kind Led ≡ true → (layout_at i).most ≤ 254
  pub first : (layout_at i).first < group_count
  pub last : (layout_at i).end ≤ group_count
  pub sound : Sound (chained_at i) (parts_at i)

cond_test : (a b : Bool) → T (cond a b true) → a ≡ true → T b
cond_test true b h e = h
cond_test false b h e = absurd (false≢true e)

pub layout_row_is : (i : ℕ) → LayoutRowIs i
unfolding parts_at chained_at group_in
layout_row_is i =
    let r = layout_at i in
    let (p, q) = both (eqb (length (row_parts r)) r.most && cond (same_kind r.kind Led) (leb r.most 254) true) ((leb (suc r.first) group_count && leb r.end group_count) && parts_test (same_kind r.kind Extended) (row_parts r)) (layout_row_lem i) in
    let (p₁, p₂) = both (eqb (length (row_parts r)) r.most) (cond (same_kind r.kind Led) (leb r.most 254) true) p in
    let (q₁, q₂) = both (leb (suc r.first) group_count && leb r.end group_count) (parts_test (same_kind r.kind Extended) (row_parts r)) q in
    let (f, l) = both (leb (suc r.first) group_count) (leb r.end group_count) q₁ in
    record {
      most = eqb→eq _ _ p₁;
      led_few = λ e. leb→le _ _ (cond_test (same_kind r.kind Led) (leb r.most 254) p₂ e);
      first = leb→le _ _ f;
      last = leb→le _ _ l;
      sound = parts_sound_lem (same_kind r.kind Extended) (row_parts r) q₂;
    }

-- the group of a part
pub kind_not : (k j : Kind) → same_kind k j ≡ false → k ≡ j → ⊥
kind_not k j e d = true≢false (sym (kind_same k j d) ∙ e)

own : (i k : ℕ) → (layout_at i).kind ≡ Extended → k < length (parts_at i) → ((layout_at i).first + k < group_count) × (group_in ((layout_at i).first + k) ≡ get_or (parts_at i) k no_group)
unfolding parts_at group_in group_at
own i k e h =
    let a = (layout_at i).first in
    let t = (layout_at i).end in
    let gs : List Group = map group_is (group_rows 0 groups) in
    let n : t ≤ length gs = subst (λ x. t ≤ x) (sym (length-map (group_rows 0 groups) group_is ∙ groups_long)) (layout_row_is i).last in
    let p : parts_at i ≡ slice a t gs = ap (λ b. cond b (slice a t gs) (replicate (layout_at i).most (group_in a))) (kind_same (layout_at i).kind Extended e) in
    let m : length (slice a t gs) ≡ t - a = length-slice a t gs n in
    let k' : k < length (slice a t gs) = subst (λ l. k < length l) p h in
    let s : a + k < t = omega arith in (
      omega (arith, (layout_row_is i).last),
      sym (ap (λ l. get_or l k no_group) p ∙ get_or-drop a (take t gs) k no_group ∙ get_or-take t gs (a + k) no_group s ∙ get_or-map group_is (group_rows 0 groups) (a + k) no_group_row),
    )

shared : (i k : ℕ) → ((layout_at i).kind ≡ Extended → ⊥) → k < length (parts_at i) → ((layout_at i).first < group_count) × (group_in (layout_at i).first ≡ get_or (parts_at i) k no_group)
unfolding parts_at
shared i k e h =
    let a = (layout_at i).first in
    let g = group_in a in
    let p : parts_at i ≡ replicate (layout_at i).most g = ap (λ b. cond b (slice a (layout_at i).end (map group_is (group_rows 0 groups))) (replicate (layout_at i).most g)) (kind_other (layout_at i).kind Extended e) in
    let k' : k < (layout_at i).most = subst (λ n. k < n) (layout_row_is i).most h in
    ((layout_row_is i).first, sym (ap (λ l. get_or l k no_group) p ∙ get_or-replicate (layout_at i).most k g no_group k'))

pub part_own : (i k : ℕ) {r : LayoutRow} → r ≡ layout_at i → r.kind ≡ Extended → k < length (parts_at i) → (r.first + k < group_count) × (group_in (r.first + k) ≡ get_or (parts_at i) k no_group)
part_own i k d e h = subst (λ r. (r.first + k < group_count) × (group_in (r.first + k) ≡ get_or (parts_at i) k no_group)) (sym d) (own i k (sym (ap (λ r. r.kind) d) ∙ e) h)

pub part_shared : (i k : ℕ) {r : LayoutRow} → r ≡ layout_at i → (r.kind ≡ Extended → ⊥) → k < length (parts_at i) → (r.first < group_count) × (group_in r.first ≡ get_or (parts_at i) k no_group)
part_shared i k d e h = subst (λ r. (r.first < group_count) × (group_in r.first ≡ get_or (parts_at i) k no_group)) (sym d) (shared i k (λ z. e (ap (λ r. r.kind) d ∙ z)) h)
