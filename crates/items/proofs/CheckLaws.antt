-- The check of an item is its rule: how many octets it takes.
--
-- In order: how many octets an item takes; an item with one part; the place of an item. Assumes nothing.
use Prim.Native.Nat.{ℕ, ◌+◌, ◌-◌, ◌*◌, ◌<◌, ◌≤◌}
use mathlib.Core.Path.{◌≡◌, refl, sym, ap, ◌∙◌, subst}
use mathlib.Core.Bool.{Bool, true, false, cond, ◌&&◌}
use mathlib.Core.Logic.{⊎_elim}
use mathlib.Core.Option.{Option, none, some}
use mathlib.Core.List.{List, []}
use native.Mathlib.Omega.{arith}
use native.Mathlib.Nat.{add-zero}
use lib.Dec.{lit<}
use lib.ListN.{length, get_or, drop, get_or-map}
use borrow.Author.Tests.{le-leb, lt-leb, lt-ltb}
use Rattle.rules.specs.Answer.{ok, refused, ◌>>=◌, need◌or◌then◌, expect◌or◌}
use Rattle.rules.specs.Layout.{Layout, read_item}
use Rattle.rules.specs.Presence.{place_at}
use Rattle.rules.specs.Catalogue.{categories}
use Rattle.rules.specs.Entry.{profile_at}
use Rattle.rules.proofs.AnswerLaws.{Octets, bind_in, bind_assoc, bind_cong}
use Rattle.tables.specs.declared.tables.Kind.TheVariants.{Fixed, Compound}
use Rattle.tables.specs.declared.tables.LayoutRow.{LayoutRow}
use Rattle.tables.specs.declared.tables.PlaceRow.{PlaceRow}
use Rattle.tables.specs.Tables.{kind_digit, same_kind, group_count, layout_count, profile_count, frn_count, group_at, layout_is, layout_at, nowhere, profile_rows, place_row_at, place_is}
use Rattle.tables.specs.FieldRules.{single_of, singles}
use Rattle.tables.proofs.KindLaws.{kind_true}
use Rattle.tables.proofs.TableLaws.{place_is_lem, place_row_lem, place_none}
use Rattle.layouts.specs.Read.{rows_at, part_at, legal, span, part_sound, parts_sound, parts_legal, fault_at, need◌or◌further◌then◌, Shaped, step_of, shape_by, shape_of, whole_of, whole_size, row_sound, single_size}
use Rattle.layouts.proofs.PartLaws.{First, first_part}
use Rattle.layouts.proofs.ReadLaws.{le_or_lt}
use Rattle.layouts.proofs.ShapeLaws.{Rowed, rowed, fixed_one, fixed_short, fixed_cut, fixed_there}
use Rattle.layouts.proofs.SoundLaws.{layout_sound}
use Rattle.layouts.proofs.WholeLaws.{whole_stopped, equal_free}
use Rattle.compounds.specs.Compound.{Told, item_size, item_sound}
use Rattle.compounds.proofs.ItemLaws.{item_told, no_row, row_item}
use Rattle.compounds.proofs.SizeLaws.{whole_item, no_whole}
use Rattle.items.specs.Answers.{size_of, check_at}
pub use Rattle.items.specs.Answers.{Single, Free}

-- ---- how many octets an item takes

size_is : (l : LayoutRow) (i : Layout) (bs : List ℕ) → row_sound l ≡ true → item_sound l ≡ true → layout_is l ≡ some i → Octets bs → size_of i bs ≡ item_size l bs
unfolding size_of item_size
size_is l i bs r s h o =
    sym (bind_assoc (read_item i bs) _ _ ∙ bind_cong _ _ _ (λ x. bind_in _ refl refl)) ∙ ap (λ m. m >>= (λ (x : Told). ok x.1)) (item_told l i bs r s h o)

pub check_is : (r : PlaceRow) (profile frn : ℕ) (bs : List ℕ) → place_is r ≡ place_at (profile_at categories profile) frn → r.layout < layout_count → Octets bs
    → check_at profile frn bs ≡ item_size (layout_at r.layout) bs
unfolding place_is check_at item_size expect◌or◌ ◌>>=◌
check_is r profile frn bs h k o = go (layout_is (layout_at r.layout)) refl
  where
    go : (x : Option Layout) → layout_is (layout_at r.layout) ≡ x → check_at profile frn bs ≡ item_size (layout_at r.layout) bs
    go none e = rw (← h, e, no_row (layout_at r.layout) bs e)
    go (some i) e = rw (← h, e) (size_is (layout_at r.layout) i bs (layout_sound r.layout k) (row_item r.layout k) e o)

-- ---- an item with one part

-- its place in the table says so
pub single_is : (i : ℕ) → get_or singles i 0 ≡ single_of (layout_at (place_row_at i).layout)
unfolding singles place_row_at layout_at
single_is i = get_or-map (λ r. single_of (layout_at r.layout)) (profile_rows 1 categories) i nowhere

-- the number in the table says which
pub single_of_lem : (l : LayoutRow) (n : ℕ) → row_sound l ≡ true → n ≡ single_of l → 8 ≤ n → Single l (n - 8)
single_of_lem l n s e h = go (same_kind l.kind Fixed) refl (group_at l.first).free e
  where
    go : (t : Bool) → same_kind l.kind Fixed ≡ t → (u : Bool) → n ≡ cond t (cond u (group_at l.first).octets (8 + l.first)) 0 → Single l (n - 8)
    go true q true r =
        let k : l.kind ≡ Fixed = kind_true l.kind Fixed q in
        absurd (omega (arith, fixed_short l (rowed l s) k))
    go true q false r = record { kind = kind_true l.kind Fixed q; group = omega arith }
    go false q u r = absurd (omega arith)

pub free_of : (l : LayoutRow) (n : ℕ) → n ≡ single_of l → 0 < n → n < 8 → Free l n
free_of l n e h k = go (same_kind l.kind Fixed) refl (group_at l.first).free refl e
  where
    go : (t : Bool) → same_kind l.kind Fixed ≡ t → (u : Bool) → (group_at l.first).free ≡ u → n ≡ cond t (cond u (group_at l.first).octets (8 + l.first)) 0 → Free l n
    go true q true f r = record { kind = kind_true l.kind Fixed q; free = f; size = sym r }
    go true q false f r = absurd (omega arith)
    go false q u f r = absurd (omega arith)

-- how many octets, by what was told of its parts
pub check_whole : (l : LayoutRow) (bs : List ℕ) (c long : ℕ) → ok (c, long) ≡ whole_of l bs → ok long ≡ whole_size l bs
unfolding whole_size ◌>>=◌
check_whole l bs c long e = rw (← e)

-- an item with one part is not compound
pub one_part : (l : LayoutRow) (bs : List ℕ) → l.kind ≡ Fixed → whole_size l bs ≡ item_size l bs
one_part l bs h = whole_item l bs (λ e. absurd (omega (arith, ap kind_digit h, ap kind_digit e)))

-- it needs no look
module _ (l : LayoutRow) (n : ℕ) (bs : List ℕ) (s : row_sound l ≡ true) (o : Octets bs) (f : Free l n) where
  pub free_cut : length bs < n → refused 9 0 ≡ whole_size l bs
  unfolding whole_size ◌>>=◌
  free_cut h = sym (rw (whole_stopped l bs 9 0 (sym (fixed_cut l bs f.kind (sym f.size) h))))

  pub free_there : n ≤ length bs → ok n ≡ whole_size l bs
  free_there h =
      check_whole l bs 1 n
      (equal_free l bs 1 n (sym (fixed_there l bs f.kind (sym f.size) h)) s o (λ e. absurd (omega (arith, ap kind_digit f.kind, ap kind_digit e))) (sym f.free) refl)

one_part_size : (u : Bool) (p n : ℕ) → (need u or 11 further p then ok n) ≡ (◌>>=◌ {A = Shaped} (need (u && true) or 11 further p then ok (1, n)) (λ s. ok s.1))
unfolding need◌or◌further◌then◌ ◌>>=◌
one_part_size true p n = refl
one_part_size false p n = refl

pub single_size_lem : (l : LayoutRow) (g : ℕ) (bs : List ℕ) → Single l g → single_size g bs ≡ whole_size l bs
unfolding single_size whole_size whole_of shape_of shape_by parts_legal need◌or◌then◌ ◌>>=◌
single_size_lem l g bs s =
    ⊎_elim
    (λ (h : (group_at l.first).octets ≤ length bs). rw (← s.group, s.kind, le-leb (group_at l.first).octets (length bs) h) (one_part_size (legal (rows_at l.first) (part_at 0 l.first bs)) (fault_at 0 l.first 1 0 bs) (group_at l.first).octets))
    (λ (h : length bs < (group_at l.first).octets). rw (← s.group, s.kind, lt-leb (group_at l.first).octets (length bs) h))
    (le_or_lt (group_at l.first).octets (length bs))

-- what the check of one part asks, and its answers
pub single_sound : (l : LayoutRow) (g : ℕ) → row_sound l ≡ true → Single l g → (g < group_count) × (part_sound 0 (group_at g) ≡ true)
single_sound l g s h =
    let r : Rowed l = rowed l s in
    let f : First 0 l.first 1 [] 0 = first_part 0 l.first 1 [] 0 (lit< tt) (subst (λ x. parts_sound 0 l.first x ≡ true) (fixed_one l r h.kind) (subst (λ x. parts_sound (step_of x) l.first l.most ≡ true) h.kind r.parts)) in
    subst (λ x. (x < group_count) × (part_sound 0 (group_at x) ≡ true)) h.group (f.inside, f.sound)

module _ (g : ℕ) (bs : List ℕ) {m : ℕ} (em : m ≡ (group_at g).octets) where
  pub single_cut : length bs < m → refused 9 0 ≡ single_size g bs
  unfolding single_size need◌or◌then◌
  single_cut h = rw (← em, lt-leb m (length bs) h)

  module _ (h : m ≤ length bs) {t : Bool} (et : t ≡ legal (rows_at g) (part_at 0 g (drop 0 bs))) where
    pub single_legal : t ≡ true → ok m ≡ single_size g bs
    unfolding single_size need◌or◌then◌ need◌or◌further◌then◌
    single_legal e = let d : legal (rows_at g) (part_at 0 g bs) ≡ true = sym et ∙ e in rw (le-leb (group_at g).octets (length bs) (omega arith), d, em)

    pub single_barred : t ≡ false → {p : ℕ} → p ≡ fault_at 0 g 1 0 bs → refused 11 p ≡ single_size g bs
    unfolding single_size need◌or◌then◌ need◌or◌further◌then◌
    single_barred e ep = let d : legal (rows_at g) (part_at 0 g bs) ≡ false = sym et ∙ e in rw (le-leb (group_at g).octets (length bs) (omega arith), d, ep)

    -- what the place of the fault asks
    pub single_walk : part_sound 0 (group_at g) ≡ true → g < group_count → (parts_sound 0 g 1 ≡ true) × (0 + span 0 g 1 ≤ length bs)
    unfolding parts_sound span
    single_walk s k = (rw (lt-ltb g group_count k, s), omega (arith, add-zero (group_at g).octets))

-- ---- the place of an item

pub check_place : (profile frn : ℕ) (bs : List ℕ) → profile < profile_count → frn < frn_count → Octets bs → item_size (layout_at (place_row_at (profile * frn_count + frn)).layout) bs ≡ check_at profile frn bs
check_place profile frn bs h k o = sym (check_is (place_row_at (profile * frn_count + frn)) profile frn bs (place_is_lem profile frn h k) (place_row_lem (profile * frn_count + frn)) o)

-- the same by its parts, where it has parts of its own
pub whole_check : (profile frn : ℕ) (bs : List ℕ) (n : ℕ) → profile < profile_count → frn < frn_count → Octets bs → whole_size (layout_at (place_row_at (profile * frn_count + frn)).layout) bs ≡ ok n → check_at profile frn bs ≡ ok n
whole_check profile frn bs n h k o e =
    let l : LayoutRow = layout_at (place_row_at (profile * frn_count + frn)).layout in
    sym (check_place profile frn bs h k o) ∙ sym (whole_item l bs (no_whole l bs n e)) ∙ e

pub plain_check : (profile frn : ℕ) (bs : List ℕ) → profile < profile_count → frn < frn_count → Octets bs → ¬ ((layout_at (place_row_at (profile * frn_count + frn)).layout).kind ≡ Compound)
    → whole_size (layout_at (place_row_at (profile * frn_count + frn)).layout) bs ≡ check_at profile frn bs
plain_check profile frn bs h k o z = whole_item (layout_at (place_row_at (profile * frn_count + frn)).layout) bs z ∙ check_place profile frn bs h k o

pub no_place_lem : (profile frn : ℕ) (bs : List ℕ) → place_is nowhere ≡ place_at (profile_at categories profile) frn → refused 21 0 ≡ check_at profile frn bs
unfolding check_at expect◌or◌ ◌>>=◌
no_place_lem profile frn bs e = rw (← e, place_none)
