-- Kinds by their digits: each kind has its own, so that a test of two kinds says whether they are the same. Assumes nothing.
--
-- In order: what a field holds; how parts lie.
use Prim.Native.Nat.{ℕ}
use mathlib.Core.Path.{◌≡◌, refl, sym, ap, ◌∙◌}
use mathlib.Core.Bool.{true, false}
use lib.ListN.{get_or}
use mathlib.Core.List.{[], ◌∷◌}
use borrow.Author.Tests.{eqb-true, eq-eqb, ne_eqb}
use Rattle.tables.specs.declared.tables.Holds.{Holds}
use Rattle.tables.specs.declared.tables.Holds.TheVariants.{Unsigned, Twos, Spare}
use Rattle.tables.specs.declared.tables.Kind.{Kind}
use Rattle.tables.specs.declared.tables.Kind.TheVariants.{NoItem, Fixed, Repeated, Led, Extended, Compound}
use Rattle.tables.specs.Tables.{holds_digit, kind_digit, kind_by, same_holds, same_kind}

-- ---- what a field holds

-- by digit; a digit that no kind has counts as the first
abbrev pub holds_by : ℕ → Holds
holds_by n = get_or (Unsigned ∷ Twos ∷ Spare ∷ []) n Unsigned

pub holds_by_lem : (h : Holds) → holds_by (holds_digit h) ≡ h
holds_by_lem Unsigned = refl
holds_by_lem Twos = refl
holds_by_lem Spare = refl

pub one_holds : (h i : Holds) → holds_digit h ≡ holds_digit i → h ≡ i
one_holds h i e = sym (holds_by_lem h) ∙ ap holds_by e ∙ holds_by_lem i

pub holds_read : (h : Holds) (n : ℕ) → holds_digit h ≡ n → h ≡ holds_by n
holds_read h n e = sym (holds_by_lem h) ∙ ap holds_by e

pub holds_true : (h i : Holds) → same_holds h i ≡ true → h ≡ i
holds_true h i e = one_holds h i (eqb-true _ _ e)

pub holds_same : (h i : Holds) → h ≡ i → same_holds h i ≡ true
holds_same h i e = eq-eqb _ _ (ap holds_digit e)

pub holds_other : (h i : Holds) → ¬ (h ≡ i) → same_holds h i ≡ false
holds_other h i e = ne_eqb _ _ (λ d. e (one_holds h i d))

-- ---- how parts lie

pub kind_by_lem : (k : Kind) → kind_by (kind_digit k) ≡ k
kind_by_lem NoItem = refl
kind_by_lem Fixed = refl
kind_by_lem Repeated = refl
kind_by_lem Led = refl
kind_by_lem Extended = refl
kind_by_lem Compound = refl

pub one_kind : (k j : Kind) → kind_digit k ≡ kind_digit j → k ≡ j
one_kind k j e = sym (kind_by_lem k) ∙ ap kind_by e ∙ kind_by_lem j

pub kind_read : (k : Kind) (n : ℕ) → kind_digit k ≡ n → k ≡ kind_by n
kind_read k n e = sym (kind_by_lem k) ∙ ap kind_by e

pub kind_true : (k j : Kind) → same_kind k j ≡ true → k ≡ j
kind_true k j e = one_kind k j (eqb-true _ _ e)

pub kind_same : (k j : Kind) → k ≡ j → same_kind k j ≡ true
kind_same k j e = eq-eqb _ _ (ap kind_digit e)

pub kind_other : (k j : Kind) → ¬ (k ≡ j) → same_kind k j ≡ false
kind_other k j e = ne_eqb _ _ (λ d. e (one_kind k j d))
