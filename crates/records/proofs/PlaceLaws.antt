-- A refusal inside an item stands at the item's start, and an item that is whole lies within its part.
--
-- In order: a refusal's place; the item at an FRN. Assumes nothing.
use Prim.Native.Nat.{ℕ, zero, suc, ◌-◌, ◌≤◌, ◌<◌}
use mathlib.Core.Path.{◌≡◌, refl, subst}
use mathlib.Core.Option.{Option, none, some}
use mathlib.Core.List.{List, [], ◌∷◌}
use native.Mathlib.Omega.{arith}
use lib.ListN.{length, get_or}
use Rattle.rules.specs.Answer.{ok, refused, expect◌or◌}
use Rattle.rules.specs.Chain.{flatten}
use Rattle.rules.specs.Layout.{Layout, read_item}
use Rattle.rules.specs.Presence.{place_at}
use Rattle.rules.specs.Record.{Place}
use Rattle.rules.specs.Catalogue.{categories}
use Rattle.rules.specs.Entry.{map_places, profile_at}
use Rattle.rules.proofs.AnswerLaws.{Only, only_bind, ok_inj, bind_elim, expect_elim, none_some}
use Rattle.rules.proofs.Refusals.{Reads, item_read_lem}
use Rattle.items.specs.Answers.{size_of, check_at}
use Rattle.sets.proofs.ProfileLaws.{profile_at_lem, places_few}

-- ---- a refusal's place

abbrev pub AtStart : ℕ → ℕ → Type 0
AtStart n p = p ≡ 0

starts : Reads AtStart
starts = record { six = refl; seven = refl; eight = refl; nine = refl; ten = refl; eleven = refl }

pub item_start : (l : Layout) (bs : List ℕ) (n p : ℕ) → read_item l bs ≡ refused n p → p ≡ 0
item_start l bs n p e = subst (Only AtStart) e (item_read_lem AtStart starts l bs)

-- ---- the item at an FRN

expect_start : {A : Type 0} (x : Option A) (n : ℕ) → Only AtStart (expect x or n)
unfolding expect◌or◌
expect_start (some a) n = tt
expect_start none n = refl

check_start : (i f : ℕ) (bs : List ℕ) (n p : ℕ) → check_at i f bs ≡ refused n p → p ≡ 0
unfolding check_at size_of
check_start i f bs n p e =
    subst (Only AtStart) e (only_bind AtStart _ _ (expect_start _ 21) λ q. only_bind AtStart _ _ (item_read_lem AtStart starts q.layout bs) λ x. tt)

-- a refusal lies within the octets that the item starts
pub check_near : (i f : ℕ) (bs : List ℕ) (n p : ℕ) → check_at i f bs ≡ refused n p → p ≤ length bs
check_near i f bs n p h = omega (arith, check_start i f bs n p h)

pub check_within : (i f : ℕ) (bs : List ℕ) (n : ℕ) → check_at i f bs ≡ ok n → n ≤ length bs
unfolding check_at size_of
check_within i f bs n h =
    bind_elim _ _ h λ p q h₁.
    bind_elim _ _ h₁ λ x r h₂.
    let e : length bs - length x.1 ≡ n = ok_inj h₂ in
    omega arith

pub some_within : {A : Type 0} (l : List (Option A)) (n : ℕ) (a : A) → get_or l n none ≡ some a → n < length l
some_within [] n a h = none_some h
some_within (x ∷ l) zero a h = omega arith
some_within (x ∷ l) (suc n) a h = omega (arith, some_within l n a h)

-- a profile has no item at FRN 0, nor past FRN 35
place_few : (ps : List (List (Option Place))) (f : ℕ) (p : Place) → length (flatten ps) ≤ map_places → place_at ps f ≡ some p → (1 ≤ f) × (f ≤ map_places)
place_few ps zero p l h = none_some h
place_few ps (suc f) p l h = (omega arith, omega (arith, some_within (flatten ps) f p h))

pub check_few : (i f : ℕ) (bs : List ℕ) (n : ℕ) → check_at i f bs ≡ ok n → (1 ≤ f) × (f ≤ map_places)
unfolding check_at
check_few i f bs n h =
    bind_elim _ _ h λ p q h₁.
    expect_elim _ _ q λ e.
    place_few (profile_at categories i) f p (subst (λ ps. length (flatten ps) ≤ map_places) (profile_at_lem i) (places_few i)) e
