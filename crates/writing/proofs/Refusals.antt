-- Whatever the format and the values, writing refuses with 11 at 0 (rules, `Refusals`): so a writer only decides between yes and no.
--
-- In order: the two cases of an answer; lists cut into parts; two rules that pass alike. Assumes nothing.
use Prim.Native.Nat.{ℕ}
use mathlib.Core.Path.{◌≡◌, refl, sym, ap₂, subst, ◌∙◌}
use mathlib.Core.List.{List, [], ◌∷◌}
use lib.ListN.{drop}
use lib.IntN.{ℤ}
use Rattle.rules.specs.Answer.{Answer, ok, refused}
use Rattle.rules.specs.Field.{Kind, Field, arity, put, pack}
use Rattle.rules.specs.Format.{PartValues, pack_all}
use Rattle.rules.proofs.AnswerLaws.{Only, This, only_bind, only_need, only_if}
use Rattle.rules.proofs.Refusals.{value_put, values_packed, parts_packed}
use Rattle.writing.specs.Write.{parts_from}

-- ---- the two cases of an answer

pub data Eleven {A : Type 0} : Answer A → Type 0 where
  done : {a : A} → Eleven (ok a)
  not_done : Eleven (refused 11 0)

pub eleven : {A : Type 0} (m : Answer A) → Only (This 11) m → Eleven m
eleven (ok a) o = done
eleven (refused n p) o = subst Eleven (sym (ap₂ refused o.0 o.1)) not_done

pub put_eleven : (w : ℕ) (k : Kind) (v : ℤ) → Eleven (put w k v)
put_eleven w k v = eleven _ (value_put (This 11) (refl, refl) w k v)

pub pack_eleven : (fs : List Field) (vs : List ℤ) → Eleven (pack fs vs)
pack_eleven fs vs = eleven _ (values_packed (This 11) (refl, refl) fs vs)

pub pack_all-eleven : (gs : List (List Field)) (vs : PartValues) → Eleven (pack_all gs vs)
pack_all-eleven gs vs = eleven _ (parts_packed (This 11) (refl, refl) gs vs)

-- ---- lists cut into parts

pub parts_cut : (gs : List (List Field)) (vs : List ℤ) → Only (This 11) (parts_from gs vs)
unfolding parts_from
parts_cut [] vs = only_need (This 11) _ _ _ (refl, refl) tt
parts_cut (g ∷ gs) vs =
    only_if (This 11) _ _ _ tt (only_need (This 11) _ _ _ (refl, refl) (only_bind (This 11) _ _ (parts_cut gs (drop (arity g) vs)) λ ps. tt))

pub parts_from-eleven : (gs : List (List Field)) (vs : List ℤ) → Eleven (parts_from gs vs)
parts_from-eleven gs vs = eleven _ (parts_cut gs vs)

-- ---- two rules that pass alike

-- so they are the same
pub pass_alike : {A : Type 0} (m k : Answer A) → Only (This 11) m → Only (This 11) k → ((a : A) → m ≡ ok a → k ≡ ok a) → ((a : A) → k ≡ ok a → m ≡ ok a) → m ≡ k
pass_alike (ok a) k o u f g = sym (f a refl)
pass_alike (refused n p) (ok b) o u f g = g b refl
pass_alike (refused n p) (refused m q) o u f g = ap₂ refused (o.0 ∙ sym u.0) (o.1 ∙ sym u.1)
