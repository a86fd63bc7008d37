-- No two answers of the code say the same in the rules' words: a fault is known by its number, and a refusal by its fault and its place.
--
-- In order: a fault; a refusal; answers; what the code makes or a `?` hands on. Assumes nothing.
use Rattle.std.specs.Prelude.{ℕ, Result, Ok, Err, List, [], ◌∷◌, Option as Optional, Some, None, IsErrAnd}
use lib.ListN.{get_or}
use Rattle.std.specs.Option.{ok_or}
use mathlib.Core.Path.{◌≡◌, refl, sym, ap, ap₂, ◌∙◌}
use native.Mathlib.Omega.{arith}
use Rattle.rules.specs.Answer.{Answer, ok, refused}
use Rattle.rules.specs.declared.faults.Fault.{Fault}
use Rattle.rules.specs.declared.faults.Fault.TheVariants as fault
use Rattle.rules.specs.declared.faults.Refusal.{Refusal}
use Rattle.rules.specs.Told.{number_of, refusal_of, told_as, told, begun_as}
use Rattle.rules.proofs.AnswerLaws.{ok_inj}

-- ---- a fault

-- by number, from 0 on; a number that is no fault's holds any
faults : List Fault
faults =
    fault.HeadCut ∷ fault.HeadCut ∷ fault.CategoryUnknown ∷ fault.LengthWrong ∷ fault.BlockEmpty ∷ fault.FspecCut ∷
    fault.FxPastEnd ∷ fault.NothingNamed ∷ fault.NotUsable ∷ fault.ItemCut ∷ fault.LengthTooSmall ∷ fault.FieldBarred ∷
    fault.TypeAbsent ∷ fault.TypeUnknown ∷ fault.ItemMissing ∷ fault.ItemNotSent ∷ fault.NoRoom ∷ fault.BlockTooLong ∷
    fault.BytesLeft ∷ fault.RecordNotThere ∷ fault.ItemNotThere ∷ fault.ReferenceUnknown ∷ fault.OffsetRange ∷ fault.PlaceInside ∷
    fault.HeadCut ∷ fault.HeadCut ∷ fault.HeadCut ∷ fault.HeadCut ∷ fault.HeadCut ∷ fault.HeadCut ∷
    fault.SheetCut ∷ fault.TagWrong ∷ fault.BodyLength ∷ fault.ValueBarred ∷ fault.TooManyMarks ∷ fault.MarkTaken ∷
    fault.MarkNotThere ∷ fault.TotalsDiffer ∷ []

fault_of : ℕ → Fault
fault_of n = get_or faults n fault.HeadCut

numbered : (f : Fault) → fault_of (number_of f) ≡ f
unfolding fault_of faults
numbered fault.HeadCut = refl
numbered fault.CategoryUnknown = refl
numbered fault.LengthWrong = refl
numbered fault.BlockEmpty = refl
numbered fault.FspecCut = refl
numbered fault.FxPastEnd = refl
numbered fault.NothingNamed = refl
numbered fault.NotUsable = refl
numbered fault.ItemCut = refl
numbered fault.LengthTooSmall = refl
numbered fault.FieldBarred = refl
numbered fault.TypeAbsent = refl
numbered fault.TypeUnknown = refl
numbered fault.ItemMissing = refl
numbered fault.ItemNotSent = refl
numbered fault.NoRoom = refl
numbered fault.BlockTooLong = refl
numbered fault.BytesLeft = refl
numbered fault.RecordNotThere = refl
numbered fault.ItemNotThere = refl
numbered fault.ReferenceUnknown = refl
numbered fault.OffsetRange = refl
numbered fault.PlaceInside = refl
numbered fault.SheetCut = refl
numbered fault.TagWrong = refl
numbered fault.BodyLength = refl
numbered fault.ValueBarred = refl
numbered fault.TooManyMarks = refl
numbered fault.MarkTaken = refl
numbered fault.MarkNotThere = refl
numbered fault.TotalsDiffer = refl

pub one_fault : (f g : Fault) → number_of f ≡ number_of g → f ≡ g
one_fault f g e = sym (numbered f) ∙ ap fault_of e ∙ numbered g

-- ---- a refusal

abbrev refused_number : {A : Type 0} → Answer A → ℕ
refused_number (ok a) = 0
refused_number (refused n p) = n

abbrev refused_place : {A : Type 0} → Answer A → ℕ
refused_place (ok a) = 0
refused_place (refused n p) = p

pub one_refusal : {A : Type 0} (r s : Refusal) → refusal_of {A = A} r ≡ refusal_of s → r ≡ s
one_refusal r s e = ap₂ (λ f p. record { fault = f; place = p }) (one_fault r.fault s.fault (ap refused_number e)) (ap refused_place e)

-- ---- answers

pub one_told_as : {A B : Type 0} (f : A → B) → ((a b : A) → f a ≡ f b → a ≡ b) → (x y : Result A Refusal) → told_as f x ≡ told_as f y → x ≡ y
one_told_as f i (Ok a) (Ok b) e = ap Ok (i a b (ok_inj e))
one_told_as f i (Ok a) (Err s) e = let z : ◌≡◌ {A = ℕ} 0 1 = cc in absurd (omega arith)
one_told_as f i (Err r) (Ok b) e = let z : ◌≡◌ {A = ℕ} 0 1 = cc in absurd (omega arith)
one_told_as f i (Err r) (Err s) e = ap Err (one_refusal r s e)

pub one_told : {A : Type 0} (x y : Result A Refusal) → told x ≡ told y → x ≡ y
one_told (Ok a) (Ok b) e = ap Ok (ok_inj e)
one_told (Ok a) (Err s) e = let z : ◌≡◌ {A = ℕ} 0 1 = cc in absurd (omega arith)
one_told (Err r) (Ok b) e = let z : ◌≡◌ {A = ℕ} 0 1 = cc in absurd (omega arith)
one_told (Err r) (Err s) e = ap Err (one_refusal r s e)

pub one_begun_as : {A B : Type 0} (f : A → B) → ((a b : A) → f a ≡ f b → a ≡ b) → (x y : Result A Fault) → begun_as f x ≡ begun_as f y → x ≡ y
one_begun_as f i (Ok a) (Ok b) e = ap Ok (i a b (ok_inj e))
one_begun_as f i (Ok a) (Err s) e = let z : ◌≡◌ {A = ℕ} 0 1 = cc in absurd (omega arith)
one_begun_as f i (Err r) (Ok b) e = let z : ◌≡◌ {A = ℕ} 0 1 = cc in absurd (omega arith)
one_begun_as f i (Err r) (Err s) e = ap Err (one_fault r s (ap refused_number e))

-- ---- a refusal that the code makes, or that a `?` hands on, in the rules' words

pub refused_as : {A : Type 0} (r : Refusal) (f : Fault) (p : ℕ) → r.fault ≡ f → r.place ≡ p → refusal_of {A = A} r ≡ refused (number_of f) p
refused_as r f p e h = rw (e, h)

-- by a `?` at a fault
pub begun : {A : Type 0} (x : Result A Refusal) (f : Fault) → IsErrAnd x (λ r. (r.fault ≡ f) × (r.place ≡ 0)) → told x ≡ refused (number_of f) 0
begun (Ok a) f h = absurd h
begun (Err r) f h = refused_as r f 0 h.0 h.1

-- by a `?` at a refusal
pub handed : {A : Type 0} (x : Result A Refusal) (e : Refusal) → IsErrAnd x (λ r. r ≡ e) → told x ≡ refusal_of e
handed (Ok a) e h = absurd h
handed (Err r) e h = ap refusal_of h

-- by a `?` at what is missing
abbrev err_of : {A : Type 0} → Fault → Result A Fault → Fault
err_of f (Ok a) = f
err_of f (Err e) = e

pub missing : {A : Type 0} (o : Optional A) (f e : Fault) → Err e ≡ ok_or o f → e ≡ f
missing None f e h = ap (err_of f) h
missing (Some a) f e h = ap (err_of f) h
