-- For each function that another crate can call, no two distinct results meet its statement.
--
-- In order: a recording's check; the state of one that is fed; that state as it is kept; the length of a piece. Assumes nothing.
use Rattle.std.specs.Prelude.{ℕ, Result, Ok, Err}
use mathlib.Core.Path.{◌≡◌, sym, ap, ap₂, ◌∙◌}
use mathlib.Core.List.{List}
use native.Mathlib.Omega.{arith}
use Rattle.rules.specs.Answer.{Answer, ok, refused}
use Rattle.rules.specs.Catalogue.{categories}
use Rattle.rules.specs.Entry.{check_recording}
use Rattle.rules.specs.declared.faults.Refusal.{Refusal}
use Rattle.rules.proofs.AnswerLaws.{ok_inj}
use Rattle.rules.proofs.ToldLaws.{one_told_as}
use Rattle.recordings.specs.declared.Counts.{Counts}
use Rattle.recordings.specs.declared.Refused.{Refused}
use Rattle.recordings.specs.declared.SoFar.{SoFar}
use Rattle.recordings.specs.declared.RecordingState.{RecordingState}
use Rattle.recordings.specs.declared.kept.KeptState.{KeptState}
use Rattle.recordings.specs.Feed.{started, fed, finished, block_length}
use Rattle.recordings.specs.Answers.{counts_said, counts_of, so_far_said, state_of, kept_as, whole_of, kept_state_of}

-- ---- `check_recording`

counts_one : (a b : Counts) → counts_said a ≡ counts_said b → a ≡ b
counts_one a b e = ap₂ (λ k n. record { blocks = k; records = n }) (ap (λ z. z.blocks) e) (ap (λ z. z.records) e)

pub one_check_recording : (recording : List ℕ) (a b : Result Counts Refusal)
    → counts_of a ≡ check_recording categories recording → counts_of b ≡ check_recording categories recording → a ≡ b
one_check_recording recording a b p q = one_told_as counts_said counts_one a b (p ∙ sym q)

-- ---- what is known of a recording that is fed: `RecordingState::finish`, `RecordingState::start`, `RecordingState::feed`

pub one_finish : (self : RecordingState) (a b : Result Counts Refusal)
    → counts_of a ≡ finished (state_of self) → counts_of b ≡ finished (state_of self) → a ≡ b
one_finish self a b p q = one_told_as counts_said counts_one a b (p ∙ sym q)

so_far_one : (a b : SoFar) → so_far_said a ≡ so_far_said b → a ≡ b
so_far_one a b e =
    ap₂ (λ i c. record { place = i; counts = c }) (ap (λ z. z.place) e)
    (ap₂ (λ k n. record { blocks = k; records = n }) (ap (λ z. z.blocks) e) (ap (λ z. z.records) e))

state_one : (a b : RecordingState) → state_of a ≡ state_of b → a ≡ b
state_one a b e = ap (λ r. record { so_far = r }) (one_told_as so_far_said so_far_one a.so_far b.so_far e)

pub one_start : (a b : RecordingState) → state_of a ≡ started → state_of b ≡ started → a ≡ b
one_start a b p q = state_one a b (p ∙ sym q)

pub one_feed : (self : RecordingState) (piece : List ℕ) (a b : RecordingState)
    → state_of a ≡ fed (state_of self) piece → state_of b ≡ fed (state_of self) piece → a ≡ b
one_feed self piece a b p q = state_one a b (p ∙ sym q)

-- ---- what is kept of it: `KeptState::finish`, `KeptState::start`, `KeptState::feed`

abbrev refused_number : {A : Type 0} → Answer A → ℕ
refused_number (ok a) = 0
refused_number (refused n p) = n

abbrev refused_place : {A : Type 0} → Answer A → ℕ
refused_place (ok a) = 0
refused_place (refused n p) = p

one_kept : {A B : Type 0} (f : A → B) → ((a b : A) → f a ≡ f b → a ≡ b) → (x y : Result A Refused) → kept_as f x ≡ kept_as f y → x ≡ y
one_kept f i (Ok a) (Ok b) e = ap Ok (i a b (ok_inj e))
one_kept f i (Ok a) (Err s) e = let z : ◌≡◌ {A = ℕ} 0 1 = cc in absurd (omega arith)
one_kept f i (Err r) (Ok b) e = let z : ◌≡◌ {A = ℕ} 0 1 = cc in absurd (omega arith)
one_kept f i (Err r) (Err s) e = ap Err (ap₂ (λ n p. record { number = n; place = p }) (ap refused_number e) (ap refused_place e))

pub one_kept_state_finish : (self : KeptState) (a b : Result Counts Refused)
    → whole_of a ≡ finished (kept_state_of self) → whole_of b ≡ finished (kept_state_of self) → a ≡ b
one_kept_state_finish self a b p q = one_kept counts_said counts_one a b (p ∙ sym q)

kept_one : (a b : KeptState) → kept_state_of a ≡ kept_state_of b → a ≡ b
kept_one a b e = ap (λ r. record { so_far = r }) (one_kept so_far_said so_far_one a.so_far b.so_far e)

pub one_kept_state_start : (a b : KeptState) → kept_state_of a ≡ started → kept_state_of b ≡ started → a ≡ b
one_kept_state_start a b p q = kept_one a b (p ∙ sym q)

pub one_kept_state_feed : (self : KeptState) (piece : List ℕ) (a b : KeptState)
    → kept_state_of a ≡ fed (kept_state_of self) piece → kept_state_of b ≡ fed (kept_state_of self) piece → a ≡ b
one_kept_state_feed self piece a b p q = kept_one a b (p ∙ sym q)

-- ---- `block_length`

pub one_block_length : (head : List ℕ) (a b : ℕ) → a ≡ block_length head → b ≡ block_length head → a ≡ b
one_block_length head a b p q = p ∙ sym q
