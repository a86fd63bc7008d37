-- No two distinct results satisfy the statement of `Cursor::start`, nor that of `block_at` or `next_record`. Assumes nothing.
use Rattle.std.specs.Prelude.{ℕ, Option, Some, None, Result, Ok, Err}
use mathlib.Core.Path.{◌≡◌, refl, sym, ap, ap₂, ◌∙◌}
use mathlib.Core.List.{List}
use native.Mathlib.Omega.{arith}
use Rattle.rules.specs.Answer.{Answer, refused}
use Rattle.rules.specs.declared.faults.Refusal.{Refusal}
use Rattle.rules.proofs.ToldLaws.{one_told, one_refusal}
use Rattle.walking.specs.declared.Cursor.{Cursor}
use Rattle.walking.specs.declared.Met.{Met}
use Rattle.walking.specs.Met as met
use Rattle.walking.specs.Walk.{begin, block_at, next_record}
use Rattle.walking.specs.Answers.{found_of, met_said, walked_of}

pub one_start : (a b : Cursor) → a ≡ begin → b ≡ begin → a ≡ b
one_start a b p q = p ∙ sym q

pub one_block_at : (recording : List ℕ) (cursor : Cursor) (a b : Result Cursor Refusal) → found_of a ≡ block_at recording cursor → found_of b ≡ block_at recording cursor → a ≡ b
one_block_at recording cursor a b p q = one_told a b (p ∙ sym q)

-- ---- `next_record`

-- what is met, by a number, and its parts
abbrev kind : met.Met → ℕ
kind (met.Record k s l) = 0
kind met.Finished = 1
kind (met.Refused n p) = 2

abbrev category : met.Met → ℕ
category (met.Record k s l) = k
category met.Finished = 0
category (met.Refused n p) = 0

abbrev start : met.Met → ℕ
start (met.Record k s l) = s
start met.Finished = 0
start (met.Refused n p) = 0

abbrev size : met.Met → ℕ
size (met.Record k s l) = l
size met.Finished = 0
size (met.Refused n p) = 0

-- a refusal of it
abbrev bar : met.Met → Answer ℕ
bar (met.Record k s l) = refused 0 0
bar met.Finished = refused 0 0
bar (met.Refused n p) = refused n p

met_one : (a b : Met) → met_said a ≡ met_said b → a ≡ b
met_one a b e =
    ap (λ k. record { category = k; start = a.start; length = a.length; map = a.map; next = a.next }) (ap (λ w. category w.met) e)
    ∙ ap₂ (λ s l. record { category = b.category; start = s; length = l; map = a.map; next = a.next }) (ap (λ w. start w.met) e) (ap (λ w. size w.met) e)
    ∙ ap₂ (λ m c. record { category = b.category; start = b.start; length = b.length; map = m; next = c }) (ap (λ w. w.map) e) (ap (λ w. w.next) e)

walked_one : (c : Cursor) (a b : Result (Option Met) Refusal) → walked_of c a ≡ walked_of c b → a ≡ b
walked_one c (Ok (Some m)) (Ok (Some n)) e = ap (λ z. Ok (Some z)) (met_one m n e)
walked_one c (Ok (Some m)) (Ok None) e = let z : ◌≡◌ {A = ℕ} 0 1 = ap (λ w. kind w.met) e in absurd (omega arith)
walked_one c (Ok (Some m)) (Err s) e = let z : ◌≡◌ {A = ℕ} 0 2 = ap (λ w. kind w.met) e in absurd (omega arith)
walked_one c (Ok None) (Ok (Some n)) e = let z : ◌≡◌ {A = ℕ} 1 0 = ap (λ w. kind w.met) e in absurd (omega arith)
walked_one c (Ok None) (Ok None) e = refl
walked_one c (Ok None) (Err s) e = let z : ◌≡◌ {A = ℕ} 1 2 = ap (λ w. kind w.met) e in absurd (omega arith)
walked_one c (Err r) (Ok (Some n)) e = let z : ◌≡◌ {A = ℕ} 2 0 = ap (λ w. kind w.met) e in absurd (omega arith)
walked_one c (Err r) (Ok None) e = let z : ◌≡◌ {A = ℕ} 2 1 = ap (λ w. kind w.met) e in absurd (omega arith)
walked_one c (Err r) (Err s) e = ap Err (one_refusal r s (ap (λ w. bar w.met) e))

pub one_next_record : (recording : List ℕ) (cursor : Cursor) (a b : Result (Option Met) Refusal)
    → walked_of cursor a ≡ next_record recording cursor → walked_of cursor b ≡ next_record recording cursor → a ≡ b
one_next_record recording cursor a b p q = walked_one cursor a b (p ∙ sym q)
