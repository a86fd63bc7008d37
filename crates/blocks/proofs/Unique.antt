-- For each function that another crate can call, no two distinct results meet its statement.
--
-- In order: a check; a single block that is opened; the front of a recording. Not here: heads (`proofs/HeadUnique`). Assumes nothing.
use Rattle.std.specs.Prelude.{ℕ, Result, Ok, Err}
use mathlib.Core.Path.{◌≡◌, sym, ap, ap₂, ◌∙◌}
use mathlib.Core.List.{List}
use native.Mathlib.Omega.{arith}
use Rattle.rules.specs.Catalogue.{categories}
use Rattle.rules.specs.Entry.{check_block}
use Rattle.rules.specs.declared.faults.Refusal.{Refusal}
use Rattle.rules.proofs.AnswerLaws.{ok_inj}
use Rattle.rules.proofs.ToldLaws.{one_refusal, one_told, one_told_as}
use Rattle.blocks.specs.declared.check.Opened.{Opened}
use Rattle.blocks.specs.declared.check.Front as code
use Rattle.blocks.specs.Read.{open_from, check_front}
use Rattle.blocks.specs.Answers.{checked_of, opened_said, opened_of, front_said, front_of}
use Rattle.blocks.proofs.HeadLaws.{opened_named}
use Rattle.blocks.proofs.HeadUnique.{index_of_one}

pub one_check_block : (block : List ℕ) (a b : Result ℕ Refusal) → checked_of a ≡ check_block categories block → checked_of b ≡ check_block categories block → a ≡ b
one_check_block block a b p q = one_told a b (p ∙ sym q)

pub one_open_block : (block : List ℕ) (least : ℕ) (a b : Result Opened Refusal) → opened_of a ≡ open_from least block → opened_of b ≡ open_from least block → a ≡ b
one_open_block block least (Ok o) (Ok k) p q =
    let e : opened_said o ≡ opened_said k = ok_inj (p ∙ sym q) in
    ap₂ (λ i n. Ok (record { profile = i; records = n })) (index_of_one o.profile k.profile (opened_named block least _ (sym p)) (ap (λ z. z.category) e)) (ap (λ z. z.count) e)
one_open_block block least (Ok o) (Err s) p q = let e : opened_of (Ok o) ≡ opened_of (Err s) = p ∙ sym q in let z : ◌≡◌ {A = ℕ} 0 1 = cc in absurd (omega arith)
one_open_block block least (Err r) (Ok k) p q = let e : opened_of (Err r) ≡ opened_of (Ok k) = p ∙ sym q in let z : ◌≡◌ {A = ℕ} 0 1 = cc in absurd (omega arith)
one_open_block block least (Err r) (Err s) p q = ap Err (one_refusal r s (p ∙ sym q))

front_one : (a b : code.Front) → front_said a ≡ front_said b → a ≡ b
front_one a b e = ap₂ (λ l n. record { len = l; records = n }) (ap (λ z. z.len) e) (ap (λ z. z.records) e)

pub one_check_front : (part : List ℕ) (a b : Result code.Front Refusal) → front_of a ≡ check_front part → front_of b ≡ check_front part → a ≡ b
one_check_front part a b p q = one_told_as front_said front_one a b (p ∙ sym q)
