-- No two distinct results satisfy the statement of a public function. Of an answer that is an enum: what it says determines it. Assumes nothing.
use Rattle.std.specs.Prelude.{ℕ, Result, Ok, Err}
use mathlib.Core.Path.{◌≡◌, sym, ap, ◌∙◌}
use mathlib.Core.Bool.{Bool, true, false}
use mathlib.Core.List.{List}
use native.Mathlib.Omega.{arith}
use Rattle.rules.specs.Answer.{Answer}
use Rattle.rules.specs.Catalogue.{categories}
use Rattle.rules.specs.Entry.{add_record, leaves_added}
use Rattle.rules.proofs.AnswerLaws.{ok_inj, refused_ok}
use Rattle.rules.proofs.ToldLaws.{one_refusal}
use Rattle.sets.specs.declared.ItemSet.{ItemSet}
use Rattle.sets.specs.Sets.{frns_of}
use Rattle.adding.specs.declared.add.AddRefusal.{AddRefusal}
use Rattle.adding.specs.declared.add.AddRefusal.TheVariants.{Old, New}
use Rattle.adding.specs.Added.{added_of, added_as}

-- ---- `add_record`: its answer, and what the output then holds

abbrev is_new : Answer ℕ × Bool → ℕ
is_new (a, true) = 1
is_new (a, false) = 0

pub added_told : (a b : Result ℕ AddRefusal) → added_of a ≡ added_of b → a ≡ b
added_told (Ok n) (Ok m) e = ap Ok (ok_inj (ap (λ z. z.0) e))
added_told (Ok n) (Err (Old r)) e = refused_ok (sym (ap (λ z. z.0) e))
added_told (Ok n) (Err (New r)) e = refused_ok (sym (ap (λ z. z.0) e))
added_told (Err (Old r)) (Ok n) e = refused_ok (ap (λ z. z.0) e)
added_told (Err (New r)) (Ok n) e = refused_ok (ap (λ z. z.0) e)
added_told (Err (Old r)) (Err (Old s)) e = ap (λ z. Err (Old z)) (one_refusal r s (ap (λ z. z.0) e))
added_told (Err (Old r)) (Err (New s)) e = absurd (let z : ◌≡◌ {A = ℕ} 0 1 = ap is_new e in omega arith)
added_told (Err (New r)) (Err (Old s)) e = absurd (let z : ◌≡◌ {A = ℕ} 1 0 = ap is_new e in omega arith)
added_told (Err (New r)) (Err (New s)) e = ap (λ z. Err (New z)) (one_refusal r s (ap (λ z. z.0) e))

pub one_add_record : (out : List ℕ) (used : ℕ) (set : ItemSet) (items : List ℕ) (a b : Result ℕ AddRefusal) (left right : List ℕ)
    → added_of a ≡ added_as (add_record categories out used (frns_of set.bits) items) → left ≡ leaves_added (add_record categories out used (frns_of set.bits) items) out
    → added_of b ≡ added_as (add_record categories out used (frns_of set.bits) items) → right ≡ leaves_added (add_record categories out used (frns_of set.bits) items) out
    → (a ≡ b) × (left ≡ right)
one_add_record out used set items a b left right p l q r = (added_told a b (p ∙ sym q), l ∙ sym r)
