-- For each function that another crate can call, no two distinct results meet its statement: what an answer means says which answer it is. Assumes
-- nothing.
use Prim.Native.Nat.{ℕ, ◌<◌}
use Rattle.std.specs.Prelude.{Option as Optional, Some, None, IfSome, Result}
use Rattle.rules.specs.declared.faults.Refusal.{Refusal}
use Rattle.rules.proofs.AnswerLaws.{none_some}
use Rattle.rules.proofs.ToldLaws.{one_told}
use mathlib.Core.Path.{◌≡◌, sym, ◌∙◌}
use mathlib.Core.List.{List}
use lib.IntN.{ℤ}
use Rattle.rules.specs.Chain.{flatten}
use Rattle.rules.specs.Presence.{place_at}
use Rattle.rules.specs.Catalogue.{categories}
use Rattle.rules.specs.Entry.{profile_at, layout_of, read_one, leaves}
use Rattle.tables.specs.Tables.{layout_count}
use Rattle.tables.specs.Places.{frn_as}
use Rattle.items.specs.Answers.{reference_in, frn_of, layout_named, row_named, checked_of, check_at, read_of, count_of}

same_frn : (a b : Optional ℕ) → frn_of a ≡ frn_of b → a ≡ b
same_frn (Some m) (Some n) e = cc
same_frn (Some m) None e = none_some (sym e)
same_frn None (Some n) e = none_some e
same_frn None None e = cc

pub one_reference_of : (profile frn : ℕ) (a b : Optional ℕ)
    → a ≡ reference_in (place_at (profile_at categories profile) frn) → b ≡ reference_in (place_at (profile_at categories profile) frn) → a ≡ b
one_reference_of profile frn a b p q = p ∙ sym q

pub one_frn_of : (profile reference : ℕ) (a b : Optional ℕ)
    → frn_of a ≡ frn_as reference 1 (flatten (profile_at categories profile)) → frn_of b ≡ frn_as reference 1 (flatten (profile_at categories profile))
    → a ≡ b
one_frn_of profile reference a b p q = same_frn a b (p ∙ sym q)

pub one_check_item : (profile frn : ℕ) (part : List ℕ) (a b : Result ℕ Refusal)
    → checked_of a ≡ check_at profile frn part → checked_of b ≡ check_at profile frn part → a ≡ b
one_check_item profile frn part a b p q = one_told a b (p ∙ sym q)

-- the last clause says which it is
pub one_layout_of : (category reference : ℕ) (a b : Optional ℕ)
    → IfSome a (λ j. (0 < j) × (j < layout_count)) → layout_named a ≡ layout_of categories category reference → a ≡ row_named category reference
    → IfSome b (λ j. (0 < j) × (j < layout_count)) → layout_named b ≡ layout_of categories category reference → b ≡ row_named category reference
    → a ≡ b
one_layout_of category reference a b h k p i j q = p ∙ sym q

-- the answer, and what the output then holds
pub one_read_item : (category reference : ℕ) (item : List ℕ) (fields : List ℤ) (a b : Result ℕ Refusal) (left right : List ℤ)
    → read_of a ≡ count_of (read_one categories category reference item) → left ≡ leaves (read_one categories category reference item) fields
    → read_of b ≡ count_of (read_one categories category reference item) → right ≡ leaves (read_one categories category reference item) fields → (a ≡ b) × (left ≡ right)
one_read_item category reference item fields a b left right p l q r = (one_told a b (p ∙ sym q), l ∙ sym r)
