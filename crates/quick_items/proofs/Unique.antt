-- For each function that another crate can call and whose result is fixed, no two distinct results meet its statement.
--
-- Not `Steps::new`, `Steps::quick_item` and `Steps::told_item`, which state less by design. A table may say less of an item than the rules do, which is only slow,
-- and none may say more (`sound_steps`, a ghost field of `Steps`); so both, which go by any such table, answer an item's length or nothing, and where they answer a
-- length it is the right one (`Plainly`). Assumes nothing.
use Prim.Native.Nat.{ℕ, ◌/◌, ◌%◌}
use mathlib.Core.Path.{◌≡◌, sym, ◌∙◌}
use mathlib.Core.Bool.{Bool}
use mathlib.Core.List.{List}
use Rattle.quick_items.specs.declared.Kind.{Kind}
use Rattle.quick_items.specs.declared.Steps.{Steps}
use Rattle.quick_items.specs.Item.{asks, kind_by, word_for}

pub one_is_kept : (low high n : ℕ) (a b : Bool) → a ≡ asks low high n → b ≡ asks low high n → a ≡ b
one_is_kept low high n a b p q = p ∙ sym q

pub one_kind_of : (word : ℕ) (a b : Kind) → a ≡ kind_by (word / 256 % 16) → b ≡ kind_by (word / 256 % 16) → a ≡ b
one_kind_of word a b p q = p ∙ sym q

pub one_word_of : (t : List ℕ) (profile frn a b : ℕ) → a ≡ word_for t profile frn → b ≡ word_for t profile frn → a ≡ b
one_word_of t profile frn a b p q = p ∙ sym q

pub one_steps_word_of : (self : Steps) (profile frn a b : ℕ) → a ≡ word_for self.words.now profile frn → b ≡ word_for self.words.now profile frn → a ≡ b
one_steps_word_of self = one_word_of self.words.now
