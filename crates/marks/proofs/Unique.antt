-- No two distinct results satisfy the statement of a function that another crate can call. Assumes nothing.
use Prim.Native.Nat.{ℕ, ◌+◌, ◌*◌, ◌<◌, ◌≤◌, ◌^◌}
use mathlib.Core.Path.{◌≡◌, sym, ◌∙◌}
use mathlib.Core.Bool.{Bool}
use mathlib.Core.List.{List}
use Rattle.rules.specs.declared.Mark.{Mark}
use Rattle.rules.specs.declared.Shape.{Shape}
use Rattle.rules.specs.Mark.{size, ok_mark, number4, count}
use Rattle.marks.specs.declared.Tally.{Tally}
use Rattle.marks.specs.declared.Lists.{Lists}
use Rattle.marks.specs.declared.NewList.{NewList}
use Rattle.std.specs.Prelude.{Option}
use Rattle.marks.specs.Lists.{passing, tally, both_tallies, mark_at, end_of, new_count, new_at, new_marks, found_mark}

-- ---- one mark

pub one_number_4 : (bs : List ℕ) (a b : ℕ) → a ≡ number4 bs → b ≡ number4 bs → a ≡ b
one_number_4 bs a b p q = p ∙ sym q

pub one_size_of : (shape : Shape) (a b : ℕ) → (a ≡ size shape) × (a ≤ 8) → (b ≡ size shape) × (b ≤ 8) → a ≡ b
one_size_of shape a b p q = p.0 ∙ sym q.0

pub one_mark_ok : (m : Mark) (a b : Bool) → a ≡ ok_mark m → b ≡ ok_mark m → a ≡ b
one_mark_ok m a b p q = p ∙ sym q

pub one_key_of : (log place a b : ℕ) → (a ≡ log * 4294967296 + place) × (a < 2 ^ 41) → (b ≡ log * 4294967296 + place) × (b < 2 ^ 41) → a ≡ b
one_key_of log place a b p q = p.0 ∙ sym q.0

-- ---- a pass over marks

pub one_pass_marks : (body : List ℕ) (n : ℕ) (shape : Shape) (key : ℕ) (a b : Tally) → a ≡ tally key (passing shape 0 n body) → b ≡ tally key (passing shape 0 n body) → a ≡ b
one_pass_marks body n shape key a b p q = p ∙ sym q

pub one_both_tallies : (low high a b : Tally) → a ≡ both_tallies low high → b ≡ both_tallies low high → a ≡ b
one_both_tallies low high a b p q = p ∙ sym q

-- ---- marks by their numbers

pub one_end_of : (lists : Lists) (a b : ℕ) → (a ≡ end_of lists) × (a < 70000) → (b ≡ end_of lists) × (b < 70000) → a ≡ b
one_end_of lists a b p q = p.0 ∙ sym q.0

pub one_mark_at : (s : List ℕ) (lists : Lists) (i : ℕ) (a b : Mark) → a ≡ mark_at lists s i → b ≡ mark_at lists s i → a ≡ b
one_mark_at s lists i a b p q = p ∙ sym q

pub one_find_mark : (sheet : List ℕ) (lists : Lists) (i : ℕ) (a b : Option Mark) → a ≡ found_mark lists sheet i → b ≡ found_mark lists sheet i → a ≡ b
one_find_mark sheet lists i a b p q = p ∙ sym q

-- ---- a changed list by its numbers

pub one_count : (self : NewList) (a b : ℕ)
    → (a ≡ new_count self.change self.lists) × (a ≤ 8192) → (b ≡ new_count self.change self.lists) × (b ≤ 8192) → a ≡ b
one_count self a b p q = p.0 ∙ sym q.0

pub one_mark : (self : NewList) (j : ℕ) (a b : Mark) → a ≡ new_at self.change self.lists self.bytes.now j → b ≡ new_at self.change self.lists self.bytes.now j → a ≡ b
one_mark self j a b p q = p ∙ sym q

pub one_count_of : (self : NewList) (station a b : ℕ)
    → a ≡ count station (new_marks self.change self.lists self.bytes.now) → a ≤ new_count self.change self.lists
    → b ≡ count station (new_marks self.change self.lists self.bytes.now) → b ≤ new_count self.change self.lists → a ≡ b
one_count_of self station a b p k q l = p ∙ sym q
