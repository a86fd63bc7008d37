-- The marks that `find_mark` tells by their numbers are the marks of the lists. Assumes nothing.
use Prim.Native.Nat.{ℕ, zero, suc, ◌+◌, ◌<◌}
use mathlib.Core.Path.{◌≡◌, sym, ap, ◌∙◌}
use mathlib.Core.Bool.{true}
use mathlib.Core.List.{List}
use native.Mathlib.Omega.{arith}
use borrow.Author.Tests.{le-leb, lt-ltb}
use lib.ListN.{length, get_or}
use Rattle.rules.specs.declared.Mark.{Mark}
use Rattle.marks.specs.declared.Lists.{Lists}
use Rattle.std.specs.Prelude.{Some}
use Rattle.marks.specs.Lists.{mark_at, end_of, Held, span, marks_of, held_in, found_mark}

span_at : (nth : ℕ → Mark) (i n k : ℕ) (d : Mark) → k < n → get_or (span nth i n) k d ≡ nth (i + k)
unfolding span
span_at nth i zero k d h = absurd (omega arith)
span_at nth i (suc n) zero d h = let e : i ≡ i + 0 = omega arith in ap nth e
span_at nth i (suc n) (suc k) d h = let e : suc i + k ≡ i + suc k = omega arith in span_at nth (suc i) n k d (omega arith) ∙ ap nth e

held_test : (c : Lists) (s : List ℕ) → Held c s → held_in c (length s) ≡ true
held_test c s h = rw (le-leb c.count 8191 h.few, le-leb c.base 14 h.low, le-leb (end_of c) (length s) h.room)

pub told_marks : (c : Lists) (s : List ℕ) (i : ℕ) (d : Mark) → Held c s → i < c.count → found_mark c s i ≡ Some (get_or (marks_of c s) i d)
unfolding found_mark
told_marks c s i d h l =
    let e : 0 + i ≡ i = omega arith in
    rw (lt-ltb i c.count l, held_test c s h) (ap Some (sym (span_at (mark_at c s) 0 c.count i d l ∙ ap (mark_at c s) e)))
