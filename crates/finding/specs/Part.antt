-- A part of a lent slice: that very memory, and not only equal bytes. Assumes nothing.
use Rattle.std.specs.Prelude.{◌≡◌, ℕ, ◌+◌, List, take, drop}
use Rattle.std.specs.Borrow.{Bor}

-- r is a span of s, so many bytes from a place on: it points into the same block of memory, at the place further on
pub record VeryPart (s r : Bor (List ℕ)) (span : ℕ × ℕ) : Type 0 where
  pub block : r.ref_ptr.0 ≡ s.ref_ptr.0
  pub offset : r.ref_ptr.1 ≡ s.ref_ptr.1 + span.0
  pub bytes : r.now ≡ take span.1 (drop span.0 s.now)
