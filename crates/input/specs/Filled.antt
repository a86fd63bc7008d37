-- What a read may bring, and what it keeps. Which octets come, and what a read leaves behind them, no contract can say: so more than one result of
-- `refill`, and more than one buffer, meets its statement. Assumes nothing.
use Rattle.std.specs.Prelude.{ℕ, ◌-◌, ◌<◌, ◌≤◌, ◌≡◌, List, length, take, drop}
use Rattle.input.specs.declared.Filled.{Filled}
use Rattle.input.specs.declared.Filled.TheVariants as filled

-- of a buffer of so many octets that keeps so many: new ones come and there is room for them, or none come
abbrev pub Fills : Filled → ℕ → ℕ → Type 0
Fills (filled.More n) kept size = (kept < n) × (n ≤ size)
Fills (filled.End n) kept size = (n ≡ kept) × (n ≤ size)

-- the octets of `old` from a place to before another stand at the front of `new`
pub record Keeps (old new : List ℕ) (from to : ℕ) : Type 0 where
  pub size : length new ≡ length old
  pub front : take (to - from) new ≡ take (to - from) (drop from old)
