-- Sets of FRNs as the code holds them: FRN f, 0 to 63, is bit 63 - f of a number of 64 bits, so that `flags 64` of the number has at index f
-- whether FRN f is in the set. FRN 0 is none. Assumes nothing.
use Rattle.std.specs.Prelude.{ℕ, suc, ◌-◌, Bool, true, false, List, [], ◌∷◌, length}
use Rattle.rules.specs.Answer.{Answer, ok, ◌>>=◌, need◌or◌then◌, octets_of}
use Rattle.rules.specs.Chain.{flatten}
use Rattle.rules.specs.Presence.{flags, write_presence, read_presence, all_usable, set_flags}
-- every flag that is set in the first list is set in the second
pub use Rattle.tables.specs.Tests.{within}
pub use Rattle.tables.specs.Profiles.{category_in}
unfoldable pub use Rattle.tables.specs.Profiles.{category_at, bits_of}

-- the FRNs whose flags are set, the first flag's FRN given
abbrev pub frns_from : ℕ → List Bool → List ℕ
frns_from f [] = []
frns_from f (false ∷ ts) = frns_from (suc f) ts
frns_from f (true ∷ ts) = f ∷ frns_from (suc f) ts

-- the FRNs of a set
unfoldable pub frns_of : ℕ → List ℕ
frns_of bits = frns_from 0 (flags 64 bits)

-- the FSPEC that starts octets, of the category with an index: 5, 6, 7, 8
unfoldable pub set_at : ℕ → List ℕ → Answer (ℕ × ℕ)
set_at i bs = do
  (ts, rest) ← read_presence 5 (category_at i).profile bs
  ok (bits_of (flatten ts), length bs - length rest)

-- the octets of a set's FSPEC; none where the set is empty or names an FRN that the profile lacks
unfoldable pub fspec_at : ℕ → ℕ → List ℕ
fspec_at i bits =
    octets_of (need all_usable (category_at i).profile (frns_of bits) or 8 then write_presence (category_at i).profile (set_flags 1 (category_at i).profile (frns_of bits)))
