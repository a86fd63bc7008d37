-- What holds of octets as text: one after another; none, and some. Assumes nothing.
use Rattle.std.proofs.Common.{ap, sym, ◌∙◌}
use Rattle.std.proofs.lemmas.List.{take_more, flat_map_more}
use Prim.Native.Nat.{ℕ, ◌+◌, ◌<◌}
use mathlib.Core.Path.{◌≡◌, refl}
use mathlib.Core.List.{List, [], ◌∷◌, ◌++◌}
use native.Mathlib.Omega.{arith}
use lib.ListN.{length, take, get_or}
use Rattle.text.specs.Octet.{octet_text, hex_text, octets_text}

pub hex_more : (s : List ℕ) (i : ℕ) → i < length s → hex_text (take (i + 1) s) ≡ hex_text (take i s) ++ octet_text (get_or s i 0)
unfolding hex_text
hex_more s i h = ap hex_text (take_more s i 0 h) ∙ sym (flat_map_more octet_text [] (take i s) (get_or s i 0))

pub octets_none : (s : List ℕ) → length s ≡ 0 → ◌≡◌ {A = List ℕ} (45 ∷ []) (octets_text s)
unfolding octets_text
octets_none [] h = refl
octets_none (b ∷ s) h = absurd (omega arith)

pub octets_some : (s : List ℕ) → (length s ≡ 0 → ⊥) → hex_text s ≡ octets_text s
unfolding octets_text
octets_some [] h = absurd (h refl)
octets_some (b ∷ s) h = refl
