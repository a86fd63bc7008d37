-- Octets as pairs of hexadecimal digits, in upper case. Assumes nothing.
use Rattle.std.specs.Prelude.{ℕ, ◌+◌, ◌/◌, ◌%◌, cond, List, [], ◌∷◌, ltb, flat_map, codes}

abbrev pub glyph_of : ℕ → ℕ
glyph_of d = cond (ltb d 10) (48 + d) (55 + d)

abbrev pub octet_text : ℕ → List ℕ
octet_text b = glyph_of (b / 16) ∷ (glyph_of (b % 16) ∷ [])

unfoldable pub hex_text : List ℕ → List ℕ
hex_text bs = flat_map octet_text bs

-- a minus alone stands for none
unfoldable pub octets_text : List ℕ → List ℕ
octets_text [] = codes "-"
octets_text (b ∷ bs) = hex_text (b ∷ bs)
