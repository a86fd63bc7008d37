-- For each function that another crate can call, no two distinct results meet its statement, nor two outputs: the place after the text, and what the
-- buffer then holds. Assumes nothing.
use Prim.Native.Nat.{ℕ}
use mathlib.Core.Path.{◌≡◌, sym, ap, ◌∙◌}
use mathlib.Core.List.{List, [], ◌∷◌}
use Rattle.text.specs.Page.{page, puts}
use Rattle.text.specs.Number.{decimal_text}
use Rattle.text.specs.Octet.{octets_text}

page_told : {A : Type 0} (l m : List A) (i j : ℕ) → page l i ≡ page m j → (i ≡ j) × (l ≡ m)
page_told l m i j e = (ap (λ z. z.at) e, ap (λ z. z.held) e)

pub one_put : (out : List ℕ) (at c a b : ℕ) (left right : List ℕ)
    → page left a ≡ puts (c ∷ []) (page out at) → page right b ≡ puts (c ∷ []) (page out at) → (a ≡ b) × (left ≡ right)
one_put out at c a b left right p q = page_told left right a b (p ∙ sym q)

pub one_put_text : (out : List ℕ) (at : ℕ) (text : List ℕ) (a b : ℕ) (left right : List ℕ)
    → page left a ≡ puts text (page out at) → page right b ≡ puts text (page out at) → (a ≡ b) × (left ≡ right)
one_put_text out at text a b left right p q = page_told left right a b (p ∙ sym q)

pub one_put_decimal : (out : List ℕ) (at n a b : ℕ) (left right : List ℕ)
    → page left a ≡ puts (decimal_text n) (page out at) → page right b ≡ puts (decimal_text n) (page out at) → (a ≡ b) × (left ≡ right)
one_put_decimal out at n a b left right p q = page_told left right a b (p ∙ sym q)

pub one_put_octets : (out : List ℕ) (at : ℕ) (octets : List ℕ) (a b : ℕ) (left right : List ℕ)
    → page left a ≡ puts (octets_text octets) (page out at) → page right b ≡ puts (octets_text octets) (page out at) → (a ≡ b) × (left ≡ right)
one_put_octets out at octets a b left right p q = page_told left right a b (p ∙ sym q)
