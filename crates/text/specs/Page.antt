-- Text put on a page, which is a buffer with the place where the next character goes. What has no room is left out. Assumes nothing.
use Rattle.std.specs.Prelude.{ℕ, ◌+◌, cond, List, [], ◌∷◌, ltb, length, set}
use Rattle.text.specs.declared.page.Page.{Page as Filled}

pub record Page (A : Type 0) : Type 0 where
  pub held : List A
  pub at : ℕ

abbrev pub page : {A : Type 0} → List A → ℕ → Page A
page l n = record { held = l; at = n }

-- a lent buffer that is filled so far
abbrev pub page_of : Filled → Page ℕ
page_of p = page p.held.now p.at

-- one more at the place, if the page has it
unfoldable pub put : {A : Type 0} → A → Page A → Page A
put c p = cond (ltb p.at (length p.held)) (page (set p.held p.at c) (p.at + 1)) p

unfoldable pub puts : {A : Type 0} → List A → Page A → Page A
puts [] p = p
puts (c ∷ t) p = puts t (put c p)
