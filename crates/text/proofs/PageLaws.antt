-- What holds of text on a page: one character; a text after another; the page's length. Assumes nothing.
use Prim.Native.Nat.{ℕ, ◌+◌, ◌<◌, ◌≤◌}
use mathlib.Core.Path.{◌≡◌, refl, sym, ap, ◌∙◌}
use mathlib.Core.Bool.{Bool, cond, true, false}
use mathlib.Core.List.{List, [], ◌∷◌, ◌++◌}
use borrow.Author.Tests.{lt-ltb, le-ltb}
use lib.ListN.{length, set, length-set}
use lib.Dec.{ltb}
use Rattle.text.specs.Page.{Page, page, put, puts}

-- ---- one character

module _ {A : Type 0} where
  pub put_room : (l : List A) (n : ℕ) (c : A) → n < length l → page (set l n c) (n + 1) ≡ puts (c ∷ []) (page l n)
  unfolding put puts
  put_room l n c h = simp (lt-ltb _ _ h)

  pub put_full : (l : List A) (n : ℕ) (c : A) → length l ≤ n → page l n ≡ puts (c ∷ []) (page l n)
  unfolding put puts
  put_full l n c h = simp (le-ltb _ _ h)

  -- ---- a text after another

  pub puts_append : (t u : List A) (p : Page A) → puts (t ++ u) p ≡ puts u (puts t p)
  unfolding puts
  puts_append [] u p = refl
  puts_append (c ∷ t) u p = puts_append t u (put c p)

  pub after : (p : Page A) {q r : Page A} (t u : List A) → q ≡ puts t p → r ≡ puts u q → r ≡ puts (t ++ u) p
  after p t u h k = k ∙ ap (puts u) h ∙ sym (puts_append t u p)

  -- the same text, said otherwise
  pub instead : (p : Page A) {q : Page A} {t u : List A} → q ≡ puts t p → t ≡ u → q ≡ puts u p
  instead p h e = h ∙ ap (λ (t : List A). puts t p) e

-- ---- a page's length is what it was

module _ {A : Type 0} where
  put_size : (c : A) (p : Page A) → length (put c p).held ≡ length p.held
  unfolding put
  put_size c p = go (ltb p.at (length p.held))
    where
      go : (b : Bool) → length (cond b (page (set p.held p.at c) (p.at + 1)) p).held ≡ length p.held
      go true = length-set p.held p.at c
      go false = refl

  pub puts_size : (t : List A) (p : Page A) → length (puts t p).held ≡ length p.held
  unfolding puts
  puts_size [] p = refl
  puts_size (c ∷ t) p = puts_size t (put c p) ∙ put_size c p
