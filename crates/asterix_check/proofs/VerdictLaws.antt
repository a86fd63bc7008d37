-- What holds of the line that says what a recording is: the numbers in it are those that the library writes, how long they are, and that a page of 66 octets has
-- room for it.
--
-- In order: a number's digits; a text that has room; the line. Assumes nothing.
use Prim.Native.Nat.{ℕ, zero, suc, ◌+◌, ◌/◌, ◌%◌, ◌^◌, ◌≤◌, ◌<◌}
use mathlib.Core.Path.{◌≡◌, refl, sym, ap, ap₂, ◌∙◌}
use mathlib.Core.Bool.{Bool, cond, true, false}
use mathlib.Core.List.{List, [], ◌∷◌, ◌++◌}
use native.Mathlib.Nat.{div-lt_iff_lt-mul, add-zero, zero-add, pow-suc}
use native.Mathlib.Omega.{arith}
use lib.Dec.{ltb}
use lib.ListN.{length, length-append}
use lib.Seq.{set-append_seam, append_snoc}
use borrow.Author.Tests.{ltb-false, lt-ltb, le-ltb}
use Rattle.std.proofs.Common.{append_assoc}
use Rattle.std.specs.Fmt.{decimal}
use Rattle.std.proofs.lemmas.Fmt.{decimal_from_appends, length-decimal-le_succ}
use Rattle.rules.specs.Answer.{Answer, ok, refused}
use Rattle.rules.specs.Entry.{Counts, over}
use Rattle.text.specs.Page.{Page, page, puts}
use Rattle.text.specs.Number.{decimal_from, decimal_text}
use Rattle.text.proofs.PageLaws.{put_room, after, puts_size}
use Rattle.asterix_check.specs.Verdict.{sentence, counts_text, refusal_text, verdict_text}

-- ---- a number's digits

-- a number below a power of ten has no more digits than that
digits_few : (f n k : ℕ) → n < 10 ^ suc k → length (decimal_from f n) ≤ suc k
unfolding decimal_from
digits_few zero n k h = omega arith
digits_few (suc f) n k h = go (ltb n 10) refl k h (digits_few f (n / 10))
  where
    go : (t : Bool) → ltb n 10 ≡ t → (j : ℕ) → n < 10 ^ suc j → ((i : ℕ) → n / 10 < 10 ^ suc i → length (decimal_from f (n / 10)) ≤ suc i)
        → length (cond t ((48 + n) ∷ []) (decimal_from f (n / 10) ++ ((48 + n % 10) ∷ []))) ≤ suc j
    go true e j b ih = omega arith
    go false e zero b ih = absurd (omega (arith, ltb-false n 10 e))
    go false e (suc j) b ih =
        let d : n / 10 < 10 ^ suc j = (div-lt_iff_lt-mul {k = 10} {x = n} {y = 10 ^ suc j} (omega arith)).1 (omega (arith, pow-suc 10 (suc j))) in
        simp length-append (omega (arith, ih j d))

decimal_few : (n : ℕ) → n < 2 ^ 64 → length (decimal_text n) ≤ 20
unfolding decimal_text
decimal_few n h = digits_few (suc n) n 19 (omega arith)

-- a number's text, as `{}` writes it
decimal_is : (n : ℕ) → n < 2 ^ 64 → decimal_text n ≡ decimal n
unfolding decimal_text decimal_from
decimal_is n h =
    decimal_from_appends decimal_from
    (record { one = λ k n l. rw (lt-ltb n 10 l); more = λ k n l. rw (le-ltb n 10 l) })
    (suc n) n h (omega (arith, length-decimal-le_succ n h))

-- ---- a text that has room stands at the start, and nothing else changes

laid_from : {A : Type 0} (t a l : List A) → length t ≤ length l → puts t (page (a ++ l) (length a)) ≡ page (a ++ over t l) (length a + length t)
unfolding puts
laid_from [] a l h = ap (page (a ++ l)) (sym (add-zero (length a)))
laid_from (c ∷ t) a [] h = absurd (omega arith)
laid_from (c ∷ t) a (x ∷ l) h =
    let n : length (a ++ (c ∷ [])) ≡ length a + 1 = length-append a (c ∷ []) in
    let k : length a < length (a ++ (x ∷ l)) = simp length-append (omega arith) in
    let m : length (a ++ (c ∷ [])) + length t ≡ length a + suc (length t) = omega arith in
    ap (puts t)
    (sym (put_room (a ++ (x ∷ l)) (length a) c k)
    ∙ ap₂ page (set-append_seam a x l c ∙ sym (append_snoc a c l)) (sym n))
    ∙ laid_from t (a ++ (c ∷ [])) l (omega arith)
    ∙ ap₂ page (append_snoc a c (over t l)) m

laid : {A : Type 0} (t l : List A) → length t ≤ length l → puts t (page l 0) ≡ page (over t l) (length t)
laid t l h = laid_from t [] l h ∙ ap (page (over t l)) (zero-add (length t))

-- ---- the line

pub written : (s : List ℕ) (n : ℕ) (t : List ℕ) (m : ℕ) (u : List ℕ) → n < 2 ^ 64 → m < 2 ^ 64
    → s ++ (decimal n ++ (t ++ (decimal m ++ u))) ≡ sentence s n t m u
unfolding sentence
written s n t m u a b = rw (decimal_is n a, decimal_is m b) (simp append_assoc)

-- two numbers of 64 bits between three texts, put one after another
pub put_five : (p : Page ℕ) {q₁ q₂ q₃ q₄ q₅ : Page ℕ} (s : List ℕ) (n : ℕ) (t : List ℕ) (m : ℕ) (u : List ℕ) → q₁ ≡ puts s p → q₂ ≡ puts (decimal_text n) q₁
    → q₃ ≡ puts t q₂ → q₄ ≡ puts (decimal_text m) q₃ → q₅ ≡ puts u q₄ → q₅ ≡ puts (sentence s n t m u) p
unfolding sentence
put_five p s n t m u e₁ e₂ e₃ e₄ e₅ = after p _ u (after p _ (decimal_text m) (after p _ t (after p s (decimal_text n) e₁ e₂) e₃) e₄) e₅

sentence_few : (s : List ℕ) (n : ℕ) (t : List ℕ) (m : ℕ) (u : List ℕ) → n < 2 ^ 64 → m < 2 ^ 64 → length s + length t + length u ≤ 26
    → length (sentence s n t m u) ≤ 66
unfolding sentence
sentence_few s n t m u a b h = simp length-append (omega (arith, decimal_few n a, decimal_few m b))

pub accepted_few : (b r : ℕ) → b < 2 ^ 64 → r < 2 ^ 64 → length (verdict_text (ok (record { blocks = b; records = r }))) ≤ 66
unfolding verdict_text counts_text refusal_text
accepted_few b r h k = sentence_few _ b _ r _ h k (omega arith)

pub refused_few : (n p : ℕ) → n < 2 ^ 64 → p < 2 ^ 64 → length (verdict_text (refused n p)) ≤ 66
unfolding verdict_text counts_text refusal_text
refused_few n p h k = sentence_few _ n _ p _ h k (omega arith)

-- a page that holds the line: its length, and its octets
pub said : (a b : Answer Counts) (l l₁ : List ℕ) (r : ℕ) → length l ≡ 66 → a ≡ b → length (verdict_text b) ≤ 66 → page l₁ r ≡ puts (verdict_text b) (page l 0)
    → (r ≡ length (verdict_text a)) × ((l₁ ≡ over (verdict_text a) l) × (r ≤ length l₁))
said a b l l₁ r size e few p =
    let z : page l₁ r ≡ page (over (verdict_text b) l) (length (verdict_text b)) = p ∙ laid (verdict_text b) l (omega arith) in
    let n : r ≡ length (verdict_text b) = ap (λ (q : Page ℕ). q.at) z in
    let k : length l₁ ≡ length l = ap (λ (q : Page ℕ). length q.held) p ∙ puts_size (verdict_text b) (page l 0) in
    (n ∙ ap (λ x. length (verdict_text x)) (sym e), (ap (λ (q : Page ℕ). q.held) z ∙ ap (λ x. over (verdict_text x) l) (sym e), omega arith))
