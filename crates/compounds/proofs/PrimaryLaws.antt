-- Primary octets read one after another: what they say is small, and each answer of the code is a case of the rule that it follows.
--
-- In order: a part of what was lent; numbers; the last octet; one before others; all of them. Assumes nothing.
use Prim.Native.Nat.{ℕ, zero, suc, ◌+◌, ◌-◌, ◌*◌, ◌/◌, ◌%◌, ◌^◌, ◌≤◌, ◌<◌}
use mathlib.Core.Path.{◌≡◌, refl, sym, ap, ◌∙◌, subst}
use mathlib.Core.Logic.{⊎_elim}
use mathlib.Core.Bool.{Bool, true, false, not}
use mathlib.Core.List.{List, [], ◌∷◌}
use native.Mathlib.Omega.{arith}
use native.Mathlib.Nat.{mul-le-mul_right}
use lib.Dec.{eqb, lit≤}
use lib.Pow.{pow-add, pow_mono, pow_pos}
use lib.ListN.{length, drop, get_or}
use borrow.Author.Tests.{lt-ltb, eq-eqb, ne_eqb, not-true, not-false}
use Rattle.rules.specs.Answer.{Answer, ok, refused, ◌>>=◌, need◌or◌then◌, when◌then◌else◌}
use Rattle.rules.proofs.AnswerLaws.{Octets, ok_inj, refused_ok, bind_elim, need_elim, if_inv, if_true, if_false}
use Rattle.rules.specs.Catalogue.{categories}
use Rattle.tables.specs.Tables.{primary_count, primaries, layouts}
use Rattle.compounds.specs.Compound.{Bits, Small, known, last_of, before_of, primary}

-- ---- numbers

pub primaries_few : primary_count ≤ 255
unfolding primaries layouts categories
primaries_few = lit≤ tt

-- an octet's bits are below 128
pub raised_small : (x left : ℕ) → x < 256 → x / 2 * 2 ^ (7 * left) + 2 ^ (7 * left) ≤ 2 ^ (7 * suc left)
raised_small x left h =
    let e : 7 * suc left ≡ 7 + 7 * left = omega arith in
    let p : 2 ^ (7 * suc left) ≡ 128 * 2 ^ (7 * left) = ap (λ k. 2 ^ k) e ∙ pow-add 2 7 (7 * left) in
    let m : x / 2 * 2 ^ (7 * left) ≤ 127 * 2 ^ (7 * left) = mul-le-mul_right (2 ^ (7 * left)) (omega arith) in
    omega arith

pub raised_fits : (x left : ℕ) → x < 256 → left ≤ 7 → x / 2 * 2 ^ (7 * left) + 2 ^ (7 * left) ≤ 2 ^ 56
raised_fits x left h l =
    let k : 7 * suc left ≤ 56 = omega arith in
    let p : 2 ^ (7 * suc left) ≤ 2 ^ 56 = pow_mono k in
    omega (arith, raised_small x left h)

small_need : (left : ℕ) (t : Bool) (n : ℕ) (x : Answer Bits) → Small left x → Small left (need t or n then x)
unfolding need◌or◌then◌
small_need left true n x s = s
small_need left false n x s = tt

-- what so many printed octets say
pub small_said : (left b k : ℕ) {m : Answer Bits} → Small left m → m ≡ ok (b, k) → (b < 2 ^ (7 * left)) × (k ≤ left)
small_said left b k s e = subst (Small left) e s

-- ---- the last octet

small_last : (row left x : ℕ) → x < 256 → Small (suc left) (last_of row left x)
unfolding last_of
small_last row left x h =
    let p : 0 < 2 ^ (7 * left) = pow_pos (7 * left) in
    small_need (suc left) _ 7 _ (small_need (suc left) _ 8 _ (omega (arith, raised_small x left h), omega arith))

pub last_empty : (row left x : ℕ) → x / 2 ≡ 0 → refused 7 0 ≡ last_of row left x
unfolding last_of need◌or◌then◌
last_empty row left x h = rw h

module _ (row left x : ℕ) {t : Bool} (e : t ≡ known row (x / 2)) (h : x / 2 ≡ 0 → ⊥) where
  pub last_unknown : not t ≡ true → refused 8 0 ≡ last_of row left x
  unfolding last_of need◌or◌then◌
  last_unknown n = rw (lt-ltb 0 (x / 2) (omega arith), ← e, not-true t n)

  pub last_whole : not t ≡ false → {b : ℕ} → b ≡ x / 2 * 2 ^ (7 * left) → ok (b, 1) ≡ last_of row left x
  unfolding last_of need◌or◌then◌
  last_whole n eb = rw (lt-ltb 0 (x / 2) (omega arith), ← e, not-false t n, eb)

-- ---- one before others

small_before : (row left x : ℕ) (m : Answer Bits) → x < 256 → Small left m → Small (suc left) (before_of row left x m)
unfolding before_of ◌>>=◌
small_before row left x (ok y) h s = small_need (suc left) _ 8 _ (omega (arith, raised_small x left h, s.0), omega (arith, s.1))
small_before row left x (refused n p) h s = tt

module _ (row left x : ℕ) {m : Answer Bits} where
  pub before_refused : (n p : ℕ) → m ≡ refused n p → refused n p ≡ before_of row left x m
  unfolding before_of ◌>>=◌
  before_refused n p e = rw e

  module _ (b k : ℕ) (e : m ≡ ok (b, k)) {t : Bool} (et : t ≡ known row (x / 2)) where
    pub before_unknown : not t ≡ true → refused 8 0 ≡ before_of row left x m
    unfolding before_of need◌or◌then◌ ◌>>=◌
    before_unknown n = rw (e, ← et, not-true t n)

    pub before_whole : not t ≡ false → {r : ℕ} → r ≡ x / 2 * 2 ^ (7 * left) → ok (r + b, k + 1) ≡ before_of row left x m
    unfolding before_of need◌or◌then◌ ◌>>=◌
    before_whole n er = rw (e, ← et, not-false t n, er)

-- ---- all of them

pub primary_small : (row left : ℕ) (bs : List ℕ) → Octets bs → Small left (primary row left bs)
unfolding primary when◌then◌else◌
primary_small row zero bs o = tt
primary_small row (suc left) [] o = tt
primary_small row (suc left) (x ∷ bs) o = go (eqb (x % 2) 0) (primary_small (row + 1) left bs o.1)
  where
    go : (t : Bool) → Small left (primary (row + 1) left bs) → Small (suc left) (when t then last_of row left x else before_of row left x (primary (row + 1) left bs))
    go true s = small_last row left x o.0
    go false s = small_before row left x (primary (row + 1) left bs) o.0 s

-- they lie in what is there
pub primary_within : (row left : ℕ) (bs : List ℕ) (b k : ℕ) → primary row left bs ≡ ok (b, k) → k ≤ length bs
unfolding primary last_of before_of
primary_within row zero bs b k h = refused_ok h
primary_within row (suc left) [] b k h = refused_ok h
primary_within row (suc left) (x ∷ bs) b k h =
    ⊎_elim
    (λ (_, g). need_elim _ 7 _ g λ t g₁. need_elim _ 8 _ g₁ λ u g₂. subst (λ (y : Bits). y.1 ≤ suc (length bs)) (ok_inj g₂) (omega arith))
    (λ (_, g).
    bind_elim _ _ g λ y p g₁.
    need_elim _ 8 _ g₁ λ u g₂.
    let r : y.1 ≤ length bs = primary_within (row + 1) left bs y.0 y.1 p in
    subst (λ (z : Bits). z.1 ≤ suc (length bs)) (ok_inj g₂) (omega arith))
    (if_inv _ _ _ h)

pub primary_past : (row left : ℕ) (bs : List ℕ) → left ≡ 0 → refused 6 0 ≡ primary row left bs
unfolding primary
primary_past row left bs e = rw e

pub primary_cut : (row left : ℕ) (bs : List ℕ) → (left ≡ 0 → ⊥) → length bs ≡ 0 → refused 9 0 ≡ primary row left bs
unfolding primary
primary_cut row zero bs h e = absurd (h refl)
primary_cut row (suc left) [] h e = refl
primary_cut row (suc left) (x ∷ bs) h e = absurd (omega arith)

module _ (row left : ℕ) (bs : List ℕ) (h : left ≡ 0 → ⊥) (some : length bs ≡ 0 → ⊥) where
  primary_cons : primary row left bs
      ≡ (when eqb (get_or bs 0 0 % 2) 0 then last_of row (left - 1) (get_or bs 0 0) else before_of row (left - 1) (get_or bs 0 0) (primary (row + 1) (left - 1) (drop 1 bs)))
  unfolding primary
  primary_cons = go left bs h some
    where
      go : (n : ℕ) (us : List ℕ) → (n ≡ 0 → ⊥) → (length us ≡ 0 → ⊥) → primary row n us
          ≡ (when eqb (get_or us 0 0 % 2) 0 then last_of row (n - 1) (get_or us 0 0) else before_of row (n - 1) (get_or us 0 0) (primary (row + 1) (n - 1) (drop 1 us)))
      go zero us p q = absurd (p refl)
      go (suc n) [] p q = absurd (q refl)
      go (suc n) (x ∷ us) p q = let e : suc n - 1 ≡ n = omega arith in rw e

  pub primary_last : {m : Answer Bits} → get_or bs 0 0 % 2 ≡ 0 → m ≡ last_of row (left - 1) (get_or bs 0 0) → m ≡ primary row left bs
  primary_last z e = e ∙ sym (primary_cons ∙ if_true _ (eq-eqb (get_or bs 0 0 % 2) 0 z) refl)

  pub primary_more : {m : Answer Bits} → (get_or bs 0 0 % 2 ≡ 0 → ⊥) → m ≡ before_of row (left - 1) (get_or bs 0 0) (primary (row + 1) (left - 1) (drop 1 bs)) → m ≡ primary row left bs
  primary_more z e = e ∙ sym (primary_cons ∙ if_false _ (ne_eqb (get_or bs 0 0 % 2) 0 z) refl)
