-- What holds of the whole blocks at the front: how they are counted, one after the other, and that they are there. Assumes nothing.
use Prim.Native.Nat.{ℕ, zero, suc, ◌+◌, ◌-◌, ◌≤◌, ◌<◌, min, max}
use mathlib.Core.Path.{◌≡◌, refl, sym, ap, ◌∙◌}
use mathlib.Core.Bool.{Bool, true, false}
use mathlib.Core.List.{List}
use mathlib.Core.Logic.{◌⊎◌, inl, inr, ⊎_elim}
use native.Mathlib.Omega.{arith}
use lib.Dec.{leb}
use lib.ListN.{length, take, drop, length-take, length-drop}
use borrow.Author.Tests.{le-leb, lt-leb, leb-true, leb-false}
use Rattle.rules.specs.Answer.{when◌then◌else◌}
use Rattle.rules.proofs.AnswerLaws.{if_true, if_false}
use Rattle.blocks.specs.Read.{len_at}
use Rattle.recordings.specs.Feed.{block_length}
use Rattle.asterix_check.specs.Whole.{whole_up_to, whole_in}

at_least : (t : Bool) (n : ℕ) → 3 ≤ (when t then max 3 n else 3)
unfolding when◌then◌else◌
at_least true n = omega arith
at_least false n = omega arith

pub three : (bs : List ℕ) → 3 ≤ block_length bs
unfolding block_length
three bs = at_least (leb 3 (length bs)) (len_at bs)

fits : (bs : List ℕ) → (block_length bs ≤ length bs) ⊎ (length bs < block_length bs)
fits bs = go (leb (block_length bs) (length bs)) refl
  where
    go : (t : Bool) → leb (block_length bs) (length bs) ≡ t → (block_length bs ≤ length bs) ⊎ (length bs < block_length bs)
    go true e = inl (leb-true _ _ e)
    go false e = inr (leb-false _ _ e)

step : (f : ℕ) (bs : List ℕ) → block_length bs ≤ length bs → whole_up_to (suc f) bs ≡ block_length bs + whole_up_to f (drop (block_length bs) bs)
unfolding whole_up_to
step f bs h = if_true 0 (le-leb _ _ h) refl

stop : (f : ℕ) (bs : List ℕ) → length bs < block_length bs → whole_up_to f bs ≡ 0
unfolding whole_up_to
stop zero bs h = refl
stop (suc f) bs h = if_false _ (lt-leb _ _ h) refl

-- any bound that is enough
same : (f g : ℕ) (bs : List ℕ) → length bs ≤ f → length bs ≤ g → whole_up_to f bs ≡ whole_up_to g bs
same zero g bs a b = stop zero bs (omega (arith, three bs)) ∙ sym (stop g bs (omega (arith, three bs)))
same (suc f) zero bs a b = stop (suc f) bs (omega (arith, three bs)) ∙ sym (stop zero bs (omega (arith, three bs)))
same (suc f) (suc g) bs a b =
    ⊎_elim
    (λ (h : block_length bs ≤ length bs).
    let l : length (drop (block_length bs) bs) ≡ length bs - block_length bs = length-drop (block_length bs) bs in
    step f bs h
    ∙ ap (λ n. block_length bs + n) (same f g (drop (block_length bs) bs) (omega (arith, three bs)) (omega (arith, three bs)))
    ∙ sym (step g bs h))
    (λ (h : length bs < block_length bs). stop (suc f) bs h ∙ sym (stop (suc g) bs h))
    (fits bs)

pub whole_more : (bs : List ℕ) → block_length bs ≤ length bs → whole_in bs ≡ block_length bs + whole_in (drop (block_length bs) bs)
unfolding whole_in
whole_more bs h =
    let l : length (drop (block_length bs) bs) ≡ length bs - block_length bs = length-drop (block_length bs) bs in
    same (length bs) (suc (length bs)) bs (omega arith) (omega arith)
    ∙ step (length bs) bs h
    ∙ ap (λ n. block_length bs + n) (same (length bs) (length (drop (block_length bs) bs)) (drop (block_length bs) bs) (omega arith) (omega arith))

pub whole_end : (bs : List ℕ) → length bs < block_length bs → whole_in bs ≡ 0
unfolding whole_in
whole_end bs h = stop (length bs) bs h

within : (f : ℕ) (bs : List ℕ) → whole_up_to f bs ≤ length bs
unfolding whole_up_to
within zero bs = omega arith
within (suc f) bs =
    ⊎_elim
    (λ (h : block_length bs ≤ length bs).
    let l : length (drop (block_length bs) bs) ≡ length bs - block_length bs = length-drop (block_length bs) bs in
    omega (arith, step f bs h, within f (drop (block_length bs) bs)))
    (λ (h : length bs < block_length bs). omega (arith, stop (suc f) bs h))
    (fits bs)

pub whole_within : (bs : List ℕ) → whole_in bs ≤ length bs
unfolding whole_in
whole_within bs = within (length bs) bs

-- ---- the loop: the blocks cut off so far, and those of what is left

pub record Cutting (all rest : List ℕ) : Type 0 where
  pub place : length rest ≤ length all
  pub same_whole : whole_in rest + length all ≡ whole_in all + length rest

pub cut_again : (all bs rest : List ℕ) (n : ℕ) → Cutting all bs → n ≡ block_length bs → n ≤ length bs → rest ≡ drop n bs → Cutting all rest
cut_again all bs rest n c e h r =
    let l : length rest ≡ length bs - n = ap length r ∙ length-drop n bs in
    let w : whole_in bs ≡ block_length bs + whole_in rest =
    whole_more bs (omega arith) ∙ ap (λ z. block_length bs + whole_in z) (ap (λ k. drop k bs) (sym e) ∙ sym r) in
    record { place = omega (arith, c.place); same_whole = omega (arith, c.same_whole) }

pub cut_less : (bs rest : List ℕ) (n : ℕ) → n ≡ block_length bs → n ≤ length bs → rest ≡ drop n bs → length rest < length bs
cut_less bs rest n e h r = let l : length rest ≡ length bs - n = ap length r ∙ length-drop n bs in omega (arith, three bs)

pub cut_end : (all bs : List ℕ) (n : ℕ) → Cutting all bs → n ≡ block_length bs → (length bs < n) ⊎ (length bs < length bs)
    → length all - length bs ≡ whole_in all
cut_end all bs n c e h =
    ⊎_elim
    (λ (l : length bs < n). let z : whole_in bs ≡ 0 = whole_end bs (omega arith) in omega (arith, c.same_whole))
    (λ (l : length bs < length bs). absurd (omega arith))
    h

-- the whole blocks of a part that ends at a place end there at the latest
pub whole_few : (k n : ℕ) (bs : List ℕ) → k ≡ whole_in (take n bs) → k ≤ n
whole_few k n bs e = let m : length (take n bs) ≡ min n (length bs) = length-take n bs in omega (arith, whole_within (take n bs))

-- and a front as long has their length
pub whole_front : (k n : ℕ) (bs : List ℕ) → k ≤ n → n ≤ length bs → k ≡ length (take k bs)
whole_front k n bs h l = let m : length (take k bs) ≡ min k (length bs) = length-take k bs in omega arith
