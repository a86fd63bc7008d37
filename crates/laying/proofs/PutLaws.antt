-- What the code meets: bytes stored one after another, and fields of marks by their numbers. Assumes nothing.
--
-- In order: bytes in place of a part; the bytes of numbers; the marks, one after another; fields; the totals, one after another.
use Prim.Native.Nat.{ℕ, suc, ◌+◌, ◌-◌, ◌*◌, ◌/◌, ◌%◌, ◌≤◌, ◌<◌}
use mathlib.Core.Path.{◌≡◌, refl, sym, ap, ap₂, ◌∙◌}
use mathlib.Core.List.{List, [], ◌∷◌, ◌++◌, append_assoc}
use native.Mathlib.Omega.{arith}
use native.Mathlib.Nat.{add-zero, suc-add, add-suc}
use lib.ListN.{length, take, drop, get_or, set}
use lib.Seq.{sets, sets-eq, length-sets, drop-drop}
use Rattle.rules.specs.declared.Shape.{Shape}
use Rattle.rules.specs.declared.Shape.TheVariants.{Whole, InLog}
use Rattle.rules.specs.declared.Mark.{Mark}
use Rattle.rules.specs.Mark.{size, bytes4, mark_bytes, marks_bytes, count, totals_from, totals}
use Rattle.rules.specs.Sheet.{field_bytes}
use Rattle.rules.proofs.SheetLaws.{totals_length}
use Rattle.rules.proofs.MarkLaws.{mark_length, marks_length}
use Rattle.marks.specs.Lists.{span}
use Rattle.marks.proofs.NumberLaws.{span_length}
use Rattle.std.specs.Int.{w16, w32, to_be_bytes}
use Rattle.laying.specs.Lay.{head_bytes}

pub sets_append : (xs ys l : List ℕ) (q : ℕ) → sets l q (xs ++ ys) ≡ sets (sets l q xs) (q + length xs) ys
sets_append [] ys l q = ap (λ k. sets l k ys) (sym (add-zero q))
sets_append (x ∷ xs) ys l q = sets_append xs ys (set l q x) (suc q) ∙ ap (λ k. sets (sets (set l q x) (suc q) xs) k ys) (suc-add q (length xs) ∙ sym (add-suc q (length xs)))

-- bytes in place of a part
pub put_part : (bs l : List ℕ) (at n : ℕ) → n ≡ length bs → at + length bs ≤ length l → take at l ++ (bs ++ drop n (drop at l)) ≡ sets l at bs
put_part bs l at n e h =
    ap (λ k. take at l ++ (bs ++ drop k (drop at l))) e ∙ ap (λ y. take at l ++ (bs ++ y)) (drop-drop (length bs) at l)
    ∙ sym (append_assoc (take at l) bs (drop (at + length bs) l)) ∙ sym (sets-eq bs l at h)

-- the bytes of a number, one by one
two_bytes : (bs : List ℕ) (n : ℕ) → n < 65536 → bs ≡ to_be_bytes w16 n → get_or bs 0 0 ∷ get_or bs 1 0 ∷ [] ≡ n / 256 ∷ n % 256 ∷ []
two_bytes bs n h e = let a : n / 256 % 256 ≡ n / 256 = omega arith in rw e (ap (λ k. k ∷ n % 256 ∷ []) a)

four_bytes : (bs : List ℕ) (n : ℕ) → n < 4294967296 → bs ≡ to_be_bytes w32 n → get_or bs 0 0 ∷ get_or bs 1 0 ∷ get_or bs 2 0 ∷ get_or bs 3 0 ∷ [] ≡ bytes4 n
unfolding bytes4
four_bytes bs n h e = let a : n / 16777216 % 256 ≡ n / 16777216 = omega arith in rw e (ap (λ k. k ∷ n / 65536 % 256 ∷ n / 256 % 256 ∷ n % 256 ∷ []) a)

pub mark_whole : (f : Shape) (m : Mark) (bs : List ℕ) → f ≡ Whole → m.place < 4294967296 → bs ≡ to_be_bytes w32 m.place
    → get_or bs 0 0 ∷ get_or bs 1 0 ∷ get_or bs 2 0 ∷ get_or bs 3 0 ∷ m.log ∷ m.station ∷ m.comment ∷ 0 ∷ [] ≡ mark_bytes f m
unfolding mark_bytes
mark_whole f m bs g h e = rw g (ap (λ x. x ++ (m.log ∷ m.station ∷ m.comment ∷ 0 ∷ [])) (four_bytes bs m.place h e))

pub mark_own : (f : Shape) (m : Mark) (bs : List ℕ) (l : ℕ) → f ≡ InLog l → m.place < 4294967296 → bs ≡ to_be_bytes w32 m.place
    → get_or bs 0 0 ∷ get_or bs 1 0 ∷ get_or bs 2 0 ∷ get_or bs 3 0 ∷ m.station ∷ m.comment ∷ 0 ∷ [] ≡ mark_bytes f m
unfolding mark_bytes
mark_own f m bs l g h e = rw g (ap (λ x. x ++ (m.station ∷ m.comment ∷ 0 ∷ [])) (four_bytes bs m.place h e))

pub head_is : (t n : ℕ) (bs : List ℕ) → n < 65536 → bs ≡ to_be_bytes w16 n → t ∷ get_or bs 0 0 ∷ get_or bs 1 0 ∷ [] ≡ head_bytes t n
unfolding head_bytes
head_is t n bs h e = ap (λ x. t ∷ x) (two_bytes bs n h e)

pub start_is : (e c : ℕ) (bs : List ℕ) → c < 4294967296 → bs ≡ to_be_bytes w32 c
    → 1 ∷ 0 ∷ 1 ∷ e ∷ 2 ∷ 0 ∷ 4 ∷ get_or bs 0 0 ∷ get_or bs 1 0 ∷ get_or bs 2 0 ∷ get_or bs 3 0 ∷ [] ≡ field_bytes 1 (e ∷ []) ++ field_bytes 2 (bytes4 c)
unfolding field_bytes bytes4
start_is e c bs h g = ap (λ x. 1 ∷ 0 ∷ 1 ∷ e ∷ 2 ∷ 0 ∷ 4 ∷ x) (four_bytes bs c h g)

-- ---- the marks, one after another
pub record Laid (nth : ℕ → Mark) (f : Shape) (a b at : ℕ) (old now' : List ℕ) (j : ℕ) : Type 0 where
  pub from : a ≤ j
  pub to : j ≤ b
  pub same : sets now' (at + (j - a) * size f) (marks_bytes f (span nth j (b - j))) ≡ sets old at (marks_bytes f (span nth a (b - a)))
  pub long : length now' ≡ length old

step_room : (f : Shape) (d e at n : ℕ) → d < e → at + e * size f ≤ n → at + d * size f + size f ≤ n
step_room Whole d e at n h l = omega arith
step_room (InLog g) d e at n h l = omega arith

new_step : (nth : ℕ → Mark) (f : Shape) (j b : ℕ) → j < b → marks_bytes f (span nth j (b - j)) ≡ mark_bytes f (nth j) ++ marks_bytes f (span nth (j + 1) (b - (j + 1)))
unfolding span marks_bytes
new_step nth f j b h =
    let z : b - j ≡ suc (b - (j + 1)) = omega arith in
    let y : suc j ≡ j + 1 = omega arith in
    ap (λ n. marks_bytes f (span nth j n)) z ∙ ap (λ k. mark_bytes f (nth j) ++ marks_bytes f (span nth k (b - (j + 1)))) y

next_place : (f : Shape) (d e at : ℕ) → e ≡ d + 1 → at + e * size f ≡ at + d * size f + size f
next_place Whole d e at k = omega arith
next_place (InLog l) d e at k = omega arith

none_new : (nth : ℕ → Mark) (f : Shape) (j : ℕ) → marks_bytes f (span nth j 0) ≡ []
unfolding span marks_bytes
none_new nth f j = refl

module _ (nth : ℕ → Mark) (f : Shape) (a b at : ℕ) (old now' : List ℕ) (j z : ℕ) (l : Laid nth f a b at old now' j) (e : z ≡ size f) where
  pub laid_more : (m : Mark) (next : List ℕ) → j < b → m ≡ nth j → next ≡ sets now' (at + (j - a) * z) (mark_bytes f m) → Laid nth f a b at old next (j + 1)
  laid_more m next h q w =
      let p : at + (j + 1 - a) * size f ≡ at + (j - a) * size f + length (mark_bytes f m) =
      next_place f (j - a) (j + 1 - a) at (omega (arith, l.from)) ∙ ap (λ n. at + (j - a) * size f + n) (sym (mark_length f m)) in
      let w' : next ≡ sets now' (at + (j - a) * size f) (mark_bytes f m) = w ∙ ap (λ y. sets now' (at + (j - a) * y) (mark_bytes f m)) e in
      record {
        from = omega (arith, l.from);
        to = omega arith;
        same =
            ap₂ (λ x n. sets x n (marks_bytes f (span nth (j + 1) (b - (j + 1))))) w' p
            ∙ sym (sets_append (mark_bytes f m) (marks_bytes f (span nth (j + 1) (b - (j + 1)))) now' (at + (j - a) * size f))
            ∙ ap (λ y. sets now' (at + (j - a) * size f) (mark_bytes f y ++ marks_bytes f (span nth (j + 1) (b - (j + 1))))) q
            ∙ ap (sets now' (at + (j - a) * size f)) (sym (new_step nth f j b h)) ∙ l.same;
        long = ap length w' ∙ length-sets now' (at + (j - a) * size f) (mark_bytes f m) ∙ l.long;
      }

  pub laid_all : b ≤ j → (at + (b - a) * z ≡ at + (b - a) * size f) × (now' ≡ sets old at (marks_bytes f (span nth a (b - a))))
  laid_all h =
      let y : b - j ≡ 0 = omega arith in
      (ap (λ k. at + (b - a) * k) e, ap (sets now' (at + (j - a) * size f)) (sym (ap (λ n. marks_bytes f (span nth j n)) y ∙ none_new nth f j)) ∙ l.same)

-- ---- fields
pub field_put : (t n : ℕ) (body l x y : List ℕ) (at : ℕ) → length body ≡ n → x ≡ sets l at (head_bytes t n) → y ≡ sets x (at + 3) body → y ≡ sets l at (field_bytes t body)
unfolding field_bytes head_bytes
field_put t n body l x y at e g h =
    h ∙ ap (λ u. sets u (at + 3) body) g ∙ sym (sets_append (head_bytes t n) body l at) ∙ ap (λ k. sets l at (t ∷ k / 256 ∷ k % 256 ∷ body)) (sym e)

pub list_put : (nth : ℕ → Mark) (a b t : ℕ) (f : Shape) (z r : ℕ) (l x y : List ℕ) (at : ℕ) → z ≡ size f → x ≡ sets l at (head_bytes t ((b - a) * z))
    → (r ≡ at + 3 + (b - a) * size f) × (y ≡ sets x (at + 3) (marks_bytes f (span nth a (b - a))))
    → (r ≡ at + 3 + (b - a) * size f) × (y ≡ sets l at (field_bytes t (marks_bytes f (span nth a (b - a)))))
list_put nth a b t f z r l x y at g h (p, q) =
    (p, field_put t ((b - a) * z) (marks_bytes f (span nth a (b - a))) l x y at (marks_length f (span nth a (b - a)) ∙ ap₂ (λ u v. u * v) (span_length nth a (b - a)) (sym g)) h q)

-- ---- the totals, one after another
pub record Totalled (ms : List Mark) (old now' : List ℕ) (at j : ℕ) : Type 0 where
  pub same : sets now' (at + 3 + j * 2) (totals_from j (6 - j) ms) ≡ sets old (at + 3) (totals ms)
  pub long : length now' ≡ length old

total_step : (ms : List Mark) (j : ℕ) → j < 6 → totals_from j (6 - j) ms ≡ count j ms / 256 ∷ count j ms % 256 ∷ totals_from (j + 1) (6 - (j + 1)) ms
unfolding totals_from
total_step ms j h =
    let z : 6 - j ≡ suc (6 - (j + 1)) = omega arith in
    let y : suc j ≡ j + 1 = omega arith in
    ap (λ n. totals_from j n ms) z ∙ ap (λ k. count j ms / 256 ∷ count j ms % 256 ∷ totals_from k (6 - (j + 1)) ms) y

pub totalled_more : (ms : List Mark) (old now' next bs : List ℕ) (at j i k : ℕ) → Totalled ms old now' at j → j < 6 → i ≡ j → k ≡ count j ms → k < 65536 → bs ≡ to_be_bytes w16 k
    → next ≡ sets now' (at + 3 + i * 2) (get_or bs 0 0 ∷ get_or bs 1 0 ∷ []) → Totalled ms old next at (j + 1)
totalled_more ms old now' next bs at j i k t h g e r q w =
    let z : at + 3 + (j + 1) * 2 ≡ at + 3 + j * 2 + 2 = omega arith in
    let w' : next ≡ sets now' (at + 3 + j * 2) (count j ms / 256 ∷ count j ms % 256 ∷ []) =
    w ∙ ap (sets now' (at + 3 + i * 2)) (two_bytes bs k r q) ∙ ap₂ (λ x y. sets now' (at + 3 + x * 2) (y / 256 ∷ y % 256 ∷ [])) g e in
    record {
      same =
          ap₂ (λ x n. sets x n (totals_from (j + 1) (6 - (j + 1)) ms)) w' z
          ∙ sym (sets_append (count j ms / 256 ∷ count j ms % 256 ∷ []) (totals_from (j + 1) (6 - (j + 1)) ms) now' (at + 3 + j * 2))
          ∙ ap (sets now' (at + 3 + j * 2)) (sym (total_step ms j h)) ∙ t.same;
      long = ap length w' ∙ length-sets now' (at + 3 + j * 2) (count j ms / 256 ∷ count j ms % 256 ∷ []) ∙ t.long;
    }

none_left : (ms : List Mark) → totals_from 6 0 ms ≡ []
unfolding totals_from
none_left ms = refl

pub totalled_all : (ms : List Mark) (l old now' : List ℕ) (at j : ℕ) → old ≡ sets l at (head_bytes 4 12) → Totalled ms old now' at j → 6 ≡ j → now' ≡ sets l at (field_bytes 4 (totals ms))
totalled_all ms l old now' at j g t h =
    let z : totals_from j (6 - j) ms ≡ [] = ap (λ k. totals_from k (6 - k) ms) (sym h) ∙ none_left ms in
    field_put 4 12 (totals ms) l old now' at (totals_length ms) g (ap (sets now' (at + 3 + j * 2)) (sym z) ∙ t.same)
