-- What the code meets: the fields of marks, one after the other; a refusal's place is within what was read. Assumes nothing.
use Prim.Native.Nat.{ℕ, zero, suc, ◌+◌, ◌-◌, ◌*◌, ◌≤◌, ◌<◌, ◌^◌}
use mathlib.Core.Path.{◌≡◌, refl, sym, ap, ap₂, ◌∙◌}
use mathlib.Core.Logic.{⊎_elim, ◌⊎◌, inl, inr}
use mathlib.Core.Bool.{Bool, true, false}
use mathlib.Core.List.{List, [], ◌∷◌, ◌++◌, append-nil}
use native.Mathlib.Omega.{arith}
use mir.Val as val
use mir.Syntax.{w8}
use Rattle.rules.specs.Answer.{Answer, ok, refused, ◌>>=◌, need◌or◌then◌, later}
use Rattle.rules.specs.declared.Shape.{Shape}
use Rattle.rules.specs.declared.Shape.TheVariants.{Whole, InLog}
use Rattle.rules.specs.declared.Mark.{Mark}
use lib.ListN.{length, take, drop, get_or, length-drop, length-append, take-append-drop}
use lib.Seq.{drop_at}
use Rattle.rules.specs.Mark.{key, mark_in, size, marks_bytes, marks_in, of_log}
use Rattle.rules.specs.Sheet.{field_bytes, field_length, read_field, read_list}
use Rattle.rules.proofs.SheetSteps.{read_marks}
use Rattle.rules.proofs.AnswerLaws.{refused_ok, ok_inj, bind_elim, Octets}
use Rattle.rules.proofs.Codec.{after}
use Rattle.rules.proofs.MarkLaws.{marks_length}
use Rattle.rules.proofs.SplitLaws.{of_own, of_other, of_append}
use Rattle.rules.proofs.SheetLaws.{Fits, list_codec}
use Rattle.marks.specs.declared.Tally.{Tally}
use Rattle.marks.specs.Lists.{tally, both_tallies}
use Rattle.marks.proofs.MarkSteps.{tail, tail_is}
use Rattle.marks.proofs.ChangedLaws.{tally_append, of_few, below_few}
use Rattle.viewing.specs.declared.Marked.{Marked}
use Rattle.viewing.specs.Read.{fmap, marked_of}
use Rattle.viewing.proofs.FieldLaws.{body_length_lem, field_fits_lem, parts_in}

-- a slice's bytes are bytes
pub are_bytes : (bs : List ℕ) → ((i : ℕ) → get_or bs i 0 < 256) → Octets bs
are_bytes [] h = tt
are_bytes (b ∷ bs) h = (h 0, are_bytes bs (λ i. h (suc i)))

pub are_octets : (bs : List ℕ) → ((i : ℕ) → val.Fits w8 (get_or bs i 0)) → Octets bs
are_octets bs h = are_bytes bs (λ i. (h i).fits)

-- ---- two lists one after the other
pub fmap_ok : {A B : Type 0} (f : A → B) (m : Answer A) (b : B) → ok b ≡ fmap f m → (a : A) × (m ≡ ok a) × (b ≡ f a)
unfolding fmap
fmap_ok f (ok a) b h = (a, refl, ok_inj h)
fmap_ok f (refused k p) b h = refused_ok (sym h)

pub fmap_refused : {A B : Type 0} (f : A → B) (m : Answer A) (k p : ℕ) → refused k p ≡ fmap f m → m ≡ refused k p
unfolding fmap
fmap_refused f (ok a) k p h = refused_ok h
fmap_refused f (refused j q) k p h = let e : k ≡ j = cc in let g : p ≡ q = cc in ap₂ refused (sym e) (sym g)

pub fmap_is : {A B : Type 0} (f : A → B) {m : Answer A} {a : A} → m ≡ ok a → fmap f m ≡ ok (f a)
unfolding fmap
fmap_is f e = rw e

pub fmap_no : {A B : Type 0} (f : A → B) {m : Answer A} {k p : ℕ} → m ≡ refused k p → fmap f m ≡ refused k p
unfolding fmap
fmap_no f e = rw e

-- what a list that was read leaves
pub record Read (t : ℕ) (f : Shape) (limit key : ℕ) (bs : List ℕ) (a : Tally) : Type 0 where
  pub marks : List Mark
  pub reads : read_list t f limit bs ≡ ok (marks, drop (3 + a.count * size f) bs)
  pub told : a ≡ tally key marks
  pub many : length marks ≡ a.count
  pub fits : Fits f limit marks
  pub room : 3 + a.count * size f ≤ length bs

pub field_size : (t : ℕ) (b : List ℕ) → length (field_bytes t b) ≡ 3 + length b
unfolding field_bytes
field_size t b = omega arith

pub list_read : (t : ℕ) (f : Shape) (limit key : ℕ) (bs : List ℕ) (a : Tally) → limit ≤ 8191 → Octets bs → ok a ≡ fmap (λ x. tally key x.0) (read_list t f limit bs) → Read t f limit key bs a
list_read t f limit key bs a small b h =
    let (x, e, q) = fmap_ok (λ (x : List Mark × List ℕ). tally key x.0) (read_list t f limit bs) a h in
    let l : a.count ≡ length x.0 = ap (λ (y : Tally). y.count) q in
    let (g, j) = (list_codec t f limit small).forth x.0 bs x.1 b e in
    let z : length (field_bytes t (marks_bytes f x.0)) ≡ 3 + a.count * size f = field_size t (marks_bytes f x.0) ∙ ap (λ y. 3 + y) (marks_length f x.0 ∙ ap (λ y. y * size f) (sym l)) in
    let d : drop (3 + a.count * size f) bs ≡ x.1 = ap (drop (3 + a.count * size f)) j ∙ drop_at (field_bytes t (marks_bytes f x.0)) x.1 (3 + a.count * size f) z in
    record {
      marks = x.0;
      reads = e ∙ ap (λ y. ok (x.0, y)) (sym d);
      told = q;
      many = sym l;
      fits = g;
      room = omega (arith, z, ap length j, length-append (field_bytes t (marks_bytes f x.0)) x.1);
    }

pub gone : (n : ℕ) (bs : List ℕ) → n ≤ length bs → length bs - length (drop n bs) ≡ n
gone n bs h = omega (arith, length-drop n bs)

module _ (limit key : ℕ) (small : limit ≤ 8191) (bs : List ℕ) (b : Octets bs) where
  abbrev Says : Answer Marked → Type 0
  Says r = r ≡ fmap (λ x. marked_of key true x.0) (read_marks true limit bs)

  pub split_refused : (k p : ℕ) → refused k p ≡ fmap (λ x. tally key x.0) (read_list 5 (InLog 0) limit bs) → Says (refused k p)
  unfolding read_marks ◌>>=◌
  split_refused k p h = sym (fmap_no _ (rw (fmap_refused _ _ k p h)))

  module _ (a : Tally) (h : ok a ≡ fmap (λ x. tally key x.0) (read_list 5 (InLog 0) limit bs)) where
    first : Read 5 (InLog 0) limit key bs a
    first = list_read 5 (InLog 0) limit key bs a small b h

    pub split_room : (3 + a.count * 7 ≤ length bs) × (a.count ≤ limit)
    split_room = (first.room, omega (arith, first.fits.few, first.many))

    after_first : Octets (drop (3 + a.count * 7) bs)
    after_first = after bs (take (3 + a.count * 7) bs) (drop (3 + a.count * 7) bs) (sym (take-append-drop (3 + a.count * 7) bs)) b

    pub split_refused_2 : (k p : ℕ) → refused k p ≡ fmap (λ x. tally key x.0) (read_list 6 (InLog 1) (limit - a.count) (tail (3 + a.count * 7) bs)) → Says (refused k (3 + a.count * 7 + p))
    unfolding read_marks ◌>>=◌ later
    split_refused_2 k p g =
        let e : read_list 6 (InLog 1) (limit - length first.marks) (drop (3 + a.count * 7) bs) ≡ refused k p =
        ap₂ (λ x y. read_list 6 (InLog 1) (limit - x) y) first.many (sym (tail_is (3 + a.count * 7) bs)) ∙ fmap_refused _ _ k p g in
        sym (fmap_no _ (rw (first.reads, e) (ap (λ x. refused k (x + p)) (gone (3 + a.count * 7) bs first.room))))

    module _ (c : Tally) (g : ok c ≡ fmap (λ x. tally key x.0) (read_list 6 (InLog 1) (limit - a.count) (tail (3 + a.count * 7) bs))) where
      second : Read 6 (InLog 1) (limit - a.count) key (drop (3 + a.count * 7) bs) c
      second = list_read 6 (InLog 1) (limit - a.count) key (drop (3 + a.count * 7) bs) c (omega arith) after_first (g ∙ ap (λ y. fmap (λ x. tally key x.0) (read_list 6 (InLog 1) (limit - a.count) y)) (tail_is (3 + a.count * 7) bs))

      pub split_few : a.count + c.count ≤ limit
      split_few = omega (arith, second.fits.few, second.many, split_room.1)

      -- what is told of both is little
      pub split_small : (a.count + c.count < 2 ^ 32) × ((a.first + c.first < 2 ^ 32) × (a.below + c.below < 2 ^ 32))
      split_small =
          let f : a.first ≤ a.count = omega (arith, ap (λ (y : Tally). y.first) first.told, of_few first.marks, first.many) in
          let f' : c.first ≤ c.count = omega (arith, ap (λ (y : Tally). y.first) second.told, of_few second.marks, second.many) in
          let l : a.below ≤ a.count = omega (arith, ap (λ (y : Tally). y.below) first.told, below_few key first.marks, first.many) in
          let l' : c.below ≤ c.count = omega (arith, ap (λ (y : Tally). y.below) second.told, below_few key second.marks, second.many) in
          (omega (arith, split_few), (omega (arith, split_few), omega (arith, split_few)))

      pub split_marks : (t : Tally) → t ≡ both_tallies a c → Says (ok (record { lists = record { split = true; base = 14; first = a.count; count = a.count + c.count }; tally = t }))
      unfolding read_marks ◌>>=◌ later
      split_marks t u =
          let e : read_list 6 (InLog 1) (limit - length first.marks) (drop (3 + a.count * 7) bs) ≡ ok (second.marks, drop (3 + c.count * 7) (drop (3 + a.count * 7) bs)) =
          ap (λ x. read_list 6 (InLog 1) (limit - x) (drop (3 + a.count * 7) bs)) first.many ∙ second.reads in
          let e₀ : of_log 0 (first.marks ++ second.marks) ≡ first.marks =
          of_append 0 first.marks second.marks ∙ ap₂ (λ u v. u ++ v) (of_own 0 0 first.marks first.fits.rise) (of_other 1 0 0 second.marks (λ z. omega arith) second.fits.rise) ∙ append-nil first.marks in
          let c₁ : length (of_log 0 (first.marks ++ second.marks)) ≡ a.count = ap length e₀ ∙ first.many in
          let c₂ : length (first.marks ++ second.marks) ≡ a.count + c.count = length-append first.marks second.marks ∙ ap₂ (λ u v. u + v) first.many second.many in
          let k : read_marks true limit bs ≡ ok (first.marks ++ second.marks, drop (3 + c.count * 7) (drop (3 + a.count * 7) bs)) = rw (first.reads, e) in
          let q : tally key (first.marks ++ second.marks) ≡ t = sym (tally_append key first.marks second.marks) ∙ ap₂ both_tallies (sym first.told) (sym second.told) ∙ sym u in
          sym (fmap_is (λ (x : List Mark × List ℕ). marked_of key true x.0) k
          ∙ ap₂ (λ u v. ok (record { lists = record { split = true; base = 14; first = u; count = v }; tally = tally key (first.marks ++ second.marks) })) c₁ c₂
          ∙ ap (λ y. ok (record { lists = record { split = true; base = 14; first = a.count; count = a.count + c.count }; tally = y })) q)

-- ---- a refusal's place is within what was read
pub bind_refused : {A B : Type 0} (m : Answer A) (f : A → Answer B) (k p : ℕ) → (m >>= f) ≡ refused k p → (m ≡ refused k p) ⊎ ((a : A) × (m ≡ ok a) × (f a ≡ refused k p))
unfolding ◌>>=◌
bind_refused (ok a) f k p h = inr (a, refl, h)
bind_refused (refused j q) f k p h = inl (let e : j ≡ k = cc in let g : q ≡ p = cc in ap₂ refused e g)

refused_place : {A : Type 0} {j q k p : ℕ} → ◌≡◌ {A = Answer A} (refused j q) (refused k p) → q ≡ p
refused_place h = cc

pub need_refused : {A : Type 0} (t : Bool) (n : ℕ) (x : Answer A) (k p : ℕ) → (need t or n then x) ≡ refused k p → (p ≡ 0) ⊎ (x ≡ refused k p)
unfolding need◌or◌then◌
need_refused true n x k p h = inr h
need_refused false n x k p h = inl (sym (refused_place h))

pub later_refused : {A : Type 0} (j : ℕ) (m : Answer A) (k p : ℕ) → later j m ≡ refused k p → (q : ℕ) × (m ≡ refused k q) × (p ≡ j + q)
unfolding later
later_refused j (ok a) k p h = refused_ok (sym h)
later_refused j (refused n q) k p h = let e : n ≡ k = cc in (q, ap (λ y. refused y q) e, sym (refused_place h))

pub ok_not_refused : {A C : Type 0} {a : A} {k p : ℕ} → ok a ≡ refused k p → C
ok_not_refused h = refused_ok (sym h)

pub field_place : (t : ℕ) (bs : List ℕ) (k p : ℕ) → field_length t bs ≡ refused k p → p ≡ 0
unfolding field_length
field_place t bs k p h =
    ⊎_elim (λ e. e) (λ h₁. ⊎_elim (λ e. e) (λ h₂. ⊎_elim (λ e. e) (λ h₃. ⊎_elim (λ e. e) (λ h₄. ok_not_refused h₄) (need_refused _ _ _ k p h₃)) (need_refused _ _ _ k p h₂)) (need_refused _ _ _ k p h₁)) (need_refused _ _ _ k p h)

marks_place : (f : Shape) (least n : ℕ) (bs : List ℕ) (k p : ℕ) → marks_in f least n bs ≡ refused k p → p ≤ n * size f
unfolding marks_in
marks_place f least zero bs k p h = ok_not_refused h
marks_place f least (suc n) bs k p h =
    ⊎_elim (λ (e : p ≡ 0). omega arith)
    (λ h₁.
    ⊎_elim
    (λ h₂. let (q, e, g) = later_refused (size f) _ k p h₂ in omega (arith, marks_place f (suc (key (mark_in f bs))) n _ k q e, g))
    (λ (a, e, h₃). ok_not_refused h₃)
    (bind_refused _ _ k p h₁))
    (need_refused _ _ _ k p h)

pub list_place_in : (t : ℕ) (f : Shape) (limit : ℕ) (bs : List ℕ) (k p : ℕ) → read_list t f limit bs ≡ refused k p → p ≤ length bs
unfolding read_list read_field
list_place_in t f limit bs k p h =
    ⊎_elim
    (λ h₁.
    ⊎_elim (λ h₂. omega (arith, field_place t bs k p h₂)) (λ (a, e, h₃). ok_not_refused h₃) (bind_refused _ _ k p h₁))
    (λ (x, h₁, h₂).
    ⊎_elim (λ (e : p ≡ 0). omega arith)
    (λ h₃.
    ⊎_elim (λ (e : p ≡ 0). omega arith)
    (λ h₄.
    ⊎_elim
    (λ h₅.
    let (q, e, g) = later_refused 3 _ k p h₅ in
    bind_elim _ _ h₁ λ n r h₆.
    let l : length x.0 ≡ n = ap (λ y. length y.0) (sym (ok_inj h₆)) ∙ body_length_lem t bs n r in
    omega (arith, g, marks_place f 0 _ _ k q e, field_fits_lem t bs n r, (parts_in f (length x.0) 0 (size f) refl).0))
    (λ (a, e, h₅). ok_not_refused h₅)
    (bind_refused _ _ k p h₄))
    (need_refused _ _ _ k p h₃))
    (need_refused _ _ _ k p h₂))
    (bind_refused _ _ k p h)

-- ---- the lists of an edition
pub whole_marks : (limit key : ℕ) (bs : List ℕ) (a : Tally) → ok a ≡ fmap (λ x. tally key x.0) (read_list 3 Whole limit bs)
    → ok (record { lists = record { split = false; base = 14; first = a.count; count = a.count }; tally = a }) ≡ fmap (λ x. marked_of key false x.0) (read_marks false limit bs)
unfolding read_marks
whole_marks limit key bs a h =
    let (x, e, q) = fmap_ok (λ (x : List Mark × List ℕ). tally key x.0) (read_list 3 Whole limit bs) a h in
    sym (fmap_is (λ (x : List Mark × List ℕ). marked_of key false x.0) e ∙ ap (λ (y : Tally). ok (record { lists = record { split = false; base = 14; first = y.count; count = y.count }; tally = y })) (sym q))

pub whole_refused : (limit key : ℕ) (bs : List ℕ) (k p : ℕ) → refused k p ≡ fmap (λ x. tally key x.0) (read_list 3 Whole limit bs) → refused k p ≡ fmap (λ x. marked_of key false x.0) (read_marks false limit bs)
unfolding read_marks
whole_refused limit key bs k p h = sym (fmap_no _ (fmap_refused _ (read_list 3 Whole limit bs) k p h))

pub length_tail : (at : ℕ) (s : List ℕ) → length (tail at s) ≡ length s - at
length_tail at s = ap length (tail_is at s) ∙ length-drop at s
