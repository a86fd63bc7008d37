-- Subfields read one after another, as the loops go over the bits that name them.
--
-- In order: one subfield; a turn; the loop over the check; a compound item; sound rows. Assumes nothing.
use Prim.Native.Nat.{ℕ, zero, suc, ◌+◌, ◌-◌, ◌*◌, ◌%◌, ◌^◌, ◌≤◌, ◌<◌}
use mathlib.Core.Path.{◌≡◌, refl, sym, ap, ◌∙◌, subst}
use mathlib.Core.Bool.{Bool, true, false, cond, ◌&&◌}
use mathlib.Core.List.{List, [], ◌∷◌, ◌++◌}
use native.Mathlib.Omega.{arith}
use native.Mathlib.Nat.{le_refl, mod-lt, not-suc-le-zero}
use lib.Dec.{leb, lit≤}
use borrow.Author.Tests.{leb-true}
use lib.Pow.{pow_pos}
use lib.ListN.{length, take, drop, length-drop}
use lib.Seq.{drop-drop}
use Rattle.rules.specs.Answer.{Answer, ok, refused, ◌>>=◌}
use Rattle.rules.specs.Presence.{flags}
use Rattle.rules.specs.Layout.{at_start}
use Rattle.rules.proofs.AnswerLaws.{Octets, both_left, both_right, if_true, if_false, ok_inj, bind_elim, bind_in, bind_out, refused_ok, octets_drop, to_end}
use Rattle.tables.specs.declared.tables.Kind.TheVariants.{Compound}
use Rattle.tables.specs.declared.tables.LayoutRow.{LayoutRow}
use Rattle.rules.specs.Catalogue.{categories}
use Rattle.tables.specs.Tables.{layouts, primary_count, subfields_in, subfield_count, subfield_at, layout_at}
use Rattle.tables.proofs.TableLaws.{subfields_long, subfield_row}
use Rattle.tables.proofs.KindLaws.{kind_same, kind_other}
use Rattle.layouts.specs.Read.{Shaped, whole_of}
use Rattle.layouts.proofs.ReadLaws.{Fitting, fitting}
use Rattle.layouts.proofs.SoundLaws.{layout_sound}
use Rattle.layouts.proofs.WholeLaws.{whole_shape}
use Rattle.compounds.specs.Compound.{Told, plain_read, place_read, subfields_read, printed, primary, compound_read, size_from, shaped, most_fields, most_in, item_sound}
use Rattle.compounds.proofs.PrimaryLaws.{primary_within}

pub subfields_few : subfield_count ≤ 255
unfolding subfields_in layouts categories
subfields_few = lit≤ tt

-- ---- one subfield

module _ (i : ℕ) (bs : List ℕ) where
  abbrev row : LayoutRow
  row = layout_at (subfield_at i)

  pub absent_size : {t : Bool} → t ≡ false → ok (0, 0) ≡ size_from 0 (place_read i t bs)
  absent_size e = sym (ap (λ t. size_from 0 (place_read i t bs)) e)

  pub there_size : {t : Bool} (c n : ℕ) → t ≡ true → ok (c, n) ≡ whole_of row bs → ok (0, n) ≡ size_from 0 (place_read i t bs)
  unfolding plain_read ◌>>=◌
  there_size c n e h = rw (e, ← h) (ap (λ m. ok (0, m)) (let z : n ≡ 0 + n = omega arith in z))

  pub there_refused : {t : Bool} (n p : ℕ) → t ≡ true → refused n p ≡ whole_of row bs → refused n 0 ≡ size_from 0 (place_read i t bs)
  unfolding plain_read ◌>>=◌
  there_refused n p e h = rw (e, ← h)

-- what is read lies in what is there
plain_within : (sub : Bool) (l : LayoutRow) (bs : List ℕ) (x : Told) → ((s : Shaped) → whole_of l bs ≡ ok s → s.1 ≤ length bs) → plain_read sub l bs ≡ ok x → x.1 ≤ length bs
unfolding plain_read
plain_within sub l bs x h e = bind_elim _ _ e λ s p q. subst (λ (y : Told). y.1 ≤ length bs) (ok_inj q) (h s p)

pub row_fits : (i : ℕ) (bs : List ℕ) (s : Shaped) → Octets bs → whole_of (layout_at (subfield_at i)) bs ≡ ok s → Fitting (layout_at (subfield_at i)) bs s.0 s.1
row_fits i bs s o h = fitting (layout_at (subfield_at i)) bs s (layout_sound (subfield_at i) (subfield_row i)) o (whole_shape (layout_at (subfield_at i)) bs s h)

pub place_within : (i : ℕ) (t : Bool) (bs : List ℕ) (x : Told) → Octets bs → place_read i t bs ≡ ok x → x.1 ≤ length bs
place_within i true bs x o h = plain_within true (layout_at (subfield_at i)) bs x (λ s p. (row_fits i bs s o p).there) h
place_within i false bs x o h = subst (λ (y : Told). y.1 ≤ length bs) (ok_inj h) (omega arith)

-- ---- a turn

module _ (i : ℕ) (t : Bool) (ts : List Bool) (bs : List ℕ) where
  pub turn_refused : (k n p : ℕ) → refused n p ≡ size_from 0 (place_read i t bs) → refused n p ≡ size_from k (subfields_read i (t ∷ ts) bs)
  unfolding subfields_read
  turn_refused k n p h = go (place_read i t bs) refl h
    where
      go : (m : Answer Told) → place_read i t bs ≡ m → refused n p ≡ size_from 0 m → refused n p ≡ size_from k (subfields_read i (t ∷ ts) bs)
      go (ok x) e q = refused_ok q
      go (refused a b) e q = q ∙ sym (ap (size_from k) (bind_out _ e))

  -- one that is read, then the others
  pub turn_read : (x : Told) (k : ℕ) → place_read i t bs ≡ ok x → size_from k (subfields_read i (t ∷ ts) bs) ≡ size_from (k + x.1) (subfields_read (i + 1) ts (drop x.1 bs))
  unfolding subfields_read ◌>>=◌
  turn_read x k e = ap (size_from k) (bind_in _ e refl) ∙ go (subfields_read (i + 1) ts (drop x.1 bs))
    where
      go : (m : Answer Told) → size_from k (m >>= (λ y. ok (x.0 ++ y.0, x.1 + y.1))) ≡ size_from (k + x.1) m
      go (ok y) = ap (λ n. ok (0, n)) (omega arith)
      go (refused n p) = refl

  turn_size : (c n k : ℕ) → ok (c, n) ≡ size_from 0 (place_read i t bs) → Octets bs
      → (n ≤ length bs) × (size_from k (subfields_read i (t ∷ ts) bs) ≡ size_from (k + n) (subfields_read (i + 1) ts (drop n bs)))
  turn_size c n k h o = go (place_read i t bs) refl h
    where
      go : (m : Answer Told) → place_read i t bs ≡ m → ok (c, n) ≡ size_from 0 m
          → (n ≤ length bs) × (size_from k (subfields_read i (t ∷ ts) bs) ≡ size_from (k + n) (subfields_read (i + 1) ts (drop n bs)))
      go (ok x) e q =
          let d : ◌≡◌ {A = Shaped} (c, n) (0, 0 + x.1) = ok_inj q in
          let z : n ≡ x.1 = ap (λ s. s.1) d ∙ omega arith in
          subst (λ m. (m ≤ length bs) × (size_from k (subfields_read i (t ∷ ts) bs) ≡ size_from (k + m) (subfields_read (i + 1) ts (drop m bs)))) (sym z)
          (place_within i t bs x o e, turn_read x k e)
      go (refused a b) e q = refused_ok (sym q)

-- ---- the loop over the check

pub record Walking (first places bits : ℕ) (s : List ℕ) (i more left at : ℕ) : Type 0 where
  pub from : first ≤ i
  pub place : i + more ≡ first + places
  pub few : left < 2 ^ more
  pub there : at ≤ length s
  pub same : size_from at (subfields_read i (flags more left) (drop at s)) ≡ size_from 0 (subfields_read first (flags places bits) s)

pub walk_begun : (first places bits : ℕ) (s : List ℕ) → bits < 2 ^ places → Walking first places bits s first places bits 0
walk_begun first places bits s h = record { from = le_refl first; place = refl; few = h; there = omega arith; same = refl }

-- the first flag, and the others
pub flags_cons : (more left : ℕ) → 0 < more → flags more left ≡ leb (2 ^ (more - 1)) left ∷ flags (more - 1) (left % 2 ^ (more - 1))
unfolding flags
flags_cons zero left h = absurd (not-suc-le-zero h)
flags_cons (suc k) left h = let e : suc k - 1 ≡ k = omega arith in rw e

module _ (first places bits : ℕ) (s : List ℕ) (i more left at : ℕ) (w : Walking first places bits s i more left at) (h : 0 < more) {weight : ℕ} (ew : weight ≡ 2 ^ (more - 1)) where
  here : size_from at (subfields_read i (leb weight left ∷ flags (more - 1) (left % weight)) (drop at s)) ≡ size_from 0 (subfields_read first (flags places bits) s)
  here = ap (λ x. size_from at (subfields_read i (leb x left ∷ flags (more - 1) (left % x)) (drop at s))) ew ∙ ap (λ ts. size_from at (subfields_read i ts (drop at s))) (sym (flags_cons more left h)) ∙ w.same

  pub walk_refused : (n p : ℕ) → refused n p ≡ size_from 0 (place_read i (leb weight left) (take (length s - at) (drop at s)))
      → refused n p ≡ size_from 0 (subfields_read first (flags places bits) s)
  walk_refused n p e =
      turn_refused i (leb weight left) (flags (more - 1) (left % weight)) (drop at s) at n p (e ∙ ap (λ bs. size_from 0 (place_read i (leb weight left) bs)) (to_end s at)) ∙ here

  module _ (c n : ℕ) (o : Octets s) (e : ok (c, n) ≡ size_from 0 (place_read i (leb weight left) (take (length s - at) (drop at s)))) where
    turn : (n ≤ length (drop at s)) × (size_from at (subfields_read i (leb weight left ∷ flags (more - 1) (left % weight)) (drop at s)) ≡ size_from (at + n) (subfields_read (i + 1) (flags (more - 1) (left % weight)) (drop n (drop at s))))
    turn = turn_size i (leb weight left) (flags (more - 1) (left % weight)) (drop at s) c n at (e ∙ ap (λ bs. size_from 0 (place_read i (leb weight left) bs)) (to_end s at)) (octets_drop at s o)

    pub walk_fits : at + n ≤ length s
    walk_fits = omega (arith, turn.0, length-drop at s, w.there)

    pub walk_turned : Walking first places bits s (i + 1) (more - 1) (left % weight) (at + n)
    walk_turned = record {
      from = omega (arith, w.from);
      place = omega (arith, w.place);
      few = subst (λ x. left % weight < x) ew (mod-lt left (subst (λ x. 0 < x) (sym ew) (pow_pos (more - 1))));
      there = walk_fits;
      same = ap (λ bs. size_from (at + n) (subfields_read (i + 1) (flags (more - 1) (left % weight)) bs)) (sym (drop-drop n at s)) ∙ sym turn.1 ∙ here;
    }

pub walk_ended : (first places bits : ℕ) (s : List ℕ) (i more left at : ℕ) → Walking first places bits s i more left at → more ≤ 0
    → ok (0, at) ≡ size_from 0 (subfields_read first (flags places bits) s)
unfolding subfields_read flags
walk_ended first places bits s i more left at w h =
    let z : more ≡ 0 = omega arith in
    ap (λ n. ok (0, n)) (let e : at ≡ at + 0 = omega arith in e) ∙ sym (ap (λ k. size_from at (subfields_read i (flags k left) (drop at s))) z) ∙ w.same

-- ---- a compound item

subfields_within : (i : ℕ) (ts : List Bool) (bs : List ℕ) (x : Told) → Octets bs → subfields_read i ts bs ≡ ok x → x.1 ≤ length bs
unfolding subfields_read
subfields_within i [] bs x o h = subst (λ (y : Told). y.1 ≤ length bs) (ok_inj h) (omega arith)
subfields_within i (t ∷ ts) bs x o h =
    bind_elim _ _ h λ y p h₁.
    bind_elim _ _ h₁ λ z q h₂.
    let a : y.1 ≤ length bs = place_within i t bs y o p in
    let b : z.1 ≤ length (drop y.1 bs) = subfields_within (i + 1) ts (drop y.1 bs) z (octets_drop y.1 bs o) q in
    subst (λ (w : Told). w.1 ≤ length bs) (ok_inj h₂) (omega (arith, length-drop y.1 bs))

-- there is a row for each of its bits
pub rows_in : (first end : ℕ) → first ≤ end → end ≤ primary_count → 7 * first + 7 * (end - first) ≤ subfield_count
rows_in first end h k = omega (arith, subfields_long)

module _ (l : LayoutRow) (bs : List ℕ) where
  pub compound_refused : (n p : ℕ) → refused n p ≡ primary l.first (printed l) bs → refused n 0 ≡ size_from 0 (compound_read l bs)
  unfolding compound_read
  compound_refused n p e = sym (ap (size_from 0) (bind_out _ (sym e)))

  module _ (b k : ℕ) (e : ok (b, k) ≡ primary l.first (printed l) bs) where
    abbrev named : Answer Told
    named = subfields_read (7 * l.first) (flags (7 * printed l) b) (drop k bs)

    pub primary_there : k ≤ length bs
    primary_there = primary_within l.first (printed l) bs b k (sym e)

    compound_is : compound_read l bs ≡ (at_start named >>= (λ x. ok (x.0, k + x.1)))
    unfolding compound_read
    compound_is = bind_in _ (sym e) refl

    by : (m : Answer Told) → size_from 0 (at_start m >>= (λ x. ok (x.0, k + x.1))) ≡ size_from k m
    unfolding at_start ◌>>=◌
    by (ok x) = ap (λ n. ok (0, n)) (let z : 0 + (k + x.1) ≡ k + x.1 = omega arith in z)
    by (refused n p) = refl

    given : {m : Answer Shaped} → m ≡ size_from 0 (subfields_read (7 * l.first) (flags (7 * printed l) b) (take (length bs - k) (drop k bs))) → m ≡ size_from 0 named
    given h = h ∙ ap (λ us. size_from 0 (subfields_read (7 * l.first) (flags (7 * printed l) b) us)) (to_end bs k)

    pub compound_stopped : (n p : ℕ) → refused n p ≡ size_from 0 (subfields_read (7 * l.first) (flags (7 * printed l) b) (take (length bs - k) (drop k bs)))
        → refused n p ≡ size_from 0 (compound_read l bs)
    compound_stopped n p h = go named (given h) ∙ sym (ap (size_from 0) compound_is ∙ by named)
      where
        go : (m : Answer Told) → refused n p ≡ size_from 0 m → refused n p ≡ size_from k m
        go (ok x) q = refused_ok q
        go (refused a c) q = q

    pub compound_size : (c n : ℕ) → Octets bs → ok (c, n) ≡ size_from 0 (subfields_read (7 * l.first) (flags (7 * printed l) b) (take (length bs - k) (drop k bs)))
        → (k + n ≤ length bs) × (ok (0, k + n) ≡ size_from 0 (compound_read l bs))
    compound_size c n o h = go named refl (given h)
      where
        go : (m : Answer Told) → named ≡ m → ok (c, n) ≡ size_from 0 m → (k + n ≤ length bs) × (ok (0, k + n) ≡ size_from 0 (compound_read l bs))
        go (ok x) f q =
            let d : ◌≡◌ {A = Shaped} (c, n) (0, 0 + x.1) = ok_inj q in
            let z : n ≡ x.1 = ap (λ s. s.1) d ∙ omega arith in
            let a : x.1 ≤ length (drop k bs) = subfields_within (7 * l.first) (flags (7 * printed l) b) (drop k bs) x (octets_drop k bs o) f in
            (omega (arith, length-drop k bs, primary_there), ap (λ m. ok (0, k + m)) z ∙ sym (ap (size_from 0) compound_is ∙ by named ∙ ap (size_from k) f))
        go (refused a b') f q = refused_ok (sym q)

-- ---- sound rows

pub record Compounded (l : LayoutRow) : Type 0 where
  pub order : l.first ≤ l.end
  pub inside : l.end ≤ primary_count
  pub few : printed l ≤ 2
  pub room : most_in (7 * l.first) (7 * printed l) ≤ 8_192

pub compounded : (l : LayoutRow) → item_sound l ≡ true → l.kind ≡ Compound → Compounded l
unfolding item_sound
compounded l s k =
    let a = leb l.first l.end in
    let b = leb l.end primary_count in
    let c = leb (printed l) 2 in
    let d = leb (most_in (7 * l.first) (7 * printed l)) 8_192 in
    let t : a && b && c && d ≡ true = sym (ap (λ x. cond x (a && b && c && d) (leb (most_fields l) 8_192)) (kind_same l.kind Compound k)) ∙ s in
    let u : a && b && c ≡ true = both_left (a && b && c) d t in
    let v : a && b ≡ true = both_left (a && b) c u in
    record {
      order = leb-true _ _ (both_left a b v);
      inside = leb-true _ _ (both_right a b v);
      few = leb-true _ _ (both_right (a && b) c u);
      room = leb-true _ _ (both_right (a && b && c) d t);
    }

pub plain_room : (l : LayoutRow) → item_sound l ≡ true → ¬ (l.kind ≡ Compound) → most_fields l ≤ 8_192
unfolding item_sound
plain_room l s k = leb-true _ _ (sym (ap (λ x. cond x (leb l.first l.end && leb l.end primary_count && leb (printed l) 2 && leb (most_in (7 * l.first) (7 * printed l)) 8_192) (leb (most_fields l) 8_192)) (kind_other l.kind Compound k)) ∙ s)

module _ (l : LayoutRow) (bs : List ℕ) {m : Answer Shaped} where
  pub shape_compound : l.kind ≡ Compound → m ≡ size_from 0 (compound_read l bs) → m ≡ shaped l bs
  unfolding shaped
  shape_compound k e = e ∙ sym (if_true _ (kind_same l.kind Compound k) refl)

  pub shape_plain : ¬ (l.kind ≡ Compound) → m ≡ whole_of l bs → m ≡ shaped l bs
  unfolding shaped
  shape_plain k e = e ∙ sym (if_false _ (kind_other l.kind Compound k) refl)
