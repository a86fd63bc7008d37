-- The fields of an item in an output, place after place, are what the reading of it lists.
--
-- In order: numbers that say absent; the count of a subfield; the fields of parts; those of a subfield; the loop over subfields; an item. Assumes nothing.
use Prim.Native.Nat.{ℕ, zero, suc, ◌+◌, ◌-◌, ◌*◌, ◌%◌, ◌^◌, ◌≤◌, ◌<◌}
use mathlib.Core.Path.{◌≡◌, refl, sym, ap, ap₂, ◌∙◌, subst}
use mathlib.Core.Logic.{◌⊎◌, ⊎_elim}
use mathlib.Core.Bool.{Bool, true, false, cond, ◌&&◌}
use mathlib.Core.List.{List, [], ◌∷◌, ◌++◌}
use native.Mathlib.Omega.{arith}
use native.Mathlib.Nat.{le_refl, not-suc-le-zero, one-mul, zero-mul, mul-le-mul_left}
use native.Mathlib.Numerals.{add-one}
use lib.Dec.{leb, ltb, eqb}
use lib.IntN.{ℤ, pos}
use lib.ListN.{length, take, drop, set, replicate, length-drop, length-append, length-replicate}
use lib.Seq.{sets, drop-drop}
use borrow.Author.Tests.{eq-eqb, ne_eqb}
use Rattle.rules.specs.Answer.{Answer, ok, refused, ◌>>=◌}
use Rattle.rules.specs.Chain.{flatten}
use Rattle.rules.specs.Presence.{flags}
use Rattle.rules.specs.Layout.{at_start}
use Rattle.rules.specs.FieldList.{absent_field}
use Rattle.rules.proofs.AnswerLaws.{Octets, both_left, both_right, Passes, ok_inj, refused_ok, bind_in, bind_elim, bind_out, if_true, if_false, octets_drop, to_end}
use Rattle.tables.specs.declared.tables.Kind.{Kind}
use Rattle.tables.specs.declared.tables.Kind.TheVariants.{NoItem, Fixed, Repeated, Led, Extended, Compound}
use Rattle.tables.specs.declared.tables.LayoutRow.{LayoutRow}
use Rattle.tables.specs.Tables.{group_count, group_at, subfield_at, layout_at}
use Rattle.layouts.proofs.PartLaws.{part_sound_lem}
use Rattle.tables.proofs.KindLaws.{kind_same, kind_other}
use Rattle.layouts.specs.Read.{Shaped, holds, span, part_sound, parts_sound, part_values, head_of, step_of, whole_of, row_sound}
use Rattle.layouts.proofs.ReadLaws.{Fitting, fitting, holds_fewer}
use Rattle.layouts.proofs.StoreLaws.{length_held}
use Rattle.layouts.proofs.Stores.{sets_append}
use Rattle.layouts.proofs.WholeLaws.{one_group, whole_shape}
use Rattle.compounds.specs.declared.fields.Stored.{Stored}
use Rattle.compounds.specs.Compound.{Told, count_of, part_fields, plain_read, absent_at, place_read, subfields_read, printed, primary, compound_read, item_read, size_from, shaped, most_fields, most_in, Fits, Checked, Kept, KeptAll}
use Rattle.compounds.proofs.SubfieldLaws.{place_within, flags_cons, row_fits}

-- ---- numbers that say absent

pub record Absent (n start : ℕ) (old : List ℤ) (left at : ℕ) (out : List ℤ) : Type 0 where
  pub place : at + left ≡ start + n
  pub same : sets out at (replicate left absent_field) ≡ sets old start (replicate n absent_field)

pub absent_begun : (n start : ℕ) (old : List ℤ) → Absent n start old (start + n - start) start old
absent_begun n start old = let e : start + n - start ≡ n = omega arith in rw e (record { place = refl; same = refl })

pub absent_turn : (n start : ℕ) (old : List ℤ) (at : ℕ) (out : List ℤ) → Absent n start old (start + n - at) at out → at < start + n
    → Absent n start old (start + n - (at + 1)) (at + 1) (set out at absent_field)
absent_turn n start old at out a h =
    let e : start + n - at ≡ suc (start + n - (at + 1)) = omega arith in
    let z : at + 1 ≡ suc at = add-one at in
    record { place = omega arith; same = subst (λ k. sets (set out at absent_field) k (replicate (start + n - (at + 1)) absent_field) ≡ sets old start (replicate n absent_field)) (sym z) (subst (λ k. sets out at (replicate k absent_field) ≡ sets old start (replicate n absent_field)) e a.same) }

pub absent_ended : (n start : ℕ) (old : List ℤ) (at : ℕ) (out : List ℤ) → Absent n start old (start + n - at) at out → start + n ≤ at
    → out ≡ sets old start (replicate n absent_field)
absent_ended n start old at out a h =
    let e : start + n - at ≡ 0 = omega arith in
    subst (λ k. sets out at (replicate k absent_field) ≡ sets old start (replicate n absent_field)) e a.same

-- ---- the count of a subfield

pub one_octet : (kind : Kind) → (kind ≡ Repeated) ⊎ (kind ≡ Led) → true ≡ eqb (head_of kind) 1
one_octet kind e = ⊎_elim (λ h. sym (ap (λ k. eqb (head_of k) 1) h)) (λ h. sym (ap (λ k. eqb (head_of k) 1) h)) e

pub other_octet : (kind : Kind) → ¬ (kind ≡ Repeated) → ¬ (kind ≡ Led) → false ≡ eqb (head_of kind) 1
other_octet NoItem r l = refl
other_octet Fixed r l = refl
other_octet Repeated r l = absurd (r refl)
other_octet Led r l = absurd (l refl)
other_octet Extended r l = refl
other_octet Compound r l = refl

-- nothing stored
pub stored_none : (start : ℕ) (out vs : List ℤ) → vs ≡ [] → (start ≡ start + length vs) × (out ≡ sets out start vs)
stored_none start out vs e = (let z : start ≡ start + 0 = omega arith in z ∙ ap (λ l. start + length l) (sym e), ap (sets out start) (sym e))

pub no_count : (sub : Bool) (kind : Kind) (c : ℕ) → sub ≡ false → count_of sub kind c ≡ []
no_count sub kind c e = ap (λ t. cond (t && eqb (head_of kind) 1) (pos c ∷ []) []) e

pub no_octet : (sub : Bool) (kind : Kind) (c : ℕ) {t : Bool} → t ≡ eqb (head_of kind) 1 → t ≡ false → count_of sub kind c ≡ []
no_octet true kind c et e = rw (← et, e)
no_octet false kind c et e = refl

pub counted : (sub : Bool) (kind : Kind) (c : ℕ) {t : Bool} → sub ≡ true → t ≡ eqb (head_of kind) 1 → t ≡ true → {v : ℤ} → v ≡ pos c → count_of sub kind c ≡ v ∷ []
counted sub kind c es et e ev = rw (es, ← et, e, ev)

-- one number stored
pub stored_one : (start : ℕ) (out vs : List ℤ) (v : ℤ) → vs ≡ v ∷ [] → (start + 1 ≡ start + length vs) × (set out start v ≡ sets out start vs)
stored_one start out vs v e = (ap (λ l. start + length l) (sym e), ap (sets out start) (sym e))

-- ---- the fields of parts

pub count_short : (sub : Bool) (kind : Kind) (c : ℕ) → length (count_of sub kind c) ≤ 1
count_short sub kind c = go (sub && eqb (head_of kind) 1)
  where
    go : (t : Bool) → length (cond t (pos c ∷ []) []) ≤ 1
    go true = omega arith
    go false = omega arith

span_long : (step g c : ℕ) → parts_sound step g c ≡ true → c ≤ span step g c
unfolding parts_sound span
span_long step g zero s = omega arith
span_long step g (suc c) s =
    let a = ltb g group_count in
    let b = part_sound step (group_at g) in
    let d = parts_sound step (g + step) c in
    omega (arith, (part_sound_lem step (group_at g) (both_right a b (both_left (a && b) d s))).some, span_long step (g + step) c (both_right (a && b) d s))

module _ (l : LayoutRow) (bs : List ℕ) (c : ℕ) (o : Octets bs) (r : row_sound l ≡ true) (f : Fits l bs c) where
  pub fits_at : Fitting l bs c f.0
  fits_at = fitting l bs (c, f.0) r o (whole_shape l bs (c, f.0) f.1)

  -- each part has an octet
  pub parts_there : c ≤ length bs
  parts_there = omega (arith, span_long (step_of l.kind) l.first c fits_at.sound, fits_at.spans, fits_at.there)

  pub fields_few : (start n : ℕ) → start + most_fields l ≤ 8_192 → n ≤ 1 → start + n + holds (step_of l.kind) l.first c + step_of l.kind * (l.most - c) ≤ 8_192
  fields_few start n h k =
      let a : holds (step_of l.kind) l.first c ≤ holds (step_of l.kind) l.first l.most = holds_fewer (step_of l.kind) l.first c l.most fits_at.few in
      let b : step_of l.kind * (l.most - c) ≤ step_of l.kind * l.most = mul-le-mul_left (step_of l.kind) (let z : l.most - c ≤ l.most = omega arith in z) in
      omega arith

-- three lists one after another
pub three_stored : (as' bs cs old : List ℤ) (start a b e : ℕ) (o₁ o₂ o₃ : List ℤ)
    → (a ≡ start + length as') × (o₁ ≡ sets old start as') → (b ≡ a + length bs) × (o₂ ≡ sets o₁ a bs) → (e ≡ b + length cs) × (o₃ ≡ sets o₂ b cs)
    → (e ≡ start + length (as' ++ (bs ++ cs))) × (o₃ ≡ sets old start (as' ++ (bs ++ cs)))
three_stored as' bs cs old start a b e o₁ o₂ o₃ p q r = (
  omega (arith, p.0, q.0, r.0, length-append as' (bs ++ cs), length-append bs cs),
  r.1 ∙ ap₂ (λ x y. sets x y cs) q.1 q.0 ∙ sym (sets_append bs cs o₁ a) ∙ ap₂ (λ x y. sets x y (bs ++ cs)) p.1 p.0 ∙ sym (sets_append as' (bs ++ cs) old start),
)

module _ (sub : Bool) (l : LayoutRow) (bs : List ℕ) (c : ℕ) where
  abbrev values : List ℤ
  values = flatten (part_values (step_of l.kind) l.first c (drop (head_of l.kind) bs))

  held : length values ≡ holds (step_of l.kind) l.first c
  held = length_held (step_of l.kind) l.first c (drop (head_of l.kind) bs)

  module _ (old : List ℤ) (start a b : ℕ) (o₁ o₂ : List ℤ) (p : (a ≡ start + length (count_of sub l.kind c)) × (o₁ ≡ sets old start (count_of sub l.kind c)))
      (q : (b ≡ a + holds (step_of l.kind) l.first c) × (o₂ ≡ sets o₁ a values)) where
    -- with what says absent
    stored : (e : ℕ) (o₃ : List ℤ) → (e ≡ b + step_of l.kind * (l.most - c)) × (o₃ ≡ sets o₂ b (replicate (step_of l.kind * (l.most - c)) absent_field))
        → (e ≡ start + length (part_fields sub l c bs)) × (o₃ ≡ sets old start (part_fields sub l c bs))
    unfolding part_fields
    stored e o₃ r =
        three_stored (count_of sub l.kind c) values (replicate (step_of l.kind * (l.most - c)) absent_field) old start a b e o₁ o₂ o₃ p (q.0 ∙ ap (λ n. a + n) (sym held), q.1)
        (r.0 ∙ ap (λ n. b + n) (sym (length-replicate (step_of l.kind * (l.most - c)) absent_field)), r.1)

    pub stored_plain : ¬ (l.kind ≡ Extended) → (b ≡ start + length (part_fields sub l c bs)) × (o₂ ≡ sets old start (part_fields sub l c bs))
    stored_plain h =
        let z : step_of l.kind * (l.most - c) ≡ 0 = ap (λ n. n * (l.most - c)) (one_group l.kind h) ∙ zero-mul (l.most - c) in
        stored b o₂ (omega arith, ap (λ n. sets o₂ b (replicate n absent_field)) (sym z))

    pub stored_extended : l.kind ≡ Extended → (e : ℕ) (o₃ : List ℤ) → (e ≡ b + (l.most - c)) × (o₃ ≡ sets o₂ b (replicate (l.most - c) absent_field))
        → (e ≡ start + length (part_fields sub l c bs)) × (o₃ ≡ sets old start (part_fields sub l c bs))
    stored_extended h e o₃ r =
        let z : step_of l.kind * (l.most - c) ≡ l.most - c = ap (λ k. step_of k * (l.most - c)) h ∙ one-mul (l.most - c) in
        stored e o₃ (subst (λ n. (e ≡ b + n) × (o₃ ≡ sets o₂ b (replicate n absent_field))) (sym z) r)

-- ---- a subfield

-- one that is not there: no number where the bit has no subfield, else one
module _ (i : ℕ) (bs : List ℕ) (start : ℕ) (old : List ℤ) {t : Bool} (et : t ≡ false) {row : ℕ} (er : row ≡ subfield_at i) where
  abbrev Here : List ℤ → ℕ → List ℤ → Type 0
  Here vs next new = (◌≡◌ {A = ℕ} 0 0) × (next ≡ start + length vs) × (new ≡ sets old start vs)

  kept : (next : ℕ) (new vs : List ℤ) → absent_at i ≡ vs → Here vs next new → Kept (place_read i t bs) start (record { octets = 0; next = next }) old new
  kept next new vs e h = subst (λ t. Kept (place_read i t bs) start (record { octets = 0; next = next }) old new) (sym et) (subst (λ l. Here l next new) (sym e) h)

  pub nothing_kept : row ≡ 0 → Kept (place_read i t bs) start (record { octets = 0; next = start }) old old
  nothing_kept z = kept start old [] (ap (λ u. cond u [] (absent_field ∷ [])) (eq-eqb (subfield_at i) 0 (sym er ∙ z))) (refl, omega arith, refl)

  pub absent_kept : ¬ (row ≡ 0) → (next : ℕ) (new : List ℤ) → (next ≡ start + 1) × (new ≡ sets old start (replicate 1 absent_field))
      → Kept (place_read i t bs) start (record { octets = 0; next = next }) old new
  absent_kept z next new r = kept next new (absent_field ∷ []) (ap (λ u. cond u [] (absent_field ∷ [])) (ne_eqb (subfield_at i) 0 (λ e. z (er ∙ e)))) (refl, r.0, r.1)

module _ (i : ℕ) (bs : List ℕ) (start : ℕ) (old new : List ℤ) {t : Bool} (et : t ≡ true) where
  pub there_kept : (c long next : ℕ) → ok (c, long) ≡ whole_of (layout_at (subfield_at i)) bs
      → (next ≡ start + length (part_fields true (layout_at (subfield_at i)) c bs)) × (new ≡ sets old start (part_fields true (layout_at (subfield_at i)) c bs))
      → Kept (place_read i t bs) start (record { octets = long; next = next }) old new
  unfolding plain_read ◌>>=◌
  there_kept c long next e r =
      subst (λ t. Kept (place_read i t bs) start (record { octets = long; next = next }) old new) (sym et)
      (subst (λ m. Kept (m >>= (λ s. ok (part_fields true (layout_at (subfield_at i)) s.0 bs, s.1))) start (record { octets = long; next = next }) old new) e (refl, r.0, r.1))

  -- one that is read is not refused
  pub there_passes : Passes (place_read i t bs) → (n p : ℕ) → refused n p ≡ whole_of (layout_at (subfield_at i)) bs → ⊥
  unfolding plain_read
  there_passes h n p e = refused_ok (sym (bind_out _ (sym e)) ∙ ap (λ t. place_read i t bs) (sym et) ∙ h.1)

-- it lists no more numbers than there is room for
plain_few : (sub : Bool) (l : LayoutRow) (bs : List ℕ) (x : Told) → ((s : Shaped) → whole_of l bs ≡ ok s → Fitting l bs s.0 s.1) → plain_read sub l bs ≡ ok x
    → length x.0 ≤ most_fields l
unfolding plain_read part_fields
plain_few sub l bs x fit h =
    bind_elim _ _ h λ s p q.
    let f : Fitting l bs s.0 s.1 = fit s p in
    let a : holds (step_of l.kind) l.first s.0 ≤ holds (step_of l.kind) l.first l.most = holds_fewer (step_of l.kind) l.first s.0 l.most f.few in
    let b : step_of l.kind * (l.most - s.0) ≤ step_of l.kind * l.most = mul-le-mul_left (step_of l.kind) (let z : l.most - s.0 ≤ l.most = omega arith in z) in
    let vs : List ℤ = flatten (part_values (step_of l.kind) l.first s.0 (drop (head_of l.kind) bs)) in
    let cs : List ℤ = replicate (step_of l.kind * (l.most - s.0)) absent_field in
    let m : length (count_of sub l.kind s.0 ++ (vs ++ cs)) ≤ most_fields l =
    omega (arith, length-append (count_of sub l.kind s.0) (vs ++ cs), length-append vs cs, count_short sub l.kind s.0, length_held (step_of l.kind) l.first s.0 (drop (head_of l.kind) bs), length-replicate (step_of l.kind * (l.most - s.0)) absent_field) in
    subst (λ (y : Told). length y.0 ≤ most_fields l) (ok_inj q) m

place_few : (i : ℕ) (t : Bool) (bs : List ℕ) (x : Told) → Octets bs → place_read i t bs ≡ ok x → length x.0 ≤ most_fields (layout_at (subfield_at i))
place_few i true bs x o h = plain_few true (layout_at (subfield_at i)) bs x (λ s p. row_fits i bs s o p) h
place_few i false bs x o h = subst (λ (y : Told). length y.0 ≤ most_fields (layout_at (subfield_at i))) (ok_inj h) (by (eqb (subfield_at i) 0))
  where
    by : (u : Bool) → length (cond u [] (absent_field ∷ [])) ≤ most_fields (layout_at (subfield_at i))
    by true = omega arith
    by false = omega arith

-- ---- the loop over subfields

pub record Listing (first places : ℕ) (s : List ℕ) (out₀ : List ℤ) (y : Told) (i more left at q : ℕ) (out : List ℤ) : Type 0 where
  pub from : first ≤ i
  pub place : i + more ≡ first + places
  pub there : at ≤ length s
  pub room : q + most_in i more ≤ 8_192
  pub rest : Told
  pub reads : subfields_read i (flags more left) (drop at s) ≡ ok rest
  pub ends : q + length rest.0 ≡ length y.0
  pub same : sets out q rest.0 ≡ sets out₀ 0 y.0

pub list_begun : (first places bits : ℕ) (s : List ℕ) (out₀ : List ℤ) (y : Told) → most_in first places ≤ 8_192 → subfields_read first (flags places bits) s ≡ ok y
    → Listing first places s out₀ y first places bits 0 0 out₀
list_begun first places bits s out₀ y h e = record {
  from = le_refl first;
  place = refl;
  there = omega arith;
  room = omega arith;
  rest = y;
  reads = e;
  ends = omega arith;
  same = refl;
}

module _ (first places : ℕ) (s : List ℕ) (out₀ : List ℤ) (y : Told) (i more left at q : ℕ) (out : List ℤ) (w : Listing first places s out₀ y i more left at q out)
    (h : 0 < more) (o : Octets s) {weight : ℕ} (ew : weight ≡ 2 ^ (more - 1)) where
  -- the first of them, and the others
  record Parted : Type 0 where
    one : Told
    others : Told
    first_read : place_read i (leb weight left) (drop at s) ≡ ok one
    others_read : subfields_read (i + 1) (flags (more - 1) (left % weight)) (drop one.1 (drop at s)) ≡ ok others
    both : ◌≡◌ {A = Told} (one.0 ++ others.0, one.1 + others.1) w.rest

  parted : Parted
  unfolding subfields_read
  parted =
      let e : subfields_read i (leb weight left ∷ flags (more - 1) (left % weight)) (drop at s) ≡ ok w.rest =
      ap (λ x. subfields_read i (leb x left ∷ flags (more - 1) (left % x)) (drop at s)) ew ∙ ap (λ ts. subfields_read i ts (drop at s)) (sym (flags_cons more left h)) ∙ w.reads in
      bind_elim _ _ e λ v p e₁.
      bind_elim _ _ e₁ λ z r e₂.
      record { one = v; others = z; first_read = p; others_read = r; both = ok_inj e₂ }

  most_cons : most_in i more ≡ most_fields (layout_at (subfield_at i)) + most_in (i + 1) (more - 1)
  most_cons = go more h
    where
      go : (n : ℕ) → 0 < n → most_in i n ≡ most_fields (layout_at (subfield_at i)) + most_in (i + 1) (n - 1)
      go zero k = absurd (not-suc-le-zero k)
      go (suc n) k = let e : suc n - 1 ≡ n = omega arith in rw e refl

  -- it passes
  pub list_passes : Passes (place_read i (leb weight left) (take (length s - at) (drop at s)))
  list_passes = (parted.one, ap (place_read i (leb weight left)) (to_end s at) ∙ parted.first_read)

  pub list_room : q + most_fields (layout_at (subfield_at i)) ≤ 8_192
  list_room = omega (arith, w.room, most_cons)

  module _ (r : Stored) (new : List ℤ) (k : Kept (place_read i (leb weight left) (take (length s - at) (drop at s))) q r out new) where
    told : (r.octets ≡ parted.one.1) × (r.next ≡ q + length parted.one.0) × (new ≡ sets out q parted.one.0)
    told = subst (λ m. Kept m q r out new) (ap (place_read i (leb weight left)) (to_end s at) ∙ parted.first_read) k

    pub list_fits : at + r.octets ≤ length s
    list_fits = omega (arith, told.0, place_within i (leb weight left) (drop at s) parted.one (octets_drop at s o) parted.first_read, length-drop at s, w.there)

    pub list_turned : Listing first places s out₀ y (i + 1) (more - 1) (left % weight) (at + r.octets) r.next new
    list_turned =
        let v : Told = parted.one in
        let z : Told = parted.others in
        let b : v.0 ++ z.0 ≡ w.rest.0 = ap (λ (x : Told). x.0) parted.both in
        let l : length v.0 + length z.0 ≡ length w.rest.0 = sym (length-append v.0 z.0) ∙ ap length b in
        record {
          from = omega (arith, w.from);
          place = omega (arith, w.place);
          there = list_fits;
          room = omega (arith, told.1, place_few i (leb weight left) (drop at s) v (octets_drop at s o) parted.first_read, w.room, most_cons);
          rest = z;
          reads =
              ap (λ n. subfields_read (i + 1) (flags (more - 1) (left % weight)) (drop (at + n) s)) told.0
              ∙ ap (subfields_read (i + 1) (flags (more - 1) (left % weight))) (sym (drop-drop v.1 at s)) ∙ parted.others_read;
          ends = omega (arith, told.1, w.ends);
          same =
              ap₂ (λ x k. sets x k z.0) told.2 told.1
              ∙ sym (sets_append v.0 z.0 out q) ∙ ap (sets out q) b ∙ w.same;
        }

pub list_ended : (first places bits : ℕ) (s : List ℕ) (out₀ : List ℤ) (y : Told) (i more left at q : ℕ) (out : List ℤ) → Listing first places s out₀ y i more left at q out → more ≤ 0
    → subfields_read first (flags places bits) s ≡ ok y → KeptAll (subfields_read first (flags places bits) s) q out₀ out
unfolding subfields_read flags
list_ended first places bits s out₀ y i zero left at q out w h e =
    let r : w.rest ≡ ([], 0) = sym (ok_inj w.reads) in
    let l : length w.rest.0 ≡ 0 = ap (λ (x : Told). length x.0) r in
    subst (λ m. KeptAll m q out₀ out) (sym e) (omega (arith, w.ends), sym (ap (λ (x : Told). sets out q x.0) r) ∙ w.same)
list_ended first places bits s out₀ y i (suc more) left at q out w h e = absurd (not-suc-le-zero h)

-- ---- an item

module _ (l : LayoutRow) (bs : List ℕ) (c : ℕ) (k : Checked l bs c) where
  pub plain_fits : ¬ (l.kind ≡ Compound) → Fits l bs c
  unfolding shaped
  plain_fits h = (k.0, sym (if_false _ (kind_other l.kind Compound h) refl) ∙ k.1)

  pub plain_kept : (old new : List ℤ) → ¬ (l.kind ≡ Compound) → (r : ℕ) → (r ≡ 0 + length (part_fields false l c bs)) × (new ≡ sets old 0 (part_fields false l c bs)) → KeptAll (item_read l bs) r old new
  unfolding item_read plain_read
  plain_kept old new h r e = subst (λ m. KeptAll m r old new) (sym (if_false _ (kind_other l.kind Compound h) (bind_in _ (plain_fits h).1 refl))) (omega (arith, e.0), e.1)

-- a compound item that was checked: its primary octets are read, and its subfields
module _ (l : LayoutRow) (bs : List ℕ) (c : ℕ) (k : Checked l bs c) (h : l.kind ≡ Compound) where
  checked_size : size_from 0 (compound_read l bs) ≡ ok (c, k.0)
  unfolding shaped
  checked_size = sym (if_true _ (kind_same l.kind Compound h) refl) ∙ k.1

  pub read_passes : Passes (compound_read l bs)
  read_passes = go (compound_read l bs) checked_size
    where
      go : (m : Answer Told) → size_from 0 m ≡ ok (c, k.0) → Passes m
      go (ok x) e = (x, refl)
      go (refused n p) e = refused_ok e

  pub primary_passes : (n p : ℕ) → refused n p ≡ primary l.first (printed l) bs → ⊥
  unfolding compound_read
  primary_passes n p e = refused_ok (sym (bind_out _ (sym e)) ∙ read_passes.1)

  module _ (b n : ℕ) (e : ok (b, n) ≡ primary l.first (printed l) bs) where
    abbrev named : Answer Told
    named = subfields_read (7 * l.first) (flags (7 * printed l) b) (take (length bs - n) (drop n bs))

    compound_is : compound_read l bs ≡ (at_start named >>= (λ x. ok (x.0, n + x.1)))
    unfolding compound_read
    compound_is = bind_in _ (sym e) (ap (λ us. at_start (subfields_read (7 * l.first) (flags (7 * printed l) b) us) >>= (λ x. ok (x.0, n + x.1))) (sym (to_end bs n)))

    pub named_passes : Passes named
    unfolding at_start ◌>>=◌
    named_passes = go named refl
      where
        go : (m : Answer Told) → named ≡ m → Passes m
        go (ok x) f = (x, refl)
        go (refused u v) f = refused_ok (sym (compound_is ∙ ap (λ m. at_start m >>= (λ x. ok (x.0, n + x.1))) f) ∙ read_passes.1)

    pub compound_kept : (r : ℕ) (old new : List ℤ) → KeptAll named r old new → KeptAll (item_read l bs) r old new
    unfolding item_read at_start ◌>>=◌
    compound_kept r old new q =
        let w = named_passes in
        subst (λ m. KeptAll m r old new) (sym (if_true _ (kind_same l.kind Compound h) (compound_is ∙ ap (λ m. at_start m >>= (λ x. ok (x.0, n + x.1))) w.1)))
        (subst (λ m. KeptAll m r old new) w.1 q)
