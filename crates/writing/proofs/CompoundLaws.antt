-- A compound item by the rows of the tables is what the rules' `write_fields` writes: bit by bit, primary octet by primary octet, and the whole.
--
-- In order: one bit; the bits of a primary octet; all primary octets; the primary octets themselves; the item. Assumes nothing.
use Rattle.tables.specs.Tables.{kind_digit}
use Prim.Native.Nat.{ℕ, zero, suc, ◌+◌, ◌-◌, ◌*◌, ◌^◌, ◌<◌, ◌≤◌}
use mathlib.Core.Path.{◌≡◌, refl, sym, ap, ap₂, ◌∙◌, subst}
use mathlib.Core.Logic.{⊎_elim}
use mathlib.Core.Bool.{Bool, true, false, true≢false}
use mathlib.Core.Option.{Option, none, some}
use mathlib.Core.List.{List, [], ◌∷◌, ◌++◌, map}
use native.Mathlib.Omega.{arith}
use borrow.Author.Tests.{lt-ltb, ltb-false, eq-eqb}
use lib.Pow.{pow_pos}
use native.Mathlib.Numerals.{add-one}
use lib.Dec.{T, ltb, le→leb, lt→ltb, leb→le, ltb→lt, eqb→eq}
use lib.IntN.{ℤ, pos, negsuc}
use lib.ListN.{length, get_or, take, drop, replicate, length-drop, length-replicate, drop_of_length-le}
use lib.Seq.{drop-cons, drop-drop}
use Rattle.rules.specs.Answer.{Answer, ok, refused, ◌>>=◌}
use Rattle.rules.specs.Field.{Field, arity}
use Rattle.rules.specs.Format.{Group, Format, fixed, repeated, led, extended, PartValues, groups, write_plain}
use Rattle.rules.specs.Presence.{present, number, usable, any_set, keep_row, house, numbers, write_presence, write_row, write_rows, write_places}
use Rattle.rules.specs.Chain.{write_chain}
use Rattle.rules.specs.Layout.{compound, Values, in_subfields, barred, write_item}
use Rattle.rules.specs.FieldList.{is_absent, take_parts, take_sub, take_place, take_row, take_rows, take_item, values_from, write_fields}
use Rattle.rules.proofs.AnswerLaws.{refused_ok, ok_inj, bind_in, bind_elim, need_in, need_elim, if_true, if_false, Only, This, only_bind, only_need, only_if, Passes, T_true, below_or}
use Rattle.rules.proofs.Refusals.{fields_written}
use Rattle.rules.proofs.LayoutLaws.{barred_inv}
use Rattle.rules.proofs.PresenceLaws.{number_lt, usable_length}
use Rattle.rules.proofs.FieldListLaws.{parts_count}
use Rattle.tables.specs.Tables.{subfield_at, layout_at, format_is, bits_is, primaries_is}
use Rattle.writing.specs.Write.{parts_from, marked, Cut, cut_at}
use Rattle.writing.specs.Compound.{spanned, span_to, sub_span, span_from, within, Place, place_in, place_from, Row, row_from, Rows, join_rows, rows_from, primary_octets, all_rows, item_octets, compound_at}
use Rattle.writing.proofs.CutLaws.{over_written}
use Rattle.writing.proofs.SpanLaws.{SubRow, no_sub, one_sub, list_sub, sub_row}
use Rattle.writing.proofs.BitTurns.{sub_few}
use Rattle.writing.proofs.PrimaryTurns.{row_facts, kept_cons}
use Rattle.writing.proofs.RunLaws.{Run, run, run_there}
use Rattle.writing.proofs.PlainLaws.{row_listed_lem, some_arity, cuts, cut_in, Cuts, cut_only}
use Rattle.writing.proofs.Refusals.{pass_alike}
use Rattle.writing.proofs.LaidLaws.{marked_lt, octet_laid}

-- ---- one bit

-- what a place is written as: nothing where there is no subfield
unfoldable write_opt : Option Format → Option PartValues → Answer (List ℕ)
write_opt p none = ok []
write_opt none (some v) = refused 8 0
write_opt (some s) (some v) = write_plain s v

-- a subfield that starts at a place: so many parts of a group, of which there may be so many, from a place on
record Runs (i : ℕ) (vs : List ℤ) (at : ℕ) (s : Format) : Type 0 where
  pub first : ℕ
  pub count : ℕ
  pub most : ℕ
  pub group : List Field
  pub format : format_is (layout_at i) ≡ some s
  pub some_value : 0 < arity group
  pub all : groups s ≡ replicate most group
  pub takes : take_sub s (drop at vs) ≡ take_parts (replicate count group) (drop first vs)
  pub spans : count ≤ most → sub_span s (get_or vs at (pos 0)) (length vs) at ≡ span_to (length vs) first count (arity group)
  pub inside : first ≤ length vs

module _ (i : ℕ) (vs : List ℤ) (at : ℕ) (here : at < length vs) where
  -- the number that stands there
  starts : drop at vs ≡ get_or vs at (pos 0) ∷ drop (at + 1) vs
  starts = rw add-one (drop-cons vs at (pos 0) here)

  fixed_runs : (g : Group) → format_is (layout_at i) ≡ some (fixed g) → Runs i vs at (fixed g)
  unfolding take_sub
  fixed_runs g f =
      record {
        first = at;
        count = 1;
        most = 1;
        group = g.fields;
        format = f;
        some_value = some_arity g.fields (row_listed_lem i (fixed g) f);
        all = refl;
        takes = ap (take_sub (fixed g)) starts ∙ ap (take_parts (g.fields ∷ [])) (sym starts);
        spans = λ l. refl;
        inside = omega arith;
      }

  list_runs : (lo hi : ℕ) (g : Group) (c : ℕ) → format_is (layout_at i) ≡ some (repeated lo hi g) → get_or vs at (pos 0) ≡ pos c → Runs i vs at (repeated lo hi g)
  unfolding take_sub
  list_runs lo hi g c f e =
      record {
        first = at + 1;
        count = c;
        most = hi;
        group = g.fields;
        format = f;
        some_value = some_arity g.fields (row_listed_lem i (repeated lo hi g) f);
        all = refl;
        takes = ap (take_sub (repeated lo hi g)) (starts ∙ ap (λ x. x ∷ drop (at + 1) vs) e);
        spans = λ l. ap (λ x. sub_span (repeated lo hi g) x (length vs) at) e ∙ need_in _ _ (le→leb c hi l) refl;
        inside = omega arith;
      }

  -- what the rules take and write is what the tables place
  module _ (s : Format) (r : Runs i vs at s) (there : is_absent (get_or vs at (pos 0)) ≡ false) where
    used : ℕ
    used = r.count * arity r.group

    spans_as : r.count ≤ r.most → r.first + used ≤ length vs → span_from (format_is (layout_at i)) vs at ≡ ok (spanned true r.first (r.first + used) r.count)
    unfolding span_from span_to used
    spans_as l m =
        ap (λ o. span_from o vs at) r.format
        ∙ need_in _ _ (lt→ltb at (length vs) here) (if_false _ there (r.spans l ∙ need_in _ _ (le→leb (r.first + used) (length vs) m) refl))

    within_is : take (r.first + used - r.first) (drop r.first vs) ≡ take used (drop r.first vs)
    within_is = let e : r.first + used - r.first ≡ used = omega arith in ap (λ x. take x (drop r.first vs)) e

    sub_to : (us : PartValues) (rest : List ℤ) (os : List ℕ) → take_sub s (drop at vs) ≡ ok (us, rest) → write_plain s us ≡ ok os
        → (place_from i vs at ≡ ok (record { there = true; octets = os; next = r.first + used })) × (rest ≡ drop (r.first + used) vs)
    unfolding place_from place_in used
    sub_to us rest os h w =
        let h₁ : take_parts (replicate r.count r.group) (drop r.first vs) ≡ ok (us, rest) = sym r.takes ∙ h in
        let n : length us ≡ r.count = parts_count _ _ us rest h₁ ∙ length-replicate r.count r.group in
        let few : r.count ≤ r.most = ⊎_elim (λ l. refused_ok (sym (over_written s us (over n l)) ∙ w)) (λ (l : r.count ≤ r.most). l) (below_or r.most r.count) in
        let m : used ≤ length (drop r.first vs) = run_there r.group r.count (drop r.first vs) us rest h₁ in
        let m₁ : r.first + used ≤ length vs = omega (arith, length-drop r.first vs, r.inside) in
        let t : Run r.group r.count r.most (drop r.first vs) = run r.group r.count r.most (drop r.first vs) r.some_value few m in
        let d : ◌≡◌ {A = PartValues × List ℤ} (us, rest) (t.us, drop used (drop r.first vs)) = ok_inj (sym h₁ ∙ t.taken) in
        let p : parts_from (groups s) (take (r.first + used - r.first) (drop r.first vs)) ≡ ok us = ap₂ parts_from r.all within_is ∙ t.parts ∙ ap ok (sym (ap (λ x. x.0) d)) in
        let (c, q, k) = cut_in i s (take (r.first + used - r.first) (drop r.first vs)) us os r.format p w in (
          bind_in _ (spans_as few m₁) (if_true _ refl (bind_in _ q (ap (λ x. ok (record { there = true; octets = x; next = r.first + used })) k.1))),
          ap (λ x. x.1) d ∙ drop-drop used r.first vs,
        )
      where
        over : length us ≡ r.count → r.most < r.count → length (groups s) < length us
        over e l = omega (arith, ap length r.all, length-replicate r.most r.group)

    sub_from : r.count ≤ r.most → r.first + used ≤ length vs → (x : Cut) → cut_at i (take (r.first + used - r.first) (drop r.first vs)) ≡ ok x
        → (us : PartValues) × (take_sub s (drop at vs) ≡ ok (us, drop (r.first + used) vs)) × (write_plain s us ≡ ok x.octets)
    unfolding used
    sub_from few m x q =
        let t : Run r.group r.count r.most (drop r.first vs) = run r.group r.count r.most (drop r.first vs) r.some_value few (omega (arith, length-drop r.first vs)) in
        let z : Cuts i s (take (r.first + used - r.first) (drop r.first vs)) x.count x.octets = cuts i s _ x r.format q in
        let d : z.us ≡ t.us = ok_inj (sym z.parts ∙ ap₂ parts_from r.all within_is ∙ t.parts) in
        (t.us, r.takes ∙ t.taken ∙ ap (λ y. ok (t.us, y)) (drop-drop used r.first vs), ap (write_plain s) (sym d) ∙ z.writes)

-- a bit that the tables place, as the rules take and write it
record Took (i : ℕ) (vs : List ℤ) (at : ℕ) (v : Option PartValues) (os : List ℕ) : Type 0 where
  pub next : ℕ
  pub takes : take_place (format_is (layout_at i)) (drop at vs) ≡ ok (v, drop next vs)
  pub writes : write_opt (format_is (layout_at i)) v ≡ ok os
  pub places : place_from i vs at ≡ ok (record { there = present v; octets = os; next = next })

-- no subfield is printed
none_took : (i : ℕ) (vs : List ℤ) (at : ℕ) → format_is (layout_at i) ≡ none → Took i vs at none []
unfolding take_place write_opt place_from place_in span_from
none_took i vs at f =
    record {
      next = at;
      takes = ap (λ o. take_place o (drop at vs)) f;
      writes = refl;
      places = bind_in _ (ap (λ o. span_from o vs at) f) (if_false _ refl refl);
    }

module _ (i : ℕ) (vs : List ℤ) (at : ℕ) (s : Format) (f : format_is (layout_at i) ≡ some s) (here : at < length vs) where
  absent_took : is_absent (get_or vs at (pos 0)) ≡ true → Took i vs at none []
  unfolding take_place write_opt place_from place_in span_from
  absent_took e =
      record {
        next = at + 1;
        takes = ap₂ take_place f (starts i vs at here) ∙ if_true _ e refl;
        writes = refl;
        places = bind_in _ (ap (λ o. span_from o vs at) f ∙ need_in _ _ (lt→ltb at (length vs) here) (if_true _ e refl)) (if_false _ refl refl);
      }

  -- what the rules take, where it is not absent
  take_there : is_absent (get_or vs at (pos 0)) ≡ false → take_place (format_is (layout_at i)) (drop at vs) ≡ (take_sub s (drop at vs) >>= (λ x. ok (some x.0, x.1)))
  unfolding take_place
  take_there e = ap₂ take_place f (starts i vs at here) ∙ if_false _ e refl ∙ ap (λ l. take_sub s l >>= (λ x. ok (some x.0, x.1))) (sym (starts i vs at here))

  there_took : (r : Runs i vs at s) → is_absent (get_or vs at (pos 0)) ≡ false → (us : PartValues) (rest : List ℤ) (os : List ℕ) → take_sub s (drop at vs) ≡ ok (us, rest) → write_plain s us ≡ ok os
      → Took i vs at (some us) os
  unfolding write_opt
  there_took r e us rest os h w =
      let (p, q) = sub_to i vs at here s r e us rest os h w in
      record {
        next = _;
        takes = take_there e ∙ bind_in _ h (ap (λ x. ok (some us, x)) q);
        writes = ap (λ o. write_opt o (some us)) f ∙ w;
        places = p;
      }

-- from the rules: what they take and write
place_to : (i : ℕ) (vs : List ℤ) (at : ℕ) (v : Option PartValues) (rest : List ℤ) (os : List ℕ) → kind_digit (layout_at i).kind ≤ 2
    → take_place (format_is (layout_at i)) (drop at vs) ≡ ok (v, rest) → write_opt (format_is (layout_at i)) v ≡ ok os → (t : Took i vs at v os) × (rest ≡ drop t.next vs)
unfolding take_place write_opt take_sub
place_to i vs at v rest os few h w = go (sub_row (layout_at i) few)
  where
    -- the same value, taken the same way
    same : (v₁ : Option PartValues) (os₁ : List ℕ) → v₁ ≡ v → (t : Took i vs at v₁ os₁) → (t : Took i vs at v os) × (rest ≡ drop t.next vs)
    same v₁ os₁ e t =
        let o : os₁ ≡ os = ok_inj (sym t.writes ∙ ap (write_opt (format_is (layout_at i))) e ∙ w) in (
          record {
            next = t.next;
            takes = t.takes ∙ ap (λ x. ok (x, drop t.next vs)) e;
            writes = w;
            places = t.places ∙ ap₂ (λ x y. ok (record { there = present x; octets = y; next = t.next })) e o;
          },
          ap (λ x. x.1) (ok_inj (sym h ∙ t.takes)),
        )

    value_of : {v₁ : Option PartValues} {os₁ : List ℕ} → Took i vs at v₁ os₁ → v₁ ≡ v
    value_of t = ap (λ x. x.0) (ok_inj (sym t.takes ∙ h))

    at_sub : (s : Format) → format_is (layout_at i) ≡ some s → (at < length vs → (us : PartValues) (r : List ℤ) → take_sub s (drop at vs) ≡ ok (us, r) → Runs i vs at s)
        → (t : Took i vs at v os) × (rest ≡ drop t.next vs)
    at_sub s f k =
        ⊎_elim
        (λ here. at_number here (is_absent (get_or vs at (pos 0))) refl)
        (λ (l : length vs ≤ at). refused_ok (sym (ap₂ take_place f (drop_of_length-le vs l)) ∙ h))
        (below_or at (length vs))
      where
        at_number : at < length vs → (t : Bool) → is_absent (get_or vs at (pos 0)) ≡ t → (t : Took i vs at v os) × (rest ≡ drop t.next vs)
        at_number here true e = let t = absent_took i vs at s f here e in same none [] (value_of t) t
        at_number here false e =
            bind_elim _ _ (sym (take_there i vs at s f here e) ∙ h) λ x p h₁.
            let d : some x.0 ≡ v = ap (λ y. y.0) (ok_inj h₁) in
            let u : write_plain s x.0 ≡ ok os = sym (ap₂ write_opt f (sym d)) ∙ w in
            let t = there_took i vs at s f here (k here x.0 x.1 p) e x.0 x.1 os p u in
            same (some x.0) os d t

    listed : (lo hi : ℕ) (g : Group) → format_is (layout_at i) ≡ some (repeated lo hi g) → at < length vs → (us : PartValues) (r : List ℤ) → take_sub (repeated lo hi g) (drop at vs) ≡ ok (us, r) → Runs i vs at (repeated lo hi g)
    listed lo hi g f here us r h = number (get_or vs at (pos 0)) refl
      where
        number : (z : ℤ) → get_or vs at (pos 0) ≡ z → Runs i vs at (repeated lo hi g)
        number (pos c) e = list_runs i vs at here lo hi g c f e
        number (negsuc c) e = refused_ok (sym (ap (take_sub (repeated lo hi g)) (starts i vs at here ∙ ap (λ x. x ∷ drop (at + 1) vs) e)) ∙ h)

    go : SubRow (layout_at i) → (t : Took i vs at v os) × (rest ≡ drop t.next vs)
    go (no_sub e f) = let t = none_took i vs at f in same none [] (value_of t) t
    go (one_sub e f) = at_sub _ f (λ here us r p. fixed_runs i vs at here _ f)
    go (list_sub e f) = at_sub _ f (listed _ _ _ f)

-- from the tables: what they place
record Placed (i : ℕ) (vs : List ℤ) (at : ℕ) (p : Place) : Type 0 where
  pub value : Option PartValues
  pub takes : take_place (format_is (layout_at i)) (drop at vs) ≡ ok (value, drop p.next vs)
  pub writes : write_opt (format_is (layout_at i)) value ≡ ok p.octets
  pub flag : present value ≡ p.there

took_placed : (i : ℕ) (vs : List ℤ) (at : ℕ) (p : Place) (v : Option PartValues) (os : List ℕ) → Took i vs at v os → place_from i vs at ≡ ok p → Placed i vs at p
took_placed i vs at p v os t h =
    let d = ok_inj (sym t.places ∙ h) in
    record {
      value = v;
      takes = t.takes ∙ ap (λ x. ok (v, drop x.next vs)) d;
      writes = t.writes ∙ ap (λ x. ok x.octets) d;
      flag = ap (λ x. x.there) d;
    }

place_from_lem : (i : ℕ) (vs : List ℤ) (at : ℕ) (p : Place) → kind_digit (layout_at i).kind ≤ 2 → place_from i vs at ≡ ok p → Placed i vs at p
unfolding place_from place_in span_from span_to used fixed_runs list_runs
place_from_lem i vs at p few h = go (sub_row (layout_at i) few)
  where
    -- the values are a run of parts
    at_run : (s : Format) → format_is (layout_at i) ≡ some s → (here : at < length vs) → is_absent (get_or vs at (pos 0)) ≡ false → (r : Runs i vs at s) → r.count ≤ r.most → Placed i vs at p
    at_run s f here e r l =
        bind_elim _ _ h λ x q h₁.
        let q₁ : span_to (length vs) r.first r.count (arity r.group) ≡ ok x =
        sym (r.spans l) ∙ sym (ap (λ o. span_from o vs at) f ∙ need_in _ _ (lt→ltb at (length vs) here) (if_false _ e refl)) ∙ q in
        need_elim _ _ _ q₁ λ t q₂.
        let h₂ : place_in i vs (spanned true r.first (r.first + used i vs at here s r e) r.count) ≡ ok p = ap (place_in i vs) (ok_inj q₂) ∙ h₁ in
        bind_elim _ _ (sym (if_true _ refl refl) ∙ h₂) λ c k h₃.
        let (us, a, b) = sub_from i vs at here s r e l (leb→le (r.first + used i vs at here s r e) (length vs) t) c k in
        took_placed i vs at p (some us) c.octets (there_took i vs at s f here r e us _ c.octets a b) h

    at_sub : (s : Format) → format_is (layout_at i) ≡ some s → ((here : at < length vs) → is_absent (get_or vs at (pos 0)) ≡ false → Placed i vs at p) → Placed i vs at p
    at_sub s f k =
        bind_elim _ _ h λ x q h₁.
        need_elim _ _ _ (sym (ap (λ o. span_from o vs at) f) ∙ q) λ t q₁.
        at_number (ltb→lt at (length vs) t) (is_absent (get_or vs at (pos 0))) refl
      where
        at_number : at < length vs → (t : Bool) → is_absent (get_or vs at (pos 0)) ≡ t → Placed i vs at p
        at_number here true e = took_placed i vs at p none [] (absent_took i vs at s f here e) h
        at_number here false e = k here e

    listed : (lo hi : ℕ) (g : Group) → format_is (layout_at i) ≡ some (repeated lo hi g) → (here : at < length vs) → is_absent (get_or vs at (pos 0)) ≡ false → Placed i vs at p
    listed lo hi g f here e = number (get_or vs at (pos 0)) refl
      where
        number : (z : ℤ) → get_or vs at (pos 0) ≡ z → Placed i vs at p
        number (pos c) d =
            bind_elim _ _ h λ x q h₁.
            need_elim _ _ _ (sym (ap (λ o. span_from o vs at) f ∙ need_in _ _ (lt→ltb at (length vs) here) (if_false _ e (ap (λ z. sub_span (repeated lo hi g) z (length vs) at) d))) ∙ q) λ t q₁.
            at_run (repeated lo hi g) f here e (list_runs i vs at here lo hi g c f d) (leb→le c hi t)
        number (negsuc c) d =
            bind_elim _ _ h λ x q h₁.
            refused_ok (sym (ap (λ o. span_from o vs at) f ∙ need_in _ _ (lt→ltb at (length vs) here) (if_false _ e (ap (λ z. sub_span (repeated lo hi g) z (length vs) at) d))) ∙ q)

    go : SubRow (layout_at i) → Placed i vs at p
    go (no_sub e f) = took_placed i vs at p none [] (none_took i vs at f) h
    go (one_sub e f) = at_sub _ f (λ here d. at_run _ f here d (fixed_runs i vs at here _ f) (omega arith))
    go (list_sub e f) = at_sub _ f (listed _ _ _ f)

-- ---- the bits of a primary octet

write_cons : (p : Option Format) (ps : List (Option Format)) (v : Option PartValues) (us : List (Option PartValues)) (b bs : List ℕ) → write_opt p v ≡ ok b → write_row write_plain ps us ≡ ok bs
    → write_row write_plain (p ∷ ps) (v ∷ us) ≡ ok (b ++ bs)
unfolding write_row write_opt
write_cons p ps none us b bs h w = w ∙ ap (λ x. ok (x ++ bs)) (ok_inj h)
write_cons none ps (some v) us b bs h w = refused_ok h
write_cons (some s) ps (some v) us b bs h w = bind_in _ h (bind_in _ w refl)

write_split : {C : Type 0} (p : Option Format) (ps : List (Option Format)) (v : Option PartValues) (us : List (Option PartValues)) (os : List ℕ) → write_row write_plain (p ∷ ps) (v ∷ us) ≡ ok os
    → ((b bs : List ℕ) → write_opt p v ≡ ok b → write_row write_plain ps us ≡ ok bs → b ++ bs ≡ os → C) → C
unfolding write_row write_opt
write_split p ps none us os h k = k [] os refl h refl
write_split none ps (some v) us os h k = refused_ok h
write_split (some s) ps (some v) us os h k = bind_elim _ _ h λ b q h₁. bind_elim _ _ h₁ λ bs r h₂. k b bs q r (ok_inj h₂)

row_to : (n i : ℕ) (vs : List ℤ) (at : ℕ) (us : List (Option PartValues)) (rest : List ℤ) (os : List ℕ) → take_row (bits_is n i) (drop at vs) ≡ ok (us, rest)
    → write_row write_plain (bits_is n i) us ≡ ok os → (m : ℕ) × (row_from n i vs at ≡ ok (record { flags = map present us; octets = os; next = m })) × (rest ≡ drop m vs)
unfolding take_row row_from write_row
row_to zero i vs at us rest os h w = none us (ap (λ x. x.0) (ok_inj h)) w
  where
    none : (us : List (Option PartValues)) → [] ≡ us → write_row write_plain [] us ≡ ok os
        → (m : ℕ) × (row_from 0 i vs at ≡ ok (record { flags = map present us; octets = os; next = m })) × (rest ≡ drop m vs)
    none [] e w = (at, ap (λ x. ok (record { flags = []; octets = x; next = at })) (ok_inj w), sym (ap (λ x. x.1) (ok_inj h)))
    none (u ∷ us) e w = absurd (omega (arith, ap length e))
row_to (suc n) i vs at us rest os h w =
    bind_elim _ _ h λ x q h₁.
    bind_elim _ _ h₁ λ y r h₂.
    let d = ok_inj h₂ in
    let w₁ : write_row write_plain (bits_is (suc n) i) (x.0 ∷ y.0) ≡ ok os = ap (write_row write_plain (bits_is (suc n) i)) (ap (λ z. z.0) d) ∙ w in
    write_split (format_is (layout_at (subfield_at i))) (bits_is n (i + 1)) x.0 y.0 os w₁ λ b bs e₁ e₂ e₃.
    let (t, k) = place_to (subfield_at i) vs at x.0 x.1 b (sub_few i) q e₁ in
    let (m, p, z) = row_to n (i + 1) vs t.next y.0 y.1 bs (ap (take_row (bits_is n (i + 1))) (sym k) ∙ r) e₂ in (
      m,
      bind_in _ t.places (bind_in _ p (ap₂ (λ u o. ok (record { flags = map present u; octets = o; next = m })) (ap (λ z. z.0) d) e₃)),
      sym (ap (λ z. z.1) d) ∙ z,
    )

row_from_lem : (n i : ℕ) (vs : List ℤ) (at : ℕ) (x : Row) → row_from n i vs at ≡ ok x
    → (us : List (Option PartValues)) × (take_row (bits_is n i) (drop at vs) ≡ ok (us, drop x.next vs)) × ((write_row write_plain (bits_is n i) us ≡ ok x.octets) × (map present us ≡ x.flags))
unfolding take_row row_from write_row
row_from_lem zero i vs at x h =
    let d = ok_inj h in
    ([], ap (λ y. ok ([], drop y.next vs)) d, (ap (λ y. ok y.octets) d, ap (λ y. y.flags) d))
row_from_lem (suc n) i vs at x h =
    bind_elim _ _ h λ p q h₁.
    bind_elim _ _ h₁ λ y r h₂.
    let d = ok_inj h₂ in
    let t : Placed (subfield_at i) vs at p = place_from_lem (subfield_at i) vs at p (sub_few i) q in
    let (us, a, b) = row_from_lem n (i + 1) vs p.next y r in (
      t.value ∷ us,
      bind_in _ t.takes (bind_in _ a (ap (λ z. ok (t.value ∷ us, drop z.next vs)) d)),
      (write_cons _ (bits_is n (i + 1)) t.value us p.octets y.octets t.writes b.0 ∙ ap (λ z. ok z.octets) d, ap₂ ◌∷◌ t.flag b.1 ∙ ap (λ z. z.flags) d),
    )

-- ---- all primary octets

any_number : (ts : List Bool) → any_set ts ≡ ltb 0 (number ts)
unfolding number
any_number [] = refl
any_number (true ∷ ts) = sym (lt-ltb 0 (2 ^ length ts + number ts) (omega (arith, pow_pos (length ts))))
any_number (false ∷ ts) = any_number ts

-- a row that can be written has a subfield for each of its flags
row_usable : (ps : List (Option Format)) (us : List (Option PartValues)) (os : List ℕ) → write_row write_plain ps us ≡ ok os → usable ps (map present us) ≡ true
unfolding write_row usable
row_usable [] [] os h = refl
row_usable [] (u ∷ us) os h = refused_ok h
row_usable (p ∷ ps) [] os h = refused_ok h
row_usable (p ∷ ps) (none ∷ us) os h = row_usable ps us os h
row_usable (none ∷ ps) (some v ∷ us) os h = refused_ok h
row_usable (some s ∷ ps) (some v ∷ us) os h = bind_elim _ _ h λ b q h₁. bind_elim _ _ h₁ λ bs r h₂. row_usable ps us bs r

none_there : (v : Option PartValues) (us : List (Option PartValues)) → any_set (map present (v ∷ us)) ≡ false → (v ≡ none) × (any_set (map present us) ≡ false)
none_there none us e = (refl, e)
none_there (some v) us e = absurd (true≢false e)

-- a row without one is written as nothing
row_empty : (ps : List (Option Format)) (fs : List ℤ) (us : List (Option PartValues)) (rest : List ℤ) → take_row ps fs ≡ ok (us, rest) → any_set (map present us) ≡ false → write_row write_plain ps us ≡ ok []
unfolding take_row write_row
row_empty [] fs us rest h e = ap (write_row write_plain []) (sym (ap (λ x. x.0) (ok_inj h)))
row_empty (p ∷ ps) fs us rest h e =
    bind_elim _ _ h λ x q h₁.
    bind_elim _ _ h₁ λ y r h₂.
    let d : x.0 ∷ y.0 ≡ us = ap (λ z. z.0) (ok_inj h₂) in
    let (a, b) = none_there x.0 y.0 (ap (λ z. any_set (map present z)) d ∙ e) in
    ap (write_row write_plain (p ∷ ps)) (sym d) ∙ ap (λ v. write_row write_plain (p ∷ ps) (v ∷ y.0)) a ∙ row_empty ps x.1 y.0 y.1 r b

-- the rows that the tables give, as the rules take and write them
record Rowed (n j : ℕ) (vs : List ℤ) (at : ℕ) (y : Rows) : Type 0 where
  pub rs : List (List (Option PartValues))
  pub takes : take_rows (primaries_is n j) (drop at vs) ≡ ok (rs, drop y.next vs)
  pub writes : write_rows write_plain (primaries_is n j) rs ≡ ok y.octets
  pub tells : numbers (primaries_is n j) (map (map present) rs) ≡ ok y.numbers

-- a row that is kept, before others
module _ (n j : ℕ) (vs : List ℤ) (at : ℕ) (x : Row) (z : Rows) (us : List (Option PartValues))
    (et : take_row (bits_is 7 (7 * j)) (drop at vs) ≡ ok (us, drop x.next vs)) (ew : write_row write_plain (bits_is 7 (7 * j)) us ≡ ok x.octets) (ef : map present us ≡ x.flags)
    (t : Rowed n (j + 1) vs x.next z) where
  flag : any_set (map present us) ≡ ltb 0 (number x.flags)
  flag = any_number (map present us) ∙ ap (λ f. ltb 0 (number f)) ef

  taken : take_rows (primaries_is (suc n) j) (drop at vs) ≡ ok (keep_row (ltb 0 (number x.flags)) us t.rs, drop z.next vs)
  unfolding take_rows
  taken = bind_in _ et (bind_in _ t.takes (ap (λ b. ok (keep_row b us t.rs, drop z.next vs)) flag))

  more_written : write_rows write_plain (primaries_is (suc n) j) (us ∷ t.rs) ≡ ok (x.octets ++ z.octets)
  unfolding write_rows
  more_written = bind_in _ ew (bind_in _ t.writes refl)

  more_told : numbers (primaries_is (suc n) j) (map (map present) (us ∷ t.rs)) ≡ ok (number x.flags ∷ z.numbers)
  unfolding numbers
  more_told = need_in _ _ (T_true (row_usable (bits_is 7 (7 * j)) us x.octets ew)) (bind_in _ t.tells (ap (λ f. ok (number f ∷ z.numbers)) ef))

  -- it is kept where it has a subfield, or a row after it has
  rowed : (number x.flags ≡ 0 → x.octets ≡ []) → Rowed (suc n) j vs at (join_rows x z)
  unfolding write_rows numbers
  rowed nothing = go (ltb 0 (number x.flags)) refl t.rs refl
    where
      go : (b : Bool) → ltb 0 (number x.flags) ≡ b → (rs : List (List (Option PartValues))) → t.rs ≡ rs → Rowed (suc n) j vs at (join_rows x z)
      go true e rs d =
          record {
            rs = us ∷ t.rs;
            takes = taken ∙ ap (λ b. ok (keep_row b us t.rs, drop z.next vs)) e;
            writes = more_written;
            tells = more_told ∙ ap (λ b. ok (keep_row b (number x.flags) z.numbers)) (sym e);
          }
      go false e [] d =
          let o : z.octets ≡ [] = ok_inj (sym t.writes ∙ ap (write_rows write_plain (primaries_is n (j + 1))) d) in
          let m : z.numbers ≡ [] = ok_inj (sym t.tells ∙ ap (λ r. numbers (primaries_is n (j + 1)) (map (map present) r)) d) in
          let b : number x.flags ≡ 0 = omega (arith, ltb-false 0 (number x.flags) e) in
          record {
            rs = [];
            takes = taken ∙ ap₂ (λ b r. ok (keep_row b us r, drop z.next vs)) e d;
            writes = ap ok (sym (ap₂ ◌++◌ (nothing b) o));
            tells = ap ok (sym (ap₂ (λ b r. keep_row b (number x.flags) r) e m));
          }
      go false e (r ∷ rs) d =
          record {
            rs = us ∷ t.rs;
            takes = taken ∙ ap₂ (λ b q. ok (keep_row b us q, drop z.next vs)) e d ∙ ap (λ q. ok (us ∷ q, drop z.next vs)) (sym d);
            writes = more_written;
            tells = more_told ∙ ap ok (sym (ap (λ b. keep_row b (number x.flags) z.numbers) e ∙ longer (primaries_is n (j + 1)) z.numbers (sym (ap (λ q. numbers (primaries_is n (j + 1)) (map (map present) q)) d) ∙ t.tells)));
          }
        where
          longer : (ps : List (List (Option Format))) (ms : List ℕ) → numbers ps (map (map present) (r ∷ rs)) ≡ ok ms → keep_row false (number x.flags) ms ≡ number x.flags ∷ ms
          longer ps (m ∷ ms) h = refl
          longer [] [] h = refused_ok h
          longer (p ∷ ps) [] h = need_elim _ _ _ h λ u h₁. bind_elim _ _ h₁ λ ns q h₂. absurd (omega (arith, ap length (ok_inj h₂)))

rows_from_lem : (n j : ℕ) (vs : List ℤ) (at : ℕ) (y : Rows) → rows_from n j vs at ≡ ok y → Rowed n j vs at y
unfolding rows_from take_rows write_rows numbers
rows_from_lem zero j vs at y h =
    let d = ok_inj h in
    record { rs = []; takes = ap (λ z. ok ([], drop z.next vs)) d; writes = ap (λ z. ok z.octets) d; tells = ap (λ z. ok z.numbers) d }
rows_from_lem (suc n) j vs at y h =
    bind_elim _ _ h λ x p h₁.
    bind_elim _ _ h₁ λ z q h₂.
    let (us, a, b) = row_from_lem 7 (7 * j) vs at x p in
    subst (Rowed (suc n) j vs at) (ok_inj h₂) (rowed n j vs at x z us a b.0 b.1 (rows_from_lem n (j + 1) vs x.next z q) (row_facts 7 (7 * j) vs at x p).1.1)

-- and what the rules take and write, the tables give
abbrev Given : ℕ → ℕ → List ℤ → Type 0
Given n j vs = (m : ℕ) (qs : List (List (Option PartValues))) (r : List ℤ) (bs : List ℕ) → take_rows (primaries_is n j) (drop m vs) ≡ ok (qs, r)
    → write_rows write_plain (primaries_is n j) qs ≡ ok bs → Passes (rows_from n j vs m)

rows_to : (n j : ℕ) (vs : List ℤ) (at : ℕ) (rs : List (List (Option PartValues))) (rest : List ℤ) (os : List ℕ) → take_rows (primaries_is n j) (drop at vs) ≡ ok (rs, rest)
    → write_rows write_plain (primaries_is n j) rs ≡ ok os → Passes (rows_from n j vs at)
unfolding rows_from take_rows write_rows
rows_to zero j vs at rs rest os h w = (_, refl)
rows_to (suc n) j vs at rs rest os h w =
    bind_elim _ _ h λ x p h₁.
    bind_elim _ _ h₁ λ z q h₂.
    let d : keep_row (any_set (map present x.0)) x.0 z.0 ≡ rs = ap (λ y. y.0) (ok_inj h₂) in
    let w₁ : write_rows write_plain (primaries_is (suc n) j) (keep_row (any_set (map present x.0)) x.0 z.0) ≡ ok os = ap (write_rows write_plain (primaries_is (suc n) j)) d ∙ w in
    go x.0 x.1 p z.0 z.1 q (λ m qs r bs. rows_to n (j + 1) vs m qs r bs) (any_set (map present x.0)) refl w₁
  where
    -- the first row, and those after it
    first : (us : List (Option PartValues)) (fs : List ℤ) → take_row (bits_is 7 (7 * j)) (drop at vs) ≡ ok (us, fs) → (b : List ℕ) → write_row write_plain (bits_is 7 (7 * j)) us ≡ ok b
        → (qs : List (List (Option PartValues))) (r : List ℤ) → take_rows (primaries_is n (j + 1)) fs ≡ ok (qs, r) → (bs : List ℕ) → write_rows write_plain (primaries_is n (j + 1)) qs ≡ ok bs
        → Given n (j + 1) vs → Passes (rows_from (suc n) j vs at)
    first us fs p b e qs r q bs f again =
        let (m, k, l) = row_to 7 (7 * j) vs at us fs b p e in
        let (y, s) = again m qs r bs (ap (take_rows (primaries_is n (j + 1))) (sym l) ∙ q) f in
        (_, bind_in _ k (bind_in _ s refl))

    go : (us : List (Option PartValues)) (fs : List ℤ) → take_row (bits_is 7 (7 * j)) (drop at vs) ≡ ok (us, fs)
        → (qs : List (List (Option PartValues))) (r : List ℤ) → take_rows (primaries_is n (j + 1)) fs ≡ ok (qs, r) → Given n (j + 1) vs → (t : Bool) → any_set (map present us) ≡ t
        → write_rows write_plain (primaries_is (suc n) j) (keep_row t us qs) ≡ ok os → Passes (rows_from (suc n) j vs at)
    go us fs p qs r q again true e w = bind_elim _ _ w λ b k w₁. bind_elim _ _ w₁ λ bs l w₂. first us fs p b k qs r q bs l again
    go us fs p [] r q again false e w = first us fs p [] (row_empty (bits_is 7 (7 * j)) (drop at vs) us fs p e) [] r q [] refl again
    go us fs p (u ∷ qs) r q again false e w = bind_elim _ _ w λ b k w₁. bind_elim _ _ w₁ λ bs l w₂. first us fs p b k (u ∷ qs) r q bs l again

-- ---- the primary octets themselves

-- the last one has a bit
kept_house : (b : ℕ) (ns : List ℕ) → (0 < length ns → T (house ns)) → 0 < length (keep_row (ltb 0 b) b ns) → T (house (keep_row (ltb 0 b) b ns))
unfolding house
kept_house b ns f l = subst (λ ms. T (house ms)) (sym (kept_cons b ns l)) (go ns refl f)
  where
    go : (ms : List ℕ) → ns ≡ ms → (0 < length ms → T (house ms)) → T (house (b ∷ ms))
    go [] e f = lt→ltb 0 b (some b (subst (λ ms. 0 < length (keep_row (ltb 0 b) b ms)) e l))
      where
        some : (b : ℕ) → 0 < length (keep_row (ltb 0 b) b []) → 0 < b
        some zero l = absurd (omega arith)
        some (suc b) l = omega arith
    go (m ∷ ms) e f = f (omega arith)

rows_house : (n j : ℕ) (vs : List ℤ) (at : ℕ) (y : Rows) → rows_from n j vs at ≡ ok y → 0 < length y.numbers → T (house y.numbers)
unfolding rows_from
rows_house zero j vs at y h l = absurd (omega (arith, ap (λ z. length z.numbers) (ok_inj h)))
rows_house (suc n) j vs at y h l =
    bind_elim _ _ h λ x p h₁.
    bind_elim _ _ h₁ λ z q h₂.
    let d : keep_row (ltb 0 (number x.flags)) (number x.flags) z.numbers ≡ y.numbers = ap (λ w. w.numbers) (ok_inj h₂) in
    subst (λ ns. T (house ns)) d
    (kept_house (number x.flags) z.numbers (λ k. rows_house n (j + 1) vs x.next z q k) (subst (λ ns. 0 < length ns) (sym d) l))

bits_long : (n i : ℕ) → length (bits_is n i) ≡ n
bits_long zero i = refl
bits_long (suc n) i = ap suc (bits_long n (i + 1))

-- with its FX bit each is an octet
flags_small : (j : ℕ) (t : List Bool) (more : Bool) → T (usable (bits_is 7 (7 * j)) t) → marked true more (number t) ≤ 255
flags_small j t more u =
    let l : length t ≡ 7 = usable_length (bits_is 7 (7 * j)) t u ∙ bits_long 7 (7 * j) in
    let m : marked true more (number t) < 2 ^ (length t + 1) = marked_lt true more (length t) (number t) (number_lt t) in
    let k : marked true more (number t) < 2 ^ 8 = subst (λ x. marked true more (number t) < 2 ^ (x + 1)) l m in
    omega arith

chain_primary : (n j : ℕ) (ts : List (List Bool)) (ns : List ℕ) → numbers (primaries_is n j) ts ≡ ok ns → 0 < length ns → write_chain (map (λ p. 1) (primaries_is n j)) ns ≡ ok (primary_octets ns)
unfolding numbers write_chain primary_octets
chain_primary n j [] ns h l = absurd (omega (arith, ap length (ok_inj h)))
chain_primary zero j (t ∷ ts) ns h l = refused_ok h
chain_primary (suc n) j (t ∷ ts) ns h l =
    need_elim _ _ _ h λ u h₁.
    bind_elim _ _ h₁ λ ms q h₂.
    subst (λ ns. write_chain (map (λ p. 1) (primaries_is (suc n) j)) ns ≡ ok (primary_octets ns)) (ok_inj h₂) (go ms u (λ k. chain_primary n (j + 1) ts ms q k))
  where
    go : (ms : List ℕ) → T (usable (bits_is 7 (7 * j)) t) → (0 < length ms → write_chain (map (λ p. 1) (primaries_is n (j + 1))) ms ≡ ok (primary_octets ms))
        → write_chain (map (λ p. 1) (primaries_is (suc n) j)) (number t ∷ ms) ≡ ok (primary_octets (number t ∷ ms))
    go [] u f = octet_laid (number t * 2) (flags_small j t false u)
    go (m ∷ ms) u f =
        bind_in _ (octet_laid (number t * 2 + 1) (flags_small j t true u))
        (bind_in _ (f (omega arith)) (ap (λ b. ok (marked true b (number t) ∷ primary_octets (m ∷ ms))) (sym (lt-ltb 0 (length (m ∷ ms)) (omega arith)))))

-- ---- the item

-- every refusal is 11 at 0
sub_only : (s : Format) (v : ℤ) (have at : ℕ) → Only (This 11) (sub_span s v have at)
unfolding span_to
sub_only (fixed g) v have at = only_need (This 11) _ _ _ (refl, refl) tt
sub_only (repeated lo hi g) (pos c) have at = only_need (This 11) _ _ _ (refl, refl) (only_need (This 11) _ _ _ (refl, refl) tt)
sub_only (repeated lo hi g) (negsuc c) have at = (refl, refl)
sub_only (led lo) v have at = (refl, refl)
sub_only (extended gs) v have at = (refl, refl)

span_only : (o : Option Format) (vs : List ℤ) (at : ℕ) → Only (This 11) (span_from o vs at)
unfolding span_from
span_only none vs at = tt
span_only (some s) vs at = only_need (This 11) _ _ _ (refl, refl) (only_if (This 11) _ _ _ tt (sub_only s (get_or vs at (pos 0)) (length vs) at))

place_only : (i : ℕ) (vs : List ℤ) (at : ℕ) → Only (This 11) (place_from i vs at)
unfolding place_from place_in
place_only i vs at =
    only_bind (This 11) _ _ (span_only (format_is (layout_at i)) vs at) λ s. only_if (This 11) _ _ _ (only_bind (This 11) _ _ (cut_only i (within s vs)) λ c. tt) tt

row_only : (n i : ℕ) (vs : List ℤ) (at : ℕ) → Only (This 11) (row_from n i vs at)
unfolding row_from
row_only zero i vs at = tt
row_only (suc n) i vs at = only_bind (This 11) _ _ (place_only (subfield_at i) vs at) λ x. only_bind (This 11) _ _ (row_only n (i + 1) vs x.next) λ y. tt

rows_only : (n j : ℕ) (vs : List ℤ) (at : ℕ) → Only (This 11) (rows_from n j vs at)
unfolding rows_from
rows_only zero j vs at = tt
rows_only (suc n) j vs at = only_bind (This 11) _ _ (row_only 7 (7 * j) vs at) λ x. only_bind (This 11) _ _ (rows_only n (j + 1) vs x.next) λ y. tt

compound_only : (i : ℕ) (vs : List ℤ) → Only (This 11) (compound_at i vs)
unfolding compound_at all_rows
compound_only i vs =
    only_bind (This 11) _ _
    (only_bind (This 11) _ _ (rows_only ((layout_at i).end - (layout_at i).first) (layout_at i).first vs 0) λ y. only_need (This 11) _ _ _ (refl, refl) (only_need (This 11) _ _ _ (refl, refl) tt))
    λ y. tt

module _ (i : ℕ) (vs : List ℤ) where
  abbrev rows : List (List (Option Format))
  rows = primaries_is ((layout_at i).end - (layout_at i).first) (layout_at i).first

  compound_from : (bs : List ℕ) → compound_at i vs ≡ ok bs → write_fields (compound rows) vs ≡ ok bs
  unfolding compound_at all_rows write_fields values_from take_item write_item write_places write_presence barred
  compound_from bs h =
      bind_elim _ _ h λ y p h₁.
      bind_elim _ _ p λ z q p₁.
      need_elim _ _ _ p₁ λ t p₂.
      need_elim _ _ _ p₂ λ u p₃.
      let e : z ≡ y = ok_inj p₃ in
      let r : Rowed ((layout_at i).end - (layout_at i).first) (layout_at i).first vs 0 z = rows_from_lem _ _ vs 0 z q in
      let l : 0 < length z.numbers = ltb→lt 0 _ u in
      let n : length (drop z.next vs) ≡ 0 = ap length (drop_of_length-le vs (leb→le (length vs) z.next t)) in
      let w : write_places write_plain rows r.rs ≡ ok (item_octets z) =
      bind_in _ (bind_in _ r.tells (need_in _ _ (rows_house _ _ vs 0 z q l) (chain_primary ((layout_at i).end - (layout_at i).first) (layout_at i).first _ z.numbers r.tells l)))
      (bind_in _ r.writes refl) in
      bind_in _ (bind_in _ (bind_in _ r.takes refl) (need_in _ _ (T_true (eq-eqb (length (drop z.next vs)) 0 n)) refl))
      (ap barred w ∙ ap (λ x. ok (item_octets x)) e ∙ h₁)

  compound_passes : (bs : List ℕ) → write_fields (compound rows) vs ≡ ok bs → Passes (compound_at i vs)
  unfolding compound_at all_rows write_fields values_from take_item write_item write_places write_presence house
  compound_passes bs h =
      bind_elim _ _ h λ v p h₁.
      bind_elim _ _ p λ x q p₁.
      need_elim _ _ _ p₁ λ t p₂.
      bind_elim _ _ q λ y r q₁.
      let d : ◌≡◌ {A = Values} (in_subfields y.0) v = ap (λ z. z.0) (ok_inj q₁) ∙ ok_inj p₂ in
      bind_elim _ _ (barred_inv _ (ap (write_item (compound rows)) d ∙ h₁)) λ a k w.
      bind_elim _ _ w λ b l w₁.
      bind_elim _ _ k λ ns m k₁.
      need_elim _ _ _ k₁ λ u k₂.
      let (z, s) = rows_to ((layout_at i).end - (layout_at i).first) (layout_at i).first vs 0 y.0 y.1 b r l in
      let o : Rowed ((layout_at i).end - (layout_at i).first) (layout_at i).first vs 0 z = rows_from_lem _ _ vs 0 z s in
      let e : ◌≡◌ {A = List (List (Option PartValues)) × List ℤ} (y.0, y.1) (o.rs, drop z.next vs) = ok_inj (sym r ∙ o.takes) in
      let n-is : z.numbers ≡ ns = ok_inj (sym o.tells ∙ ap (λ f. numbers rows (map (map present) f)) (sym (ap (λ f. f.0) e)) ∙ m) in
      let all : length (drop z.next vs) ≡ 0 = sym (ap (λ f. length f.1) e) ∙ ap (λ f. length f.1) (ok_inj q₁) ∙ eqb→eq _ 0 t in
      let g : length vs ≤ z.next = omega (arith, length-drop z.next vs) in
      (_, bind_in _ (bind_in _ s (need_in _ _ (le→leb (length vs) z.next g) (need_in _ _ (lt→ltb 0 (length z.numbers) (subst (λ f. 0 < length f) (sym n-is) (some ns u))) refl))) refl)
    where
      some : (ns : List ℕ) → T (house ns) → 0 < length ns
      some [] t = absurd t
      some (n ∷ ns) t = omega arith

  -- THE TABLES SAY what the rules write
  pub compound_at_lem : write_fields (compound rows) vs ≡ compound_at i vs
  compound_at_lem =
      pass_alike (write_fields (compound rows) vs) (compound_at i vs) (fields_written (This 11) (refl, refl) (compound rows) vs) (compound_only i vs)
      (λ bs h. let (b, p) = compound_passes bs h in p ∙ ap ok (ok_inj (sym (compound_from b p) ∙ h)))
      compound_from
