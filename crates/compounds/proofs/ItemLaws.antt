-- An item by its row of the tables is read as the rules read it: the same octets, the same fields, the same refusals.
--
-- In order: answers alike but for a place; parts; primary octets; the subfields of a row; of all rows; a compound item; any item. Assumes nothing.
use Prim.Native.Nat.{ℕ, zero, suc, ◌+◌, ◌-◌, ◌*◌, ◌≤◌, ◌<◌}
use mathlib.Core.Path.{◌≡◌, refl, sym, ap, ap₂, ◌∙◌, subst}
use mathlib.Core.Bool.{Bool, true, false, cond, not, false≢true}
use mathlib.Core.Option.{Option, none, some}
use mathlib.Core.List.{List, [], ◌∷◌, ◌++◌, map, append-nil, append_assoc}
use native.Mathlib.Omega.{arith}
use native.Mathlib.Nat.{le_of_suc-le-suc, add-zero, zero-mul, one-mul}
use lib.Dec.{T, eqb}
use lib.IntN.{ℤ, pos}
use lib.ListN.{length, take, drop, replicate, length-append, length-drop, length-map}
use lib.Seq.{drop_at, drop-drop, slice, length-take-le}
use Rattle.rules.specs.Answer.{Answer, ok, refused, ◌>>=◌, when◌then◌else◌, later, Write}
use Rattle.rules.specs.Chain.{flatten}
use Rattle.rules.specs.Format.{Group, Format, fixed, repeated, led, extended, PartValues, read_plain}
use Rattle.rules.specs.Presence.{flags, number, present, usable, read_row, read_rows, read_places}
use Rattle.rules.specs.Layout.{Layout, plain, compound, Values, in_parts, in_subfields, at_start, read_item}
use Rattle.rules.specs.FieldList.{absent_field, plain_fields, sub_fields, place_fields, row_fields, rows_fields, field_list}
use Rattle.rules.proofs.AnswerLaws.{Octets, Only, Split, after, ok_inj, refused_ok, bind_in, bind_out, bind_assoc, if_false, some_inj, none_some, octets_drop, bind_same}
use Rattle.rules.specs.Catalogue.{categories}
use Rattle.rules.proofs.FormatLaws.{plain_laws}
use Rattle.rules.proofs.PresenceLaws.{row_forth, rows_forth}
use Rattle.tables.specs.declared.tables.Kind.{Kind}
use Rattle.tables.specs.declared.tables.Kind.TheVariants.{NoItem, Fixed, Repeated, Led, Extended, Compound}
use Rattle.tables.specs.declared.tables.LayoutRow.{LayoutRow}
use Rattle.tables.specs.Tables.{same_kind, layout_count, layout_rows, no_layout_row, primaries, fields, layouts, primary_count, subfields_in, group_count, groups, group_rows, group_at, group_is, layout_at, subfield_at, format_by, format_is, bits_is, primaries_is, as_plain, layout_is}
use Rattle.tables.proofs.TableLaws.{each, at_row, groups_long, subfield_row}
use Rattle.tables.proofs.KindLaws.{kind_true}
use Rattle.layouts.specs.Read.{rows, is_spare, holds, Shaped, parts_legal, part_values, need◌or◌further◌then◌, head_of, step_of, shape_by, shape_of, whole_of, read_by, row_sound}
use Rattle.layouts.proofs.ReadLaws.{reads, fitting}
use Rattle.layouts.proofs.ShapeLaws.{rowed, chain_ends, chain_inside}
use Rattle.layouts.proofs.SoundLaws.{layout_sound}
use Rattle.layouts.proofs.WholeLaws.{whole_shape}
use Rattle.compounds.proofs.PresenceLaws.{Came, in_turn, presence_in_turn, padded, padded_flags, Few, bits_of, sevens_rows, RowsUsable, CameOf, came_of_lem, turn_first, primary_in_turn}
use Rattle.compounds.proofs.SubfieldLaws.{Compounded, compounded}
use Rattle.compounds.specs.Compound.{Told, count_of, part_fields, plain_read, absent_at, place_read, subfields_read, printed, primary, compound_read, item_read, item_sound}

-- ---- answers alike but for a place

abbrev Alike : {A : Type 0} → Answer A → Answer A → Type 0
Alike x y = at_start x ≡ at_start y

alike_bind : {A B : Type 0} (x y : Answer A) (f g : A → Answer B) → Alike x y → ((a : A) → y ≡ ok a → Alike (f a) (g a)) → Alike (x >>= f) (y >>= g)
unfolding at_start ◌>>=◌
alike_bind (ok a) (ok b) f g e h = ap (λ z. at_start (f z)) (ok_inj e) ∙ h b refl
alike_bind (ok a) (refused n p) f g e h = refused_ok (sym e)
alike_bind (refused n p) (ok b) f g e h = refused_ok e
alike_bind (refused n p) (refused m q) f g e h = cc

alike_later : {A : Type 0} (k : ℕ) (x : Answer A) → Alike (later k x) x
unfolding at_start later
alike_later k (ok a) = refl
alike_later k (refused n p) = refl

-- ---- parts

-- what was read, and how many octets
abbrev pub told_of : {A : Type 0} → (A → List ℤ) → List ℕ → A × List ℕ → Answer Told
told_of f bs x = ok (f x.0, length bs - length x.1)

abbrev listed_as : Bool → Format → PartValues → List ℤ
listed_as true s vs = sub_fields s vs
listed_as false s vs = plain_fields s vs

slice_long : (a e k : ℕ) → a + k ≡ e → e ≤ group_count → length (slice a e (map group_is (group_rows 0 groups))) ≡ k
slice_long a e k h le =
    let gs : List Group = map group_is (group_rows 0 groups) in
    let n : length gs ≡ group_count = length-map (group_rows 0 groups) group_is ∙ groups_long in
    let t : length (take e gs) ≡ e = length-take-le e gs (subst (λ x. e ≤ x) (sym n) le) in
    let d : length (drop a (take e gs)) ≡ length (take e gs) - a = length-drop a (take e gs) in
    omega arith

-- the values of the parts, and what is after them
abbrev parts_at : LayoutRow → List ℕ → Shaped → PartValues × List ℕ
parts_at l bs s = (part_values (step_of l.kind) l.first s.0 (drop (head_of l.kind) bs), drop s.1 bs)

-- the reading of a row, with its shape first
by_whole : (l : LayoutRow) (bs : List ℕ) → read_by l bs ≡ (whole_of l bs >>= (λ s. ok (parts_at l bs s)))
unfolding read_by whole_of shape_of need◌or◌further◌then◌ ◌>>=◌
by_whole l bs = go (shape_of l bs) refl
  where
    legal : (t : Bool) (p : ℕ) (s : Shaped) → need◌or◌further◌then◌ {A = PartValues × List ℕ} t 11 p (ok (parts_at l bs s)) ≡ (need◌or◌further◌then◌ {A = Shaped} t 11 p (ok s) >>= (λ s. ok (parts_at l bs s)))
    legal true p s = refl
    legal false p s = refl

    go : (m : Answer Shaped) → shape_of l bs ≡ m → read_by l bs ≡ (whole_of l bs >>= (λ s. ok (parts_at l bs s)))
    go (ok s) e = rw e (legal (parts_legal (step_of l.kind) l.first s.0 (drop (head_of l.kind) bs)) _ s)
    go (refused n p) e = rw e

values_count : (step g c : ℕ) (bs : List ℕ) → length (part_values step g c bs) ≡ c
unfolding part_values
values_count step g zero bs = refl
values_count step g (suc c) bs = ap suc (values_count step (g + step) c (drop (group_at g).octets bs))

-- parts are listed as the rules list them
module _ (sub : Bool) (l : LayoutRow) (c : ℕ) (bs : List ℕ) where
  abbrev vs : Kind → PartValues
  vs k = part_values (step_of k) l.first c (drop (head_of k) bs)

  abbrev fields_by : Kind → List ℤ
  fields_by k = count_of sub k c ++ (flatten (vs k) ++ replicate (step_of k * (l.most - c)) absent_field)

  none_absent : (k : Kind) → step_of k ≡ 0 → flatten (vs k) ++ replicate (step_of k * (l.most - c)) absent_field ≡ flatten (vs k)
  none_absent k e =
      ap (λ n. flatten (vs k) ++ replicate n absent_field) (ap (λ n. n * (l.most - c)) e ∙ zero-mul (l.most - c)) ∙ append-nil (flatten (vs k))

  listed : (s : Format) → row_sound l ≡ true → format_is l ≡ some s → listed_as sub s (vs l.kind) ≡ part_fields sub l c bs
  unfolding part_fields format_is format_by
  listed s r h = go l.kind refl sub refl
    where
      all_groups : List Group
      all_groups = map group_is (group_rows 0 groups)

      by : (k : Kind) → l.kind ≡ k → format_by k l.least l.most (group_is (group_at l.first)) (slice l.first l.end (map group_is (group_rows 0 groups))) ≡ some s
      by k e = subst (λ x. format_by x l.least l.most (group_is (group_at l.first)) (slice l.first l.end (map group_is (group_rows 0 groups))) ≡ some s) e h

      at_kind : (k : Kind) (f : Format) (t : Bool) → l.kind ≡ k → some f ≡ some s → sub ≡ t → listed_as t f (vs k) ≡ count_of t k c ++ (flatten (vs k) ++ replicate (step_of k * (l.most - c)) absent_field)
          → listed_as sub s (vs l.kind) ≡ fields_by l.kind
      at_kind k f t e d u g =
          ap (λ x. listed_as sub s (vs x)) e ∙ ap (λ x. listed_as sub x (vs k)) (sym (some_inj d)) ∙ ap (λ x. listed_as x f (vs k)) u ∙ g
          ∙ ap (λ x. count_of x k c ++ (flatten (vs k) ++ replicate (step_of k * (l.most - c)) absent_field)) (sym u) ∙ ap fields_by (sym e)

      counted : (k : Kind) → pos (length (vs k)) ∷ flatten (vs k) ≡ pos c ∷ flatten (vs k)
      counted k = ap (λ n. pos n ∷ flatten (vs k)) (values_count (step_of k) l.first c (drop (head_of k) bs))

      -- one absent number for each printed part that is not there
      extents : l.kind ≡ Extended → flatten (vs Extended) ++ replicate (length (slice l.first l.end all_groups) - length (vs Extended)) absent_field ≡ flatten (vs Extended) ++ replicate (1 * (l.most - c)) absent_field
      extents e =
          ap (λ n. flatten (vs Extended) ++ replicate n absent_field)
          (ap₂ ◌-◌ (slice_long l.first l.end l.most (chain_ends l (rowed l r) e) (chain_inside l (rowed l r) e)) (values_count 1 l.first c (drop 0 bs)) ∙ sym (one-mul (l.most - c)))

      go : (k : Kind) → l.kind ≡ k → (t : Bool) → sub ≡ t → listed_as sub s (vs l.kind) ≡ fields_by l.kind
      go NoItem e t u = none_some (by NoItem e)
      go Fixed e true u = at_kind Fixed (fixed (group_is (group_at l.first))) true e (by Fixed e) u (sym (none_absent Fixed refl))
      go Fixed e false u = at_kind Fixed (fixed (group_is (group_at l.first))) false e (by Fixed e) u (sym (none_absent Fixed refl))
      go Repeated e true u = at_kind Repeated (repeated l.least l.most (group_is (group_at l.first))) true e (by Repeated e) u (counted Repeated ∙ ap (λ x. pos c ∷ x) (sym (none_absent Repeated refl)))
      go Repeated e false u = at_kind Repeated (repeated l.least l.most (group_is (group_at l.first))) false e (by Repeated e) u (sym (none_absent Repeated refl))
      go Led e true u = at_kind Led (led l.least) true e (by Led e) u (counted Led ∙ ap (λ x. pos c ∷ x) (sym (none_absent Led refl)))
      go Led e false u = at_kind Led (led l.least) false e (by Led e) u (sym (none_absent Led refl))
      go Extended e true u = at_kind Extended (extended (slice l.first l.end all_groups)) true e (by Extended e) u (extents e)
      go Extended e false u = at_kind Extended (extended (slice l.first l.end all_groups)) false e (by Extended e) u (extents e)
      go Compound e t u = none_some (by Compound e)

-- an item that is not compound, or a subfield, by its row
plain_told : (sub : Bool) (l : LayoutRow) (s : Format) (bs : List ℕ) → row_sound l ≡ true → format_is l ≡ some s → Octets bs
    → (read_plain s bs >>= told_of (listed_as sub s) bs) ≡ plain_read sub l bs
unfolding plain_read
plain_told sub l s bs r h o =
    ap (λ m. m >>= told_of (listed_as sub s) bs) (reads l s bs r h o ∙ by_whole l bs)
    ∙ bind_assoc (whole_of l bs) (λ x. ok (parts_at l bs x)) (told_of (listed_as sub s) bs)
    ∙ bind_same (whole_of l bs) _ _ λ x e.
    bind_in (told_of (listed_as sub s) bs) refl
    (ap₂ (λ a b. ok (a, b)) (listed sub l x.0 bs s r h) (let k : x.1 ≤ length bs = (fitting l bs x r o (whole_shape l bs x e)).there in let d : length (drop x.1 bs) ≡ length bs - x.1 = length-drop x.1 bs in omega arith))

-- ---- one thing read after another

-- what is read stands before what is left
pub record Before (bs rest : List ℕ) : Type 0 where
  pub less : length rest ≤ length bs
  pub after : drop (length bs - length rest) bs ≡ rest
  pub octets : Octets rest

split_before : {A : Type 0} {w : Write A} {a : A} {bs rest : List ℕ} → Octets bs → Split w a bs rest → Before bs rest
split_before {bs = bs} {rest = rest} o s =
    let n : length bs ≡ length s.out + length rest = ap length s.joins ∙ length-append s.out rest in
    record {
      less = omega arith;
      after = ap (drop (length bs - length rest)) s.joins ∙ drop_at s.out rest (length bs - length rest) (omega arith);
      octets = after s o;
    }

module _ {X Y Z : Type 0} (bs : List ℕ) (fx : X → List ℤ) (fy : Y → List ℤ) (fz : Z → List ℤ) (join : X → Y → Z) (joins : (a : X) (b : Y) → fz (join a b) ≡ fx a ++ fy b) where
  abbrev Then : (List ℕ → Answer (Y × List ℕ)) → X × List ℕ → Answer (Z × List ℕ)
  Then rest x = later (length bs - length x.1) (rest x.1) >>= (λ y. ok (join x.0 y.0, y.1))

  abbrev Told-then : (List ℕ → Answer Told) → Told → Answer Told
  Told-then rest v = rest (drop v.1 bs) >>= (λ w. ok (v.0 ++ w.0, v.1 + w.1))

  second : (x : X × List ℕ) (v : Told) (m : Answer (Y × List ℕ)) (told : Answer Told) → Before bs x.1 → ((y : Y × List ℕ) → m ≡ ok y → length y.1 ≤ length x.1)
      → v ≡ (fx x.0, length bs - length x.1) → Alike (m >>= told_of fy x.1) told
      → Alike ((later (length bs - length x.1) m >>= (λ y. ok (join x.0 y.0, y.1))) >>= told_of fz bs) (told >>= (λ w. ok (v.0 ++ w.0, v.1 + w.1)))
  unfolding at_start later ◌>>=◌
  second x v (ok y) (ok w) b f ev e =
      let d : ◌≡◌ {A = Told} (fy y.0, length x.1 - length y.1) w = ok_inj e in
      let l : length y.1 ≤ length x.1 = f y refl in
      let n : length bs - length y.1 ≡ length bs - length x.1 + (length x.1 - length y.1) = omega (arith, b.less) in
      ap₂ (λ p q. ok (p, q)) (joins x.0 y.0 ∙ ap₂ ◌++◌ (sym (ap (λ z. z.0) ev)) (ap (λ z. z.0) d)) (n ∙ ap₂ ◌+◌ (sym (ap (λ z. z.1) ev)) (ap (λ z. z.1) d))
  second x v (ok y) (refused a c) b f ev e = refused_ok (sym e)
  second x v (refused a c) (ok w) b f ev e = refused_ok e
  second x v (refused a c) (refused a₁ c₁) b f ev e = cc

  -- FIRST ONE THING, THEN ANOTHER: alike where each is
  then_told : (first : Answer (X × List ℕ)) (rest : List ℕ → Answer (Y × List ℕ)) (toldX : Answer Told) (toldY : List ℕ → Answer Told)
      → Alike (first >>= told_of fx bs) toldX → ((x : X × List ℕ) → first ≡ ok x → Before bs x.1)
      → ((x : X × List ℕ) (y : Y × List ℕ) → first ≡ ok x → rest x.1 ≡ ok y → length y.1 ≤ length x.1)
      → ((x : X × List ℕ) → first ≡ ok x → Alike (rest x.1 >>= told_of fy x.1) (toldY x.1))
      → Alike ((first >>= Then rest) >>= told_of fz bs) (toldX >>= Told-then toldY)
  then_told first rest toldX toldY ea before less eb = go first toldX refl ea
    where
      go : (m : Answer (X × List ℕ)) (t : Answer Told) → first ≡ m → Alike (m >>= told_of fx bs) t → Alike ((m >>= Then rest) >>= told_of fz bs) (t >>= Told-then toldY)
      go (ok x) (ok v) h e =
          unfold at_start ◌>>=◌ in
          (let d : v ≡ (fx x.0, length bs - length x.1) = sym (ok_inj e) in
          let b : Before bs x.1 = before x h in
          let z : drop v.1 bs ≡ x.1 = ap (λ (u : Told). drop u.1 bs) d ∙ b.after in
          second x v (rest x.1) (toldY x.1) b (λ y g. less x y h g) d (eb x h) ∙ ap (λ us. at_start (toldY us >>= (λ w. ok (v.0 ++ w.0, v.1 + w.1)))) (sym z))
      go (ok x) (refused a c) h e = unfold at_start ◌>>=◌ in (refused_ok (sym e))
      go (refused a c) (ok v) h e = unfold at_start ◌>>=◌ in (refused_ok e)
      go (refused a c) (refused a₁ c₁) h e = unfold at_start ◌>>=◌ in e

-- ---- the subfields of a row

-- a bit has a subfield where its place is none of no item's
row_present : (i : ℕ) → present (format_is (layout_at (subfield_at i))) ≡ not (eqb (subfield_at i) 0)
unfolding subfield_at subfields_in format_is format_by layout_at group_at fields groups layouts categories
row_present i = at_row (λ j. present (format_is (layout_at j))) (λ j. not (eqb j 0)) subfields_in i 0 refl refl

absent_fields : (i : ℕ) → place_fields (format_is (layout_at (subfield_at i))) none ≡ absent_at i
absent_fields i = go (format_is (layout_at (subfield_at i))) (eqb (subfield_at i) 0) (row_present i)
  where
    go : (p : Option Format) (t : Bool) → present p ≡ not t → place_fields p none ≡ cond t [] (absent_field ∷ [])
    go none true e = refl
    go none false e = absurd (false≢true e)
    go (some s) true e = absurd (false≢true (sym e))
    go (some s) false e = refl

row_before : (ps : List (Option Format)) (ts : List Bool) (bs : List ℕ) (x : List (Option PartValues) × List ℕ) → Octets bs → read_row read_plain ps ts bs ≡ ok x → Before bs x.1
row_before ps ts bs x o h = split_before o (row_forth plain_laws ps ts x.0 bs x.1 o h).0

rows_before : (ps : List (List (Option Format))) (ts : List (List Bool)) (bs : List ℕ) (x : List (List (Option PartValues)) × List ℕ) → Octets bs → read_rows read_plain ps ts bs ≡ ok x → Before bs x.1
rows_before ps ts bs x o h = split_before o (rows_forth plain_laws ps ts x.0 bs x.1 o h).0

nothing_told : (bs : List ℕ) → ◌≡◌ {A = Answer Told} (ok ([], length bs - length bs)) (ok ([], 0))
nothing_told bs = ap (λ n. ok ([], n)) (let z : length bs - length bs ≡ 0 = omega arith in z)

-- a subfield that is not there, then the others
skip_told : (i : ℕ) (p : Option Format) (ps : List (Option Format)) (ts : List Bool) (bs : List ℕ) → place_fields p none ≡ absent_at i
    → Alike (read_row read_plain ps ts bs >>= told_of (row_fields ps) bs) (subfields_read (i + 1) ts bs)
    → Alike (read_row read_plain (p ∷ ps) (false ∷ ts) bs >>= told_of (row_fields (p ∷ ps)) bs) (subfields_read i (false ∷ ts) bs)
unfolding read_row subfields_read at_start ◌>>=◌
skip_told i p ps ts bs e ih = go (read_row read_plain ps ts bs) (subfields_read (i + 1) ts bs) ih
  where
    go : (m : Answer (List (Option PartValues) × List ℕ)) (w : Answer Told) → Alike (m >>= told_of (row_fields ps) bs) w
        → Alike ((m >>= (λ x. ok (none ∷ x.0, x.1))) >>= told_of (row_fields (p ∷ ps)) bs) (w >>= (λ v. ok (absent_at i ++ v.0, 0 + v.1)))
    go (ok x) (ok v) h =
        let d : ◌≡◌ {A = Told} (row_fields ps x.0, length bs - length x.1) v = ok_inj h in
        ap₂ (λ a b. ok (a, b)) (ap₂ ◌++◌ e (ap (λ z. z.0) d)) (ap (λ z. z.1) d ∙ (let z : v.1 ≡ 0 + v.1 = omega arith in z))
    go (ok x) (refused a c) h = refused_ok (sym h)
    go (refused a c) (ok v) h = refused_ok h
    go (refused a c) (refused b d) h = h

-- one that is there, then the others
there_told : (i : ℕ) (s : Format) (ps : List (Option Format)) (ts : List Bool) (bs : List ℕ) → format_is (layout_at (subfield_at i)) ≡ some s → Octets bs
    → ((us : List ℕ) → Octets us → Alike (read_row read_plain ps ts us >>= told_of (row_fields ps) us) (subfields_read (i + 1) ts us))
    → Alike (read_row read_plain (some s ∷ ps) (true ∷ ts) bs >>= told_of (row_fields (some s ∷ ps)) bs) (subfields_read i (true ∷ ts) bs)
unfolding read_row subfields_read
there_told i s ps ts bs h o ih =
    then_told bs (sub_fields s) (row_fields ps) (row_fields (some s ∷ ps)) (λ v vs. some v ∷ vs) (λ a b. refl)
    (read_plain s bs) (read_row read_plain ps ts) (plain_read true (layout_at (subfield_at i)) bs) (subfields_read (i + 1) ts)
    (ap at_start (plain_told true (layout_at (subfield_at i)) s bs (layout_sound (subfield_at i) (subfield_row i)) h o))
    before
    (λ x y e f. (row_before ps ts x.1 y (before x e).octets f).less)
    (λ x e. ih x.1 (before x e).octets)
  where
    before : (x : PartValues × List ℕ) → read_plain s bs ≡ ok x → Before bs x.1
    before x e = split_before o ((plain_laws s).forth x.0 bs x.1 o e)

row_told : (m i : ℕ) (ts : List Bool) (bs : List ℕ) → T (usable (bits_is m i) ts) → Octets bs
    → Alike (read_row read_plain (bits_is m i) ts bs >>= told_of (row_fields (bits_is m i)) bs) (subfields_read i ts bs)
unfolding usable
row_told zero i [] bs u o = unfold read_row subfields_read ◌>>=◌ in (ap at_start (nothing_told bs))
row_told zero i (t ∷ ts) bs u o = absurd u
row_told (suc m) i [] bs u o = absurd u
row_told (suc m) i (false ∷ ts) bs u o = skip_told i (format_is (layout_at (subfield_at i))) (bits_is m (i + 1)) ts bs (absent_fields i) (row_told m (i + 1) ts bs (by (format_is (layout_at (subfield_at i))) u) o)
  where
    by : (p : Option Format) → T (usable (p ∷ bits_is m (i + 1)) (false ∷ ts)) → T (usable (bits_is m (i + 1)) ts)
    by none v = v
    by (some s) v = v
row_told (suc m) i (true ∷ ts) bs u o = go (format_is (layout_at (subfield_at i))) refl u (λ us k v. row_told m (i + 1) ts us k v)
  where
    go : (p : Option Format) → format_is (layout_at (subfield_at i)) ≡ p → T (usable (p ∷ bits_is m (i + 1)) (true ∷ ts))
        → ((us : List ℕ) → T (usable (bits_is m (i + 1)) ts) → Octets us → Alike (read_row read_plain (bits_is m (i + 1)) ts us >>= told_of (row_fields (bits_is m (i + 1))) us) (subfields_read (i + 1) ts us))
        → Alike (read_row read_plain (p ∷ bits_is m (i + 1)) (true ∷ ts) bs >>= told_of (row_fields (p ∷ bits_is m (i + 1))) bs) (subfields_read i (true ∷ ts) bs)
    go none e v ih = absurd v
    go (some s) e v ih = there_told i s (bits_is m (i + 1)) ts bs e o (λ us k. ih us v k)

-- ---- of all rows

-- flags end to end
abbrev joined_told : Told → Told → Answer Told
joined_told v w = ok (v.0 ++ w.0, v.1 + w.1)

both_told : (i : ℕ) (ts us : List Bool) (bs : List ℕ)
    → subfields_read i (ts ++ us) bs ≡ (subfields_read i ts bs >>= (λ v. subfields_read (i + length ts) us (drop v.1 bs) >>= joined_told v))
unfolding subfields_read ◌>>=◌
both_told i [] us bs = ap (λ k. subfields_read k us bs) (sym (add-zero i)) ∙ go (subfields_read (i + 0) us bs)
  where
    go : (m : Answer Told) → m ≡ (m >>= (λ w. ok ([] ++ w.0, 0 + w.1)))
    go (ok w) = ap (λ n. ok (w.0, n)) (let z : w.1 ≡ 0 + w.1 = omega arith in z)
    go (refused n p) = refl
both_told i (t ∷ ts) us bs = go (place_read i t bs) (λ x. both_told (i + 1) ts us (drop x.1 bs))
  where
    e : i + suc (length ts) ≡ i + 1 + length ts
    e = omega arith

    third : (x v : Told) (m : Answer Told) → ((m >>= joined_told v) >>= joined_told x) ≡ (m >>= joined_told (x.0 ++ v.0, x.1 + v.1))
    third x v (ok w) = ap₂ (λ a b. ok (a, b)) (sym (append_assoc x.0 v.0 w.0)) (let z : x.1 + (v.1 + w.1) ≡ x.1 + v.1 + w.1 = omega arith in z)
    third x v (refused n p) = refl

    second : (x : Told) (m : Answer Told)
        → ((m >>= (λ v. subfields_read (i + 1 + length ts) us (drop v.1 (drop x.1 bs)) >>= joined_told v)) >>= joined_told x)
        ≡ ((m >>= joined_told x) >>= (λ v. subfields_read (i + suc (length ts)) us (drop v.1 bs) >>= joined_told v))
    second x (ok v) =
        third x v (subfields_read (i + 1 + length ts) us (drop v.1 (drop x.1 bs)))
        ∙ ap₂ (λ k l. subfields_read k us l >>= joined_told (x.0 ++ v.0, x.1 + v.1)) (sym e) (drop-drop v.1 x.1 bs)
    second x (refused n p) = refl

    go : (m : Answer Told)
        → ((x : Told) → subfields_read (i + 1) (ts ++ us) (drop x.1 bs) ≡ (subfields_read (i + 1) ts (drop x.1 bs) >>= (λ v. subfields_read (i + 1 + length ts) us (drop v.1 (drop x.1 bs)) >>= joined_told v)))
        → (m >>= (λ x. subfields_read (i + 1) (ts ++ us) (drop x.1 bs) >>= joined_told x))
        ≡ ((m >>= (λ x. subfields_read (i + 1) ts (drop x.1 bs) >>= joined_told x)) >>= (λ v. subfields_read (i + suc (length ts)) us (drop v.1 bs) >>= joined_told v))
    go (ok x) ih = ap (λ m. m >>= joined_told x) (ih x) ∙ second x (subfields_read (i + 1) ts (drop x.1 bs))
    go (refused n p) ih = refl

-- octets that are not there name nothing
absent_row : (m i : ℕ) (bs : List ℕ) → subfields_read i (replicate m false) bs ≡ ok (row_fields (bits_is m i) [], 0)
unfolding subfields_read ◌>>=◌
absent_row zero i bs = refl
absent_row (suc m) i bs = ap (λ n. n >>= joined_told (absent_at i, 0)) (absent_row m (i + 1) bs) ∙ ap (λ l. ok (l ++ row_fields (bits_is m (i + 1)) [], 0)) (sym (absent_fields i))

next_row : (j : ℕ) → 7 * j + 7 ≡ 7 * (j + 1)
next_row j = omega arith

absent_rows : (n j : ℕ) (bs : List ℕ) → subfields_read (7 * j) (padded n []) bs ≡ ok (rows_fields (primaries_is n j) [], 0)
absent_rows zero j bs = unfold subfields_read in refl
absent_rows (suc n) j bs =
    both_told (7 * j) (replicate 7 false) (padded n []) bs
    ∙ bind_in _ (absent_row 7 (7 * j) bs)
    (bind_in _ (ap (λ k. subfields_read k (padded n []) bs) (next_row j) ∙ absent_rows n (j + 1) bs) refl)

rows_told : (n j : ℕ) (ts : List (List Bool)) (bs : List ℕ) → Few n ts → RowsUsable (primaries_is n j) ts → Octets bs
    → Alike (read_rows read_plain (primaries_is n j) ts bs >>= told_of (rows_fields (primaries_is n j)) bs) (subfields_read (7 * j) (padded n ts) bs)
unfolding read_rows
rows_told n j [] bs f u o = ap at_start (bind_in (told_of (rows_fields (primaries_is n j)) bs) refl (ap (λ k. ok (rows_fields (primaries_is n j) [], k)) (let z : length bs - length bs ≡ 0 = omega arith in z)) ∙ sym (absent_rows n j bs))
rows_told zero j (t ∷ ts) bs f u o = absurd f
rows_told (suc n) j (t ∷ ts) bs f u o =
    then_told bs (row_fields (bits_is 7 (7 * j))) (rows_fields (primaries_is n (j + 1))) (rows_fields (primaries_is (suc n) j)) (λ r rs. r ∷ rs) (λ a b. refl)
    (read_row read_plain (bits_is 7 (7 * j)) t bs) (read_rows read_plain (primaries_is n (j + 1)) ts) (subfields_read (7 * j) t bs) (subfields_read (7 * (j + 1)) (padded n ts))
    (row_told 7 (7 * j) t bs u.0 o)
    (λ x e. row_before (bits_is 7 (7 * j)) t bs x o e)
    (λ x y e g. (rows_before (primaries_is n (j + 1)) ts x.1 y (row_before (bits_is 7 (7 * j)) t bs x o e).octets g).less)
    (λ x e. rows_told n (j + 1) ts x.1 f.1 u.1 (row_before (bits_is 7 (7 * j)) t bs x o e).octets)
    ∙ ap at_start (sym (both_told (7 * j) t (padded n ts) bs ∙ ap (λ k. subfields_read (7 * j) t bs >>= (λ v. subfields_read k (padded n ts) (drop v.1 bs) >>= joined_told v)) (ap (λ l. 7 * j + l) f.0 ∙ next_row j)))

-- ---- a compound item

start_bind : {A B : Type 0} (x : Answer A) (f : A → Answer B) → ((a : A) → at_start (f a) ≡ f a) → at_start (x >>= f) ≡ (at_start x >>= f)
unfolding at_start ◌>>=◌
start_bind (ok a) f h = h a
start_bind (refused n p) f h = refl

module _ (n j : ℕ) (bs : List ℕ) (h : j + n ≤ primary_count) (o : Octets bs) where
  abbrev rows_at : List (List (Option Format))
  rows_at = primaries_is n j

  abbrev named : ℕ → ℕ → Answer Told
  named b k = at_start (subfields_read (7 * j) (flags (7 * n) b) (drop k bs)) >>= (λ x. ok (x.0, k + x.1))

  abbrev subfields_at : List (List (Option PartValues)) × List ℕ → Answer (Values × List ℕ)
  subfields_at x = ok (in_subfields x.0, x.1)

  -- once the primary octets are read
  after_octets : (y : Came) → CameOf n j bs y
      → ((at_start (later (length bs - length y.1) (read_rows read_plain rows_at y.0 y.1)) >>= subfields_at) >>= told_of (field_list (compound rows_at)) bs)
      ≡ named (number (padded n y.0)) (length bs - length y.1)
  after_octets y c =
      let k : ℕ = length bs - length y.1 in
      let d : drop k bs ≡ y.1 = ap (λ m. drop m bs) (let z : k ≡ length y.0 = omega (arith, c.count) in z) ∙ c.after in
      let r : Octets y.1 = subst Octets d (octets_drop k bs o) in
      ap (λ m. (m >>= subfields_at) >>= told_of (field_list (compound rows_at)) bs) (alike_later k (read_rows read_plain rows_at y.0 y.1))
      ∙ go (read_rows read_plain rows_at y.0 y.1) (subfields_read (7 * j) (padded n y.0) y.1) (rows_told n j y.0 y.1 c.few c.named r) (λ x e. (rows_before rows_at y.0 y.1 x r e).less)
      ∙ ap₂ (λ ts us. at_start (subfields_read (7 * j) ts us) >>= (λ x. ok (x.0, k + x.1))) (sym (padded_flags n y.0 c.few)) (sym d)
    where
      go : (m : Answer (List (List (Option PartValues)) × List ℕ)) (w : Answer Told) → Alike (m >>= told_of (rows_fields rows_at) y.1) w
          → ((x : List (List (Option PartValues)) × List ℕ) → m ≡ ok x → length x.1 ≤ length y.1)
          → ((at_start m >>= subfields_at) >>= told_of (field_list (compound rows_at)) bs) ≡ (at_start w >>= (λ x. ok (x.0, length bs - length y.1 + x.1)))
      go (ok x) (ok v) e l =
          unfold at_start ◌>>=◌ in
          (let q : ◌≡◌ {A = Told} (rows_fields rows_at x.0, length y.1 - length x.1) v = ok_inj e in
          let s : length x.1 ≤ length y.1 = l x refl in
          ap₂ (λ a b. ok (a, b)) (ap (λ z. z.0) q) ((let z : length bs - length x.1 ≡ length bs - length y.1 + (length y.1 - length x.1) = omega (arith, c.count) in z) ∙ ap (λ z. length bs - length y.1 + z.1) q))
      go (ok x) (refused a b) e l = unfold at_start ◌>>=◌ in (refused_ok (sym e))
      go (refused a b) (ok v) e l = unfold at_start ◌>>=◌ in (refused_ok e)
      go (refused a b) (refused a₁ b₁) e l = unfold at_start ◌>>=◌ in cc

  compound_told : (read_item (compound rows_at) bs >>= told_of (field_list (compound rows_at)) bs) ≡ (primary j n bs >>= (λ x. named x.0 x.1))
  unfolding read_item read_places
  compound_told =
      ap (λ m. (at_start (m >>= (λ y. later (length bs - length y.1) (read_rows read_plain rows_at y.0 y.1))) >>= subfields_at) >>= told_of (field_list (compound rows_at)) bs) (presence_in_turn rows_at bs (sevens_rows n j) o)
      ∙ go (in_turn rows_at bs) (turn_first rows_at bs) (came_of_lem n j bs)
      ∙ ap (λ m. m >>= (λ x. named x.0 x.1)) (primary_in_turn n j bs h o)
    where
      go : (m : Answer Came) → Only (λ a b. b ≡ 0) m → ((y : Came) → m ≡ ok y → CameOf n j bs y)
          → ((at_start (m >>= (λ y. later (length bs - length y.1) (read_rows read_plain rows_at y.0 y.1))) >>= subfields_at) >>= told_of (field_list (compound rows_at)) bs)
          ≡ ((m >>= bits_of n bs) >>= (λ x. named x.0 x.1))
      go (ok y) f c = unfold ◌>>=◌ in (after_octets y (c y refl))
      go (refused a b) f c = unfold at_start ◌>>=◌ in (ap (refused a) (sym f))

-- ---- any item

-- AN ITEM BY ITS ROW is read as the rules read it: its fields, and how many octets it takes
pub item_told : (l : LayoutRow) (i : Layout) (bs : List ℕ) → row_sound l ≡ true → item_sound l ≡ true → layout_is l ≡ some i → Octets bs
    → (read_item i bs >>= told_of (field_list i) bs) ≡ item_read l bs
unfolding layout_is item_read
item_told l i bs r s h o = go (same_kind l.kind Compound) refl h
  where
    plain_read_lem : (f : Option Format) → format_is l ≡ f → as_plain f ≡ some i → (read_item i bs >>= told_of (field_list i) bs) ≡ plain_read false l bs
    plain_read_lem none e d = none_some d
    plain_read_lem (some f) e d =
        ap (λ x. read_item x bs >>= told_of (field_list x) bs) (sym (some_inj d))
        ∙ unfold read_item in (bind_assoc (read_plain f bs) (λ x. ok (in_parts x.0, x.1)) (told_of (field_list (plain f)) bs) ∙ bind_same (read_plain f bs) _ _ (λ x g. bind_in _ refl refl))
        ∙ plain_told false l f bs r e o

    go : (t : Bool) → same_kind l.kind Compound ≡ t → cond t (some (compound (primaries_is (l.end - l.first) l.first))) (as_plain (format_is l)) ≡ some i
        → (read_item i bs >>= told_of (field_list i) bs) ≡ (when t then compound_read l bs else plain_read false l bs)
    go true e d =
        let c : Compounded l = compounded l s (kind_true l.kind Compound e) in
        ap (λ x. read_item x bs >>= told_of (field_list x) bs) (sym (some_inj d))
        ∙ compound_told (printed l) l.first bs (let z : l.first + printed l ≤ primary_count = omega (arith, c.order, c.inside) in z) o
        ∙ unfold compound_read when◌then◌else◌ in refl
    go false e d = plain_read_lem (format_is l) refl d ∙ unfold when◌then◌else◌ in refl

-- a row that is no item's
pub no_row : (l : LayoutRow) (bs : List ℕ) → layout_is l ≡ none → item_read l bs ≡ refused 21 0
unfolding layout_is item_read format_is format_by
no_row l bs h = go l.kind refl
  where
    by : (k : Kind) → l.kind ≡ k
        → cond (same_kind k Compound) (some (compound (primaries_is (l.end - l.first) l.first))) (as_plain (format_by k l.least l.most (group_is (group_at l.first)) (slice l.first l.end (map group_is (group_rows 0 groups))))) ≡ none
    by k e = subst (λ x. cond (same_kind x Compound) (some (compound (primaries_is (l.end - l.first) l.first))) (as_plain (format_by x l.least l.most (group_is (group_at l.first)) (slice l.first l.end (map group_is (group_rows 0 groups))))) ≡ none) e h

    none_read : (k : Kind) → l.kind ≡ k → same_kind k Compound ≡ false → shape_by k l.least l.most l.first l.end bs ≡ refused 21 0
        → (when same_kind l.kind Compound then compound_read l bs else plain_read false l bs) ≡ refused 21 0
    none_read k e f s = if_false _ (ap (λ x. same_kind x Compound) e ∙ f) (unfold plain_read whole_of shape_of in (bind_out _ (bind_out _ (ap (λ x. shape_by x l.least l.most l.first l.end bs) e ∙ s))))

    go : (k : Kind) → l.kind ≡ k → (when same_kind l.kind Compound then compound_read l bs else plain_read false l bs) ≡ refused 21 0
    go NoItem e = none_read NoItem e refl (unfold shape_by in refl)
    go Fixed e = none_some (sym (by Fixed e))
    go Repeated e = none_some (sym (by Repeated e))
    go Led e = none_some (sym (by Led e))
    go Extended e = none_some (sym (by Extended e))
    go Compound e = none_some (sym (by Compound e))

-- every row of the table is one that the code can work with
pub row_item : (j : ℕ) → j < layout_count → item_sound (layout_at j) ≡ true
unfolding item_sound holds rows is_spare subfield_at subfields_in layout_at group_at fields groups primaries layouts categories
row_item zero h = refl
row_item (suc j) h = each item_sound (layout_rows 0 0 layouts) no_layout_row refl j (le_of_suc-le-suc h)
