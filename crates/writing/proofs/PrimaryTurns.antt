-- What the two walks over the primary octets of a compound item do, turn by turn: the first sizes the subfields of each, the second lays them and the
-- octet itself.
--
-- In order: the rows of compound items; a primary octet and those after it; the first walk; two stores; the second walk. Assumes nothing.
use Rattle.tables.specs.declared.tables.Kind.TheVariants.{Compound}
use Rattle.tables.specs.Tables.{same_kind}
use Rattle.tables.proofs.KindLaws.{kind_same}
use Prim.Native.Nat.{ℕ, zero, suc, ◌+◌, ◌-◌, ◌*◌, ◌^◌, ◌<◌, ◌≤◌}
use mathlib.Core.Path.{◌≡◌, refl, sym, ap, ap₂, ◌∙◌, subst}
use mathlib.Core.Bool.{Bool, true, false, cond, ◌&&◌}
use mathlib.Core.List.{List, [], ◌∷◌, ◌++◌}
use native.Mathlib.Omega.{arith}
use native.Mathlib.Nat.{div-one}
use native.Mathlib.Numerals.{add-one}
use borrow.Author.Tests.{ltb-true, ltb-false, lt-ltb, le-ltb, ne_eqb, lt-leb}
use lib.Dec.{T, leb, ltb, eqb, leb→le, le→leb, lt→ltb}
use lib.IntN.{ℤ}
use lib.ListN.{length, set, length-append, length-set}
use lib.Pow.{pow_pos}
use lib.Seq.{sets, length-sets, set_comm}
use Rattle.rules.specs.Answer.{Answer, ok, refused, ◌>>=◌, need◌or◌then◌}
use Rattle.rules.specs.Chain.{octets}
use Rattle.rules.specs.Presence.{number, keep_row}
use Rattle.rules.specs.Catalogue.{categories}
use Rattle.rules.proofs.AnswerLaws.{ok_inj, bind_in, bind_out, bind_elim, bind_cong, bind_assoc, need_in, need_out, need_elim, need_bind, octets_of-ok, nil_of_length}
use Rattle.rules.proofs.PresenceLaws.{number_lt}
use Rattle.tables.specs.declared.tables.LayoutRow.{LayoutRow}
use Rattle.tables.specs.Tables.{primary_count, subfield_count, primaries, layouts, layout_rows, no_layout_row, layout_at, subfield_at}
use Rattle.tables.proofs.TableLaws.{subfields_long}
use Rattle.layouts.proofs.Stores.{sets_append}
use Rattle.writing.specs.Write.{marked, Parts, parts}
use Rattle.writing.specs.Compound.{Row, row_from, Rows, join_rows, rows_from, primary_octets, all_rows, item_octets, compound_at, row_size, rows_size, row_of, compound_octets}
use Rattle.writing.proofs.Sound.{every, every_at, both}
use Rattle.writing.proofs.LaidLaws.{marked_lt}
use Rattle.writing.proofs.PlaceLaws.{place_facts}
use Rattle.writing.proofs.PartTurns.{more_is}
use Rattle.writing.proofs.Handed.{refused_before}
use Rattle.writing.proofs.BitTurns.{sub_many, row_of_ok}

-- ---- the rows of compound items

abbrev compound_test : LayoutRow → Bool
compound_test r = cond (same_kind r.kind Compound) (leb r.first r.end && leb r.end primary_count) true

compound_rows : T (every compound_test (no_layout_row ∷ layout_rows 0 0 layouts))
unfolding primaries layouts categories
compound_rows = tt

pub compound_in : (i : ℕ) → (layout_at i).kind ≡ Compound → ((layout_at i).first ≤ (layout_at i).end) × ((layout_at i).end ≤ primary_count)
unfolding layout_at primaries layouts categories
compound_in i e =
    let t : T (cond (same_kind (layout_at i).kind Compound) (leb (layout_at i).first (layout_at i).end && leb (layout_at i).end primary_count) true) =
    every_at compound_test (no_layout_row ∷ layout_rows 0 0 layouts) no_layout_row compound_rows tt i in
    let (p, q) = both (leb (layout_at i).first (layout_at i).end) (leb (layout_at i).end primary_count)
    (subst (λ x. T (cond x (leb (layout_at i).first (layout_at i).end && leb (layout_at i).end primary_count) true)) (kind_same (layout_at i).kind Compound e) t) in
    (leb→le _ _ p, leb→le _ _ q)

pub compound_order : (i : ℕ) {r : LayoutRow} → r ≡ layout_at i → (layout_at i).kind ≡ Compound → r.first ≤ r.end
compound_order i er e = omega (arith, ap (λ x. x.first) er, ap (λ x. x.end) er, compound_in i e)

-- its bits are in the table
pub bits_in : (i first row rows : ℕ) → (layout_at i).kind ≡ Compound → rows ≡ (layout_at i).end - (layout_at i).first → first ≡ (layout_at i).first → row < rows → 7 * (first + row) + 7 ≤ subfield_count
bits_in i first row rows e d f h = omega (arith, subfields_long, compound_in i e)

-- ---- a primary octet and those after it

none_set : (t : Bool) (ts : List Bool) → number (t ∷ ts) ≡ 0 → (t ≡ false) × (number ts ≡ 0)
unfolding number
none_set true ts e = absurd (omega (arith, pow_pos (length ts)))
none_set false ts e = (refl, e)

-- the flags of so many bits; few octets, and none without a subfield
pub row_facts : (n i : ℕ) (vs : List ℤ) (at : ℕ) (x : Row) → row_from n i vs at ≡ ok x
    → (length x.flags ≡ n) × ((length x.octets ≤ 2_041 * n) × (number x.flags ≡ 0 → x.octets ≡ []))
unfolding row_from
row_facts zero i vs at x h =
    let d = ok_inj h in
    (sym (ap (λ y. length y.flags) d), (omega (arith, ap (λ y. length y.octets) d), λ z. sym (ap (λ y. y.octets) d)))
row_facts (suc n) i vs at x h =
    bind_elim _ _ h λ p ep h₁.
    bind_elim _ _ h₁ λ y ey h₂.
    let d = ok_inj h₂ in
    let (a, b) = row_facts n (i + 1) vs p.next y ey in
    let (u, w) = place_facts (subfield_at i) vs at p ep in
    let o : p.octets ++ y.octets ≡ x.octets = ap (λ z. z.octets) d in (
      sym (ap (λ z. length z.flags) d) ∙ ap suc a,
      (
        omega (arith, ap length o, length-append p.octets y.octets, b.0),
        λ z. let (f, g) = none_set p.there y.flags (ap (λ z. number z.flags) d ∙ z) in sym o ∙ ap₂ ◌++◌ (w f) (b.1 g),
      ),
    )

-- one primary octet is kept where it has a bit, or one after it has
kept_some : (b : ℕ) (ns : List ℕ) → keep_row (ltb 0 (suc b)) (suc b) ns ≡ suc b ∷ ns
kept_some b ns = ap (λ t. keep_row t (suc b) ns) (lt-ltb 0 (suc b) (omega arith))

pub kept_cons : (b : ℕ) (ns : List ℕ) → 0 < length (keep_row (ltb 0 b) b ns) → keep_row (ltb 0 b) b ns ≡ b ∷ ns
kept_cons zero [] h = absurd (omega arith)
kept_cons zero (n ∷ ns) h = refl
kept_cons (suc b) ns h = kept_some b ns

kept_none : (b : ℕ) (ns : List ℕ) → keep_row (ltb 0 b) b ns ≡ [] → (b ≡ 0) × (ns ≡ [])
kept_none zero [] h = (refl, refl)
kept_none zero (n ∷ ns) h = absurd (omega (arith, ap length h))
kept_none (suc b) ns h = absurd (omega (arith, ap length (sym (kept_some b ns) ∙ h)))

rows_cons : (rows j row : ℕ) (vs : List ℤ) (at : ℕ) → row < rows
    → rows_from (rows - row) (j + row) vs at
    ≡ (row_from 7 (7 * (j + row)) vs at >>= (λ x. rows_from (rows - (row + 1)) (j + (row + 1)) vs x.next >>= (λ y. ok (join_rows x y))))
unfolding rows_from
rows_cons rows j row vs at h =
    let m : rows - row ≡ suc (rows - (row + 1)) = omega arith in
    let n : j + row + 1 ≡ j + (row + 1) = omega arith in
    ap (λ x. rows_from x (j + row) vs at) m
    ∙ ap (λ z. row_from 7 (7 * (j + row)) vs at >>= (λ x. rows_from (rows - (row + 1)) z vs x.next >>= (λ y. ok (join_rows x y)))) n

rows_nil : (rows j row : ℕ) (vs : List ℤ) (at : ℕ) → rows ≤ row → rows_from (rows - row) (j + row) vs at ≡ ok (record { numbers = []; octets = []; next = at })
unfolding rows_from
rows_nil rows j row vs at h = let m : rows - row ≡ 0 = omega arith in ap (λ x. rows_from x (j + row) vs at) m

-- no octets without a primary octet
rows_none : (n j : ℕ) (vs : List ℤ) (at : ℕ) (y : Rows) → rows_from n j vs at ≡ ok y → y.numbers ≡ [] → y.octets ≡ []
unfolding rows_from
rows_none zero j vs at y h e = sym (ap (λ z. z.octets) (ok_inj h))
rows_none (suc n) j vs at y h e =
    bind_elim _ _ h λ x ex h₁.
    bind_elim _ _ h₁ λ z ez h₂.
    let d = ok_inj h₂ in
    let (b, m) = kept_none (number x.flags) z.numbers (ap (λ w. w.numbers) d ∙ e) in
    sym (ap (λ w. w.octets) d) ∙ ap₂ ◌++◌ ((row_facts 7 (7 * j) vs at x ex).1.1 b) (rows_none n (j + 1) vs x.next z ez m)

-- what the size of a primary octet's subfields says
row_ok : (i : ℕ) (vs : List ℤ) (k b s n : ℕ) → ok (record { bits = b; size = s; next = n }) ≡ row_size i vs k
    → (x : Row) × (row_from 7 i vs k ≡ ok x) × ((number x.flags ≡ b) × ((length x.octets ≡ s) × (x.next ≡ n)))
unfolding row_size
row_ok i vs k b s n h =
    bind_elim _ _ (sym h) λ x q h₁.
    let d = ok_inj h₁ in
    (x, q, (ap (λ x. x.bits) d, (ap (λ x. x.size) d, ap (λ x. x.next) d)))

row_no : (i : ℕ) (vs : List ℤ) (k : ℕ) {x y : ℕ} → refused x y ≡ row_size i vs k → row_from 7 i vs k ≡ refused x y
unfolding row_size
row_no i vs k h = refused_before _ (row_from 7 i vs k) h

-- ---- the first walk

-- how many primary octets: so many rows so far, so many of them kept, and those that are left
abbrev grown : ℕ → ℕ → List ℕ → ℕ
grown row count [] = count
grown row count (n ∷ ns) = row + length (n ∷ ns)

grown_cons : (row count b : ℕ) (ns : List ℕ) → grown row count (keep_row (ltb 0 b) b ns) ≡ grown (row + 1) (cond (eqb b 0) count (row + 1)) ns
grown_cons row count zero [] = refl
grown_cons row count zero (n ∷ ns) = omega arith
grown_cons row count (suc b) [] = ap (grown row count) (kept_some b []) ∙ sym (ap (λ t. cond t count (row + 1)) (ne_eqb (suc b) 0 (λ (e : suc b ≡ 0). absurd (omega arith))))
grown_cons row count (suc b) (n ∷ ns) = ap (grown row count) (kept_some b (n ∷ ns)) ∙ omega arith

grown_none : (ns : List ℕ) → grown 0 0 ns ≡ length ns
grown_none [] = refl
grown_none (n ∷ ns) = omega arith

abbrev finish : List ℤ → ℕ → ℕ → ℕ → Rows → Answer Parts
finish vs row count size y =
    need leb (length vs) y.next or 11 then need ltb 0 (grown row count y.numbers) or 11 then
    ok (parts (grown row count y.numbers) (grown row count y.numbers + (size + length y.octets)))

primary_long : (ns : List ℕ) → length (primary_octets ns) ≡ length ns
unfolding primary_octets
primary_long [] = refl
primary_long (n ∷ ns) = ap suc (primary_long ns)

pub record Adding (i : ℕ) (vs : List ℤ) (rows first row count size at : ℕ) : Type 0 where
  pub rows_is : rows ≡ (layout_at i).end - (layout_at i).first
  pub first_is : first ≡ (layout_at i).first
  pub few : row ≤ rows
  pub kept : count ≤ row
  pub short : size ≤ 14_287 * row
  pub same : (rows_from (rows - row) (first + row) vs at >>= finish vs row count size) ≡ rows_size i vs

pub adding : (i : ℕ) (vs : List ℤ) {r : LayoutRow} → r ≡ layout_at i → Adding i vs (r.end - r.first) r.first 0 0 0 0
unfolding rows_size all_rows
adding i vs {r} er =
    let a : r.end - r.first - 0 ≡ (layout_at i).end - (layout_at i).first = omega (arith, ap (λ x. x.end) er, ap (λ x. x.first) er) in
    let b : r.first + 0 ≡ (layout_at i).first = omega (arith, ap (λ x. x.first) er) in
    record {
      rows_is = ap (λ x. x.end - x.first) er;
      first_is = ap (λ x. x.first) er;
      few = omega arith;
      kept = omega arith;
      short = omega arith;
      same =
          ap₂ (λ x y. rows_from x y vs 0 >>= finish vs 0 0 0) a b
          ∙ bind_cong (rows_from ((layout_at i).end - (layout_at i).first) (layout_at i).first vs 0) _ _ whole
          ∙ sym (bind_assoc (rows_from ((layout_at i).end - (layout_at i).first) (layout_at i).first vs 0) _ _);
    }
  where
    whole : (y : Rows) → finish vs 0 0 0 y ≡ ((need leb (length vs) y.next or 11 then need ltb 0 (length y.numbers) or 11 then ok y) >>= (λ y. ok (parts (length y.numbers) (length (item_octets y)))))
    whole y =
        let g = grown_none y.numbers in
        let l : length y.numbers + (0 + length y.octets) ≡ length (item_octets y) = omega (arith, length-append (primary_octets y.numbers) y.octets, primary_long y.numbers) in
        ap (λ x. need leb (length vs) y.next or 11 then need ltb 0 x or 11 then ok (parts x (x + (0 + length y.octets)))) g
        ∙ ap (λ x. need leb (length vs) y.next or 11 then need ltb 0 (length y.numbers) or 11 then ok (parts (length y.numbers) x)) l
        ∙ sym (need_bind _ _ _ _ ∙ ap (λ m. need leb (length vs) y.next or 11 then m) (need_bind _ _ _ _ ∙ ap (λ m. need ltb 0 (length y.numbers) or 11 then m) (bind_in _ refl refl)))

module _ (i : ℕ) (vs : List ℤ) (rows first row count size at : ℕ) (c : Adding i vs rows first row count size at) where
  pub adding_in : (layout_at i).kind ≡ Compound → row < rows → 7 * (first + row) + 7 ≤ subfield_count
  adding_in e h = bits_in i first row rows e c.rows_is c.first_is h

  pub rows_few : (layout_at i).kind ≡ Compound → rows ≤ 10_000
  rows_few e = omega (arith, c.rows_is, compound_in i e, subfields_long, sub_many)

  module _ (h : row < rows) where
    -- no values of a subfield
    pub add_no : {x y : ℕ} → refused x y ≡ row_size (7 * (first + row)) vs at → refused x y ≡ rows_size i vs
    add_no d = sym (bind_out _ (rows_cons rows first row vs at h ∙ bind_out _ (row_no (7 * (first + row)) vs at d))) ∙ c.same

    module _ {b x k : ℕ} (d : ok (record { bits = b; size = x; next = k }) ≡ row_size (7 * (first + row)) vs at) where
      pub add_short : size + x ≤ 14_287 * (row + 1)
      add_short =
          let (y, q, r) = row_ok (7 * (first + row)) vs at b x k d in
          omega (arith, c.short, (row_facts 7 (7 * (first + row)) vs at y q).1.0, r.1.0)

      pub add_next : {n : ℕ} → n ≡ cond (eqb b 0) count (row + 1) → Adding i vs rows first (row + 1) n (size + x) k
      unfolding ◌>>=◌
      add_next {n} en =
          let (y, q, r) = row_ok (7 * (first + row)) vs at b x k d in
          record {
            rows_is = c.rows_is;
            first_is = c.first_is;
            few = omega arith;
            kept = kept_few (eqb b 0) en;
            short = add_short;
            same =
                ap (λ z. rows_from (rows - (row + 1)) (first + (row + 1)) vs z >>= finish vs (row + 1) n (size + x)) (sym r.1.1)
                ∙ bind_cong (rows_from (rows - (row + 1)) (first + (row + 1)) vs y.next) _ _
                (λ z.
                let g : grown (row + 1) n z.numbers ≡ grown row count (keep_row (ltb 0 (number y.flags)) (number y.flags) z.numbers) =
                ap (λ w. grown (row + 1) w z.numbers) en ∙ sym (grown_cons row count b z.numbers) ∙ ap (λ w. grown row count (keep_row (ltb 0 w) w z.numbers)) (sym r.0) in
                let l : size + x + length z.octets ≡ size + length (y.octets ++ z.octets) = omega (arith, length-append y.octets z.octets, r.1.0) in
                ap₂ (λ w m. need leb (length vs) z.next or 11 then need ltb 0 w or 11 then ok (parts w (w + m))) g l)
                ∙ sym (bind_assoc (rows_from (rows - (row + 1)) (first + (row + 1)) vs y.next) _ _)
                ∙ sym (ap (λ m. m >>= finish vs row count size) (rows_cons rows first row vs at h ∙ bind_in _ q refl))
                ∙ c.same;
          }
        where
          kept_few : (t : Bool) {n : ℕ} → n ≡ cond t count (row + 1) → n ≤ row + 1
          kept_few true e = omega (arith, c.kept)
          kept_few false e = omega arith

  module _ (h : rows ≤ row) where
    last_is : rows_size i vs ≡ (need leb (length vs) at or 11 then need ltb 0 count or 11 then ok (parts count (count + (size + 0))))
    last_is = sym c.same ∙ bind_in _ (rows_nil rows first row vs at h) refl

    -- a number is left
    pub add_more : at < length vs → refused 11 0 ≡ rows_size i vs
    add_more l = sym (last_is ∙ need_out 11 _ (lt-leb (length vs) at l))

    module _ (l : length vs ≤ at) where
      -- no subfield
      pub add_none : count ≡ 0 → refused 11 0 ≡ rows_size i vs
      add_none z = sym (last_is ∙ need_in _ _ (le→leb (length vs) at l) (need_out 11 _ (le-ltb 0 count (omega arith))))

      pub add_all : (count ≡ 0 → ⊥) → ok (parts count (count + size)) ≡ rows_size i vs
      add_all z =
          let m : size ≡ size + 0 = omega arith in
          ap (λ x. ok (parts count (count + x))) m ∙ sym (last_is ∙ need_in _ _ (le→leb (length vs) at l) (need_in _ _ (lt→ltb 0 count (positive count z)) refl))
        where
          positive : (n : ℕ) → (n ≡ 0 → ⊥) → 0 < n
          positive zero z = absurd (z refl)
          positive (suc n) z = omega arith

-- ---- two stores

-- one before the other
set_sets : (l : List ℕ) (i : ℕ) (a : ℕ) (j : ℕ) (vs : List ℕ) → i < j → sets (set l i a) j vs ≡ set (sets l j vs) i a
set_sets l i a j [] h = refl
set_sets l i a j (v ∷ vs) h =
    ap (λ x. sets x (suc j) vs) (set_comm l i j a v (λ e. absurd (omega arith))) ∙ set_sets (set l j v) i a (suc j) vs (omega arith)

sets_swap : (us l : List ℕ) (i j : ℕ) (vs : List ℕ) → i + length us ≤ j → sets (sets l j vs) i us ≡ sets (sets l i us) j vs
sets_swap [] l i j vs h = refl
sets_swap (u ∷ us) l i j vs h =
    ap (λ x. sets x (suc i) us) (sym (set_sets l i u j vs (omega arith))) ∙ sets_swap us (set l i u) (suc i) j vs (omega arith)

-- ---- the second walk: the subfields that are left, laid where the next one goes, and then the primary octets that are left make the output that is to be

pub record Filling (i : ℕ) (vs : List ℤ) (count : ℕ) (out₀ : List ℕ) (first : ℕ) (out : List ℕ) (row at q : ℕ) : Type 0 where
  pub first_is : first ≡ (layout_at i).first
  pub few : row ≤ count
  pub rest : Rows
  pub left : rows_from ((layout_at i).end - (layout_at i).first - row) (first + row) vs at ≡ ok rest
  pub many : row + length rest.numbers ≡ count
  pub behind : count ≤ q
  pub long : length out ≡ length out₀
  pub room : q + length rest.octets ≤ length out₀
  pub same : sets (sets out q rest.octets) row (primary_octets rest.numbers) ≡ sets out₀ 0 (compound_octets i vs)

-- what the size of the item says
pub record Whole (i : ℕ) (vs : List ℤ) (count : ℕ) : Type 0 where
  pub rows : Rows
  pub passes : all_rows i vs ≡ ok rows
  pub from : rows_from ((layout_at i).end - (layout_at i).first) (layout_at i).first vs 0 ≡ ok rows
  pub count_is : length rows.numbers ≡ count
  pub octets_are : compound_octets i vs ≡ item_octets rows

pub whole : (i : ℕ) (vs : List ℤ) (k s : ℕ) → rows_size i vs ≡ ok (parts k s) → Whole i vs k × (s ≡ length (compound_octets i vs))
unfolding rows_size all_rows compound_octets compound_at
whole i vs k s h =
    bind_elim _ _ h λ y p h₁.
    bind_elim _ _ p λ z q h₂.
    need_elim _ _ _ h₂ λ t h₃.
    need_elim _ _ _ h₃ λ u h₄.
    let d = ok_inj h₁ in
    let o : compound_octets i vs ≡ item_octets y = octets_of-ok (bind_in _ p refl) in (
      record { rows = y; passes = p; from = q ∙ h₄; count_is = ap (λ x. x.count) d; octets_are = o },
      sym (ap (λ x. x.size) d) ∙ sym (ap length o),
    )

pub filling : (i : ℕ) (vs : List ℤ) (count : ℕ) (out : List ℕ) {r : LayoutRow} → r ≡ layout_at i → rows_size i vs ≡ ok (parts count (length (compound_octets i vs)))
    → length (compound_octets i vs) ≤ length out → Filling i vs count out r.first out 0 0 count
filling i vs count out {r} er h l =
    let w : Whole i vs count = (whole i vs count (length (compound_octets i vs)) h).0 in
    let a : (layout_at i).end - (layout_at i).first - 0 ≡ (layout_at i).end - (layout_at i).first = omega arith in
    let b : r.first + 0 ≡ (layout_at i).first = omega (arith, ap (λ x. x.first) er) in
    let p = primary_long w.rows.numbers in
    let z : 0 + length (primary_octets w.rows.numbers) ≡ count = omega (arith, w.count_is) in
    record {
      first_is = ap (λ x. x.first) er;
      few = omega arith;
      rest = w.rows;
      left = ap₂ (λ x y. rows_from x y vs 0) a b ∙ w.from;
      many = omega (arith, w.count_is);
      behind = omega arith;
      long = refl;
      room = omega (arith, ap length w.octets_are, length-append (primary_octets w.rows.numbers) w.rows.octets, w.count_is);
      same =
          sets_swap (primary_octets w.rows.numbers) out 0 count w.rows.octets (omega arith)
          ∙ ap (λ x. sets (sets out 0 (primary_octets w.rows.numbers)) x w.rows.octets) (sym z)
          ∙ sym (sets_append (primary_octets w.rows.numbers) w.rows.octets out 0)
          ∙ ap (sets out 0) (sym w.octets_are);
    }

one_octet : (n : ℕ) → octets 1 n ≡ n ∷ []
unfolding octets
one_octet n = ap (λ x. x ∷ []) (div-one n)

-- what laying a primary octet and its subfields asks, and what is then left
pub record Filled (i : ℕ) (vs : List ℤ) (count : ℕ) (out₀ : List ℕ) (first : ℕ) (out : List ℕ) (row at q : ℕ) : Type 0 where
  pub inside : row < (layout_at i).end - (layout_at i).first
  pub passes : row_from 7 (7 * (first + row)) vs at ≡ ok (row_of (row_from 7 (7 * (first + row)) vs at))
  pub fit : q + length (row_of (row_from 7 (7 * (first + row)) vs at)).octets ≤ length out
  pub small : number (row_of (row_from 7 (7 * (first + row)) vs at)).flags < 2 ^ 7
  pub place : row + 1 ≤ length out
  pub next : {b k q' m : ℕ} {out₁ out₂ : List ℕ} → out₁ ≡ sets out q (row_of (row_from 7 (7 * (first + row)) vs at)).octets
      → (b ≡ number (row_of (row_from 7 (7 * (first + row)) vs at)).flags)
      × ((k ≡ (row_of (row_from 7 (7 * (first + row)) vs at)).next) × (q' ≡ q + length (row_of (row_from 7 (7 * (first + row)) vs at)).octets))
      → m ≡ marked true (ltb (row + 1) count) b → out₂ ≡ sets out₁ row (octets 1 m) → Filling i vs count out₀ first out₂ (row + 1) k q'

module _ (i : ℕ) (vs : List ℤ) (count : ℕ) (out₀ : List ℕ) (first : ℕ) (out : List ℕ) (row at q : ℕ) (c : Filling i vs count out₀ first out row at q) where
  -- all primary octets are laid
  pub fill_all : count ≤ row → out ≡ sets out₀ 0 (compound_octets i vs)
  unfolding primary_octets
  fill_all h =
      let z : c.rest.numbers ≡ [] = nil_of_length c.rest.numbers (omega (arith, c.many)) in
      let o : c.rest.octets ≡ [] = rows_none _ _ vs at c.rest c.left z in
      sym (ap₂ (λ x y. sets (sets out q x) row (primary_octets y)) o z) ∙ c.same

  module _ (h : row < count) where
    inside_rows : row < (layout_at i).end - (layout_at i).first
    inside_rows = go (ltb row ((layout_at i).end - (layout_at i).first)) refl
      where
        go : (t : Bool) → ltb row ((layout_at i).end - (layout_at i).first) ≡ t → row < (layout_at i).end - (layout_at i).first
        go true e = ltb-true _ _ e
        go false e =
            let z : c.rest.numbers ≡ [] = ap (λ y. y.numbers) (ok_inj (sym c.left ∙ rows_nil _ first row vs at (ltb-false row ((layout_at i).end - (layout_at i).first) e))) in
            absurd (omega (arith, ap length z, c.many))

    -- the primary octet at the row, and those after it
    module _ (x : Row) (y : Rows) (ex : row_from 7 (7 * (first + row)) vs at ≡ ok x)
        (ey : rows_from ((layout_at i).end - (layout_at i).first - (row + 1)) (first + (row + 1)) vs x.next ≡ ok y)
        (er : c.rest ≡ join_rows x y) where
      of : row_of (row_from 7 (7 * (first + row)) vs at) ≡ x
      of = ap row_of ex

      numbers_are : c.rest.numbers ≡ number x.flags ∷ y.numbers
      numbers_are =
          let e = ap (λ z. z.numbers) er in
          e ∙ kept_cons (number x.flags) y.numbers (omega (arith, ap length e, c.many))

      both_long : length c.rest.octets ≡ length x.octets + length y.octets
      both_long = ap (λ z. length z.octets) er ∙ length-append x.octets y.octets

      count_is : row + suc (length y.numbers) ≡ count
      count_is = subst (λ z. row + length z ≡ count) numbers_are c.many

      fill_one : Filled i vs count out₀ first out row at q
      unfolding primary_octets
      fill_one =
          record {
            inside = inside_rows;
            passes = row_of_ok ex;
            fit = omega (arith, c.room, c.long, both_long, ap (λ z. length z.octets) of);
            small = subst (λ z. number z.flags < 2 ^ 7) (sym of) (subst (λ n. number x.flags < 2 ^ n) (row_facts 7 (7 * (first + row)) vs at x ex).0 (number_lt x.flags));
            place = omega (arith, c.room, c.long, c.behind);
            next = λ {b} {k} {q'} {m} {out₁} {out₂} eo et em eu.
                let o : out₁ ≡ sets out q x.octets = eo ∙ ap (λ z. sets out q z.octets) of in
                let b_is : b ≡ number x.flags = et.0 ∙ ap (λ z. number z.flags) of in
                let k-is : k ≡ x.next = et.1.0 ∙ ap (λ z. z.next) of in
                let q-is : q' ≡ q + length x.octets = et.1.1 ∙ ap (λ z. q + length z.octets) of in
                let m-is : m ≡ marked true (ltb 0 (length y.numbers)) (number x.flags) =
                em ∙ ap₂ (λ t z. marked true t z) (ap (ltb (row + 1)) (sym count_is) ∙ more_is row (length y.numbers)) b_is in
                let u : out₂ ≡ set (sets out q x.octets) row m = eu ∙ ap₂ (λ z w. sets z row w) o (one_octet m) in
                record {
                  first_is = c.first_is;
                  few = omega arith;
                  rest = y;
                  left = ap (rows_from ((layout_at i).end - (layout_at i).first - (row + 1)) (first + (row + 1)) vs) k-is ∙ ey;
                  many = omega (arith, count_is);
                  behind = omega (arith, c.behind);
                  long = ap length u ∙ length-set (sets out q x.octets) row m ∙ length-sets out q x.octets ∙ c.long;
                  room = omega (arith, c.room, both_long);
                  same =
                      ap₂ (λ z w. sets (sets z w y.octets) (row + 1) (primary_octets y.numbers)) u q-is
                      ∙ ap (λ z. sets z (row + 1) (primary_octets y.numbers)) (set_sets (sets out q x.octets) row m (q + length x.octets) y.octets (omega (arith, c.behind)))
                      ∙ ap₂ (λ z w. sets (set (sets (sets out q x.octets) (q + length x.octets) y.octets) row w) z (primary_octets y.numbers)) (add-one row) m-is
                      ∙ ap (λ z. sets z row (primary_octets (number x.flags ∷ y.numbers))) (sym (sets_append x.octets y.octets out q))
                      ∙ sym (ap₂ (λ z w. sets (sets out q z) row (primary_octets w)) (ap (λ z. z.octets) er) numbers_are)
                      ∙ c.same;
                };
          }

    pub fill : Filled i vs count out₀ first out row at q
    fill =
        bind_elim _ _ (sym (rows_cons ((layout_at i).end - (layout_at i).first) first row vs at inside_rows) ∙ c.left) λ x ex h₁.
        bind_elim _ _ h₁ λ y ey h₂.
        fill_one x y ex ey (sym (ok_inj h₂))

    pub fill_in : (layout_at i).kind ≡ Compound → 7 * (first + row) + 7 ≤ subfield_count
    fill_in e = bits_in i first row ((layout_at i).end - (layout_at i).first) e refl c.first_is inside_rows

    -- the primary octet fits an octet
    pub fill_fits : (t : Bool) {b : ℕ} → b ≡ number (row_of (row_from 7 (7 * (first + row)) vs at)).flags → marked true t b < 256
    fill_fits t {b} e = marked_lt true t 7 b (subst (λ x. x < 2 ^ 7) (sym e) fill.small)

    pub fill_place : {out₁ : List ℕ} → out₁ ≡ sets out q (row_of (row_from 7 (7 * (first + row)) vs at)).octets → row + 1 ≤ length out₁
    fill_place e = omega (arith, fill.place, ap length e, length-sets out q (row_of (row_from 7 (7 * (first + row)) vs at)).octets)
