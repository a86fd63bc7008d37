-- Where the values of a subfield stand, by what the code tested of its row and of the list.
--
-- In order: the rows of subfields; so many parts; the tests; the values that were found. Assumes nothing.
use Rattle.tables.specs.declared.tables.Kind.TheVariants.{NoItem, Fixed, Repeated, Led, Extended, Compound}
use Rattle.tables.specs.declared.tables.Kind.{Kind}
use Rattle.tables.specs.Tables.{kind_digit}
use Prim.Native.Nat.{ℕ, ◌+◌, ◌-◌, ◌*◌, ◌<◌, ◌≤◌}
use mathlib.Core.Path.{◌≡◌, refl, sym, ap, ap₂, ◌∙◌, subst}
use mathlib.Core.Bool.{Bool, true, false, ◌&&◌, true≢false, false≢true}
use mathlib.Core.Logic.{◌⊎◌, inl, inr, ⊎_elim}
use mathlib.Core.Option.{none, some}
use mathlib.Core.List.{List}
use native.Mathlib.Omega.{arith}
use native.Mathlib.Nat.{not-suc-le-zero, mul-le-mul, le_of_lt}
use borrow.Author.Tests.{lt-leb, le-ltb, ltb-true}
use lib.Dec.{T, ltb, eqb, le→leb, lt→ltb, leb→le, ltb→lt, eqb→eq}
use lib.IntN.{ℤ, pos, negsuc}
use lib.ListN.{length, get_or}
use lib.Signed.{lt_z, mag}
use mir.Syntax.{w64}
use mir.Val.{to_z, of_z, SFits}
use mir.ValLaws.{to_z-of_z}
use Rattle.rules.specs.Answer.{Answer, ok, refused}
use Rattle.rules.specs.Field.{arity}
use Rattle.rules.specs.Format.{Format, fixed, repeated}
use Rattle.rules.specs.FieldList.{is_absent}
use Rattle.rules.specs.Catalogue.{categories}
use Rattle.rules.proofs.AnswerLaws.{refused_ok, ok_inj, need_in, need_out, need_elim, if_true, if_false, if_inv}
use Rattle.tables.specs.declared.tables.LayoutRow.{LayoutRow}
use Rattle.tables.specs.declared.tables.GroupRow.{GroupRow}
use Rattle.tables.specs.Tables.{group_count, fields, groups, layouts, group_rows, no_group_row, group_at, group_is, layout_at, format_by, format_is}
use Rattle.writing.specs.Write.{group_in}
use Rattle.writing.specs.Compound.{Spanned, spanned, span_to, sub_span, span_from}
use Rattle.writing.proofs.Sound.{every, every_at, both}
use Rattle.writing.proofs.TableLaws.{layout_row_is}

-- ---- the rows of subfields

abbrev values_test : GroupRow → Bool
values_test r = eqb r.values (arity (group_is r).fields) && ltb r.values 100

rows_valued : T (every values_test (group_rows 0 groups))
unfolding fields groups layouts categories
rows_valued = tt

pub group_values : (j : ℕ) → ((group_at j).values ≡ arity (group_in j).fields) × ((group_at j).values < 100)
unfolding group_at group_in fields groups layouts categories
group_values j =
    let (p, q) = both (eqb (group_at j).values (arity (group_is (group_at j)).fields)) (ltb (group_at j).values 100) (every_at values_test (group_rows 0 groups) no_group_row rows_valued tt j) in
    (eqb→eq _ _ p, ltb→lt _ _ q)

pub values_few : (j : ℕ) {g : GroupRow} → g ≡ group_at j → g.values < 100
values_few j eg = omega (arith, ap (λ x. x.values) eg, (group_values j).1)

-- the group of its parts is in the table
pub first_in : (i : ℕ) {r : LayoutRow} → r ≡ layout_at i → r.first < group_count
first_in i er = subst (λ x. x.first < group_count) (sym er) (layout_row_is i).first

-- the format of a row of kind 1, and of kind 2
row_none_lem : (r : LayoutRow) → r.kind ≡ NoItem → format_is r ≡ none
unfolding format_is format_by
row_none_lem r e = rw e

row_fixed : (r : LayoutRow) → r.kind ≡ Fixed → format_is r ≡ some (fixed (group_in r.first))
unfolding format_is format_by group_in
row_fixed r e = rw e

row_list : (r : LayoutRow) → r.kind ≡ Repeated → format_is r ≡ some (repeated r.least r.most (group_in r.first))
unfolding format_is format_by group_in
row_list r e = rw e

-- a subfield's row: none, one part, or a list
pub data SubRow (r : LayoutRow) : Type 0 where
  no_sub : r.kind ≡ NoItem → format_is r ≡ none → SubRow r
  one_sub : r.kind ≡ Fixed → format_is r ≡ some (fixed (group_in r.first)) → SubRow r
  list_sub : r.kind ≡ Repeated → format_is r ≡ some (repeated r.least r.most (group_in r.first)) → SubRow r

pub sub_row : (r : LayoutRow) → kind_digit r.kind ≤ 2 → SubRow r
sub_row r h = go r.kind refl h
  where
    go : (k : Kind) → r.kind ≡ k → kind_digit k ≤ 2 → SubRow r
    go NoItem e l = no_sub e (row_none_lem r e)
    go Fixed e l = one_sub e (row_fixed r e)
    go Repeated e l = list_sub e (row_list r e)
    go Led e l = absurd (omega arith)
    go Extended e l = absurd (omega arith)
    go Compound e l = absurd (omega arith)

-- ---- so many parts

pub span_over : (have first count values : ℕ) → first ≤ have → have - first < count * values → refused 11 0 ≡ span_to have first count values
unfolding span_to
span_over have first count values h l = sym (need_out 11 _ (lt-leb (first + count * values) have (omega arith)))

pub span_within : (have first count values : ℕ) → first ≤ have → count * values ≤ have - first
    → ok (spanned true first (first + count * values) count) ≡ span_to have first count values
unfolding span_to
span_within have first count values h l = sym (need_in _ _ (le→leb (first + count * values) have (omega arith)) refl)

pub used_few : (count values : ℕ) → count ≤ 255 → values < 100 → count * values ≤ 25_500
used_few count values h l = mul-le-mul h (le_of_lt l)

-- ---- the tests

module _ (i : ℕ) (vs : List ℤ) (at : ℕ) {r : LayoutRow} (er : r ≡ layout_at i) where
  pub most_few : r.most ≤ 255
  most_few = omega (arith, ap (λ x. x.most) er, (layout_row_is i).most, (layout_row_is i).sound.few)

  pub span_none : r.kind ≡ NoItem → ok (spanned false at at 0) ≡ span_from (format_is (layout_at i)) vs at
  unfolding span_from
  span_none e = sym (ap (λ o. span_from o vs at) (row_none_lem (layout_at i) (sym (ap (λ x. x.kind) er) ∙ e)))

  module _ (few : kind_digit (layout_at i).kind ≤ 2) (ne : r.kind ≡ NoItem → ⊥) where
    -- there is a format
    formatted : {C : Type 0} → ((s : Format) → format_is (layout_at i) ≡ some s → C) → C
    formatted {C} k = go (sub_row (layout_at i) few)
      where
        go : SubRow (layout_at i) → C
        go (no_sub e f) = absurd (ne (ap (λ x. x.kind) er ∙ e))
        go (one_sub e f) = k _ f
        go (list_sub e f) = k _ f

    pub span_short : length vs ≤ at → refused 11 0 ≡ span_from (format_is (layout_at i)) vs at
    unfolding span_from
    span_short l = formatted λ s f. sym (ap (λ o. span_from o vs at) f ∙ need_out 11 _ (le-ltb at (length vs) l))

    module _ (l : at < length vs) where
      pub span_absent : is_absent (get_or vs at (pos 0)) ≡ true → ok (spanned false (at + 1) (at + 1) 0) ≡ span_from (format_is (layout_at i)) vs at
      unfolding span_from
      span_absent e = formatted λ s f. sym (ap (λ o. span_from o vs at) f ∙ need_in _ _ (lt→ltb at (length vs) l) (if_true _ e refl))

      module _ (a : is_absent (get_or vs at (pos 0)) ≡ false) where
        span_there : (s : Format) → format_is (layout_at i) ≡ some s → sub_span s (get_or vs at (pos 0)) (length vs) at ≡ span_from (format_is (layout_at i)) vs at
        unfolding span_from
        span_there s f = sym (ap (λ o. span_from o vs at) f ∙ need_in _ _ (lt→ltb at (length vs) l) (if_false _ a refl))

        module _ {g : GroupRow} (eg : g ≡ group_at r.first) where
          values_are : g.values ≡ arity (group_in (layout_at i).first).fields
          values_are = ap (λ x. x.values) eg ∙ ap (λ x. (group_at x.first).values) er ∙ (group_values (layout_at i).first).0

          pub span_fixed : {m : Answer Spanned} → r.kind ≡ Fixed → m ≡ span_to (length vs) at 1 g.values → m ≡ span_from (format_is (layout_at i)) vs at
          span_fixed e d = d ∙ ap (span_to (length vs) at 1) values_are ∙ span_there _ (row_fixed (layout_at i) (sym (ap (λ x. x.kind) er) ∙ e))

          module _ (ne₁ : r.kind ≡ Fixed → ⊥) where
            is_list : format_is (layout_at i) ≡ some (repeated (layout_at i).least (layout_at i).most (group_in (layout_at i).first))
            is_list = go (sub_row (layout_at i) few)
              where
                go : SubRow (layout_at i) → format_is (layout_at i) ≡ some (repeated (layout_at i).least (layout_at i).most (group_in (layout_at i).first))
                go (no_sub e f) = absurd (ne (ap (λ x. x.kind) er ∙ e))
                go (one_sub e f) = absurd (ne₁ (ap (λ x. x.kind) er ∙ e))
                go (list_sub e f) = f

            list_there : (z : ℤ) → get_or vs at (pos 0) ≡ z → sub_span (repeated (layout_at i).least (layout_at i).most (group_in (layout_at i).first)) z (length vs) at ≡ span_from (format_is (layout_at i)) vs at
            list_there z e = ap (λ x. sub_span (repeated (layout_at i).least (layout_at i).most (group_in (layout_at i).first)) x (length vs) at) (sym e) ∙ span_there _ is_list

            module _ (fits : SFits w64 (get_or vs at (pos 0))) where
              pub span_minus : lt_z (to_z w64 (of_z w64 (get_or vs at (pos 0)))) (pos 0) ≡ true → refused 11 0 ≡ span_from (format_is (layout_at i)) vs at
              span_minus t = go (get_or vs at (pos 0)) refl (ap (λ x. lt_z x (pos 0)) (sym (to_z-of_z w64 (get_or vs at (pos 0)) fits)) ∙ t)
                where
                  go : (z : ℤ) → get_or vs at (pos 0) ≡ z → lt_z z (pos 0) ≡ true → refused 11 0 ≡ span_from (format_is (layout_at i)) vs at
                  go (pos n) e t = absurd (not-suc-le-zero (ltb-true n 0 t))
                  go (negsuc n) e t = list_there (negsuc n) e

              module _ (t : lt_z (to_z w64 (of_z w64 (get_or vs at (pos 0)))) (pos 0) ≡ false) {c : ℕ} (ec : c ≡ mag (to_z w64 (of_z w64 (get_or vs at (pos 0))))) where
                counted : get_or vs at (pos 0) ≡ pos c
                counted = go (get_or vs at (pos 0)) refl (ap (λ x. lt_z x (pos 0)) (sym (to_z-of_z w64 (get_or vs at (pos 0)) fits)) ∙ t) (ec ∙ ap mag (to_z-of_z w64 (get_or vs at (pos 0)) fits))
                  where
                    go : (z : ℤ) → get_or vs at (pos 0) ≡ z → lt_z z (pos 0) ≡ false → c ≡ mag z → z ≡ pos c
                    go (pos n) e t d = ap pos (sym d)
                    go (negsuc n) e t d = absurd (true≢false t)

                pub span_many : r.most < c → refused 11 0 ≡ span_from (format_is (layout_at i)) vs at
                span_many l = sym (need_out 11 _ (lt-leb c (layout_at i).most (omega (arith, ap (λ x. x.most) er)))) ∙ list_there (pos c) counted

                pub span_list : {m : Answer Spanned} → c ≤ r.most → m ≡ span_to (length vs) (at + 1) c g.values → m ≡ span_from (format_is (layout_at i)) vs at
                span_list l d =
                    d ∙ ap (span_to (length vs) (at + 1) c) values_are
                    ∙ sym (need_in _ _ (le→leb c (layout_at i).most (omega (arith, ap (λ x. x.most) er))) refl) ∙ list_there (pos c) counted

-- ---- the values that were found

to_inside : (have first count values a e c : ℕ) → span_to have first count values ≡ ok (spanned true a e c) → (a ≡ first) × ((e ≡ first + count * values) × ((c ≡ count) × (e ≤ have)))
unfolding span_to
to_inside have first count values a e c h =
    need_elim _ _ _ h λ t h₁.
    let d = ok_inj h₁ in
    let x : first + count * values ≡ e = ap (λ s. s.end) d in
    (sym (ap (λ s. s.first) d), (sym x, (sym (ap (λ s. s.count) d), omega (arith, leb→le (first + count * values) have t))))

-- a subfield that is there: its values are so many parts, of a group, of which there may be so many, and they stand in the list from a place on
pub record There (i : ℕ) (vs : List ℤ) (at a e c : ℕ) : Type 0 where
  pub here : at < length vs
  pub value : is_absent (get_or vs at (pos 0)) ≡ false
  pub end_is : e ≡ a + c * arity (group_in (layout_at i).first).fields
  pub inside : e ≤ length vs
  pub kind : ((a ≡ at) × ((c ≡ 1) × (format_is (layout_at i) ≡ some (fixed (group_in (layout_at i).first)))))
      ⊎ ((a ≡ at + 1) × ((c ≤ (layout_at i).most) × ((get_or vs at (pos 0) ≡ pos c) × (format_is (layout_at i) ≡ some (repeated (layout_at i).least (layout_at i).most (group_in (layout_at i).first))))))

pub there : (i : ℕ) (vs : List ℤ) (at a e c : ℕ) → kind_digit (layout_at i).kind ≤ 2 → span_from (format_is (layout_at i)) vs at ≡ ok (spanned true a e c) → There i vs at a e c
unfolding span_from
there i vs at a e c few h = go (sub_row (layout_at i) few)
  where
    -- the tests on the way
    tested : (s : Format) → format_is (layout_at i) ≡ some s → (at < length vs → is_absent (get_or vs at (pos 0)) ≡ false → sub_span s (get_or vs at (pos 0)) (length vs) at ≡ ok (spanned true a e c) → There i vs at a e c) → There i vs at a e c
    tested s f k =
        need_elim _ _ _ (sym (ap (λ o. span_from o vs at) f) ∙ h) λ t h₁.
        ⊎_elim
        (λ (y, h₂). absurd (false≢true (ap (λ s. s.there) (ok_inj h₂))))
        (λ (y, h₂). k (ltb→lt at (length vs) t) y h₂)
        (if_inv _ _ _ h₁)

    listed : (z : ℤ) → get_or vs at (pos 0) ≡ z → at < length vs → is_absent (get_or vs at (pos 0)) ≡ false
        → format_is (layout_at i) ≡ some (repeated (layout_at i).least (layout_at i).most (group_in (layout_at i).first))
        → sub_span (repeated (layout_at i).least (layout_at i).most (group_in (layout_at i).first)) z (length vs) at ≡ ok (spanned true a e c) → There i vs at a e c
    listed (pos n) d l y f h₁ =
        need_elim _ _ _ h₁ λ t h₂.
        let (p, q) = to_inside (length vs) (at + 1) n (arity (group_in (layout_at i).first).fields) a e c h₂ in
        let n-is : n ≡ c = sym q.1.0 in
        record {
          here = l;
          value = y;
          end_is = q.0 ∙ ap₂ (λ x m. x + m * arity (group_in (layout_at i).first).fields) (sym p) n-is;
          inside = q.1.1;
          kind = inr (p, (omega (arith, leb→le n (layout_at i).most t), (d ∙ ap pos n-is, f)));
        }
    listed (negsuc n) d l y f h₁ = refused_ok h₁

    go : SubRow (layout_at i) → There i vs at a e c
    go (no_sub d f) = absurd (false≢true (ap (λ s. s.there) (ok_inj (sym (ap (λ o. span_from o vs at) f) ∙ h))))
    go (one_sub d f) = tested _ f λ l y h₂.
        let (p, q) = to_inside (length vs) at 1 (arity (group_in (layout_at i).first).fields) a e c h₂ in
        record {
          here = l;
          value = y;
          end_is = q.0 ∙ ap₂ (λ x m. x + m * arity (group_in (layout_at i).first).fields) (sym p) (sym q.1.0);
          inside = q.1.1;
          kind = inl (p, (q.1.0, f));
        }
    go (list_sub d f) = tested _ f λ l y h₂. listed (get_or vs at (pos 0)) refl l y f h₂
