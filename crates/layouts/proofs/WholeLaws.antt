-- The shape of an item whose fields are legal is its rule: its shape, then its fields unless they are free.
--
-- In order: free groups; shapes with legal fields. Assumes nothing.
use Prim.Native.Nat.{ℕ, zero, suc, ◌+◌, ◌-◌, ◌/◌, ◌%◌, ◌<◌, ◌≤◌, ◌^◌}
use mathlib.Core.Path.{◌≡◌, refl, sym, ap, ◌∙◌, subst}
use mathlib.Core.Bool.{Bool, true, false, ◌&&◌}
use mathlib.Core.List.{List, [], ◌∷◌, map}
use native.Mathlib.Omega.{arith}
use native.Mathlib.Nat.{add-zero, mod-lt}
use lib.Dec.{ltb, eqb, leb-zero, lit≤}
use lib.IntN.{pos}
use lib.Signed.{le_z}
use lib.ListN.{length, drop, length-drop}
use lib.Pow.{pow_pos, shr_lt}
use borrow.Author.Tests.{le-leb, lt-ltb, ltb-true, ltb-false, eqb-true}
use Rattle.rules.specs.Answer.{ok, refused, ◌>>=◌}
use Rattle.rules.specs.Field.{Field, spare, value, unsigned, signed, bits, half}
use Rattle.rules.proofs.AnswerLaws.{Octets, both_left, both_right, refused_ok, bind_elim, octets_drop}
use Rattle.tables.specs.declared.tables.Kind.{Kind}
use Rattle.tables.specs.declared.tables.Kind.TheVariants.{NoItem, Fixed, Repeated, Led, Extended, Compound}
use Rattle.tables.specs.declared.tables.LayoutRow.{LayoutRow}
use Rattle.tables.specs.Tables.{group_count, field_row, minus, is_free, group_at}
use Rattle.tables.proofs.TableLaws.{fields_at, group_free}
use Rattle.layouts.specs.Read.{rows_at, part_at, twos_of, value_of, within, legal, span, part_sound, parts_sound, parts_legal, fault_at, need◌or◌further◌then◌, Shaped, head_of, step_of, run_of, run_legal, run_fault, run_sound, shape_of, whole_of, row_sound}
use Rattle.layouts.proofs.FieldCodes.{Wide, width_bits, low_minus, low_neg, twice}
use Rattle.layouts.proofs.PartLaws.{PartSound, part_sound_lem}
use Rattle.layouts.proofs.ReadLaws.{further_elim, rows_map, wide_slice, part_small, Fitting, fitting}
use Rattle.layouts.proofs.ShapeLaws.{rowed, Grouped, fixed_group, list_group, led_group, no_shape, no_parts}

-- ---- free groups

-- any code is within the range of a free field
pub free_unsigned : (w lo hi c : ℕ) → lo ≡ 0 → suc hi ≡ 2 ^ w → c < 2 ^ w → within (field_row (value w (unsigned lo hi))) (value_of (field_row (value w (unsigned lo hi))) c) ≡ true
unfolding within value_of
free_unsigned w lo hi c a b h = rw (a, leb-zero c) (le-leb c hi (omega arith))

pub free_signed : (w lo hi c : ℕ) → 1 ≤ w → lo ≡ half w → suc hi ≡ half w → c < 2 ^ w → within (field_row (value w (signed lo hi))) (value_of (field_row (value w (signed lo hi))) c) ≡ true
unfolding within value_of twos_of
free_signed w lo hi c o a b h = go (ltb c (half w)) refl
  where
    go : (t : Bool) → ltb c (half w) ≡ t → le_z (minus lo) (twos_of w c) && le_z (twos_of w c) (pos hi) ≡ true
    go true e = let k : c < half w = ltb-true c (half w) e in rw (e, low_minus lo c) (le-leb c hi (omega arith))
    go false e =
        let k : half w ≤ c = ltb-false c (half w) e in
        rw (e, low_neg lo (2 ^ w - suc c)) (rw (lt-ltb (2 ^ w - suc c) lo (omega (arith, twice w o))))

free_legal : (fs : List Field) (n : ℕ) → Wide fs → is_free fs ≡ true → n < 2 ^ bits fs → legal (map field_row fs) n ≡ true
free_legal [] n w f h = refl
free_legal (spare k ∷ fs) n w f h = let z : ◌≡◌ {A = ℕ} 0 1 = cc in absurd (omega arith)
free_legal (value k (unsigned lo hi) ∷ fs) n w f h =
    let u = both_left (eqb lo 0 && eqb (suc hi) (2 ^ k)) (is_free fs) f in
    rw (width_bits fs, free_unsigned k lo hi (n / 2 ^ bits fs) (eqb-true _ _ (both_left (eqb lo 0) _ u)) (eqb-true _ _ (both_right (eqb lo 0) _ u)) (shr_lt k (bits fs) h))
    (free_legal fs (n % 2 ^ bits fs) w.1 (both_right (eqb lo 0 && eqb (suc hi) (2 ^ k)) (is_free fs) f) (mod-lt n (pow_pos (bits fs))))
free_legal (value k (signed lo hi) ∷ fs) n w f h =
    let u = both_left (eqb lo (half k) && eqb (suc hi) (half k)) (is_free fs) f in
    rw (width_bits fs, free_signed k lo hi (n / 2 ^ bits fs) w.0 (eqb-true _ _ (both_left (eqb lo (half k)) _ u)) (eqb-true _ _ (both_right (eqb lo (half k)) _ u)) (shr_lt k (bits fs) h))
    (free_legal fs (n % 2 ^ bits fs) w.1 (both_right (eqb lo (half k) && eqb (suc hi) (half k)) (is_free fs) f) (mod-lt n (pow_pos (bits fs))))

free_part : (g : ℕ) (bs : List ℕ) → Octets bs → PartSound 0 (group_at g) → (group_at g).octets ≤ length bs → is_free (fields_at g) ≡ true → legal (rows_at g) (part_at 0 g bs) ≡ true
free_part g bs o s h f =
    rw (rows_map (group_at g).first (group_at g).end) (free_legal (fields_at g) (part_at 0 g bs) (wide_slice (group_at g).first (group_at g).end) f (part_small 0 g bs o s h))

free_parts : (g c : ℕ) (bs : List ℕ) → Octets bs → parts_sound 0 g c ≡ true → span 0 g c ≤ length bs → is_free (fields_at g) ≡ true → parts_legal 0 g c bs ≡ true
unfolding parts_sound span parts_legal
free_parts g zero bs o s h f = refl
free_parts g (suc c) bs o s h f =
    let a = ltb g group_count in
    let b = part_sound 0 (group_at g) in
    let d = parts_sound 0 (g + 0) c in
    let p : PartSound 0 (group_at g) = part_sound_lem 0 (group_at g) (both_right a b (both_left (a && b) d s)) in
    let r : parts_sound 0 g c ≡ true = subst (λ x. parts_sound 0 x c ≡ true) (add-zero g) (both_right (a && b) d s) in
    let k : span 0 (g + 0) c ≡ span 0 g c = ap (λ x. span 0 x c) (add-zero g) in
    rw (free_part g bs o p (omega arith) f, add-zero g)
    (free_parts g c (drop (group_at g).octets bs) (octets_drop (group_at g).octets bs o) r (omega (arith, length-drop (group_at g).octets bs)) f)

-- ---- shapes with legal fields

-- parts that have no FX bit share one group
pub one_group : (k : Kind) → ¬ (k ≡ Extended) → step_of k ≡ 0
one_group NoItem h = refl
one_group Fixed h = refl
one_group Repeated h = refl
one_group Led h = refl
one_group Extended h = absurd (h refl)
one_group Compound h = refl

other_kind : (k : Kind) → step_of k ≡ 0 → ¬ (k ≡ Extended)
other_kind k h e = let z : ◌≡◌ {A = ℕ} 1 0 = sym (ap step_of e) ∙ h in absurd (omega arith)

pub step_small : (k : Kind) → step_of k ≤ 1
step_small NoItem = lit≤ tt
step_small Fixed = lit≤ tt
step_small Repeated = lit≤ tt
step_small Led = lit≤ tt
step_small Extended = lit≤ tt
step_small Compound = lit≤ tt

module _ (l : LayoutRow) (bs : List ℕ) where
  pub whole_stopped : (n p : ℕ) → shape_of l bs ≡ refused n p → whole_of l bs ≡ refused n p
  unfolding whole_of ◌>>=◌
  whole_stopped n p e = rw e

  pub whole_shape : (s : Shaped) → whole_of l bs ≡ ok s → shape_of l bs ≡ ok s
  unfolding whole_of
  whole_shape s h =
      bind_elim (shape_of l bs) _ h λ x p q.
      further_elim (parts_legal (step_of l.kind) l.first x.0 (drop (head_of l.kind) bs)) 11 _ _ q λ t u. p ∙ u

  module _ (c long : ℕ) (e : shape_of l bs ≡ ok (c, long)) where
    whole_legal : parts_legal (step_of l.kind) l.first c (drop (head_of l.kind) bs) ≡ true → ok (c, long) ≡ whole_of l bs
    unfolding whole_of ◌>>=◌ need◌or◌further◌then◌
    whole_legal h = sym (rw (e, h))

    whole_barred : parts_legal (step_of l.kind) l.first c (drop (head_of l.kind) bs) ≡ false
        → refused 11 (fault_at (step_of l.kind) l.first c (head_of l.kind) bs) ≡ whole_of l bs
    unfolding whole_of ◌>>=◌ need◌or◌further◌then◌
    whole_barred h = sym (rw (e, h))

    module _ (s : row_sound l ≡ true) (o : Octets bs) where
      fits : Fitting l bs c long
      fits = fitting l bs (c, long) s o e

      -- the code can walk its parts, and the answer is by what it finds there
      pub walk : run_sound (run_of l c) bs
      walk = (step_small l.kind, fits.sound, omega (arith, fits.spans, fits.there))

      pub run_good : {t : Bool} → t ≡ run_legal (run_of l c) bs → t ≡ true → ok (c, long) ≡ whole_of l bs
      run_good et u = whole_legal (sym et ∙ u)

      pub run_barred : {t : Bool} → t ≡ run_legal (run_of l c) bs → t ≡ false → {p : ℕ} → p ≡ run_fault (run_of l c) bs → refused 11 p ≡ whole_of l bs
      run_barred et u ep = ap (refused 11) ep ∙ whole_barred (sym et ∙ u)

      -- parts with an FX bit
      module _ (k : l.kind ≡ Extended) where
        module _ {t : Bool} (et : t ≡ parts_legal 1 l.first c (drop 0 bs)) where
          legal_chain : parts_legal (step_of l.kind) l.first c (drop (head_of l.kind) bs) ≡ t
          legal_chain = ap (λ x. parts_legal (step_of x) l.first c (drop (head_of x) bs)) k ∙ sym et

          pub chain_legal : t ≡ true → ok (c, long) ≡ whole_of l bs
          chain_legal u = whole_legal (legal_chain ∙ u)

      -- parts of one group
      module _ (k : ¬ (l.kind ≡ Extended)) where
        no_step : step_of l.kind ≡ 0
        no_step = one_group l.kind k

        pub group_at_lem : Grouped l
        group_at_lem = go l.kind refl
          where
            go : (j : Kind) → l.kind ≡ j → Grouped l
            go NoItem q = refused_ok (no_shape l bs q ∙ e)
            go Fixed q = fixed_group l (rowed l s) q
            go Repeated q = list_group l (rowed l s) q
            go Led q = led_group l (rowed l s) q
            go Extended q = absurd (k q)
            go Compound q = refused_ok (no_parts l bs q ∙ e)

        pub equal_free : {t : Bool} → t ≡ (group_at l.first).free → t ≡ true → ok (c, long) ≡ whole_of l bs
        equal_free et f =
            let w : run_sound (run_of l c) bs = walk in
            whole_legal
            (ap (λ x. parts_legal x l.first c (drop (head_of l.kind) bs)) no_step
            ∙ free_parts l.first c (drop (head_of l.kind) bs) (octets_drop (head_of l.kind) bs o)
            (subst (λ x. parts_sound x l.first c ≡ true) no_step w.1)
            (let n : span 0 l.first c ≡ span (step_of l.kind) l.first c = ap (λ x. span x l.first c) (sym no_step) in omega (arith, n, w.2, length-drop (head_of l.kind) bs))
            (sym (group_free l.first group_at_lem.inside) ∙ sym et ∙ f))

      -- the same by the step of the run
      pub step_group : step_of l.kind ≡ 0 → l.first < group_count
      step_group k = (group_at_lem (other_kind l.kind k)).inside

      pub step_free : step_of l.kind ≡ 0 → {t : Bool} → t ≡ (group_at l.first).free → t ≡ true → ok (c, long) ≡ whole_of l bs
      step_free k et f = equal_free (other_kind l.kind k) et f
