-- What a turn of a loop over the parts of an item does.
--
-- In order: a sound group; one part; parts checked. Assumes nothing.
use Prim.Native.Nat.{ℕ, zero, suc, ◌+◌, ◌-◌, ◌*◌, ◌/◌, ◌<◌, ◌≤◌, ◌^◌}
use mathlib.Core.Path.{◌≡◌, refl, sym, ap, ◌∙◌, subst}
use mathlib.Core.Bool.{Bool, true, false, ◌&&◌}
use mathlib.Core.List.{List}
use native.Mathlib.Omega.{arith}
use native.Mathlib.Nat.{not-suc-le-zero}
use lib.Dec.{leb, ltb, eqb}
use lib.ListN.{drop}
use lib.Seq.{drop-drop}
use lib.Pow.{shr_lt}
use borrow.Author.Tests.{ltb-true, leb-true, eqb-true}
use Rattle.rules.proofs.AnswerLaws.{both_left, both_right}
use Rattle.layouts.specs.declared.parts.Run.{Run}
use Rattle.tables.specs.declared.tables.GroupRow.{GroupRow}
use Rattle.tables.specs.Tables.{field_count, group_count, group_at}
use Rattle.tables.proofs.RuleLaws.{and_true, and_false}
use Rattle.layouts.specs.Read.{rows, rows_at, part_at, width, legal, span, part_sound, parts_sound, parts_legal, run_legal, run_sound, run_rest}

-- ---- a sound group

pub record PartSound (step : ℕ) (r : GroupRow) : Type 0 where
  pub inside : r.end ≤ field_count
  pub some : 1 ≤ r.octets
  pub short : r.octets ≤ 8
  pub whole : width (rows r.first r.end) + step ≡ 8 * r.octets

pub part_sound_lem : (step : ℕ) (r : GroupRow) → part_sound step r ≡ true → PartSound step r
part_sound_lem step r e =
    let a = leb r.end field_count in
    let b = leb 1 r.octets in
    let c = leb r.octets 8 in
    let d = eqb (width (rows r.first r.end) + step) (8 * r.octets) in
    let u : a && b && c ≡ true = both_left (a && b && c) d e in
    let v : a && b ≡ true = both_left (a && b) c u in
    record {
      inside = leb-true _ _ (both_left a b v);
      some = leb-true _ _ (both_right a b v);
      short = leb-true _ _ (both_right (a && b) c u);
      whole = eqb-true _ _ (both_right (a && b && c) d e);
    }

-- ---- one part: r is the row of the group g

pub record OnePart (step : ℕ) (r : GroupRow) (n : ℕ) : Type 0 where
  pub wide : 8 * r.octets - step ≡ width (rows r.first r.end)
  pub few : 8 * r.octets - step ≤ 64
  pub small : n / 2 ^ step < 2 ^ (8 * r.octets - step)

pub one_part : (step : ℕ) (r : GroupRow) (n : ℕ) → PartSound step r → n < 2 ^ (8 * r.octets) → OnePart step r n
one_part step r n s h =
    let w : 8 * r.octets - step ≡ width (rows r.first r.end) = omega (arith, s.whole) in
    let e : 8 * r.octets ≡ 8 * r.octets - step + step = omega (arith, s.whole) in
    record {
      wide = w;
      few = omega (arith, s.short);
      small = shr_lt (8 * r.octets - step) step (subst (λ x. n < 2 ^ x) e h);
    }

-- ---- parts checked: what is left to check says what all says

-- the first of the parts, and the others
pub record First (step g k : ℕ) (s : List ℕ) (p : ℕ) : Type 0 where
  pub inside : g < group_count
  pub sound : part_sound step (group_at g) ≡ true
  pub rest : parts_sound step (g + step) (k - 1) ≡ true
  pub spans : span step g k ≡ (group_at g).octets + span step (g + step) (k - 1)
  pub ok : parts_legal step g k (drop p s) ≡ (legal (rows_at g) (part_at step g (drop p s)) && parts_legal step (g + step) (k - 1) (drop (p + (group_at g).octets) s))

pub first_part : (step g k : ℕ) (s : List ℕ) (p : ℕ) → 0 < k → parts_sound step g k ≡ true → First step g k s p
unfolding parts_sound span parts_legal
first_part step g zero s p h e = absurd (not-suc-le-zero h)
first_part step g (suc k) s p h e =
    let a = ltb g group_count in
    let b = part_sound step (group_at g) in
    let c = parts_sound step (g + step) k in
    let j : suc k - 1 ≡ k = omega arith in
    let u : a && b ≡ true = both_left (a && b) c e in
    record {
      inside = ltb-true g group_count (both_left a b u);
      sound = both_right a b u;
      rest = rw j (both_right (a && b) c e);
      spans = rw j refl;
      ok = rw (j, drop-drop (group_at g).octets p s) refl;
    }

-- a run of which the first parts were checked, among those of the whole
pub record Checking (whole r : Run) (s : List ℕ) : Type 0 where
  pub few : r.step ≤ 1
  pub sound : parts_sound r.step r.group r.count ≡ true
  pub place : r.at + span r.step r.group r.count ≡ whole.at + span whole.step whole.group whole.count
  pub same : run_legal r s ≡ run_legal whole s

pub check_begun : (r : Run) (s : List ℕ) → run_sound r s → Checking r r s
check_begun r s h = record { few = h.0; sound = h.1; place = refl; same = refl }

module _ {whole r : Run} {s : List ℕ} (c : Checking whole r s) (h : 0 < r.count) where
  pub first_checked : First r.step r.group r.count s r.at
  first_checked = first_part r.step r.group r.count s r.at h c.sound

  module _ {t : Bool} (et : t ≡ legal (rows_at r.group) (part_at r.step r.group (drop r.at s))) where
    part_ok : run_legal whole s ≡ (t && run_legal (run_rest r) s)
    part_ok = sym c.same ∙ first_checked.ok ∙ ap (λ x. x && run_legal (run_rest r) s) (sym et)

    pub check_bad : t ≡ false → false ≡ run_legal whole s
    check_bad e = sym (part_ok ∙ and_false _ e)

    pub check_good : t ≡ true → {n : Run} → n ≡ run_rest r → Checking whole n s
    check_good e en =
        let f = first_checked in
        subst (λ n. Checking whole n s) (sym en) (record { few = c.few; sound = f.rest; place = omega (arith, c.place, f.spans); same = sym (part_ok ∙ and_true _ e) })

pub check_end : {whole r : Run} {s : List ℕ} → Checking whole r s → r.count ≡ 0 → true ≡ run_legal whole s
unfolding parts_legal
check_end {whole} {r} {s} c z = sym (ap (λ x. parts_legal r.step r.group x (drop r.at s)) z) ∙ c.same
