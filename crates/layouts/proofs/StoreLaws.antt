-- What a turn of a loop that stores values does.
--
-- In order: one value; the fields of a part; the parts of an item. Assumes nothing.
use Prim.Native.Nat.{ℕ, zero, suc, ◌+◌, ◌-◌, ◌/◌, ◌%◌, ◌<◌, ◌≤◌, ◌^◌}
use mathlib.Core.Path.{◌≡◌, refl, sym, ap, ◌∙◌, subst}
use mathlib.Core.Bool.{Bool, true, false, cond}
use mathlib.Core.List.{List, [], ◌∷◌, ◌++◌}
use native.Mathlib.Omega.{arith}
use native.Mathlib.Nat.{add-zero, not-suc-le-zero}
use native.Mathlib.Numerals.{add-one}
use lib.IntN.{ℤ}
use lib.ListN.{length, set, drop, length-append}
use lib.Seq.{sets, drop-drop}
use mir.Syntax.{w64}
use mir.Val.{SFits}
use mir.ValLaws.{to_z-of_z}
use Rattle.rules.specs.Chain.{flatten}
use Rattle.tables.specs.declared.tables.Holds.TheVariants.{Spare}
use Rattle.tables.specs.declared.tables.FieldRow.{FieldRow}
use Rattle.layouts.specs.declared.parts.Run.{Run}
use Rattle.tables.specs.Tables.{field_count, group_at}
use Rattle.tables.proofs.KindLaws.{holds_same, holds_other}
use Rattle.layouts.specs.Read.{rows, rows_at, part_at, value_of, is_spare, width, shown, takes, values, count, span, holds, parts_sound, part_values, run_sound, run_holds, run_values, run_rest}
use Rattle.layouts.proofs.FieldCodes.{again}
use Rattle.layouts.proofs.PartLaws.{First, first_part}
use Rattle.layouts.proofs.Stores.{sets_append}
use Rattle.layouts.proofs.Turns.{Cut, rows_nil}

-- ---- one value, unless the field is spare

pub spare_yes : (f : FieldRow) → f.holds ≡ Spare → is_spare f ≡ true
unfolding is_spare
spare_yes f h = holds_same f.holds Spare h

pub spare_no : (f : FieldRow) → (f.holds ≡ Spare → ⊥) → is_spare f ≡ false
unfolding is_spare
spare_no f h = holds_other f.holds Spare h

pub put_spare : (f : FieldRow) (v : ℤ) (l : List ℤ) (at : ℕ) → is_spare f ≡ true → (at ≡ at + takes f) × (l ≡ sets l at (shown f v []))
put_spare f v l at e = (sym (ap (λ (b : Bool). at + cond b 0 1) e ∙ add-zero at), sym (ap (λ (b : Bool). sets l at (cond b [] (v ∷ []))) e))

pub put_value : (f : FieldRow) (v : ℤ) (l : List ℤ) (at : ℕ) → is_spare f ≡ false → SFits w64 v → (at + 1 ≡ at + takes f) × (set l at (again v) ≡ sets l at (shown f v []))
put_value f v l at e s =
    (sym (ap (λ (b : Bool). at + cond b 0 1) e), ap (set l at) (to_z-of_z w64 v s) ∙ sym (ap (λ (b : Bool). sets l at (cond b [] (v ∷ []))) e))

pub takes_one : (f : FieldRow) → is_spare f ≡ false → takes f ≡ 1
takes_one f e = ap (λ (b : Bool). cond b 0 1) e

-- ---- the fields of a part

-- storing a field's value, and then the rest
sets_shown : (f : FieldRow) (v : ℤ) (vs l : List ℤ) (at : ℕ) → sets l at (shown f v vs) ≡ sets (sets l at (shown f v [])) (at + takes f) vs
sets_shown f v vs l at = go (is_spare f)
  where
    go : (b : Bool) → sets l at (cond b vs (v ∷ vs)) ≡ sets (sets l at (cond b [] (v ∷ []))) (at + cond b 0 1) vs
    go true = ap (λ (k : ℕ). sets l k vs) (sym (add-zero at))
    go false = ap (λ (k : ℕ). sets (set l at v) k vs) (sym (add-one at))

pub record Storing (a e n at : ℕ) (out₀ : List ℤ) (i rest left k : ℕ) (out : List ℤ) : Type 0 where
  pub left_is : left ≡ width (rows i e)
  pub few : left ≤ 64
  pub small : rest < 2 ^ left
  pub room : k + count (rows i e) ≡ at + count (rows a e)
  pub same : sets out k (values (rows i e) rest) ≡ sets out₀ at (values (rows a e) n)

pub stored : (a e n at : ℕ) (out₀ : List ℤ) (i rest left k p k' : ℕ) (f : FieldRow) (out out' : List ℤ) {z : ℤ}
    → Storing a e n at out₀ i rest left k out → Cut i e rest left f → z ≡ value_of f (rest / 2 ^ (left - f.bits))
    → (k' ≡ k + takes f) × (out' ≡ sets out k (shown f z [])) → p ≡ 2 ^ (left - f.bits)
    → Storing a e n at out₀ (i + 1) (rest % p) (left - f.bits) k' out'
stored a e n at out₀ i rest left k p k' f out out' {z} s c ez eo ep =
    let fs : List FieldRow = rows (i + 1) e in
    let q : ℕ = 2 ^ (left - f.bits) in
    let v : ℤ = value_of f (rest / q) in
    record {
      left_is = c.next;
      few = omega (arith, c.less);
      small = subst (λ (x : ℕ). rest % x < q) (sym ep) c.low;
      room = omega (arith, s.room, c.counts, eo.0);
      same =
          ap (λ (x : ℕ). sets out' k' (values fs (rest % x))) ep
          ∙ ap (λ (x : ℕ). sets out' x (values fs (rest % q))) eo.0
          ∙ ap (λ (l : List ℤ). sets l (k + takes f) (values fs (rest % q))) (eo.1 ∙ ap (λ (x : ℤ). sets out k (shown f x [])) ez)
          ∙ sym (sets_shown f v (values fs (rest % q)) out k)
          ∙ ap (sets out k) (sym c.vals)
          ∙ s.same;
    }

pub stored_all : (a e n at : ℕ) (out₀ : List ℤ) (i rest left k : ℕ) (out : List ℤ) → Storing a e n at out₀ i rest left k out → e ≤ i → e ≤ field_count
    → (k ≡ at + count (rows a e)) × (out ≡ sets out₀ at (values (rows a e) n))
stored_all a e n at out₀ i rest left k out s h t =
    let r : rows i e ≡ [] = rows_nil i e h t in
    (sym (add-zero k) ∙ sym (ap (λ (x : List FieldRow). k + count x) r) ∙ s.room, sym (ap (λ (x : List FieldRow). sets out k (values x rest)) r) ∙ s.same)

-- ---- the parts of an item

length_values : (fs : List FieldRow) (n : ℕ) → length (values fs n) ≡ count fs
length_values [] n = refl
length_values (f ∷ fs) n = go (is_spare f) (length_values fs (n % 2 ^ width fs))
  where
    go : (b : Bool) → length (values fs (n % 2 ^ width fs)) ≡ count fs
        → length (cond b (values fs (n % 2 ^ width fs)) (value_of f (n / 2 ^ width fs) ∷ values fs (n % 2 ^ width fs))) ≡ cond b 0 1 + count fs
    go true h = omega arith
    go false h = omega arith

-- a run of which the first parts were stored, among those of the whole
pub record StoringRun (whole : Run) (s : List ℕ) (out₀ : List ℤ) (start : ℕ) (r : Run) (q : ℕ) (out : List ℤ) : Type 0 where
  pub few : r.step ≤ 1
  pub sound : parts_sound r.step r.group r.count ≡ true
  pub place : r.at + span r.step r.group r.count ≡ whole.at + span whole.step whole.group whole.count
  pub room : q + run_holds r ≡ start + run_holds whole
  pub same : sets out q (run_values r s) ≡ sets out₀ start (run_values whole s)

pub store_begun : (r : Run) (s : List ℕ) (out : List ℤ) (start : ℕ) → run_sound r s → StoringRun r s out start r start out
store_begun r s out start h = record { few = h.0; sound = h.1; place = refl; room = refl; same = refl }

-- the first of the parts, and the others
pub holds_cons : (step g k : ℕ) → 0 < k → holds step g k ≡ count (rows_at g) + holds step (g + step) (k - 1)
unfolding holds
holds_cons step g zero h = absurd (not-suc-le-zero h)
holds_cons step g (suc k) h = let e : suc k - 1 ≡ k = omega arith in rw e

values_cons : (step g k : ℕ) (s : List ℕ) (p : ℕ) → 0 < k
    → flatten (part_values step g k (drop p s)) ≡ values (rows_at g) (part_at step g (drop p s)) ++ flatten (part_values step (g + step) (k - 1) (drop (p + (group_at g).octets) s))
unfolding part_values
values_cons step g zero s p h = absurd (not-suc-le-zero h)
values_cons step g (suc k) s p h = let e : suc k - 1 ≡ k = omega arith in rw (e, drop-drop (group_at g).octets p s)

module _ {whole : Run} {s : List ℕ} {out₀ : List ℤ} {start : ℕ} {r : Run} {q : ℕ} {out : List ℤ} (c : StoringRun whole s out₀ start r q out) where
  pub first_stored : 0 < r.count → First r.step r.group r.count s r.at
  first_stored h = first_part r.step r.group r.count s r.at h c.sound

  pub part_stored : 0 < r.count → {n : Run} {q' : ℕ} {out' : List ℤ} → n ≡ run_rest r
      → (q' ≡ q + count (rows_at r.group)) × (out' ≡ sets out q (values (rows_at r.group) (part_at r.step r.group (drop r.at s))))
      → StoringRun whole s out₀ start n q' out'
  part_stored h {n} {q'} {out'} en eo =
      let f : First r.step r.group r.count s r.at = first_stored h in
      let vs : List ℤ = values (rows_at r.group) (part_at r.step r.group (drop r.at s)) in
      let rest : List ℤ = run_values (run_rest r) s in
      subst (λ (n : Run). StoringRun whole s out₀ start n q' out') (sym en)
      (record {
        few = c.few;
        sound = f.rest;
        place = omega (arith, c.place, f.spans);
        room = omega (arith, c.room, holds_cons r.step r.group r.count h, eo.0);
        same =
            ap (λ (x : List ℤ). sets x q' rest) eo.1
            ∙ ap (λ (x : ℕ). sets (sets out q vs) x rest) (eo.0 ∙ ap (λ (x : ℕ). q + x) (sym (length_values (rows_at r.group) (part_at r.step r.group (drop r.at s)))))
            ∙ sym (sets_append vs rest out q)
            ∙ ap (sets out q) (sym (values_cons r.step r.group r.count s r.at h))
            ∙ c.same;
      })

  pub parts_stored : r.count ≡ 0 → (q ≡ start + run_holds whole) × (out ≡ sets out₀ start (run_values whole s))
  unfolding holds part_values
  parts_stored z = (
    sym (ap (λ x. q + holds r.step r.group x) z ∙ add-zero q) ∙ c.room,
    sym (ap (λ x. sets out q (flatten (part_values r.step r.group x (drop r.at s)))) z) ∙ c.same,
  )

-- how many values so many parts have
pub length_held : (step g c : ℕ) (bs : List ℕ) → length (flatten (part_values step g c bs)) ≡ holds step g c
unfolding part_values holds
length_held step g zero bs = refl
length_held step g (suc c) bs =
    rw (length-append (values (rows_at g) (part_at step g bs)) (flatten (part_values step (g + step) c (drop (group_at g).octets bs))), length_values (rows_at g) (part_at step g bs), length_held step (g + step) c (drop (group_at g).octets bs))
