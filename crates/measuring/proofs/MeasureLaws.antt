-- A record that is accepted ends, and has its items, where it is measured.
--
-- In order: a walk over the items beside their measure; the record. Assumes nothing.
use Prim.Native.Nat.{ℕ, zero, suc, ◌+◌, ◌-◌, ◌/◌, ◌%◌, ◌^◌, ◌≤◌, ◌<◌}
use mathlib.Core.Path.{◌≡◌, refl, sym, ap, ◌∙◌, subst}
use mathlib.Core.Bool.{Bool, true, false, false≢true}
use mathlib.Core.List.{List, [], ◌∷◌}
use native.Mathlib.Omega.{arith}
use native.Mathlib.Nat.{zero-add, mod-eq_of_lt}
use lib.ListN.{length, get_or, take, drop, set, length-drop, length-set, get_or-replicate}
use lib.Seq.{take_at, drop-drop, get_or-set_same, get_or-set_other}
use Rattle.rules.specs.Answer.{ok}
use Rattle.rules.specs.Presence.{flags}
use Rattle.rules.specs.Entry.{map_places, RecordMap}
use Rattle.rules.proofs.AnswerLaws.{ok_inj, bind_elim, later_inv, Octets, octets_drop}
use Rattle.rules.proofs.PresenceLaws.{flags_length}
use Rattle.items.specs.Answers.{check_at}
use Rattle.sets.specs.Sets.{set_at}
use Rattle.sets.proofs.FlagLaws.{flags_split, flag_at}
use Rattle.sets.proofs.UsableLaws.{set_bounds}
use Rattle.records.specs.Walk.{Came, passed, walk, start_at, record_by}
use Rattle.records.specs.Answers.{record_at}
use Rattle.records.proofs.PlaceLaws.{check_within}
use Rattle.records.proofs.RecordLaws.{record_law}
use Rattle.quick_items.specs.Item.{octets_at}
use Rattle.measuring.specs.Measure.{end_from, end_of, start_of, is_in}
use Rattle.measuring.proofs.EndLaws.{start_flags}
use Rattle.measuring.proofs.SizeLaws.{size_law}

module _ (i k : ℕ) (bs : List ℕ) (o : Octets bs) (b : k + length bs < 65_536) where
  -- ---- a walk over the items that flags name, the first being that of FRN j + 1, from a place on: where it comes to, and the starts that it notes

  record Comes (ts : List Bool) (j at : ℕ) (w v : Came) : Type 0 where
    end : v.here ≡ k + end_from i ts (j + 1) bs at
    earlier : (g : ℕ) → g < j → get_or v.starts g 0 ≡ get_or w.starts g 0
    absent : (g : ℕ) → get_or ts g false ≡ false → get_or v.starts (j + g) 0 ≡ get_or w.starts (j + g) 0
    there : (g : ℕ) → get_or ts g false ≡ true → j + g < map_places → get_or v.starts (j + g) 0 ≡ k + end_from i (take g ts) (j + 1) bs at

  -- one item further
  module _ (ts : List Bool) (j at : ℕ) (w v : Came) (e : w.here ≡ k + at) (n : length w.starts ≡ map_places) (l : at ≤ length bs) (size : ℕ)
      (m : size ≡ octets_at i (j + 1) (drop at bs)) (c : Comes ts (j + 1) (at + size) (passed i (j + 1) size (take size (drop at bs)) w) v) where
    before : (g : ℕ) → (g ≡ j → ⊥) → get_or (set w.starts (j + 1 - 1) (w.here % 65_536)) g 0 ≡ get_or w.starts g 0
    before g z = get_or-set_other w.starts (j + 1 - 1) g (w.here % 65_536) 0 (λ y. z (omega (arith, y)))

    off : (g : ℕ) → get_or (true ∷ ts) g false ≡ false → get_or v.starts (j + g) 0 ≡ get_or w.starts (j + g) 0
    off zero z = absurd (false≢true (sym z))
    off (suc g) z =
        let y : j + 1 + g ≡ j + suc g = omega arith in
        subst (λ x. get_or v.starts x 0 ≡ get_or w.starts x 0) y (c.absent g z ∙ before (j + 1 + g) (λ (x : j + 1 + g ≡ j). omega arith))

    on : (g : ℕ) → get_or (true ∷ ts) g false ≡ true → j + g < map_places → get_or v.starts (j + g) 0 ≡ k + end_from i (take g (true ∷ ts)) (j + 1) bs at
    unfolding end_from
    on zero z q =
        let y : j + 0 ≡ j + 1 - 1 = omega arith in
        c.earlier (j + 0) (omega arith)
        ∙ ap (λ x. get_or (set w.starts (j + 1 - 1) (w.here % 65_536)) x 0) y
        ∙ get_or-set_same w.starts (j + 1 - 1) (w.here % 65_536) 0 (omega arith)
        ∙ mod-eq_of_lt (omega arith) ∙ e
    on (suc g) z q =
        let y : j + suc g ≡ j + 1 + g = omega arith in
        ap (λ x. get_or v.starts x 0) y ∙ c.there g z (omega arith) ∙ ap (λ x. k + end_from i (take g ts) (j + 1 + 1) bs (at + x)) m

    more : Comes (true ∷ ts) j at w v
    unfolding end_from
    more = record {
      end = c.end ∙ ap (λ x. k + end_from i ts (j + 1 + 1) bs (at + x)) m;
      earlier = λ g q. c.earlier g (omega arith) ∙ before g (λ (x : g ≡ j). omega arith);
      absent = off;
      there = on;
    }

  comes : (ts : List Bool) (j at : ℕ) (w v : Came) → w.here ≡ k + at → length w.starts ≡ map_places → at ≤ length bs
      → walk i ts (j + 1) (drop at bs) w ≡ ok v → Comes ts j at w v
  unfolding walk end_from
  comes [] j at w v e n l h =
      let s : w ≡ v = ok_inj h in
      record {
        end = ap (λ x. x.here) (sym s) ∙ e;
        earlier = λ g _. ap (λ x. get_or x.starts g 0) (sym s);
        absent = λ g _. ap (λ x. get_or x.starts (j + g) 0) (sym s);
        there = λ g z _. absurd (false≢true z);
      }
  comes (false ∷ ts) j at w v e n l h =
      let c : Comes ts (j + 1) at w v = comes ts (j + 1) at w v e n l h in
      record {
        end = c.end;
        earlier = λ g q. c.earlier g (omega arith);
        absent = λ g. off c g;
        there = λ g. on c g;
      }
    where
      off : Comes ts (j + 1) at w v → (g : ℕ) → get_or (false ∷ ts) g false ≡ false → get_or v.starts (j + g) 0 ≡ get_or w.starts (j + g) 0
      off c zero z = c.earlier (j + 0) (omega arith)
      off c (suc g) z = let m : j + 1 + g ≡ j + suc g = omega arith in subst (λ x. get_or v.starts x 0 ≡ get_or w.starts x 0) m (c.absent g z)

      on : Comes ts (j + 1) at w v → (g : ℕ) → get_or (false ∷ ts) g false ≡ true → j + g < map_places
          → get_or v.starts (j + g) 0 ≡ k + end_from i (take g (false ∷ ts)) (j + 1) bs at
      on c zero z q = absurd (false≢true z)
      on c (suc g) z q = let m : j + 1 + g ≡ j + suc g = omega arith in ap (λ x. get_or v.starts x 0) (sym m) ∙ c.there g z (omega arith)
  comes (true ∷ ts) j at w v e n l h =
      bind_elim _ _ h λ size p h₁.
      let c : check_at i (j + 1) (drop at bs) ≡ ok size = later_inv w.here _ p in
      let d : length (drop at bs) ≡ length bs - at = length-drop at bs in
      let q : size ≤ length (drop at bs) = check_within i (j + 1) (drop at bs) size c in
      let m : size ≡ octets_at i (j + 1) (drop at bs) = size_law i (j + 1) (drop at bs) size (octets_drop at bs o) c in
      let u : Came = passed i (j + 1) size (take size (drop at bs)) w in
      more ts j at w v e n l size m
      (comes ts (j + 1) (at + size) u v (omega arith) (length-set w.starts (j + 1 - 1) (w.here % 65_536) ∙ n) (omega arith)
      (ap (λ r. walk i ts (j + 1 + 1) r u) (sym (drop-drop size at bs)) ∙ h₁))

  -- ---- the record

  pub record Laid (m : RecordMap) : Type 0 where
    pub bits : ℕ
    pub used : ℕ
    pub set_is : set_at i bs ≡ ok (bits, used)
    pub ends : m.end ≡ k + end_of i bits bs used
    pub there : (g : ℕ) → g < map_places → is_in (g + 1) bits ≡ true → get_or m.starts g 0 ≡ k + start_of i (g + 1) bits bs used
    pub absent : (g : ℕ) → g < map_places → is_in (g + 1) bits ≡ false → get_or m.starts g 0 ≡ 0

  module _ (bits : ℕ) (h : bits < 2 ^ 63) (g : ℕ) (few : g < map_places) where
    flag_is : get_or (flags 63 bits) g false ≡ is_in (g + 1) bits
    flag_is = let e : suc g ≡ g + 1 = omega arith in flag_at 63 bits g h (omega arith) ∙ ap (λ x. is_in x bits) e

    front : take g (flags 63 bits) ≡ flags (g + 1 - 1) (bits / 2 ^ (64 - (g + 1)))
    front =
        let j : g + 1 - 1 ≡ g = omega arith in
        let s : 63 ≡ g + 1 - 1 + (64 - (g + 1)) = omega arith in
        ap (λ x. take g (flags x bits)) s
        ∙ ap (take g) (flags_split (g + 1 - 1) (64 - (g + 1)) bits (subst (λ x. bits < 2 ^ x) s h))
        ∙ take_at (flags (g + 1 - 1) (bits / 2 ^ (64 - (g + 1)))) _ g (flags_length (g + 1 - 1) _ ∙ j)

    start_is : (used : ℕ) → end_from i (take g (flags 63 bits)) 1 bs used ≡ start_of i (g + 1) bits bs used
    start_is used = ap (λ ts. end_from i ts 1 bs used) front ∙ sym (start_flags i bs (g + 1) bits used h (omega arith) (omega arith))

  pub laid : (m : RecordMap) → record_at i k bs ≡ ok m → Laid m
  unfolding record_by end_of
  laid m h =
      bind_elim _ _ (record_law i k bs o b ∙ h) λ x p h₁.
      let s : set_at i bs ≡ ok x = later_inv k _ p in
      let t : (x.0 < 2 ^ 63) × (x.1 ≤ length bs) = set_bounds i bs x.0 x.1 s in
      bind_elim _ _ h₁ λ w q h₂.
      bind_elim _ _ h₂ λ _ _ h₃.
      let c : Comes (flags 63 x.0) 0 x.1 (start_at (k + x.1)) w = comes (flags 63 x.0) 0 x.1 (start_at (k + x.1)) w refl refl t.1 q in
      let e : record { start = k; starts = w.starts; end = w.here; count = w.count } ≡ m = ok_inj h₃ in
      let at : (g : ℕ) → get_or m.starts g 0 ≡ get_or w.starts (0 + g) 0 =
      λ g. ap (λ r. get_or r.starts g 0) (sym e) ∙ ap (λ y. get_or w.starts y 0) (sym (zero-add g)) in
      record {
        bits = x.0;
        used = x.1;
        set_is = s;
        ends = ap (λ r. r.end) (sym e) ∙ c.end;
        there = λ g few z. at g ∙ c.there g (flag_is x.0 t.0 g few ∙ z) (omega arith) ∙ ap (λ y. k + y) (start_is x.0 t.0 g few x.1);
        absent = λ g few z. at g ∙ c.absent g (flag_is x.0 t.0 g few ∙ z) ∙ get_or-replicate map_places (0 + g) 0 0 (omega arith);
      }
