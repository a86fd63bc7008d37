-- The items of a set, walked one after the other as the code walks them.
--
-- In order: FRNs that are not there; FRN by FRN; the steps of the loop. Assumes nothing.
use Prim.Native.Nat.{ℕ, zero, suc, ◌+◌, ◌-◌, ◌%◌, ◌^◌, ◌≤◌, ◌<◌}
use mathlib.Core.Path.{◌≡◌, refl, sym, ap, ap₂, ◌∙◌, subst}
use mathlib.Core.Bool.{Bool, true, false}
use mathlib.Core.List.{List, [], ◌∷◌}
use native.Mathlib.Omega.{arith}
use native.Mathlib.Numerals.{add-one}
use native.Mathlib.Nat.{add-zero, zero-add, mod-eq_of_lt}
use lib.Pow.{pow_pos, pow_mono}
use lib.Dec.{eqb}
use borrow.Author.Tests.{lt-leb}
use lib.ListN.{length, take, drop, get_or, set, replicate, length-drop, length-set}
use Rattle.rules.specs.Answer.{Answer, ok, refused, ◌>>=◌, later, when◌then◌else◌}
use Rattle.rules.specs.Presence.{flags}
use Rattle.rules.proofs.AnswerLaws.{bind_in, bind_out, bind_same, later_in, later_out, to_end}
use Rattle.rules.proofs.PresenceLaws.{flags_length}
use Rattle.sets.specs.Sets.{frns_from, frns_of}
use Rattle.rules.specs.Entry.{map_places}
use Rattle.items.specs.Answers.{check_at}
use Rattle.sets.specs.Steps.{type_frn}
use Rattle.sets.proofs.FlagLaws.{frns_skip}
use Rattle.sets.specs.declared.ItemSet.{ItemSet}
use Rattle.records.specs.declared.RecordMap.{RecordMap}
use Rattle.records.specs.Answers.{begun}
use Rattle.records.specs.Walk.{Came, passed, walk, start_at}
use Rattle.records.proofs.PlaceLaws.{check_within}

-- ---- FRNs that are not there

pub walk_none : (i k f : ℕ) (bs : List ℕ) (w : Came) → walk i (flags k 0) f bs w ≡ ok w
unfolding walk flags
walk_none i zero f bs w = refl
walk_none i (suc k) f bs w =
    let e : 0 % 2 ^ k ≡ 0 = mod-eq_of_lt (pow_pos k) in
    rw (lt-leb (2 ^ k) 0 (pow_pos k), e) (walk_none i k (f + 1) bs w)

-- the first of them, as many as stand above the others
pub walk_skip : (i j m f left : ℕ) (bs : List ℕ) (w : Came) → left < 2 ^ m → walk i (flags (j + m) left) f bs w ≡ walk i (flags m left) (f + j) bs w
unfolding walk flags
walk_skip i zero m f left bs w h = ap₂ (λ x y. walk i (flags x left) y bs w) (zero-add m) (sym (add-zero f))
walk_skip i (suc j) m f left bs w h =
    let k : left < 2 ^ (j + m) = (let p : 2 ^ m ≤ 2 ^ (j + m) = pow_mono (omega arith) in omega arith) in
    let e : suc j + m ≡ suc (j + m) = omega arith in
    let g : f + 1 + j ≡ f + suc j = omega arith in
    ap (λ x. walk i (flags x left) f bs w) e
    ∙ rw (lt-leb (2 ^ (j + m)) left k, mod-eq_of_lt k) (walk_skip i j m (f + 1) left bs w h)
    ∙ ap (λ x. walk i (flags m left) x bs w) g

-- ---- FRN by FRN

-- the items at FRNs: the first item's refusal ends the walk
abbrev pub walk_frns : ℕ → List ℕ → List ℕ → Came → Answer Came
walk_frns i [] bs w = ok w
walk_frns i (f ∷ fs) bs w = later w.here (check_at i f bs) >>= λ n. walk_frns i fs (drop n bs) (passed i f n (take n bs) w)

frns_walked : (i : ℕ) (ts : List Bool) (f : ℕ) (bs : List ℕ) (w : Came) → walk_frns i (frns_from f ts) bs w ≡ walk i ts f bs w
unfolding walk
frns_walked i [] f bs w = refl
frns_walked i (false ∷ ts) f bs w = frns_walked i ts (suc f) bs w ∙ ap (λ k. walk i ts k bs w) (sym (add-one f))
frns_walked i (true ∷ ts) f bs w =
    bind_same (later w.here (check_at i f bs)) _ _
    (λ n e. frns_walked i ts (suc f) (drop n bs) (passed i f n (take n bs) w) ∙ ap (λ k. walk i ts k (drop n bs) (passed i f n (take n bs) w)) (sym (add-one f)))

-- of a set without FRN 0
set_walked : (i bits : ℕ) (bs : List ℕ) (w : Came) → bits < 2 ^ 63 → walk_frns i (frns_of bits) bs w ≡ walk i (flags 63 bits) 1 bs w
unfolding frns_of
set_walked i bits bs w h = ap (λ fs. walk_frns i fs bs w) (frns_skip 1 63 0 bits h) ∙ frns_walked i (flags 63 bits) 1 bs w

frns_count : (f : ℕ) (ts : List Bool) → length (frns_from f ts) ≤ length ts
frns_count f [] = omega arith
frns_count f (false ∷ ts) = omega (arith, frns_count (suc f) ts)
frns_count f (true ∷ ts) = omega (arith, frns_count (suc f) ts)

frns_few : (bits : ℕ) → length (frns_of bits) ≤ 64
unfolding frns_of
frns_few bits = omega (arith, frns_count 0 (flags 64 bits), flags_length 64 bits)

-- ---- the steps of the loop

abbrev pub came : ℕ → ℕ → List ℕ → ℕ → Came
came here count starts kind = record { here = here; count = count; starts = starts; kind = kind }

-- where the loop stands: the FRNs that are left, and walking on over these gives what the whole walk gives
pub record Standing (i bits : ℕ) (part : List ℕ) (at : ℕ) (left rest : List ℕ) (here count : ℕ) (starts : List ℕ) (kind : ℕ) : Type 0 where
  pub few : count + length left ≤ 64
  pub room : here + length rest < 2 ^ 63
  pub full : length starts ≡ map_places
  pub same : walk_frns i left rest (came here count starts kind) ≡ walk i (flags 63 bits) 1 part (start_at at)

stand_first : (i bits : ℕ) (part : List ℕ) (at : ℕ) → bits < 2 ^ 63 → at + length part < 2 ^ 63 → Standing i bits part at (frns_of bits) part at 0 (replicate map_places 0) 0
stand_first i bits part at h r = record { few = omega (arith, frns_few bits); room = r; full = refl; same = set_walked i bits part (start_at at) h }

-- before the first turn: of the map of no item, and the FRNs of the set
pub stand_begun : (i : ℕ) (set : ItemSet) (part : List ℕ) (map : RecordMap) {left : ItemSet} → set.bits < 2 ^ 63 → map.end + length part < 2 ^ 63 → map ≡ begun map.end → left ≡ set
    → Standing i set.bits part map.end (frns_of left.bits) part map.end map.count map.starts 0
stand_begun i set part map b r m l =
    subst (λ s. Standing i set.bits part map.end (frns_of s.bits) part map.end map.count map.starts 0) (sym l)
    (subst (λ x. Standing i set.bits part map.end (frns_of set.bits) part map.end x.count x.starts 0) (sym m) (stand_first i set.bits part map.end b r))

module _ (i bits : ℕ) (part : List ℕ) (at : ℕ) (left rest : List ℕ) (here count : ℕ) (starts : List ℕ) (kind : ℕ)
    (s : Standing i bits part at left rest here count starts kind) where
  pub stand_end : left ≡ [] → ok (came here count starts kind) ≡ walk i (flags 63 bits) 1 part (start_at at)
  stand_end e = ap (λ fs. walk_frns i fs rest (came here count starts kind)) (sym e) ∙ s.same

  module _ (f : ℕ) (others : List ℕ) (next : left ≡ f ∷ others) where
    reached : walk_frns i (f ∷ others) rest (came here count starts kind) ≡ walk i (flags 63 bits) 1 part (start_at at)
    reached = ap (λ fs. walk_frns i fs rest (came here count starts kind)) (sym next) ∙ s.same

    pub stand_stop : (n p : ℕ) → check_at i f rest ≡ refused n p → refused n (here + p) ≡ walk i (flags 63 bits) 1 part (start_at at)
    stand_stop n p c = sym (bind_out _ (later_out here c)) ∙ reached

    pub stand_more : count + 1 ≤ 64
    stand_more = omega (arith, s.few, ap length next)

    pub stand_item : (n of kept : ℕ) → check_at i f rest ≡ ok n → of ≡ type_frn i → kept ≡ (when eqb f of then get_or (take n rest) 0 0 else kind)
        → Standing i bits part at others (take (length rest - n) (drop n rest)) (here + n) (count + 1) (set starts (f - 1) (here % 65_536)) kept
    stand_item n of kept c o k =
        let m : n ≤ length rest = check_within i f rest n c in
        let d : length (drop n rest) ≡ length rest - n = length-drop n rest in
        record {
          few = omega (arith, s.few, ap length next);
          room = rw to_end (omega (arith, s.room));
          full = length-set starts (f - 1) (here % 65_536) ∙ s.full;
          same =
              ap₂ (λ xs y. walk_frns i others xs (came (here + n) (count + 1) (set starts (f - 1) (here % 65_536)) y)) (to_end rest n)
              (k ∙ ap (λ a. when eqb f a then get_or (take n rest) 0 0 else kind) o)
              ∙ sym (bind_in _ (later_in here c) refl)
              ∙ reached;
        }
