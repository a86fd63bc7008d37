-- The record with a number, in octets that are records, as a loop comes to it.
--
-- In order: where it is, turn by turn; its map. Assumes nothing.
use Prim.Native.Nat.{ℕ, suc, ◌+◌, ◌-◌, ◌<◌}
use mathlib.Core.Path.{◌≡◌, refl, sym, ap, ap₂, ◌∙◌, subst}
use mathlib.Core.List.{List, [], ◌∷◌}
use native.Mathlib.Omega.{arith}
use Rattle.std.specs.Prelude.{◌≢◌}
use mathlib.Core.Bool.{Bool, true, false}
use lib.Dec.{eqb}
use borrow.Author.Tests.{eq-eqb, ne_eqb, eqb-true, eqb-false}
use lib.ListN.{length, drop, length-drop}
use Rattle.rules.specs.Answer.{Answer, ok, refused, ◌>>=◌}
use Rattle.rules.specs.Record.{Category}
use Rattle.rules.specs.Block.{read_up_to, read_all}
use Rattle.rules.specs.Entry.{RecordMap, map_of, numbered}
use Rattle.rules.proofs.AnswerLaws.{refused_ok, bind_in, bind_out, if_true, if_false, Octets, octets_drop}
use Rattle.sets.specs.Sets.{category_at}
use Rattle.records.specs.declared.RecordMap.{RecordMap as RecordMap'}
use Rattle.records.specs.Answers.{map_by, record_at}
use Rattle.blocks.specs.Read.{Records}
use Rattle.blocks.proofs.LoopLaws.{made_refused}
use Rattle.blocks.proofs.RecordLaws.{Accepted, MapTaken, map_taken, map_refused, records_turn, seek_stop}
use Rattle.finding.specs.declared.find.RecordFound.{RecordFound}
use Rattle.finding.specs.Found.{first_at, seek_at, found_in}

-- ---- where it is, turn by turn

seek_in : (c : Category) (k : ℕ) (bs : List ℕ) (n : ℕ) (r : Records c bs) → seek_at c k bs n ≡ (numbered c k r.values n >>= λ z. ok (map_of c z))
unfolding seek_at
seek_in c k bs n r = bind_in _ r.reads refl

pub seek_end : (c : Category) (k : ℕ) (bs : List ℕ) (n : ℕ) → length bs ≡ 0 → seek_at c k bs n ≡ refused 19 0
unfolding seek_at read_all read_up_to numbered ◌>>=◌
seek_end c k [] n e = refl
seek_end c k (b ∷ bs) n e = absurd (omega arith)

pub seek_here : (c : Category) (k : ℕ) (bs : List ℕ) (n e : ℕ) → Octets bs → Records c bs → (a : Accepted c k bs e) → n ≡ 0
    → seek_at c k bs n ≡ ok (map_of c (record { start = k; value = a.value }))
unfolding numbered ◌>>=◌
seek_here c k bs n e o r a z =
    let (s, f) = records_turn c k bs e o a r in
    seek_in c k bs n r ∙ ap₂ (λ rs i. numbered c k rs i >>= λ y. ok (map_of c y)) f z

seek_left : (c : Category) (k : ℕ) (bs rest : List ℕ) (e : ℕ) → Octets bs → Records c bs → Accepted c k bs e → rest ≡ drop (e - k) bs → Records c rest
seek_left c k bs rest e o r a left = subst (Records c) (sym left) (records_turn c k bs e o a r).0

seek_turn : (c : Category) (k : ℕ) (bs rest : List ℕ) (n e : ℕ) → Octets bs → Records c bs → Accepted c k bs e → rest ≡ drop (e - k) bs → (n ≡ 0 → ⊥)
    → seek_at c k bs n ≡ seek_at c e rest (n - 1)
unfolding numbered
seek_turn c k bs rest n e o r a left z =
    let (s, f) = records_turn c k bs e o a r in
    let i : n ≡ suc (n - 1) = omega arith in
    seek_in c k bs n r
    ∙ ap₂ (λ rs j. numbered c k rs j >>= λ y. ok (map_of c y)) f i
    ∙ ap (λ j. numbered c j s.values (n - 1) >>= λ y. ok (map_of c y)) a.ends
    ∙ sym (seek_in c e (drop (e - k) bs) (n - 1) s)
    ∙ ap (λ y. seek_at c e y (n - 1)) (sym left)

-- what holds at each turn of the loop that seeks a record: what is left, where it starts, and how many are still to be passed
pub record Seeking (c : Category) (part : List ℕ) (from n : ℕ) (rest : List ℕ) (at left : ℕ) : Type 0 where
  pub room : at + length rest < 65_536
  pub octets : Octets rest
  pub records : Records c rest
  pub same : seek_at c at rest left ≡ seek_at c from part n

pub seek_again : (c : Category) (part : List ℕ) (from n : ℕ) (bs rest : List ℕ) (k left e less : ℕ) → Seeking c part from n bs k left → Accepted c k bs e
    → rest ≡ drop (e - k) bs → (left ≡ 0 → ⊥) → less ≡ left - 1 → Seeking c part from n rest e less
seek_again c part from n bs rest k left e less s a d z f =
    let l : length rest ≡ length bs - (e - k) = ap length d ∙ length-drop (e - k) bs in
    record {
      room = omega (arith, s.room, a.low, a.high);
      octets = subst Octets (sym d) (octets_drop (e - k) bs s.octets);
      records = seek_left c k bs rest e s.octets s.records a d;
      same = ap (seek_at c e rest) f ∙ sym (seek_turn c k bs rest left e s.octets s.records a d z) ∙ s.same;
    }

-- ---- the first record of what is left

pub first_none : (i k : ℕ) (bs : List ℕ) → length bs ≡ 0 → first_at i k bs ≡ refused 19 0
unfolding first_at
first_none i k bs e = if_true _ (eq-eqb (length bs) 0 e) refl

pub first_some : (i k : ℕ) (bs : List ℕ) → 0 < length bs → first_at i k bs ≡ record_at i k bs
unfolding first_at
first_some i k bs l = if_false _ (ne_eqb (length bs) 0 (omega arith)) refl

pub first_of : (i k : ℕ) (bs : List ℕ) (map : RecordMap') → Octets bs → ok map ≡ (first_at i k bs >>= λ m. ok (map_by m)) → MapTaken i k bs map
first_of i k bs map o h = go (eqb (length bs) 0) refl
  where
    go : (t : Bool) → eqb (length bs) 0 ≡ t → MapTaken i k bs map
    go true t = refused_ok (sym (h ∙ bind_out _ (first_none i k bs (eqb-true (length bs) 0 t))))
    go false t =
        let z : length bs ≢ 0 = eqb-false (length bs) 0 t in
        map_taken i k bs map o (h ∙ ap (λ x. x >>= λ m. ok (map_by m)) (first_some i k bs (omega arith)))

-- where all of them are accepted there is none only at their end
pub first_bad : (i k : ℕ) (bs : List ℕ) (n p : ℕ) → Records (category_at i) bs → refused n p ≡ (first_at i k bs >>= λ m. ok (map_by m))
    → (length bs ≡ 0) × (◌≡◌ {A = Answer RecordMap} (refused n p) (refused 19 0))
first_bad i k bs n p r h = go (eqb (length bs) 0) refl
  where
    go : (t : Bool) → eqb (length bs) 0 ≡ t → (length bs ≡ 0) × (◌≡◌ {A = Answer RecordMap} (refused n p) (refused 19 0))
    go true t =
        let z : length bs ≡ 0 = eqb-true (length bs) 0 t in
        (z, sym (made_refused (first_at i k bs) map_by n p (sym h)) ∙ first_none i k bs z)
    go false t =
        let z : length bs ≢ 0 = eqb-false (length bs) 0 t in
        seek_stop _ k bs n p r (omega arith) (map_refused i k bs n p (h ∙ ap (λ x. x >>= λ m. ok (map_by m)) (first_some i k bs (omega arith))))

-- ---- its map

-- the record that was sought, with its map
pub located_at : {x : Answer RecordMap} {i k : ℕ} {bs : List ℕ} {map : RecordMap'} (f : MapTaken i k bs map)
    → x ≡ ok (map_of (category_at i) (record { start = k; value = f.accepted.value }))
    → ◌≡◌ {A = Answer RecordFound} (ok (record { start = k; length = map.end - k; map = map })) (found_in x)
unfolding map_of
located_at {k = k} f q = ap₂ (λ y z. ok (record { start = k; length = y - k; map = z })) (sym f.accepted.ends) f.map_is ∙ ap found_in (sym q)
