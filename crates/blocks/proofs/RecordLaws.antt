-- The records of a block, as a loop takes them by the answer of each: its map, or a refusal with its place in the block.
--
-- In order: one record; how many there are; octets that are records. Assumes nothing.
use Prim.Native.Nat.{ℕ, suc, ◌+◌, ◌-◌, ◌≤◌, ◌<◌}
use mathlib.Core.Path.{◌≡◌, refl, sym, ap, ◌∙◌, subst}
use mathlib.Core.List.{List, ◌∷◌}
use native.Mathlib.Omega.{arith}
use native.Mathlib.Nat.{add-zero}
use lib.ListN.{length, drop, length-drop}
use Rattle.rules.specs.Answer.{Answer, ok, refused, ◌>>=◌, later, octets_of}
use Rattle.rules.specs.Record.{Category, Record, read_record, write_record}
use Rattle.rules.specs.Block.{read_all}
use Rattle.rules.specs.Entry.{RecordMap, map_of}
use Rattle.rules.proofs.AnswerLaws.{refused_ok, ok_inj, bind_in, bind_elim, bind_cong, later_inv, later_in, octets_of-ok, Octets, Split, octets_drop}
use Rattle.rules.proofs.RecordLaws.{record_laws, record_starts}
use Rattle.sets.specs.Sets.{category_at}
use Rattle.records.specs.declared.RecordMap as Code
use Rattle.records.specs.Answers.{map_by, record_at}
use Rattle.quick_records.specs.Record.{end_at}
use Rattle.blocks.specs.Read.{count_from, Records}
use Rattle.blocks.proofs.LoopLaws.{Taken, taken_out, made_refused, all_end, all_stop, all_turn}

-- ---- one record

-- the map of the record that starts octets, its places counted from k on
abbrev pub record_in : Category → ℕ → List ℕ → Answer RecordMap
record_in c k bs = later k (read_record c bs >>= λ x. ok (map_of c (record { start = k; value = x.0 })))

pub record_is : (i k : ℕ) (bs : List ℕ) → record_at i k bs ≡ record_in (category_at i) k bs
unfolding record_at
record_is i k bs = refl

-- a record that starts octets and ends at e: its value, its map, and what is left
pub record Accepted (c : Category) (k : ℕ) (bs : List ℕ) (e : ℕ) : Type 0 where
  pub value : Record
  pub mapped : record_in c k bs ≡ ok (map_of c (record { start = k; value = value }))
  pub reads : read_record c bs ≡ ok (value, drop (e - k) bs)
  pub ends : k + length (octets_of (write_record c value)) ≡ e
  pub low : k < e
  pub high : e ≤ k + length bs

record_accepted : (c : Category) (k : ℕ) (bs : List ℕ) (m : RecordMap) (e : ℕ) → Octets bs → record_in c k bs ≡ ok m → m.end ≡ e → Accepted c k bs e
unfolding map_of
record_accepted c k bs m e o h z =
    bind_elim _ _ (later_inv k _ h) λ x p q.
    let s : Split (write_record c) x.0 bs x.1 = (record_laws c).forth x.0 bs x.1 o p in
    let t : Taken bs x.1 (length s.out) = taken_out (record_laws c) (record_starts c) x.0 bs x.1 s in
    let u : length (octets_of (write_record c x.0)) ≡ length s.out = ap length (octets_of-ok s.writes) in
    let y : k + length (octets_of (write_record c x.0)) ≡ e = ap (λ v. v.end) (ok_inj q) ∙ z in
    let d : e - k ≡ length s.out = omega arith in
    record {
      value = x.0;
      mapped = h ∙ ap ok (sym (ok_inj q));
      reads = p ∙ ap (λ v. ok (x.0, v)) (t.left ∙ ap (λ n. drop n bs) (sym d));
      ends = y;
      low = omega (arith, t.some);
      high = omega (arith, t.whole);
    }

-- a refusal, and its place in the record
pub record Refusal (c : Category) (k : ℕ) (bs : List ℕ) (n q : ℕ) : Type 0 where
  pub place : ℕ
  pub reads : read_record c bs ≡ refused n place
  pub place_is : k + place ≡ q

refusal_of : {A B : Type 0} (k : ℕ) (x : Answer A) (f : A → B) (n q : ℕ) → later k (x >>= λ a. ok (f a)) ≡ refused n q → (p : ℕ) × (x ≡ refused n p) × (k + p ≡ q)
unfolding later ◌>>=◌
refusal_of k (ok a) f n q h = refused_ok (sym h)
refusal_of k (refused m p) f n q h = (p, (cc), (cc))

record_refusal : (c : Category) (k : ℕ) (bs : List ℕ) (n q : ℕ) → record_in c k bs ≡ refused n q → Refusal c k bs n q
record_refusal c k bs n q h =
    let (p, e, f) = refusal_of k (read_record c bs) (λ x. map_of c (record { start = k; value = x.0 })) n q h in
    record { place = p; reads = e; place_is = f }

-- ---- by the answer of the record's check

module _ (i k : ℕ) (bs : List ℕ) where
  pub ended_accepted : (e : ℕ) → Octets bs → ok e ≡ end_at i k bs → Accepted (category_at i) k bs e
  ended_accepted e o h =
      bind_elim _ _ (sym h) λ m p q.
      record_accepted (category_at i) k bs m e o (sym (record_is i k bs) ∙ p) (ok_inj q)

  pub ended_refused : (n q : ℕ) → refused n q ≡ end_at i k bs → Refusal (category_at i) k bs n q
  ended_refused n q h =
      record_refusal (category_at i) k bs n q (sym (record_is i k bs) ∙ made_refused (record_at i k bs) (λ m. m.end) n q (sym h))

-- ---- by its map, as the code has it

pub record MapTaken (i k : ℕ) (bs : List ℕ) (map : Code.RecordMap) : Type 0 where
  pub accepted : Accepted (category_at i) k bs map.end
  pub map_is : map ≡ map_by (map_of (category_at i) (record { start = k; value = accepted.value }))

pub map_taken : (i k : ℕ) (bs : List ℕ) (map : Code.RecordMap) → Octets bs → ok map ≡ (record_at i k bs >>= λ m. ok (map_by m)) → MapTaken i k bs map
map_taken i k bs map o h =
    bind_elim _ _ (sym h) λ m p q.
    let z : map_by m ≡ map = ok_inj q in
    let a : Accepted (category_at i) k bs map.end = record_accepted (category_at i) k bs m map.end o (sym (record_is i k bs) ∙ p) (ap (λ y. y.end) z) in
    record { accepted = a; map_is = sym z ∙ ap map_by (ok_inj (sym p ∙ record_is i k bs ∙ a.mapped)) }

pub map_refused : (i k : ℕ) (bs : List ℕ) (n q : ℕ) → refused n q ≡ (record_at i k bs >>= λ m. ok (map_by m)) → Refusal (category_at i) k bs n q
map_refused i k bs n q h = record_refusal (category_at i) k bs n q (sym (record_is i k bs) ∙ made_refused (record_at i k bs) map_by n q (sym h))

-- ---- how many there are

pub count_end : (c : Category) (n k : ℕ) (bs : List ℕ) → length bs ≡ 0 → count_from c n k bs ≡ ok n
unfolding count_from
count_end c n k bs e = all_end (record_laws c) (record_starts c) k bs _ e ∙ ap ok (add-zero n)

pub count_stop : (c : Category) (n k : ℕ) (bs : List ℕ) (m q : ℕ) → 0 < length bs → Refusal c k bs m q → count_from c n k bs ≡ refused m q
unfolding count_from
count_stop c n k bs m q l r = all_stop (record_laws c) (record_starts c) k bs _ m r.place l r.reads ∙ ap (refused m) r.place_is

-- what is left after a record that ends at a place
left_over : {c : Category} {k : ℕ} {bs : List ℕ} {e : ℕ} → Accepted c k bs e → k + (length bs - length (drop (e - k) bs)) ≡ e
left_over {bs = bs} a = rw length-drop (omega (arith, a.low, a.high))

more : (i j : ℕ) → i + suc j ≡ i + 1 + j
more i j = omega arith

pub count_turn : (c : Category) (n k : ℕ) (bs rest : List ℕ) (e : ℕ) → Octets bs → Accepted c k bs e → rest ≡ drop (e - k) bs
    → count_from c n k bs ≡ count_from c (n + 1) e rest
unfolding count_from
count_turn c n k bs rest e o a left =
    all_turn (record_laws c) (record_starts c) k bs (drop (e - k) bs) a.value _ o a.reads
    ∙ ap (λ z. later z (read_all (read_record c) (drop (e - k) bs)) >>= λ rs. ok (n + suc (length rs))) (left_over a)
    ∙ bind_cong (later e (read_all (read_record c) (drop (e - k) bs))) _ _ (λ rs. ap ok (more n (length rs)))
    ∙ ap (λ z. later e (read_all (read_record c) z) >>= λ rs. ok (n + 1 + length rs)) (sym left)

-- what holds at each turn of the loop that counts the records of a part: what is left, where it starts, and how many came before
pub record Counting (c : Category) (part : List ℕ) (from : ℕ) (rest : List ℕ) (at n : ℕ) : Type 0 where
  pub room : at + length rest < 65_536
  pub few : n + length rest ≤ length part
  pub octets : Octets rest
  pub same : count_from c n at rest ≡ count_from c 0 from part

pub count_again : (c : Category) (part : List ℕ) (from : ℕ) (bs rest : List ℕ) (k n e : ℕ) → Counting c part from bs k n → Accepted c k bs e
    → rest ≡ drop (e - k) bs → Counting c part from rest e (n + 1)
count_again c part from bs rest k n e s a d =
    let l : length rest ≡ length bs - (e - k) = ap length d ∙ length-drop (e - k) bs in
    record {
      room = omega (arith, s.room, a.low, a.high);
      few = omega (arith, s.few, a.low, a.high);
      octets = subst Octets (sym d) (octets_drop (e - k) bs s.octets);
      same = sym (count_turn c n k bs rest e s.octets a d) ∙ s.same;
    }

-- ---- octets that are records

-- after the first record there are records again
pub records_turn : (c : Category) (k : ℕ) (bs : List ℕ) (e : ℕ) → Octets bs → (a : Accepted c k bs e) (r : Records c bs)
    → (s : Records c (drop (e - k) bs)) × (r.values ≡ a.value ∷ s.values)
records_turn c k bs e o a r =
    let z : (later 0 (read_all (read_record c) bs) >>= ok) ≡ ok r.values = bind_in ok (later_in 0 r.reads) refl in
    bind_elim _ _ (sym (all_turn (record_laws c) (record_starts c) 0 bs (drop (e - k) bs) a.value ok o a.reads) ∙ z) λ rs p q.
    (record { values = rs; reads = later_inv _ _ p }, sym (ok_inj q))

-- none of them is refused
pub seek_stop : {C : Type 0} (c : Category) (k : ℕ) (bs : List ℕ) (m q : ℕ) → Records c bs → 0 < length bs → Refusal c k bs m q → C
seek_stop c k bs m q r l s =
    let z : (later 0 (read_all (read_record c) bs) >>= ok) ≡ ok r.values = bind_in ok (later_in 0 r.reads) refl in
    refused_ok (sym (all_stop (record_laws c) (record_starts c) 0 bs ok m s.place l s.reads) ∙ z)
