-- The blocks of a recording, as a loop takes them by the answer of each: its length and its count of records, or a refusal.
--
-- In order: one block; the counts of what is left; how large they are; one turn of the loop. Assumes nothing.
use Prim.Native.Nat.{ℕ, zero, suc, ◌+◌, ◌-◌, ◌≤◌, ◌<◌}
use mathlib.Core.Path.{◌≡◌, refl, sym, ap, ap₂, ◌∙◌, subst}
use mathlib.Core.List.{List, [], ◌∷◌}
use native.Mathlib.Omega.{arith}
use native.Mathlib.Nat.{add-zero, zero-add, add_assoc}
use lib.Dec.{leb, leb→le}
use lib.ListN.{length, take, drop, length-drop}
use lib.Seq.{length-take-le}
use Rattle.rules.specs.Answer.{Answer, ok, refused, ◌>>=◌, later}
use Rattle.rules.specs.Block.{Block, write_block, read_up_to, read_all, read_block, read_body}
use Rattle.rules.specs.Recording.{read_recording}
use Rattle.rules.specs.Catalogue.{categories}
use Rattle.rules.specs.Entry.{count_records, Counts, check_recording}
use Rattle.rules.proofs.AnswerLaws.{refused_ok, ok_inj, bind_elim, bind_cong, need_elim, later_inv, Octets, Split, after, octets_drop}
use Rattle.rules.proofs.RecordLaws.{record_laws, record_starts}
use Rattle.rules.proofs.BlockLaws.{block_laws, block_starts, HeadCame, head_forth}
use Rattle.blocks.specs.Read.{Front, check_front}
use Rattle.blocks.proofs.InsideLaws.{Inside, bind_inside, ok_inside, up_to-inside, block_inside}
use Rattle.blocks.proofs.LoopLaws.{later_zero, later_made, made_refused, Taken, taken, all_few, all_end, all_stop, all_turn}

-- ---- one block

-- the block at the front of octets: so many octets, and so many records
pub record FrontTaken (bs : List ℕ) (f : Front) : Type 0 where
  pub block : Block
  pub reads : read_block leb categories bs ≡ ok (block, drop f.len bs)
  pub count : length block.records ≡ f.records
  pub some : 0 < f.len
  pub within : f.len ≤ length bs
  pub few : f.records ≤ f.len

-- a block has no more records than octets
records_few : (bs rest : List ℕ) (b : Block) → Octets bs → read_block leb categories bs ≡ ok (b, rest) → length b.records ≤ length bs - length rest
unfolding read_block read_body
records_few bs rest b o h =
    bind_elim _ _ h λ x p h₁.
    need_elim _ _ _ h₁ λ t h₂.
    bind_elim _ _ h₂ λ y q h₃.
    bind_elim _ _ q λ rs z q₁.
    let c : HeadCame leb categories x.0 bs x.1 = head_forth leb categories x.0 bs x.1 o p in
    let e : length rs ≤ length (take (x.0.len - 3) x.1) = all_few (record_laws x.0.category) (record_starts x.0.category) _ rs (later_inv _ _ z) in
    let l : x.0.len ≤ length bs = leb→le _ _ c.fitted in
    let m : length (take (x.0.len - 3) x.1) ≡ x.0.len - 3 = length-take-le (x.0.len - 3) x.1 (omega (arith, c.left)) in
    let d : length rest ≡ length x.1 - (x.0.len - 3) = ap (λ z. length z.1) (sym (ok_inj h₃)) ∙ ap (λ z. length z.1) (sym (ok_inj q₁)) ∙ length-drop (x.0.len - 3) x.1 in
    let f : length b.records ≡ length rs = ap (λ z. length z.0.records) (sym (ok_inj h₃)) ∙ ap (λ z. length z.0) (sym (ok_inj q₁)) in
    omega (arith, c.left)

pub front_taken : (bs : List ℕ) (f : Front) → Octets bs → check_front bs ≡ ok f → FrontTaken bs f
unfolding check_front
front_taken bs f o h =
    bind_elim _ _ h λ x p h₁.
    let t : Taken bs x.1 (length bs - length x.1) = taken (block_laws categories) (block_starts categories) x.0 bs x.1 o p in
    subst (FrontTaken bs) (ok_inj h₁)
    (record {
      block = x.0;
      reads = p ∙ ap (λ z. ok (x.0, z)) t.left;
      count = refl;
      some = t.some;
      within = omega (arith, t.whole);
      few = records_few bs x.1 x.0 o p;
    })

-- a refusal of it
pub front_refused : (bs : List ℕ) (n p : ℕ) → check_front bs ≡ refused n p → read_block leb categories bs ≡ refused n p
unfolding check_front
front_refused bs n p h = made_refused (read_block leb categories bs) (λ x. record { len = length bs - length x.1; records = length x.0.records }) n p h

-- ---- the counts of what is left, where so much came before

abbrev pub counts : ℕ → ℕ → Counts
counts b r = record { blocks = b; records = r }

unfoldable pub counts_from : ℕ → ℕ → ℕ → List ℕ → Answer Counts
counts_from b r k bs = later k (read_all (read_block leb categories) bs) >>= λ ks. ok (counts (b + length ks) (r + count_records ks))

pub counts_start : (bs : List ℕ) → counts_from 0 0 0 bs ≡ check_recording categories bs
unfolding counts_from check_recording read_recording
counts_start bs =
    ap (λ z. z >>= λ ks. ok (counts (0 + length ks) (0 + count_records ks))) (later_zero (read_all (read_block leb categories) bs))
    ∙ bind_cong (read_all (read_block leb categories) bs) _ _ (λ ks. ap₂ (λ x y. ok (counts x y)) (zero-add (length ks)) (zero-add (count_records ks)))

pub counts_end : (b r k : ℕ) (bs : List ℕ) → length bs ≡ 0 → counts_from b r k bs ≡ ok (counts b r)
unfolding counts_from
counts_end b r k bs e = all_end (block_laws categories) (block_starts categories) k bs _ e ∙ ap₂ (λ x y. ok (counts x y)) (add-zero b) (add-zero r)

pub counts_stop : (b r k : ℕ) (bs : List ℕ) (n p : ℕ) → 0 < length bs → check_front bs ≡ refused n p → counts_from b r k bs ≡ refused n (k + p)
unfolding counts_from
counts_stop b r k bs n p l h = all_stop (block_laws categories) (block_starts categories) k bs _ n p l (front_refused bs n p h)

more_blocks : (b j : ℕ) → b + suc j ≡ b + 1 + j
more_blocks b j = omega arith

pub counts_turn : (b r k : ℕ) (bs rest : List ℕ) (f : Front) → Octets bs → FrontTaken bs f → rest ≡ drop f.len bs
    → counts_from b r k bs ≡ counts_from (b + 1) (r + f.records) (k + f.len) rest
unfolding counts_from
counts_turn b r k bs rest f o t left =
    let e : length bs - length (drop f.len bs) ≡ f.len = rw length-drop (omega (arith, t.within)) in
    all_turn (block_laws categories) (block_starts categories) k bs (drop f.len bs) t.block _ o t.reads
    ∙ ap₂ (λ d z. later (k + d) (read_all (read_block leb categories) z) >>= λ ks. ok (counts (b + suc (length ks)) (r + (length t.block.records + count_records ks)))) e (sym left)
    ∙ bind_cong (later (k + f.len) (read_all (read_block leb categories) rest)) _ _
    (λ ks. ap₂ (λ x y. ok (counts x y)) (more_blocks b (length ks)) (ap (λ n. r + (n + count_records ks)) t.count ∙ sym (add_assoc r f.records (count_records ks))))

-- ---- how large they are

-- in terms of the rule on what is left
pub counts_on : (b r k : ℕ) (bs : List ℕ) → counts_from b r k bs ≡ (later k (check_recording categories bs) >>= λ j. ok (counts (b + j.blocks) (r + j.records)))
unfolding counts_from check_recording read_recording
counts_on b r k bs =
    sym (later_made k (read_all (read_block leb categories) bs) (λ ks. counts (length ks) (count_records ks)) (λ j. ok (counts (b + j.blocks) (r + j.records))))

records_sum : (f : ℕ) (bs : List ℕ) (ks : List Block) → Octets bs → read_up_to (read_block leb categories) f bs ≡ ok ks → count_records ks ≤ length bs
unfolding read_up_to
records_sum zero [] ks o h = rw (← ok_inj h) (omega arith)
records_sum zero (b ∷ bs) ks o h = refused_ok h
records_sum (suc f) [] ks o h = rw (← ok_inj h) (omega arith)
records_sum (suc f) (b ∷ bs) ks o h =
    bind_elim _ _ h λ x p h₁.
    bind_elim _ _ h₁ λ js q h₂.
    let s : Split (write_block categories) x.0 (b ∷ bs) x.1 = (block_laws categories).forth x.0 (b ∷ bs) x.1 o p in
    let t : Taken (b ∷ bs) x.1 (suc (length bs) - length x.1) = taken (block_laws categories) (block_starts categories) x.0 (b ∷ bs) x.1 o p in
    rw (← ok_inj h₂) (omega (arith, records_few (b ∷ bs) x.1 x.0 o p, records_sum f x.1 js (after s o) (later_inv _ _ q), t.whole))

pub counts_few : (bs : List ℕ) (k : Counts) → Octets bs → check_recording categories bs ≡ ok k → (k.blocks ≤ length bs) × (k.records ≤ length bs)
unfolding check_recording read_recording read_all
counts_few bs k o h =
    bind_elim _ _ h λ ks p h₁.
    let e : counts (length ks) (count_records ks) ≡ k = ok_inj h₁ in
    rw (← e) (all_few (block_laws categories) (block_starts categories) bs ks p, records_sum (length bs) bs ks o p)

pub place_few : (bs : List ℕ) → Octets bs → Inside (length bs) (check_recording categories bs)
unfolding check_recording read_recording read_all
place_few bs o = bind_inside (length bs) _ _ (up_to-inside (block_laws categories) block_inside (length bs) bs o) (λ ks e. ok_inside _ _)

-- ---- one turn of the loop: what is left, where it starts, and what came before

pub record Checking (whole rest : List ℕ) (place blocks records : ℕ) : Type 0 where
  pub place_is : place + length rest ≡ length whole
  pub blocks_few : blocks + length rest ≤ length whole
  pub records_few : records + length rest ≤ length whole
  pub octets : Octets rest
  pub same : counts_from blocks records place rest ≡ check_recording categories whole

pub check_start : (bs : List ℕ) → Octets bs → Checking bs bs 0 0 0
check_start bs o = record { place_is = zero-add _; blocks_few = omega arith; records_few = omega arith; octets = o; same = counts_start bs }

pub check_again : (whole bs rest : List ℕ) (place blocks records : ℕ) (f : Front) → Checking whole bs place blocks records → FrontTaken bs f → rest ≡ drop f.len bs
    → Checking whole rest (place + f.len) (blocks + 1) (records + f.records)
check_again whole bs rest place blocks records f s t left =
    let l : length rest ≡ length bs - f.len = ap length left ∙ length-drop f.len bs in
    record {
      place_is = omega (arith, s.place_is, t.within);
      blocks_few = omega (arith, s.blocks_few, t.within, t.some);
      records_few = omega (arith, s.records_few, t.within, t.few);
      octets = subst Octets (sym left) (octets_drop f.len bs s.octets);
      same = sym (counts_turn blocks records place bs rest f s.octets t left) ∙ s.same;
    }
