-- The records of an accepted log rise from its start to its end, each with an octet at least. Assumes nothing.
use Prim.Native.Nat.{ℕ, ◌+◌, ◌<◌, ◌≤◌}
use mathlib.Core.Path.{◌≡◌, refl, sym, ap, ◌∙◌, subst}
use mathlib.Core.List.{List, [], ◌∷◌, ◌++◌}
use native.Mathlib.Omega.{arith}
use lib.ListN.{length, length-append}
use Rattle.rules.specs.Answer.{Answer, ok, refused, octets_of}
use Rattle.rules.specs.Record.{Category, Record, write_record}
use Rattle.rules.specs.Block.{Block, write_all, write_block}
use Rattle.rules.specs.Recording.{write_recording, read_recording}
use Rattle.rules.specs.Merge.{Head, heads_of, heads_in, block_heads, accepted, unread, checked_as, log_of}
use Rattle.rules.proofs.AnswerLaws.{ok_inj, bind_elim, octets_of-ok, Octets}
use Rattle.rules.proofs.ChainLaws.{num_length}
use Rattle.rules.proofs.RecordLaws.{record_laws, record_starts}
use Rattle.rules.proofs.BlockLaws.{BlockParts, block_parts}
use Rattle.rules.proofs.RecordingLaws.{recording_forth}
use Rattle.rules.proofs.RunLaws.{Rises}

pub some_octet : (c : Category) (r : Record) (u : List ℕ) → write_record c r ≡ ok u → 0 < length u
some_octet c r [] h = absurd (record_starts c r [] ((record_laws c).back r [] [] h))
some_octet c r (b ∷ u) h = omega arith

rises_less : (end at to : ℕ) (hs : List Head) → at ≤ to → Rises end to hs → Rises end at hs
rises_less end at to [] l r = omega arith
rises_less end at to (h ∷ hs) l r = (omega (arith, r.0), r.1, r.2)

records_rise : (c : Category) (rs : List Record) (k end : ℕ) (body : List ℕ) (hs : List Head) → write_all (write_record c) rs ≡ ok body → Rises end (k + length body) hs
    → Rises end k (heads_of c k rs ++ hs)
unfolding write_all heads_of
records_rise c [] k end body hs h r = rises_less end k (k + length body) hs (omega arith) r
records_rise c (x ∷ rs) k end body hs h r =
    bind_elim _ _ h λ u p h₁.
    bind_elim _ _ h₁ λ us q h₂.
    let e : length (octets_of (write_record c x)) ≡ length u = ap length (octets_of-ok p) in
    let l : length body ≡ length u + length us = ap length (sym (ok_inj h₂)) ∙ length-append u us in
    let j : k + length body ≡ k + length (octets_of (write_record c x)) + length us = omega arith in
    (omega arith, omega (arith, some_octet c x u p), records_rise c rs (k + length (octets_of (write_record c x))) end us hs q (subst (λ n. Rises end n hs) j r))

-- a block is its head of three octets and its records
pub block_length_lem : (cs : List Category) (k : Block) (u : List ℕ) (w : BlockParts cs k u) → length u ≡ 3 + length w.body
block_length_lem cs k u w =
    omega (
      arith,
      ap length (sym w.joins) ∙ length-append w.number (w.len ++ w.body),
      length-append w.len w.body,
      num_length 1 _ w.number w.number_is,
      num_length 2 _ w.len w.len_is,
    )

blocks_rise : (cs : List Category) (ks : List Block) (b end : ℕ) (bs : List ℕ) → write_all (write_block cs) ks ≡ ok bs → b + length bs ≤ end
    → Rises end b (block_heads cs b ks)
unfolding write_all block_heads
blocks_rise cs [] b end bs h l = omega arith
blocks_rise cs (k ∷ ks) b end bs h l =
    bind_elim _ _ h λ u p h₁.
    bind_elim _ _ h₁ λ us q h₂.
    let w : BlockParts cs k u = block_parts cs k u p in
    let e : length (octets_of (write_block cs k)) ≡ length u = ap length (octets_of-ok p) in
    let n : length bs ≡ length u + length us = ap length (sym (ok_inj h₂)) ∙ length-append u us in
    let m : length u ≡ 3 + length w.body = block_length_lem cs k u w in
    let to : ℕ = b + length (octets_of (write_block cs k)) in
    let i : Rises end to (block_heads cs to ks) = blocks_rise cs ks to end us q (omega arith) in
    let j : to ≡ b + 3 + length w.body = omega arith in
    let r : Rises end (b + 3) (heads_of w.category (b + 3) k.records ++ block_heads cs to ks) =
    records_rise w.category k.records (b + 3) end w.body (block_heads cs to ks) w.writes (subst (λ z. Rises end z (block_heads cs to ks)) j i) in
    subst (λ z. Rises end b (heads_in z (b + 3) k.records ++ block_heads cs to ks)) (sym w.is_category)
    (rises_less end b (b + 3) (heads_of w.category (b + 3) k.records ++ block_heads cs to ks) (omega arith) r)

-- what is read of an accepted log
pub record Accepted (cs : List Category) (bs : List ℕ) (hs : List Head) (m : ℕ) : Type 0 where
  pub blocks : List Block
  pub reads : read_recording cs bs ≡ ok blocks
  pub heads : hs ≡ block_heads cs 0 blocks
  pub end : m ≡ length bs

pub log_accepted : (cs : List Category) (bs : List ℕ) (hs : List Head) (m : ℕ) → log_of cs bs ≡ accepted hs m → Accepted cs bs hs m
unfolding log_of
log_accepted cs bs hs m h = go (read_recording cs bs) refl h
  where
    go : (a : Answer (List Block)) → read_recording cs bs ≡ a → checked_as cs (length bs) a ≡ accepted hs m → Accepted cs bs hs m
    go (ok ks) e h = record { blocks = ks; reads = e; heads = (cc); end = (cc) }
    go (refused n p) e h = let z : ◌≡◌ {A = ℕ} 0 1 = cc in absurd (omega arith)

pub log_read : (cs : List Category) (bs : List ℕ) (ks : List Block) → read_recording cs bs ≡ ok ks → log_of cs bs ≡ accepted (block_heads cs 0 ks) (length bs)
unfolding log_of
log_read cs bs ks h = rw h

pub log_refused : (cs : List Category) (bs : List ℕ) (n p : ℕ) → read_recording cs bs ≡ refused n p → log_of cs bs ≡ unread n p
unfolding log_of
log_refused cs bs n p h = rw h

pub read_rises : (cs : List Category) (bs : List ℕ) (ks : List Block) → Octets bs → read_recording cs bs ≡ ok ks → Rises (length bs) 0 (block_heads cs 0 ks)
unfolding write_recording
read_rises cs bs ks o h = blocks_rise cs ks 0 (length bs) bs (recording_forth cs bs ks o h) (omega arith)

-- the records of an accepted log rise from its start to its end
pub log_rises : (cs : List Category) (bs : List ℕ) (hs : List Head) (m : ℕ) → Octets bs → log_of cs bs ≡ accepted hs m → Rises m 0 hs
log_rises cs bs hs m o h = by (log_accepted cs bs hs m h)
  where
    by : Accepted cs bs hs m → Rises m 0 hs
    by a = subst (λ z. Rises z 0 hs) (sym a.end) (subst (Rises (length bs) 0) (sym a.heads) (read_rises cs bs a.blocks o a.reads))
