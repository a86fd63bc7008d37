-- The records that are found in an accepted log are the rules': the same places, sizes and times. Assumes nothing.
--
-- In order: a record; the records of a block; blocks end to end; an accepted log.
use Prim.Native.Nat.{ℕ, ◌+◌, ◌-◌, ◌<◌, ◌≤◌}
use mathlib.Core.Path.{◌≡◌, refl, sym, ap, ◌∙◌}
use mathlib.Core.Bool.{true}
use mathlib.Core.Option.{Option, none, some}
use mathlib.Core.List.{List, [], ◌∷◌, ◌++◌, append_assoc}
use native.Mathlib.Omega.{arith}
use Rattle.std.specs.Prelude.{is_some, unwrap_or}
use lib.Dec.{leb, le→leb, lt→ltb, ltb→lt}
use lib.ListN.{length, take, drop, length-append, length-drop}
use lib.Seq.{drop-drop, drop_at, take_at}
use Rattle.rules.specs.Answer.{ok, refused, ◌>>=◌, need◌or◌then◌, octets_of}
use Rattle.rules.specs.Record.{Category, Record, read_record, write_record}
use Rattle.rules.specs.Block.{Block, category_of, write_all, write_block, read_head}
use Rattle.rules.specs.Chain.{write_num}
use Rattle.rules.specs.Recording.{write_recording, read_recording}
use Rattle.rules.specs.Catalogue.{categories}
use Rattle.rules.specs.Entry.{Counts, check_recording}
use Rattle.rules.specs.Merge.{record_time, heads_of, heads_in, block_heads, accepted, unread, log_of}
use Rattle.rules.proofs.AnswerLaws.{ok_inj, bind_in, bind_elim, need_in, need_elim, later_in, octets_of-ok, Octets}
use Rattle.rules.proofs.ChainLaws.{num_length}
use Rattle.rules.proofs.RecordLaws.{record_laws}
use Rattle.rules.proofs.BlockLaws.{category_cat, head_back, BlockParts, block_parts}
use Rattle.rules.proofs.RecordingLaws.{recording_forth}
use Rattle.rules.proofs.LogLaws.{some_octet, block_length_lem, log_read, log_refused}
use Rattle.blocks.specs.Read.{head_at, head_by}
use Rattle.blocks.proofs.LoopLaws.{made_refused}
use Rattle.measuring.specs.Measure.{sized, measure_of}
use Rattle.measuring.proofs.TimeLaws.{measure_is}
use Rattle.walking.specs.declared.Cursor.{Cursor}
use Rattle.walking.specs.Walk.{begin, part, open_in, open_at}
use Rattle.walking.proofs.StepLaws.{length_part, octets_part, open_stop}
use Rattle.walking.proofs.BlockLaws.{part_drop}
use Rattle.merging.specs.declared.heads.Standing.{Standing}
use Rattle.merging.specs.Heads.{end_cursor, end_at, left_of, stand_of, stood_at, is_head, behind_of, head_of, heads_left}
use Rattle.merging.proofs.HeadLaws.{measured_fits, InLog, log_in_lem, IsHead, head_yes, end_none, at_here, at_open, at_none, stood_none, stood_some, stand_in, left_none, left_head, stands}

-- LEN has two octets
num_less : (n : ℕ) (f : List ℕ) → write_num 2 n ≡ ok f → n < 65_536
unfolding write_num
num_less n f h = need_elim _ _ _ h λ t g. ltb→lt n 65_536 t

module _ (bs : List ℕ) (o : Octets bs) where
  -- ---- one step

  heads_on : (c : Cursor) → is_head (length bs) (stand_of bs c) ≡ true → heads_left bs c ≡ head_of (stand_of bs c) ∷ heads_left bs (behind_of (stand_of bs c))
  heads_on c h = sym (stands bs o c).is ∙ left_head bs (stand_of bs c) h

  heads_none : (c : Cursor) → stand_of bs c ≡ end_at (length bs) → heads_left bs c ≡ []
  heads_none c e = sym (stands bs o c).is ∙ left_none bs (stand_of bs c) (ap (is_head (length bs)) e ∙ end_none (length bs) (length bs))

  -- ---- a record

  abbrev sized_at : Cursor → ℕ → Option ℕ → Standing
  sized_at d n t = record { at = d; size = n; timed = is_some (sized n t).time; time = unwrap_or (sized n t).time 0 }

  sized_head : (d : Cursor) (n : ℕ) (t : Option ℕ) → head_of (sized_at d n t) ≡ record { place = d.place; size = n; time = t }
  sized_head d n none = refl
  sized_head d n (some t) = refl

  stood_sized : (d : Cursor) (n : ℕ) (t : Option ℕ) → 0 < n → measure_of d.category (part bs d.place d.end) ≡ sized n t → stood_at bs d ≡ sized_at d n t
  stood_sized d n none l e = sym (stood_some bs d (sized n none) (sym e) (λ z. omega (arith, z, l)))
  stood_sized d n (some t) l e = sym (stood_some bs d (sized n (some t)) (sym e) (λ z. omega (arith, z, l)))

  module _ (c : Category) (named : category_of c.cat categories ≡ some c) (b e : ℕ) (high : e ≤ length bs) (few : e - b < 65_536) where
    abbrev at : ℕ → Cursor
    at p = record { block = b; place = p; end = e; category = c.cat }

    stand_record : (p : ℕ) (r : Record) (u us : List ℕ) → b + 3 ≤ p → p < e → write_record c r ≡ ok u → part bs p e ≡ u ++ us
        → stand_of bs (at p) ≡ sized_at (at p) (length (octets_of (write_record c r))) (record_time c r)
    stand_record p r u us low l w j =
        let i : InLog (length bs) (at p) = record { low = omega arith; within = omega arith; high = high } in
        let n : length (part bs p e) ≡ e - p = length_part bs p e high in
        let x : read_record c (part bs p e) ≡ ok (r, us) = ap (read_record c) j ∙ (record_laws c).back r u us w in
        let s : length (octets_of (write_record c r)) ≡ length u = ap length (octets_of-ok w) in
        sym (stand_in bs (at p) (log_in_lem (length bs) (at p) i))
        ∙ ap (stood_at bs) (sym (at_here bs (at p) l))
        ∙ stood_sized (at p) (length (octets_of (write_record c r))) (record_time c r) (omega (arith, some_octet c r u w))
        (measure_is c.cat c named (part bs p e) r us (octets_part bs p e o) (omega (arith, n)) x)

    -- ---- the records of a block

    heads_records : (rs : List Record) (p : ℕ) (body : List ℕ) → write_all (write_record c) rs ≡ ok body → part bs p e ≡ body → b + 3 ≤ p → p + length body ≡ e
        → heads_left bs (at p) ≡ heads_of c p rs ++ heads_left bs (at e)
    unfolding write_all heads_of
    heads_records [] p body h j low last =
        let z : length body ≡ 0 = ap length (sym (ok_inj h)) in
        let y : p ≡ e = omega arith in
        ap (λ k. heads_left bs (at k)) y
    heads_records (r ∷ rs) p body h j low last =
        bind_elim _ _ h λ u w h₁.
        bind_elim _ _ h₁ λ us v h₂.
        let n : ℕ = length (octets_of (write_record c r)) in
        let s : n ≡ length u = ap length (octets_of-ok w) in
        let k : length body ≡ length u + length us = ap length (sym (ok_inj h₂)) ∙ length-append u us in
        let d : stand_of bs (at p) ≡ sized_at (at p) n (record_time c r) = stand_record p r u us low (omega (arith, some_octet c r u w)) w (j ∙ sym (ok_inj h₂)) in
        let i : IsHead (length bs) (sized_at (at p) n (record_time c r)) =
        record { some_octet = omega (arith, some_octet c r u w); low = omega arith; within = omega arith; high = high; inside = omega arith } in
        let q : part bs (p + n) e ≡ us =
        sym (part_drop bs p e n) ∙ ap (drop n) (j ∙ sym (ok_inj h₂)) ∙ drop_at u us n (sym s) in
        heads_on (at p) (ap (is_head (length bs)) d ∙ head_yes (length bs) (sized_at (at p) n (record_time c r)) i)
        ∙ ap (λ z. head_of z ∷ heads_left bs (behind_of z)) d
        ∙ ap (λ z. z ∷ heads_left bs (at (p + n))) (sized_head (at p) n (record_time c r))
        ∙ ap (λ z. record { place = p; size = n; time = record_time c r } ∷ z) (heads_records rs (p + n) us v q (omega arith) (omega arith))

  -- ---- blocks end to end, from a cursor at the end of the block before

  heads_same : (c d : Cursor) → stand_of bs c ≡ stand_of bs d → heads_left bs c ≡ heads_left bs d
  heads_same c d e = sym (stands bs o c).is ∙ ap (left_of bs) e ∙ (stands bs o d).is

  -- the log's end
  none_left : (n : ℕ) → (measure_of 0 (part bs n n)).size ≡ 0
  none_left n = by (measured_fits 0 (part bs n n))
    where
      m : length (part bs n n) ≤ 0
      m = let z : n - n ≡ 0 = omega arith in rw z (omega arith)

      by : (measure_of 0 (part bs n n)).size ≤ length (part bs n n) → (measure_of 0 (part bs n n)).size ≡ 0
      by l = omega (arith, m)

  module _ (b : ℕ) (low : b ≤ length bs) (c : Cursor) (first : c.block ≤ b) (place_is_lem : c.place ≡ b) (end_is : c.end ≡ b) where
    in_it : InLog (length bs) c
    in_it = record { low = omega arith; within = omega arith; high = omega arith }

    at_last : drop b bs ≡ [] → heads_left bs c ≡ []
    unfolding head_by head_at ◌>>=◌ need◌or◌then◌
    at_last d =
        heads_none c
        (sym (stand_in bs c (log_in_lem (length bs) c in_it))
        ∙ ap (stood_at bs) (sym (at_none bs c (omega arith) 1 (b + 0) (ap (open_at bs) end_is ∙ open_stop bs b 1 0 (ap (head_by leb) d))))
        ∙ sym (stood_none bs (end_cursor (length bs)) (none_left (length bs))))

    at_block : (d : Cursor) → open_at bs b ≡ ok d → InLog (length bs) d → d.place < d.end → heads_left bs c ≡ heads_left bs d
    at_block d e k m =
        heads_same c d
        (sym (stand_in bs c (log_in_lem (length bs) c in_it))
        ∙ ap (stood_at bs) (sym (at_open bs c (omega arith) d (ap (open_at bs) end_is ∙ e)) ∙ at_here bs d m)
        ∙ stand_in bs d (log_in_lem (length bs) d k))

  -- a block that is written is opened
  opens_written : (b : ℕ) (k : Block) (u vs : List ℕ) (w : BlockParts categories k u) → drop b bs ≡ u ++ vs → 0 < length w.body
      → open_at bs b ≡ ok (record { block = b; place = b + 3; end = b + (3 + length w.body); category = w.category.cat })
  unfolding open_at open_in
  opens_written b k u vs w j l =
      let x : drop b bs ≡ w.number ++ (w.len ++ (w.body ++ vs)) =
      j
      ∙ ap (λ z. z ++ vs) (sym w.joins)
      ∙ append_assoc w.number (w.len ++ w.body) vs
      ∙ ap (λ z. w.number ++ z) (append_assoc w.len w.body vs) in
      let n : length (w.number ++ (w.len ++ (w.body ++ vs))) ≡ 3 + (length w.body + length vs) =
      omega (
        arith,
        length-append w.number (w.len ++ (w.body ++ vs)),
        length-append w.len (w.body ++ vs),
        length-append w.body vs,
        num_length 1 _ w.number w.number_is,
        num_length 2 _ w.len w.len_is,
      ) in
      later_in b
      (bind_in _
      (ap (read_head leb categories) x
      ∙ head_back leb categories w.category k.cat (3 + length w.body) w.number w.len (w.body ++ vs) w.is_category w.number_is w.len_is (omega arith)
      (le→leb (3 + length w.body) _ (omega (arith, n))))
      (need_in _ 4 (lt→ltb 3 (3 + length w.body) (omega arith)) refl))

  body_written : (b : ℕ) (k : Block) (u vs : List ℕ) (w : BlockParts categories k u) → drop b bs ≡ u ++ vs → part bs (b + 3) (b + (3 + length w.body)) ≡ w.body
  body_written b k u vs w j =
      let n : length (w.number ++ w.len) ≡ 3 =
      omega (arith, length-append w.number w.len, num_length 1 _ w.number w.number_is, num_length 2 _ w.len w.len_is) in
      let x : u ++ vs ≡ (w.number ++ w.len) ++ (w.body ++ vs) =
      ap (λ z. z ++ vs) (sym w.joins ∙ sym (append_assoc w.number w.len w.body)) ∙ append_assoc (w.number ++ w.len) w.body vs in
      let e : b + (3 + length w.body) - (b + 3) ≡ length w.body = omega arith in
      ap (λ z. take z (drop (b + 3) bs)) e
      ∙ ap (take (length w.body)) (sym (drop-drop 3 b bs) ∙ ap (drop 3) (j ∙ x) ∙ drop_at (w.number ++ w.len) (w.body ++ vs) 3 n)
      ∙ take_at w.body vs (length w.body) refl

  some_body : (c : Category) (rs : List Record) (body : List ℕ) → write_all (write_record c) rs ≡ ok body → 0 < length rs → 0 < length body
  unfolding write_all
  some_body c [] body h l = absurd (omega arith)
  some_body c (r ∷ rs) body h l =
      bind_elim _ _ h λ u p h₁.
      bind_elim _ _ h₁ λ us q h₂.
      omega (arith, some_octet c r u p, ap length (sym (ok_inj h₂)) ∙ length-append u us)

  heads_blocks : (ks : List Block) (b : ℕ) (us : List ℕ) → write_all (write_block categories) ks ≡ ok us → drop b bs ≡ us → b ≤ length bs
      → (c : Cursor) → c.block ≤ b → c.place ≡ b → c.end ≡ b → heads_left bs c ≡ block_heads categories b ks
  unfolding write_all block_heads
  heads_blocks [] b us h d l c low p q = at_last b l c low p q (d ∙ sym (ok_inj h))
  heads_blocks (k ∷ ks) b us h d l c low p q =
      bind_elim _ _ h λ u f h₁.
      bind_elim _ _ h₁ λ vs g h₂.
      let w : BlockParts categories k u = block_parts categories k u f in
      let y : Category = w.category in
      let n : ℕ = length (octets_of (write_block categories k)) in
      let m : n ≡ length u = ap length (octets_of-ok f) in
      let t : length u ≡ 3 + length w.body = block_length_lem categories k u w in
      let j : drop b bs ≡ u ++ vs = d ∙ sym (ok_inj h₂) in
      let z : length bs - b ≡ length u + length vs = sym (length-drop b bs) ∙ ap length j ∙ length-append u vs in
      let named : category_of y.cat categories ≡ some y =
      ap (λ v. category_of v categories) (sym (category_cat k.cat categories y w.is_category)) ∙ w.is_category in
      let s : 0 < length w.body = some_body y k.records w.body w.writes w.some_records in
      let e : ℕ = b + (3 + length w.body) in
      let few : 3 + length w.body < 65_536 = num_less (3 + length w.body) w.len w.len_is in
      let last : e ≡ b + n = omega arith in
      at_block b l c low p q (record { block = b; place = b + 3; end = e; category = y.cat }) (opens_written b k u vs w j s)
      (record { low = omega arith; within = omega arith; high = omega arith }) (omega arith)
      ∙ heads_records y named b e (omega arith) (omega arith) k.records (b + 3) w.body w.writes (body_written b k u vs w j) (omega arith) (omega arith)
      ∙ ap (λ v. heads_of y (b + 3) k.records ++ v)
      (heads_blocks ks (b + n) vs g (sym (drop-drop n b bs) ∙ ap (drop n) j ∙ drop_at u vs n (sym m)) (omega arith) (record { block = b; place = e; end = e; category = y.cat }) (omega arith) last last)
      ∙ sym (ap (λ v. heads_in v (b + 3) k.records ++ block_heads categories (b + n) ks) w.is_category)

  -- ---- an accepted log

  pub heads_begin : (ks : List Block) → read_recording categories bs ≡ ok ks → heads_left bs begin ≡ block_heads categories 0 ks
  unfolding write_recording
  heads_begin ks h = heads_blocks ks 0 bs (recording_forth categories bs ks o h) refl (omega arith) begin (omega arith) refl refl

  pub log_on : (n : Counts) → check_recording categories bs ≡ ok n → log_of categories bs ≡ accepted (heads_left bs begin) (length bs)
  unfolding check_recording
  log_on n h = bind_elim _ _ h λ ks p h₁. log_read categories bs ks p ∙ ap (λ z. accepted z (length bs)) (sym (heads_begin ks p))

pub log_off : (bs : List ℕ) (n p : ℕ) → check_recording categories bs ≡ refused n p → log_of categories bs ≡ unread n p
unfolding check_recording
log_off bs n p h = log_refused categories bs n p (made_refused (read_recording categories bs) _ n p h)
