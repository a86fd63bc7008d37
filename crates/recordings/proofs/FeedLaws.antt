-- Feeding a recording piece by piece: the answer at the end is the rules' answer of all the pieces end to end, however many there are.
--
-- In order: the length of a piece; numbers in 64 bits; a step; a whole block before the rest; pieces; pieces as they are cut from the front.
-- Assumes nothing.
use Prim.Native.Nat.{ℕ, zero, suc, ◌+◌, ◌-◌, ◌*◌, ◌^◌, ◌≤◌, ◌<◌, max}
use mathlib.Core.Path.{◌≡◌, refl, sym, ap, ap₂, ◌∙◌, subst}
use mathlib.Core.Logic.{⊎_elim}
use mathlib.Core.Bool.{Bool, true, false}
use mathlib.Core.List.{List, [], ◌∷◌, ◌++◌, append-nil, append_assoc}
use native.Mathlib.Omega.{arith}
use native.Mathlib.Nat.{zero-add, le_refl, le-max_left, min-eq_left, min-eq_right, max-eq_right}
use lib.Dec.{leb, ltb, eqb, le→leb}
use borrow.Author.Tests.{le-leb, lt-leb, leb-true, leb-false, ltb-true, eqb-true, eqb-false}
use lib.ListN.{length, take, drop, get_or, length-append, length-drop, take-append-drop, get_or-append}
use lib.Seq.{length-take-le, get_or-take, drop_at, take-append-le, drop-append-le}
use Rattle.rules.specs.Answer.{Answer, ok, refused, ◌>>=◌, need◌or◌then◌, when◌then◌else◌, expect◌or◌, later}
use Rattle.rules.specs.Chain.{flatten}
use Rattle.rules.specs.Block.{Head, category_of}
use Rattle.rules.specs.Catalogue.{categories}
use Rattle.rules.specs.Entry.{Counts, check_recording}
use Rattle.rules.proofs.AnswerLaws.{refused_ok, ok_inj, bind_in, bind_out, bind_elim, need_in, later_in, later_out, if_inv, if_true, if_false, Octets, octets_left, octets_right}
use Rattle.blocks.specs.Read.{len_at, head_at, head_by, count_from, body_at, Front, check_front}
use Rattle.blocks.proofs.HeadLaws.{by_no_head, by_head, Headed, headed, front_refused, front_empty, front_body}
use Rattle.recordings.specs.Feed.{capped, SoFar, started, placed, fed, finished, block_length}
use Rattle.recordings.proofs.CountLaws.{FrontTaken, front_taken, counts, counts_start, counts_end, counts_stop, counts_turn, counts_on, counts_few, place_few}

-- ---- the length of a piece

pub length_short : (bs : List ℕ) → length bs < 3 → block_length bs ≡ 3
unfolding block_length
length_short bs l = if_false _ (lt-leb 3 (length bs) l) refl

pub length_by : (bs : List ℕ) → 3 ≤ length bs → block_length bs ≡ max 3 (len_at bs)
unfolding block_length
length_by bs l = if_true 3 (le-leb 3 (length bs) l) refl

-- ---- numbers in 64 bits

pub capped_is : (n : ℕ) → n < 2 ^ 64 → capped n ≡ n
capped_is n l = min-eq_left (omega arith)

capped_top : (n : ℕ) → 2 ^ 64 - 1 ≤ n → capped n ≡ 2 ^ 64 - 1
capped_top n l = min-eq_right l

by_top : (n : ℕ) (P : Type 0) → (2 ^ 64 - 1 ≤ n → P) → (n < 2 ^ 64 → P) → P
by_top n P f g = go (leb (2 ^ 64 - 1) n) refl
  where
    go : (t : Bool) → leb (2 ^ 64 - 1) n ≡ t → P
    go true e = f (leb-true (2 ^ 64 - 1) n e)
    go false e = g (let l : n < 2 ^ 64 - 1 = leb-false (2 ^ 64 - 1) n e in omega (arith, l))

capped_fits : (n : ℕ) → capped n < 2 ^ 64
capped_fits n = by_top n (capped n < 2 ^ 64) (λ l. omega (arith, capped_top n l)) (λ l. omega (arith, l, capped_is n l))

-- what was held is added to as if it had not been
capped_add : (n m : ℕ) → capped (capped n + m) ≡ capped (n + m)
capped_add n m =
    by_top n (capped (capped n + m) ≡ capped (n + m))
    (λ l. capped_top (capped n + m) (omega (arith, capped_top n l)) ∙ sym (capped_top (n + m) (omega (arith, l))))
    (λ l. ap (λ x. capped (x + m)) (capped_is n l))

-- ---- a step

abbrev pub sofar : ℕ → ℕ → ℕ → SoFar
sofar k b r = record { place = k; blocks = b; records = r }

pub fed_stop : (n p : ℕ) (piece : List ℕ) → fed (refused n p) piece ≡ refused n p
unfolding fed ◌>>=◌
fed_stop n p piece = refl

pub fed_more : (a : SoFar) (piece : List ℕ) (k : Counts) → check_recording categories piece ≡ ok k
    → fed (ok a) piece ≡ ok (sofar (capped (a.place + length piece)) (capped (a.blocks + k.blocks)) (capped (a.records + k.records)))
unfolding fed ◌>>=◌
fed_more a piece k h = bind_in _ (ap (placed a.place) h) refl

pub fed_bad : (a : SoFar) (piece : List ℕ) (n p : ℕ) → check_recording categories piece ≡ refused n p → fed (ok a) piece ≡ refused n (capped (a.place + p))
unfolding fed ◌>>=◌
fed_bad a piece n p h = bind_out _ (ap (placed a.place) h)

-- as the code sums
pub fed_on : (s : Answer SoFar) (a : SoFar) (piece : List ℕ) (k : Counts) (x y z : ℕ) → s ≡ ok a → check_recording categories piece ≡ ok k
    → x ≡ capped (a.place + length piece) → y ≡ capped (a.blocks + k.blocks) → z ≡ capped (a.records + k.records) → ok (sofar x y z) ≡ fed s piece
fed_on s a piece k x y z e h p q r =
    ap (λ n. ok (sofar n y z)) p
    ∙ ap₂ (λ m n. ok (sofar (capped (a.place + length piece)) m n)) q r
    ∙ sym (ap (λ t. fed t piece) e ∙ fed_more a piece k h)

pub fed_off : (s : Answer SoFar) (a : SoFar) (piece : List ℕ) (n p x : ℕ) → s ≡ ok a → check_recording categories piece ≡ refused n p → x ≡ capped (a.place + p) → refused n x ≡ fed s piece
fed_off s a piece n p x e h q = ap (refused n) q ∙ sym (ap (λ t. fed t piece) e ∙ fed_bad a piece n p h)

-- ---- a whole block before the rest

-- a piece that is as long as its head says
abbrev pub Whole : List ℕ → Type 0
Whole p = length p ≡ block_length p

-- a head of three octets
head_of : ℕ → ℕ → ℕ → Answer Head
head_of a b d = (expect category_of a categories or 2) >>= λ c. need leb 3 (b * 256 + d) or 3 then ok (record { category = c; len = b * 256 + d })

head_long : (bs : List ℕ) → 3 ≤ length bs → head_at bs ≡ head_of (get_or bs 0 0) (get_or bs 1 0) (get_or bs 2 0)
unfolding head_at head_of
head_long bs l = need_in _ 1 (le→leb 3 (length bs) l) refl

-- its octets, the rest of the recording after them
module _ (p rest : List ℕ) (whole : Whole p) where
  long : 3 ≤ length p
  unfolding block_length
  long = go (leb 3 (length p)) refl
    where
      go : (t : Bool) → leb 3 (length p) ≡ t → 3 ≤ length p
      go true e = leb-true 3 (length p) e
      go false e = omega (arith, whole ∙ if_false (max 3 (len_at p)) e refl)

  len_is : length p ≡ max 3 (len_at p)
  unfolding block_length
  len_is = whole ∙ if_true 3 (le-leb 3 (length p) long) refl

  same_head : head_at (p ++ rest) ≡ head_at p
  same_head =
      head_long (p ++ rest) (rw length-append (omega (arith, long)))
      ∙ ap (λ a. head_of a (get_or (p ++ rest) 1 0) (get_or (p ++ rest) 2 0)) (get_or-append p rest 0 0 (omega (arith, long)))
      ∙ ap₂ (head_of (get_or p 0 0)) (get_or-append p rest 0 1 (omega (arith, long))) (get_or-append p rest 0 2 (omega (arith, long)))
      ∙ sym (head_long p long)

  -- LEN is the piece's length
  whole_len : (fits : ℕ → ℕ → Bool) (h : Head) → head_by fits p ≡ ok h → h.len ≡ length p
  whole_len fits h e =
      let d : Headed fits p h = headed fits p h e in
      d.len_is ∙ sym (len_is ∙ max-eq_right (subst (λ n. 3 ≤ n) d.len_is d.least))

  head_len : (h : Head) → head_at p ≡ ok h → h.len ≡ length p
  head_len h e = whole_len (λ n m. true) h (by_head (λ n m. true) p h e refl)

  same_by : head_by leb (p ++ rest) ≡ head_by leb p
  same_by = go (head_at p) refl
    where
      go : (x : Answer Head) → head_at p ≡ x → head_by leb (p ++ rest) ≡ head_by leb p
      go (refused n q) e = by_no_head leb (p ++ rest) n q (same_head ∙ e) ∙ sym (by_no_head leb p n q e)
      go (ok h) e =
          by_head leb (p ++ rest) h (same_head ∙ e) (le-leb h.len (length (p ++ rest)) (rw length-append (omega (arith, head_len h e))))
          ∙ sym (by_head leb p h e (le-leb h.len (length p) (omega (arith, head_len h e))))

  same_body : (h : Head) → head_by leb p ≡ ok h → body_at h (p ++ rest) ≡ body_at h p
  same_body h e =
      let n : h.len ≡ length p = whole_len leb h e in
      let d : length (drop 3 p) ≡ length p - 3 = length-drop 3 p in
      ap (take (h.len - 3)) (drop-append-le 3 p rest long) ∙ take-append-le (h.len - 3) (drop 3 p) rest (omega arith)

  -- what follows a whole block does not change its check
  pub same_front : check_front (p ++ rest) ≡ check_front p
  same_front = go (head_by leb p) refl
    where
      by_len : (h : Head) (t : Bool) → head_by leb p ≡ ok h → eqb h.len 3 ≡ t → check_front (p ++ rest) ≡ check_front p
      by_len h true e q = front_empty (p ++ rest) h (same_by ∙ e) (eqb-true h.len 3 q) ∙ sym (front_empty p h e (eqb-true h.len 3 q))
      by_len h false e q =
          front_body (p ++ rest) h (same_by ∙ e) (eqb-false h.len 3 q)
          ∙ ap (λ z. count_from h.category 0 3 z >>= λ n. ok (record { len = h.len; records = n })) (same_body h e)
          ∙ sym (front_body p h e (eqb-false h.len 3 q))

      go : (x : Answer Head) → head_by leb p ≡ x → check_front (p ++ rest) ≡ check_front p
      go (refused n q) e = front_refused (p ++ rest) n q (same_by ∙ e) ∙ sym (front_refused p n q e)
      go (ok h) e = by_len h (eqb h.len 3) e refl

  front_whole : (f : Front) → check_front p ≡ ok f → f.len ≡ length p
  front_whole f k = go (head_by leb p) refl
    where
      by_len : (h : Head) (t : Bool) → head_by leb p ≡ ok h → eqb h.len 3 ≡ t → f.len ≡ length p
      by_len h true e q = refused_ok (sym (front_empty p h e (eqb-true h.len 3 q)) ∙ k)
      by_len h false e q =
          bind_elim _ _ (sym (front_body p h e (eqb-false h.len 3 q)) ∙ k) λ n r z.
          ap (λ y. y.len) (sym (ok_inj z)) ∙ whole_len leb h e

      go : (x : Answer Head) → head_by leb p ≡ x → f.len ≡ length p
      go (refused n q) e = refused_ok (sym (front_refused p n q e) ∙ k)
      go (ok h) e = by_len h (eqb h.len 3) e refl

-- ---- pieces

-- by what an answer is
by_answer : {A : Type 0} (x : Answer A) (P : Type 0) → ((a : A) → x ≡ ok a → P) → ((n p : ℕ) → x ≡ refused n p → P) → P
by_answer (ok a) P f g = f a refl
by_answer (refused n p) P f g = g n p refl

-- one after another
abbrev pub feed_all : Answer SoFar → List (List ℕ) → Answer SoFar
feed_all s [] = s
feed_all s (p ∷ ps) = feed_all (fed s p) ps

finish_ok : (a : SoFar) → finished (ok a) ≡ ok (counts a.blocks a.records)
unfolding finished ◌>>=◌
finish_ok a = refl

finish_refused : (n p : ℕ) → finished (refused n p) ≡ refused n p
unfolding finished ◌>>=◌
finish_refused n p = refl

-- a whole block alone
whole_alone : (p : List ℕ) (f : Front) → Octets p → FrontTaken p f → f.len ≡ length p → check_recording categories p ≡ ok (counts 1 f.records)
whole_alone p f o t e =
    sym (counts_start p)
    ∙ counts_turn 0 0 0 p (drop f.len p) f o t refl
    ∙ counts_end (0 + 1) (0 + f.records) (0 + f.len) (drop f.len p) (length-drop f.len p ∙ omega arith)
    ∙ ap (λ n. ok (counts 1 n)) (zero-add f.records)

-- a whole block and what follows it, fed at once or one after the other
module _ (a : SoFar) (p rest : List ℕ) (whole : Whole p) (o : Octets (p ++ rest)) where
  p_octets : Octets p
  p_octets = octets_left p rest o

  all_length : length (p ++ rest) ≡ length p + length rest
  all_length = length-append p rest

  Alike : Type 0
  Alike = fed (ok a) (p ++ rest) ≡ fed (fed (ok a) p) rest

  block_refused : (n s : ℕ) → check_front p ≡ refused n s → Alike
  unfolding Alike
  block_refused n s e =
      let l : 0 < length p = omega (arith, long p rest whole) in
      let m : 0 < length (p ++ rest) = omega (arith, all_length, l) in
      fed_bad a (p ++ rest) n s (sym (counts_start (p ++ rest)) ∙ counts_stop 0 0 0 (p ++ rest) n s m (same_front p rest whole ∙ e) ∙ ap (refused n) (zero-add s))
      ∙ sym (ap (λ z. fed z rest) (fed_bad a p n s (sym (counts_start p) ∙ counts_stop 0 0 0 p n s l e ∙ ap (refused n) (zero-add s))) ∙ fed_stop n (capped (a.place + s)) rest)

  module _ (f : Front) (e : check_front p ≡ ok f) where
    n : f.len ≡ length p
    n = front_whole p rest whole f e

    first : fed (ok a) p ≡ ok (sofar (capped (a.place + length p)) (capped (a.blocks + 1)) (capped (a.records + f.records)))
    first = fed_more a p (counts 1 f.records) (whole_alone p f p_octets (front_taken p f p_octets e) n)

    -- the whole's answer by the rest's
    both : check_recording categories (p ++ rest) ≡ (later (0 + f.len) (check_recording categories rest) >>= λ j. ok (counts (0 + 1 + j.blocks) (0 + f.records + j.records)))
    both =
        let t : FrontTaken (p ++ rest) f = front_taken (p ++ rest) f o (same_front p rest whole ∙ e) in
        sym (counts_start (p ++ rest)) ∙ counts_turn 0 0 0 (p ++ rest) rest f o t (sym (drop_at p rest f.len (sym n))) ∙ counts_on (0 + 1) (0 + f.records) (0 + f.len) rest

    block_accepted : Alike
    unfolding Alike
    block_accepted = by_answer (check_recording categories rest) (fed (ok a) (p ++ rest) ≡ fed (fed (ok a) p) rest)
        (λ k r.
        let x : a.place + length (p ++ rest) ≡ a.place + length p + length rest = omega (arith, all_length) in
        let y : a.blocks + (0 + 1 + k.blocks) ≡ a.blocks + 1 + k.blocks = omega arith in
        let z : a.records + (0 + f.records + k.records) ≡ a.records + f.records + k.records = omega arith in
        fed_more a (p ++ rest) (counts (0 + 1 + k.blocks) (0 + f.records + k.records)) (both ∙ bind_in _ (later_in (0 + f.len) r) refl)
        ∙ ap (λ u. ok (sofar (capped u) (capped (a.blocks + (0 + 1 + k.blocks))) (capped (a.records + (0 + f.records + k.records))))) x
        ∙ ap₂ (λ u v. ok (sofar (capped (a.place + length p + length rest)) (capped u) (capped v))) y z
        ∙ sym (ap (λ w. fed w rest) first ∙ fed_more (sofar (capped (a.place + length p)) (capped (a.blocks + 1)) (capped (a.records + f.records))) rest k r
        ∙ ap (λ u. ok (sofar u (capped (capped (a.blocks + 1) + k.blocks)) (capped (capped (a.records + f.records) + k.records)))) (capped_add (a.place + length p) (length rest))
        ∙ ap₂ (λ u v. ok (sofar (capped (a.place + length p + length rest)) u v)) (capped_add (a.blocks + 1) k.blocks) (capped_add (a.records + f.records) k.records)))
        (λ m q r.
        let x : a.place + (0 + f.len + q) ≡ a.place + length p + q = omega (arith, n) in
        fed_bad a (p ++ rest) m (0 + f.len + q) (both ∙ bind_out _ (later_out (0 + f.len) r))
        ∙ ap (λ u. refused m (capped u)) x
        ∙ sym (ap (λ w. fed w rest) first ∙ fed_bad (sofar (capped (a.place + length p)) (capped (a.blocks + 1)) (capped (a.records + f.records))) rest m q r ∙ ap (refused m) (capped_add (a.place + length p) q)))

  fed_block : fed (ok a) (p ++ rest) ≡ fed (fed (ok a) p) rest
  unfolding Alike
  fed_block = by_answer (check_front p) (fed (ok a) (p ++ rest) ≡ fed (fed (ok a) p) rest) block_accepted block_refused

fed_join : (s : Answer SoFar) (p rest : List ℕ) → Whole p → Octets (p ++ rest) → fed s (p ++ rest) ≡ fed (fed s p) rest
fed_join (ok a) p rest w o = fed_block a p rest w o
fed_join (refused n q) p rest w o = fed_stop n q (p ++ rest) ∙ sym (ap (λ z. fed z rest) (fed_stop n q p) ∙ fed_stop n q rest)

-- ---- numbers that fit stay as they are where nothing is fed

abbrev Fit : Answer SoFar → Type 0
Fit (ok a) = (a.place < 2 ^ 64) × (a.blocks < 2 ^ 64) × (a.records < 2 ^ 64)
Fit (refused n p) = Unit {0}

fed_fits : (s : Answer SoFar) (p : List ℕ) → Fit (fed s p)
fed_fits (refused n q) p = subst Fit (sym (fed_stop n q p)) tt
fed_fits (ok a) p =
    by_answer (check_recording categories p) (Fit (fed (ok a) p))
    (λ k e. subst Fit (sym (fed_more a p k e)) (capped_fits (a.place + length p), capped_fits (a.blocks + k.blocks), capped_fits (a.records + k.records)))
    (λ n q e. subst Fit (sym (fed_bad a p n q e)) tt)

fed_none : (s : Answer SoFar) → Fit s → fed s [] ≡ s
fed_none (refused n q) w = fed_stop n q []
fed_none (ok a) w =
    let x : a.place + 0 ≡ a.place = omega arith in
    let y : a.blocks + 0 ≡ a.blocks = omega arith in
    let z : a.records + 0 ≡ a.records = omega arith in
    fed_more a [] (counts 0 0) (sym (counts_start []) ∙ counts_end 0 0 0 [] refl)
    ∙ ap (λ u. ok (sofar u (capped (a.blocks + 0)) (capped (a.records + 0)))) (ap capped x ∙ capped_is a.place w.0)
    ∙ ap₂ (λ u v. ok (sofar a.place u v)) (ap capped y ∙ capped_is a.blocks w.1) (ap capped z ∙ capped_is a.records w.2)

-- ---- pieces of whole blocks, one, more or none

abbrev pub AllWhole : List (List ℕ) → Type 0
AllWhole [] = Unit {0}
AllWhole (p ∷ ps) = Whole p × AllWhole ps

-- blocks end to end, each as long as its head says
pub record Blocks (p : List ℕ) : Type 0 where
  pub blocks : List (List ℕ)
  pub whole : AllWhole blocks
  pub are : flatten blocks ≡ p

-- a block alone
pub one_block : (p : List ℕ) → Whole p → Blocks p
one_block p w = record { blocks = p ∷ []; whole = (w, tt); are = append-nil p }

-- each piece but the last is whole blocks; the last is what is left over
abbrev pub Pieces : List (List ℕ) → Type 0
Pieces [] = Unit {0}
Pieces (p ∷ []) = Unit {0}
Pieces (p ∷ (q ∷ ps)) = Blocks p × Pieces (q ∷ ps)

fed_blocks : (s : Answer SoFar) (bs : List (List ℕ)) (rest : List ℕ) → Fit s → AllWhole bs → Octets (flatten bs ++ rest) → fed s (flatten bs ++ rest) ≡ fed (fed s (flatten bs)) rest
fed_blocks s [] rest f w o = ap (λ z. fed z rest) (sym (fed_none s f))
fed_blocks s (p ∷ bs) rest f w o =
    let e : (p ++ flatten bs) ++ rest ≡ p ++ (flatten bs ++ rest) = append_assoc p (flatten bs) rest in
    let o₁ : Octets (p ++ (flatten bs ++ rest)) = subst Octets e o in
    ap (fed s) e
    ∙ fed_join s p (flatten bs ++ rest) w.0 o₁
    ∙ fed_blocks (fed s p) bs rest (fed_fits s p) w.1 (octets_right p (flatten bs ++ rest) o₁)
    ∙ ap (λ z. fed z rest) (sym (fed_join s p (flatten bs) w.0 (octets_left (p ++ flatten bs) rest o)))

-- fed one after the other or all at once
fed_all : (s : Answer SoFar) (p : List ℕ) (ps : List (List ℕ)) → Fit s → Pieces (p ∷ ps) → Octets (flatten (p ∷ ps)) → feed_all s (p ∷ ps) ≡ fed s (flatten (p ∷ ps))
fed_all s p [] f w o = ap (fed s) (sym (append-nil p))
fed_all s p (q ∷ ps) f w o =
    let later-on : List ℕ = flatten (q ∷ ps) in
    let b : Blocks p = w.0 in
    fed_all (fed s p) q ps (fed_fits s p) w.1 (octets_right p later-on o)
    ∙ ap (λ z. fed (fed s z) later-on) (sym b.are)
    ∙ sym (fed_blocks s b.blocks later-on f b.whole (subst (λ z. Octets (z ++ later-on)) (sym b.are) o))
    ∙ ap (λ z. fed s (z ++ later-on)) b.are

-- a recording that is fed at once
fed_whole_lem : (p : List ℕ) → Octets p → length p < 2 ^ 64 → finished (fed started p) ≡ check_recording categories p
fed_whole_lem p o l =
    by_answer (check_recording categories p) (finished (fed started p) ≡ check_recording categories p)
    (λ k e.
    let (u, v) = counts_few p k o e in
    ap finished (fed_more (sofar 0 0 0) p k e) ∙ finish_ok _
    ∙ ap₂ (λ x y. ok (counts x y)) (ap capped (zero-add k.blocks) ∙ capped_is k.blocks (omega (arith, u, l))) (ap capped (zero-add k.records) ∙ capped_is k.records (omega (arith, v, l)))
    ∙ sym e)
    (λ n q e.
    ap finished (fed_bad (sofar 0 0 0) p n q e) ∙ finish_refused n _
    ∙ ap (refused n) (ap capped (zero-add q) ∙ capped_is q (omega (arith, place_few p o n q e, l))) ∙ sym e)

-- FEEDING IS CHECKING: however a recording is cut at its blocks' ends, the last piece being what is left over, the answer is that of the whole
pub feeding : (ps : List (List ℕ)) → Octets (flatten ps) → length (flatten ps) < 2 ^ 64 → Pieces ps → finished (feed_all started ps) ≡ check_recording categories (flatten ps)
feeding [] o l w = finish_ok (sofar 0 0 0) ∙ sym (sym (counts_start []) ∙ counts_end 0 0 0 [] refl)
feeding (p ∷ ps) o l w = ap finished (fed_all started p ps (omega arith, omega arith, omega arith) w o) ∙ fed_whole_lem (flatten (p ∷ ps)) o l

-- ---- cut as it is read: a head, and then as many octets as it says, or what there is of them

abbrev pub cut_from : ℕ → List ℕ → List (List ℕ)
cut_from zero bs = bs ∷ []
cut_from (suc f) bs = when ltb (block_length bs) (length bs) then take (block_length bs) bs ∷ cut_from f (drop (block_length bs) bs) else bs ∷ []

cut_joins : (f : ℕ) (bs : List ℕ) → flatten (cut_from f bs) ≡ bs
cut_joins zero bs = append-nil bs
cut_joins (suc f) bs =
    ⊎_elim
    (λ (e, g). ap flatten (sym g) ∙ ap (λ z. take (block_length bs) bs ++ z) (cut_joins f (drop (block_length bs) bs)) ∙ take-append-drop (block_length bs) bs)
    (λ (e, g). ap flatten (sym g) ∙ append-nil bs)
    (if_inv (ltb (block_length bs) (length bs)) (take (block_length bs) bs ∷ cut_from f (drop (block_length bs) bs)) (bs ∷ []) refl)

least_by : (t : Bool) (n : ℕ) → 3 ≤ (when t then max 3 n else 3)
unfolding when◌then◌else◌
least_by true n = le-max_left 3 n
least_by false n = le_refl 3

least_three : (bs : List ℕ) → 3 ≤ block_length bs
unfolding block_length
least_three bs = least_by (leb 3 (length bs)) (len_at bs)

-- the head of a piece is the head of what it was cut from
cut_whole : (bs : List ℕ) → block_length bs < length bs → Whole (take (block_length bs) bs)
cut_whole bs l =
    let n : length (take (block_length bs) bs) ≡ block_length bs = length-take-le (block_length bs) bs (omega arith) in
    let t : 3 ≤ length bs = omega (arith, least_three bs) in
    let u : 3 ≤ length (take (block_length bs) bs) = omega (arith, least_three bs) in
    n
    ∙ length_by bs t
    ∙ sym (length_by (take (block_length bs) bs) u
    ∙ ap₂ (λ x y. max 3 (x * 256 + y)) (get_or-take (block_length bs) bs 1 0 (omega (arith, least_three bs))) (get_or-take (block_length bs) bs 2 0 (omega (arith, least_three bs))))

-- a piece more in front
pieces_cons : (p : List ℕ) (ps : List (List ℕ)) → Whole p → Pieces ps → Pieces (p ∷ ps)
pieces_cons p [] w h = tt
pieces_cons p (q ∷ ps) w h = (one_block p w, h)

cut_pieces : (f : ℕ) (bs : List ℕ) → Pieces (cut_from f bs)
cut_pieces zero bs = tt
cut_pieces (suc f) bs =
    ⊎_elim
    (λ (e, g). subst Pieces g (pieces_cons (take (block_length bs) bs) (cut_from f (drop (block_length bs) bs)) (cut_whole bs (ltb-true (block_length bs) (length bs) e)) (cut_pieces f (drop (block_length bs) bs))))
    (λ (e, g). subst Pieces g tt)
    (if_inv (ltb (block_length bs) (length bs)) (take (block_length bs) bs ∷ cut_from f (drop (block_length bs) bs)) (bs ∷ []) refl)

pub cutting : (bs : List ℕ) → Octets bs → length bs < 2 ^ 64 → finished (feed_all started (cut_from (length bs) bs)) ≡ check_recording categories bs
cutting bs o l =
    let e : flatten (cut_from (length bs) bs) ≡ bs = cut_joins (length bs) bs in
    feeding (cut_from (length bs) bs) (subst Octets (sym e) o) (subst (λ z. length z < 2 ^ 64) (sym e) l) (cut_pieces (length bs) bs) ∙ ap (check_recording categories) e
