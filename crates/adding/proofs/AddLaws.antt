-- Adding a record: octets laid one by one, and what the output then holds.
--
-- In order: a loop that lays octets; the whole of what is laid; the answers of adding; by what the code answers; what the answer says. Assumes nothing.
use Prim.Native.Nat.{ℕ, zero, suc, ◌+◌, ◌-◌, ◌/◌, ◌%◌, ◌≤◌, ◌<◌}
use Rattle.std.specs.Prelude.{Result, Ok, Err}
use Rattle.std.specs.Result.{MatchResult}
use mathlib.Core.Path.{◌≡◌, refl, sym, ap, ap₂, ◌∙◌}
use mathlib.Core.Bool.{Bool, true, false}
use mathlib.Core.List.{List, [], ◌∷◌, ◌++◌, append_assoc}
use native.Mathlib.Omega.{arith}
use native.Mathlib.Nat.{div-one, le_refl}
use native.Mathlib.Numerals.{add-one}
use borrow.Rule.Slice.PartMut.{put_mid}
use lib.ListN.{length, take, drop, get_or, set, length-append, length-set, length-drop}
use lib.Seq.{paste, paste-zero, paste-suc, length-paste, take-paste, drop-paste, take-length, drop-drop, drop-set-lt, length-take-le}
use lib.Dec.{eqb, le→leb, eqb→eq}
use borrow.Author.Tests.{lt-leb}
use Rattle.rules.specs.Answer.{Answer, ok, refused, ◌>>=◌}
use Rattle.rules.specs.Chain.{octets}
use Rattle.rules.specs.Catalogue.{categories}
use Rattle.rules.specs.declared.faults.Refusal.{Refusal}
use Rattle.rules.specs.Told.{number_of}
use Rattle.rules.specs.Entry.{over, new_record, join_record, added, refused_old, refused_new, in_new, in_old, Added, add_record, leaves_added}
use Rattle.rules.proofs.AnswerLaws.{refused_ok, ok_inj, bind_in, bind_out, bind_elim, need_in, need_out, Octets}
use Rattle.rules.proofs.EntryLaws.{over_is}
use Rattle.blocks.specs.Read.{Opening, open_from}
use Rattle.blocks.proofs.HeadLaws.{headed, len_few, old_none, old_is}
use Rattle.blocks.proofs.LoopLaws.{made_refused}
use Rattle.rules.proofs.ChainLaws.{octets_take}
use Rattle.sets.specs.Sets.{category_at, frns_of, fspec_at}
use Rattle.records.specs.Answers.{new_at}
use Rattle.records.proofs.NewLaws.{new_octets}
use Rattle.adding.specs.declared.add.AddRefusal.{AddRefusal}
use Rattle.adding.specs.declared.add.AddRefusal.TheVariants.{Old, New}
use Rattle.adding.specs.Added.{added_of, added_as, laid}

-- ---- a loop that lays octets: so many of s stand in d, from a place on

pub record Laying (d : List ℕ) (at : ℕ) (s out : List ℕ) (k : ℕ) : Type 0 where
  pub few : k ≤ length s
  pub room : at + length s ≤ length d
  pub is : out ≡ paste d at s k

pub lay_start : (d : List ℕ) (at : ℕ) (s : List ℕ) → at + length s ≤ length d → Laying d at s d 0
lay_start d at s l = record { few = omega arith; room = l; is = paste-zero d at s }

pub lay_length : {d : List ℕ} {at : ℕ} {s out : List ℕ} {k : ℕ} → Laying d at s out k → length out ≡ length d
lay_length {d} {at} {s} {out} {k} l = ap length l.is ∙ length-paste d at s k (omega (arith, l.few, l.room)) l.few

pub lay_again : {d : List ℕ} {at : ℕ} {s out : List ℕ} {k v : ℕ} → Laying d at s out k → k < length s → v ≡ get_or s k 0 → Laying d at s (set out (at + k) v) (k + 1)
lay_again {d} {at} {s} {out} {k} l h e =
    record {
      few = omega arith;
      room = l.room;
      is = ap₂ (λ o v. set o (at + k) v) l.is e ∙ paste-suc d at s k 0 (omega (arith, l.room)) h ∙ ap (paste d at s) (sym (add-one k));
    }

pub lay_end : {d : List ℕ} {at : ℕ} {s out : List ℕ} {k : ℕ} → Laying d at s out k → length s ≤ k → out ≡ paste d at s (length s)
lay_end {d} {at} {s} {k = k} l h =
    let e : k ≡ length s = omega (arith, l.few) in
    l.is ∙ ap (paste d at s) e

-- ---- the whole of what is laid

-- the octets in use, with LEN renewed
renewed : (out : List ℕ) (used x y : ℕ) → 3 ≤ used → 3 ≤ length out
    → take used (set (set out 1 x) 2 y) ≡ take 1 (take used out) ++ ((x ∷ (y ∷ [])) ++ drop 3 (take used out))
renewed [] used x y u l = absurd (omega arith)
renewed (a ∷ []) used x y u l = absurd (omega arith)
renewed (a ∷ (b ∷ [])) used x y u l = absurd (omega arith)
renewed (a ∷ (b ∷ (d ∷ out))) zero x y u l = absurd (omega arith)
renewed (a ∷ (b ∷ (d ∷ out))) (suc zero) x y u l = absurd (omega arith)
renewed (a ∷ (b ∷ (d ∷ out))) (suc (suc zero)) x y u l = absurd (omega arith)
renewed (a ∷ (b ∷ (d ∷ out))) (suc (suc (suc used))) x y u l = refl

two_octets : (n : ℕ) → octets 2 n ≡ n / 256 ∷ (n % 256 ∷ [])
unfolding octets
two_octets n = ap (λ z. n / 256 ∷ (z ∷ [])) (div-one (n % 256))

-- LEN as it is laid
pub len_laid : (out mid : List ℕ) (n : ℕ) → 3 ≤ length out → n < 65_536 → mid ≡ n / 256 % 256 ∷ (n % 256 ∷ []) → put_mid 1 2 out mid ≡ set (set out 1 (n / 256)) 2 (n % 256)
len_laid [] mid n l m e = absurd (omega arith)
len_laid (a ∷ []) mid n l m e = absurd (omega arith)
len_laid (a ∷ (b ∷ [])) mid n l m e = absurd (omega arith)
len_laid (a ∷ (b ∷ (d ∷ out))) mid n l m e =
    let h : n / 256 % 256 ≡ n / 256 = omega arith in
    ap (put_mid 1 2 (a ∷ (b ∷ (d ∷ out)))) e ∙ ap (λ z. a ∷ (z ∷ (n % 256 ∷ out))) h

-- what is after a part that was pasted
drop_after : (d : List ℕ) (at : ℕ) (s : List ℕ) (j : ℕ) → at ≤ length d → drop (at + length s + j) (paste d at s (length s)) ≡ drop (at + length s + j) d
drop_after d at s j l =
    sym (drop-drop j (at + length s) (paste d at s (length s)))
    ∙ ap (drop j) (drop-paste d at s (length s) l (le_refl (length s)))
    ∙ drop-drop j (at + length s) d

-- two parts, one after the other
two_parts : (d : List ℕ) (at : ℕ) (f i : List ℕ) → at ≤ length d
    → paste (paste d at f (length f)) (at + length f) i (length i) ≡ ((take at d ++ f) ++ i) ++ drop (at + length f + length i) d
two_parts d at f i l =
    ap₂ (λ x y. (x ++ take (length i) i) ++ y) (take-paste d at f (length f) l (le_refl (length f))) (drop_after d at f (length i) l)
    ∙ ap₂ (λ x y. ((take at d ++ x) ++ y) ++ drop (at + length f + length i) d) (take-length f) (take-length i)

regroup : (a b c d e : List ℕ) → ((a ++ (b ++ c)) ++ d) ++ e ≡ a ++ (b ++ (c ++ (d ++ e)))
regroup a b c d e = simp append_assoc

-- a block with a record more: LEN renewed, the record after the old ones
abbrev pub with_record : List ℕ → ℕ → List ℕ → List ℕ
with_record old len new = take 1 old ++ (octets 2 len ++ (drop 3 old ++ new))

module _ (out : List ℕ) (used : ℕ) (three : 3 ≤ used) (room : used ≤ length out) where
  pub with_length : (len : ℕ) (new : List ℕ) → length (with_record (take used out) len new) ≡ used + length new
  with_length len new =
      let o : length (take used out) ≡ used = length-take-le used out room in
      let a : length (take 1 (take used out)) ≡ 1 = length-take-le 1 (take used out) (omega arith) in
      let b : length (octets 2 len) ≡ 2 = ap length (two_octets len) in
      let d : length (drop 3 (take used out)) ≡ used - 3 = length-drop 3 (take used out) ∙ ap (λ n. n - 3) o in
      simp length-append (omega arith)

  pub laid_is : (len : ℕ) (fspec items : List ℕ) → len ≤ length out → len ≡ used + (length fspec + length items)
      → laid out used len fspec items ≡ over (with_record (take used out) len (fspec ++ items)) out
  laid_is len fspec items l e =
      let n : length (set (set out 1 (len / 256)) 2 (len % 256)) ≡ length out = length-set (set out 1 (len / 256)) 2 (len % 256) ∙ length-set out 1 (len / 256) in
      let g : used + length fspec + length items ≡ len = omega arith in
      let h : length (with_record (take used out) len (fspec ++ items)) ≡ len =
      with_length len (fspec ++ items) ∙ ap (λ k. used + k) (length-append fspec items) ∙ sym e in
      two_parts (set (set out 1 (len / 256)) 2 (len % 256)) used fspec items (omega arith)
      ∙ ap₂ (λ x y. ((x ++ fspec) ++ items) ++ y) (renewed out used (len / 256) (len % 256) three (omega arith))
      (ap (λ k. drop k (set (set out 1 (len / 256)) 2 (len % 256))) g
      ∙ drop-set-lt len (set out 1 (len / 256)) 2 (len % 256) (omega arith)
      ∙ drop-set-lt len out 1 (len / 256) (omega arith))
      ∙ ap (λ z. z ++ drop len out)
      (regroup (take 1 (take used out)) (len / 256 ∷ (len % 256 ∷ [])) (drop 3 (take used out)) fspec items
      ∙ ap (λ z. take 1 (take used out) ++ (z ++ (drop 3 (take used out) ++ (fspec ++ items)))) (sym (two_octets len)))
      ∙ sym (over_is (with_record (take used out) len (fspec ++ items)) out (omega arith) ∙ ap (λ k. with_record (take used out) len (fspec ++ items) ++ drop k out) h)

-- ---- the answers of adding

module _ (out : List ℕ) (used : ℕ) (fs items : List ℕ) where
  pub add_none : length out < used → add_record categories out used fs items ≡ refused_old 16 0
  unfolding add_record
  add_none l = ap (λ z. in_old z (λ c. in_new (new_record c fs items >>= join_record (length out) (take used out)))) (old_none out used l)

  module _ (room : used ≤ length out) where
    pub add_old : (n p : ℕ) → open_from 3 (take used out) ≡ refused n p → add_record categories out used fs items ≡ refused_old n p
    unfolding add_record
    add_old n p h = ap (λ z. in_old z (λ c. in_new (new_record c fs items >>= join_record (length out) (take used out)))) (old_is out used room ∙ bind_out _ h)

    add_in : (o : Opening) → open_from 3 (take used out) ≡ ok o
        → add_record categories out used fs items ≡ in_new (new_record o.category fs items >>= join_record (length out) (take used out))
    unfolding add_record
    add_in o h = ap (λ z. in_old z (λ c. in_new (new_record c fs items >>= join_record (length out) (take used out)))) (old_is out used room ∙ bind_in _ h refl)

    pub add_new : (o : Opening) (n p : ℕ) → open_from 3 (take used out) ≡ ok o → new_record o.category fs items ≡ refused n p → add_record categories out used fs items ≡ refused_new n p
    add_new o n p h q = add_in o h ∙ ap in_new (bind_out _ q)

    -- how long the block becomes
    both_length : (new : List ℕ) → length (take used out) + length new ≡ used + length new
    both_length new = ap (λ k. k + length new) (length-take-le used out room)

    pub add_long : (o : Opening) (new : List ℕ) → open_from 3 (take used out) ≡ ok o → new_record o.category fs items ≡ ok new → 65_535 < used + length new
        → add_record categories out used fs items ≡ refused_new 17 0
    unfolding join_record
    add_long o new h q l =
        let m : 65_535 < length (take used out) + length new = rw (both_length new) l in
        add_in o h ∙ ap in_new (bind_in _ q (need_out 17 _ (lt-leb _ _ m)))

    pub add_full : (o : Opening) (new : List ℕ) → open_from 3 (take used out) ≡ ok o → new_record o.category fs items ≡ ok new → used + length new ≤ 65_535
        → length out < used + length new → add_record categories out used fs items ≡ refused_new 16 0
    unfolding join_record
    add_full o new h q l k =
        let m : length (take used out) + length new ≤ 65_535 = rw (both_length new) l in
        let j : length out < length (take used out) + length new = rw (both_length new) k in
        add_in o h ∙ ap in_new (bind_in _ q (need_in _ 17 (le→leb _ _ m) (need_out 16 _ (lt-leb _ _ j))))

    pub add_all : (o : Opening) (new : List ℕ) → open_from 3 (take used out) ≡ ok o → new_record o.category fs items ≡ ok new → used + length new ≤ 65_535
        → used + length new ≤ length out → add_record categories out used fs items ≡ added (with_record (take used out) (used + length new) new)
    unfolding join_record
    add_all o new h q l k =
        let m : length (take used out) + length new ≤ 65_535 = rw (both_length new) l in
        let j : length (take used out) + length new ≤ length out = rw (both_length new) k in
        add_in o h ∙ ap in_new (bind_in _ q (need_in _ 17 (le→leb _ _ m) (need_in _ 16 (le→leb _ _ j) (ap (λ n. ok (with_record (take used out) n new)) (both_length new)))))

-- ---- by what the code answers

-- what is said of adding where it says this, and what the output then holds
abbrev pub Both : Added → List ℕ → Answer ℕ × Bool → List ℕ → Type 0
Both x out said left = (said ≡ added_as x) × (left ≡ leaves_added x out)

pub old_both : {x : Added} (out : List ℕ) {n p : ℕ} → x ≡ refused_old n p → Both x out (refused n p, false) out
old_both out e = (ap added_as (sym e), sym (ap (λ z. leaves_added z out) e))

pub new_both : {x : Added} (out : List ℕ) {n p : ℕ} → x ≡ refused_new n p → Both x out (refused n p, true) out
new_both out e = (ap added_as (sym e), sym (ap (λ z. leaves_added z out) e))

-- the octets in use are a block: LEN is how many they are
pub old_len : (out : List ℕ) (used : ℕ) (o : Opening) → Octets out → used ≤ length out → open_from 3 (take used out) ≡ ok o → (3 ≤ used) × (used < 65_536)
unfolding open_from
old_len out used o b l h =
    bind_elim _ _ h λ d p h₁.
    let f : d.len ≡ length (take used out) = eqb→eq _ _ (headed eqb (take used out) d p).fitted in
    let g : length (take used out) ≡ used = length-take-le used out l in
    (omega (arith, (headed eqb (take used out) d p).least), omega (arith, len_few eqb (take used out) d (octets_take used out b) p))

-- a new record by its set of FRNs
pub new_refused : (i bits : ℕ) (items : List ℕ) (n p : ℕ) → new_at i bits items ≡ refused n p → new_record (category_at i) (frns_of bits) items ≡ refused n p
unfolding new_at
new_refused i bits items n p h = made_refused (new_record (category_at i) (frns_of bits) items) length n p h

pub new_whole : (i bits : ℕ) (items : List ℕ) (n : ℕ) → new_at i bits items ≡ ok n
    → (new_record (category_at i) (frns_of bits) items ≡ ok (fspec_at i bits ++ items)) × (n ≡ length (fspec_at i bits) + length items)
unfolding new_at
new_whole i bits items n h =
    bind_elim _ _ h λ new p q.
    let e : new ≡ fspec_at i bits ++ items = new_octets i bits items new p in
    (p ∙ ap ok e, sym (ok_inj q) ∙ ap length e ∙ length-append (fspec_at i bits) items)

module _ (out : List ℕ) (used i bits n : ℕ) (items : List ℕ) (o : Opening) (same : o.category ≡ category_at i) (room : used ≤ length out)
    (is_open : open_from 3 (take used out) ≡ ok o) (is-new : new_at i bits items ≡ ok n) where
  new_record_lem : new_record o.category (frns_of bits) items ≡ ok (fspec_at i bits ++ items)
  new_record_lem = ap (λ k. new_record k (frns_of bits) items) same ∙ (new_whole i bits items n is-new).0

  pub whole_length : used + length (fspec_at i bits ++ items) ≡ used + n
  whole_length = ap (λ k. used + k) (length-append (fspec_at i bits) items ∙ sym (new_whole i bits items n is-new).1)

  abbrev Added_both : Answer ℕ × Bool → List ℕ → Type 0
  Added_both said left = Both (add_record categories out used (frns_of bits) items) out said left

  pub long_both : 65_535 < used + n → Added_both (refused 17 0, true) out
  long_both l = new_both out (add_long out used (frns_of bits) items room o (fspec_at i bits ++ items) is_open new_record_lem (rw whole_length l))

  pub full_both : used + n ≤ 65_535 → length out < used + n → Added_both (refused 16 0, true) out
  full_both l m = new_both out (add_full out used (frns_of bits) items room o (fspec_at i bits ++ items) is_open new_record_lem (rw whole_length l) (rw whole_length m))

  -- the block with the record, and the output then
  pub added_both : (left : List ℕ) → 3 ≤ used → used + n ≤ 65_535 → used + n ≤ length out → left ≡ laid out used (used + n) (fspec_at i bits) items
      → Added_both (ok (used + n), false) left
  added_both left three l m z =
      let a : add_record categories out used (frns_of bits) items ≡ added (with_record (take used out) (used + length (fspec_at i bits ++ items)) (fspec_at i bits ++ items)) =
      add_all out used (frns_of bits) items room o (fspec_at i bits ++ items) is_open new_record_lem (rw whole_length l) (rw whole_length m) in (
        sym (ap added_as a ∙ ap (λ k. (ok k, false)) (with_length out used three room (used + length (fspec_at i bits ++ items)) (fspec_at i bits ++ items) ∙ whole_length)),
        z
            ∙ laid_is out used three room (used + n) (fspec_at i bits) items m (ap (λ k. used + k) (new_whole i bits items n is-new).1)
            ∙ ap (λ k. over (with_record (take used out) k (fspec_at i bits ++ items)) out) (sym whole_length)
            ∙ sym (ap (λ y. leaves_added y out) a),
      )

-- ---- what was answered before a refusal is said to be of one of the two

pub mapped_ok : {T E : Type 0} (D : Type 0) (r : Result T E) (Q : E → Type 0) (a : T) → ((e : E) → Q e → ⊥) → MatchResult r (λ x. ◌≡◌ {A = Result T D} (Ok a) (Ok x)) Q → r ≡ Ok a
mapped_ok D (Ok b) Q a n h = ap Ok (cc)
mapped_ok D (Err e) Q a n h = absurd (n e h)

pub mapped_err : {T E D : Type 0} (r : Result T E) (Q : E → Type 0) (d : D) → MatchResult r (λ x. ◌≡◌ {A = Result T D} (Err d) (Ok x)) Q → (e : E) × (r ≡ Err e) × Q e
mapped_err (Ok b) Q d h = let z : ◌≡◌ {A = ℕ} 0 1 = cc in absurd (omega arith)
mapped_err (Err e) Q d h = (e, refl, h)

-- ---- what the answer says is what the rules answer

pub told_length : (x : Added) {r : Result ℕ AddRefusal} (n : ℕ) → added_of r ≡ added_as x → r ≡ Ok n → (bs : List ℕ) × (x ≡ added bs) × (length bs ≡ n)
told_length (added bs) n h e = (bs, refl, ok_inj (ap (λ z. z.0) (sym h ∙ ap added_of e)))
told_length (refused_old m q) n h e = refused_ok (ap (λ z. z.0) (sym h ∙ ap added_of e))
told_length (refused_new m q) n h e = refused_ok (ap (λ z. z.0) (sym h ∙ ap added_of e))

-- the refusal of which this is said; of a length any
abbrev refused_by : Answer ℕ × Bool → Added
refused_by (ok n, t) = added []
refused_by (refused n p, false) = refused_old n p
refused_by (refused n p, true) = refused_new n p

told_refused : (x : Added) (n p : ℕ) (t : Bool) → added_as x ≡ (refused n p, t) → x ≡ refused_by (refused n p, t)
told_refused (added bs) n p t h = refused_ok (ap (λ z. z.0) (sym h))
told_refused (refused_old m q) n p t h = ap refused_by h
told_refused (refused_new m q) n p t h = ap refused_by h

pub told_old : (x : Added) {r : Result ℕ AddRefusal} (f : Refusal) → added_of r ≡ added_as x → r ≡ Err (Old f) → x ≡ refused_old (number_of f.fault) f.place
told_old x f h e = told_refused x (number_of f.fault) f.place false (sym h ∙ ap added_of e)

pub told_new : (x : Added) {r : Result ℕ AddRefusal} (f : Refusal) → added_of r ≡ added_as x → r ≡ Err (New f) → x ≡ refused_new (number_of f.fault) f.place
told_new x f h e = told_refused x (number_of f.fault) f.place true (sym h ∙ ap added_of e)
