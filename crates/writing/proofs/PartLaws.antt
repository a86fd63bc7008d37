-- What the functions that lay and pack one part do, turn by turn.
--
-- In order: the FX bit; the octets of a number; the fields of a part. Assumes nothing.
use Rattle.tables.specs.declared.tables.Holds.TheVariants.{Spare}
use Rattle.tables.specs.Tables.{holds_digit}
use Rattle.std.specs.Int.{w64, byte_at, bytes_high_first, to_be_bytes}
use Prim.Native.Nat.{ℕ, zero, suc, ◌+◌, ◌-◌, ◌*◌, ◌/◌, ◌%◌, ◌^◌, ◌<◌, ◌≤◌}
use mathlib.Core.Path.{◌≡◌, refl, sym, ap, ap₂, ◌∙◌, subst}
use mathlib.Core.Bool.{Bool, true, false, not}
use mathlib.Core.List.{List, [], ◌∷◌, ◌++◌}
use native.Mathlib.Omega.{arith}
use native.Mathlib.Nat.{mod-eq_of_lt, add-mul, div-one, mul_assoc, lt_of_lt_of_le}
use native.Mathlib.Numerals.{add-one}
use borrow.Author.Tests.{not-true, not-false}
use lib.ListN.{length, take, drop, get_or, set, length-drop, drop_of_length-le}
use lib.Arith.{digits_lt}
use lib.Pow.{pow_pos, pow_mono, pow-add, field, mod-mod-pow}
use lib.Seq.{sets, sets-eq, paste, paste-zero, take-length, get_or-drop, slice, slice-cons, drop-drop, length-take-le}
use Rattle.std.proofs.lemmas.List.Edits.{paste_more}
use lib.Dec.{ltb→lt}
use lib.IntN.{ℤ}
use Rattle.rules.specs.Answer.{Answer, ok, refused, ◌>>=◌}
use Rattle.rules.specs.Field.{Kind, unsigned, signed, Field, spare, value, bits, arity, put, pack}
use Rattle.rules.specs.Chain.{octets}
use Rattle.rules.proofs.ChainLaws.{octets_length}
use Rattle.rules.proofs.AnswerLaws.{refused_ok, ok_inj, bind_elim, need_elim, bind_cong, bind_assoc, need_bind}
use Rattle.tables.specs.Tables.{field_count, fields, field_row, field_at, group_at}
use Rattle.tables.specs.declared.tables.FieldRow.{FieldRow}
use Rattle.tables.specs.declared.tables.GroupRow.{GroupRow}
use Rattle.writing.specs.Write.{marked, pack_first, code_for, width_of, kind_of, field_in, group_in, part, pack_from}
use Rattle.writing.proofs.Sound.{width_few}
use Rattle.writing.proofs.TableLaws.{field_row_lem, field_in_sound, group_end, group_in_sound}
use Rattle.writing.proofs.LaidLaws.{pow_256}

-- ---- the FX bit

pub marked_plain : (c m : Bool) (n : ℕ) → not c ≡ true → n ≡ marked c m n
marked_plain c m n e = rw (not-true c e)

pub marked_more : (c m : Bool) (n : ℕ) → not c ≡ false → m ≡ true → n * 2 + 1 ≡ marked c m n
marked_more c m n e d = rw (not-false c e, d)

pub marked_last : (c m : Bool) (n : ℕ) → not c ≡ false → m ≡ false → n * 2 ≡ marked c m n
marked_last c m n e d = rw (not-false c e, d)

-- ---- the octets of a number

-- what is left of a number, cut to its last octets
unfoldable pub last_octets : ℕ → ℕ → List ℕ
last_octets k n = octets k (n % 2 ^ (8 * k))

last_all : (k n : ℕ) → n < 2 ^ (8 * k) → last_octets k n ≡ octets k n
unfolding last_octets
last_all k n h = ap (octets k) (mod-eq_of_lt h)

last_cons : (k n : ℕ) → last_octets (suc k) n ≡ n / 2 ^ (8 * k) % 256 ∷ last_octets k n
unfolding last_octets octets
last_cons k n =
    let d : 8 * suc k ≡ 8 + 8 * k = omega arith in
    rw (d, pow_256 k, field n 8 (8 * k), mod-mod-pow n 8 (8 * k))

byte_is : (k n : ℕ) → byte_at k n ≡ n / 2 ^ (8 * k) % 256
byte_is zero n = rw div-one
byte_is (suc k) n = ap (λ x. n / x % 256) (pow_256 (suc k))

last_bytes : (k n : ℕ) → bytes_high_first k n ≡ last_octets k n
unfolding last_octets octets
last_bytes zero n = refl
last_bytes (suc k) n = ap₂ ◌∷◌ (byte_is k n) (last_bytes k n) ∙ sym (last_cons k n)

past_bytes : (j k m n : ℕ) → m ≡ j + k → drop j (bytes_high_first m n) ≡ bytes_high_first k n
past_bytes zero k m n e = let d : m ≡ k = omega arith in ap (λ x. bytes_high_first x n) d
past_bytes (suc j) k zero n e = absurd (omega arith)
past_bytes (suc j) k (suc m) n e = past_bytes j k m n (omega arith)

pub number_octets : (n size : ℕ) → size ≤ 8 → n < 2 ^ (8 * size) → drop (8 - size) (to_be_bytes w64 n) ≡ octets size n
number_octets n size k h = past_bytes (8 - size) size 8 n (omega arith) ∙ last_bytes size n ∙ last_all size n h

-- a loop that lays them: so many stand in the output
pub record Laying (n size at : ℕ) (d out : List ℕ) (k : ℕ) : Type 0 where
  pub room : at + size ≤ length d
  pub few : k ≤ size
  pub is : out ≡ paste d at (octets size n) k

pub laying : (n size at : ℕ) (d : List ℕ) → at + size ≤ length d → Laying n size at d d 0
laying n size at d r = record { room = r; few = omega arith; is = paste-zero d at (octets size n) }

pub laid : {n size at k v : ℕ} {d out : List ℕ} → Laying n size at d out k → size ≤ 8 → n < 2 ^ (8 * size) → k < size → v ≡ get_or (to_be_bytes w64 n) (8 - size + k) 0
    → Laying n size at d (set out (at + k) v) (k + 1)
laid {n} {size} {at} {k} {v} {d} l few h lt e =
    let is_octet : v ≡ get_or (octets size n) k 0 = e ∙ sym (get_or-drop (8 - size) (to_be_bytes w64 n) k 0) ∙ ap (λ s. get_or s k 0) (number_octets n size few h) in
    record {
      room = l.room;
      few = omega arith;
      is = ap₂ (λ o x. set o (at + k) x) l.is is_octet ∙ paste_more d at (octets size n) k 0 (omega (arith, l.room)) (omega (arith, octets_length size n));
    }

pub all_laid : {n size at k : ℕ} {d out : List ℕ} → Laying n size at d out k → size ≤ k → out ≡ sets d at (octets size n)
all_laid {n} {size} {at} {k} {d} l h =
    let e : k ≡ length (octets size n) = omega (arith, l.few, octets_length size n) in
    l.is
    ∙ ap (paste d at (octets size n)) e
    ∙ ap (λ s. take at d ++ s ++ drop (at + length (octets size n)) d) (take-length (octets size n))
    ∙ sym (sets-eq (octets size n) d at (omega (arith, l.room, octets_length size n)))

-- ---- the fields of a part

-- what the fields that are left add to a number
unfoldable pub join_pack : ℕ → List Field → List ℤ → Answer ℕ
join_pack n fs vs = pack_first fs vs >>= (λ m. ok (n * 2 ^ bits fs + m))

join_zero : (fs : List Field) (m : Answer ℕ) → (m >>= (λ x. ok (0 * 2 ^ bits fs + x))) ≡ m
unfolding ◌>>=◌
join_zero fs (ok x) = ap ok (omega arith)
join_zero fs (refused n p) = refl

pack_none : (vs : List ℤ) → pack_first [] vs ≡ ok 0
unfolding pack_first pack
pack_none vs = refl

-- a value's code, and then the other fields
pack_cons : (w : ℕ) (k : Kind) (fs : List Field) (vs : List ℤ)
    → pack_first (value w k ∷ fs) vs ≡ (code_for (value w k) vs >>= (λ c. pack_first fs (drop 1 vs) >>= (λ m. ok (c * 2 ^ bits fs + m))))
unfolding pack_first pack code_for ◌>>=◌
pack_cons w k fs [] = refl
pack_cons w k fs (v ∷ vs) = bind_cong (put w k v) _ _ (λ c. sym (need_bind _ _ _ _)) ∙ sym (bind_assoc (put w k v) _ _)

join_sum : (n w c b m : ℕ) → n * 2 ^ (w + b) + (c * 2 ^ b + m) ≡ (n * 2 ^ w + c) * 2 ^ b + m
join_sum n w c b m = rw (pow-add 2 w b, add-mul (n * 2 ^ w) c (2 ^ b), mul_assoc n (2 ^ w) (2 ^ b)) (omega arith)

join_cons : (n w : ℕ) (k : Kind) (fs : List Field) (vs : List ℤ) {c : ℕ} → code_for (value w k) vs ≡ ok c → join_pack n (value w k ∷ fs) vs ≡ join_pack (n * 2 ^ w + c) fs (drop 1 vs)
unfolding join_pack ◌>>=◌
join_cons n w k fs vs {c} e = rw (pack_cons w k fs vs, e) (go (pack_first fs (drop 1 vs)))
  where
    go : (r : Answer ℕ) → ((r >>= (λ m. ok (c * 2 ^ bits fs + m))) >>= (λ m. ok (n * 2 ^ (w + bits fs) + m))) ≡ (r >>= (λ m. ok ((n * 2 ^ w + c) * 2 ^ bits fs + m)))
    go (ok m) = ap ok (join_sum n w c (bits fs) m)
    go (refused x y) = refl

join_no : (n w : ℕ) (k : Kind) (fs : List Field) (vs : List ℤ) {x y : ℕ} → code_for (value w k) vs ≡ refused x y → join_pack n (value w k ∷ fs) vs ≡ refused x y
unfolding join_pack ◌>>=◌
join_no n w k fs vs e = rw (pack_cons w k fs vs, e)

join_spare : (n w : ℕ) (fs : List Field) (vs : List ℤ) → join_pack n (spare w ∷ fs) vs ≡ join_pack (n * 2 ^ w + 0) fs vs
unfolding join_pack pack_first pack ◌>>=◌
join_spare n w fs vs = go (pack fs (take (arity fs) vs))
  where
    go : (r : Answer ℕ) → (r >>= (λ m. ok (n * 2 ^ (w + bits fs) + m))) ≡ (r >>= (λ m. ok ((n * 2 ^ w + 0) * 2 ^ bits fs + m)))
    go (ok m) = ap ok (ap (λ x. n * 2 ^ (w + bits fs) + x) (omega arith) ∙ join_sum n w 0 (bits fs) m)
    go (refused x y) = refl

-- a code that was made fits its bits, and there was a value
code_fits : (f : Field) (vs : List ℤ) {c : ℕ} → code_for f vs ≡ ok c → (0 < length vs) × (c < 2 ^ width_of f)
unfolding code_for
code_fits f [] h = refused_ok h
code_fits f (v ∷ vs) h =
    bind_elim _ _ h λ d p h₁.
    need_elim _ _ _ h₁ λ q h₂.
    (omega arith, subst (λ x. x < 2 ^ width_of f) (ok_inj h₂) (ltb→lt _ _ q))

-- the loop's invariant: the fields that are left, added to the number so far, make what all fields make
pub record Packing (fs : List Field) (vs : List ℤ) (at e i n k : ℕ) : Type 0 where
  pub in_table : e ≤ field_count
  pub few : bits fs ≤ 64
  pub place : k + arity (slice i e fields) ≡ at + arity fs
  pub used : ℕ
  pub left : used + bits (slice i e fields) ≡ bits fs
  pub small : n < 2 ^ used
  pub same : join_pack n (slice i e fields) (drop k vs) ≡ pack_first fs (drop at vs)

pub packing : (j : ℕ) (vs : List ℤ) (at : ℕ) {r : GroupRow} → r ≡ group_at j → Packing (group_in j).fields vs at r.end r.first 0 at
unfolding group_in join_pack
packing j vs at er =
    rw er
    (record {
      in_table = group_end j;
      few = omega (arith, (group_in_sound j).fits, (group_in_sound j).short);
      place = refl;
      used = 0;
      left = omega arith;
      small = pow_pos 0;
      same = join_zero (group_in j).fields (pack_first (group_in j).fields (drop at vs));
    })

field_cons : (i e : ℕ) → i < e → e ≤ field_count → slice i e fields ≡ field_in i ∷ slice (i + 1) e fields
unfolding field_in
field_cons i e h t = rw add-one (slice-cons i e fields (value 0 (unsigned 0 0)) h t)

spare_is : (f : Field) → (field_row f).holds ≡ Spare → f ≡ spare (field_row f).bits
spare_is (spare w) h = refl
spare_is (value w (unsigned lo hi)) h = absurd (omega (arith, ap holds_digit h))
spare_is (value w (signed lo hi)) h = absurd (omega (arith, ap holds_digit h))

value_is : (f : Field) → ((field_row f).holds ≡ Spare → ⊥) → f ≡ value (field_row f).bits (kind_of f)
value_is (spare w) h = absurd (h refl)
value_is (value w (unsigned lo hi)) h = refl
value_is (value w (signed lo hi)) h = refl

grown : (u w n c : ℕ) → n < 2 ^ u → c < 2 ^ w → n * 2 ^ w + c < 2 ^ (u + w)
grown u w n c h k = rw (pow-add 2 u w) (digits_lt h k)

-- one field more: what the code asks of it, and what is then left
pub record Added (fs : List Field) (vs : List ℤ) (at e i n k w c k' : ℕ) : Type 0 where
  pub fits : (w < 64) × (n * 2 ^ w + c < 2 ^ 64)
  pub next : {m : ℕ} → m ≡ n * 2 ^ w + c → Packing fs vs at e (i + 1) m k'

module _ (fs : List Field) (vs : List ℤ) (at e i n k : ℕ) (p : Packing fs vs at e i n k) (h : i < e) where
  pub in_place : i < field_count
  in_place = omega (arith, p.in_table)

  cons : slice i e fields ≡ field_in i ∷ slice (i + 1) e fields
  cons = field_cons i e h p.in_table

  added : (f : Field) (c a k' : ℕ) → field_in i ≡ f → bits (f ∷ slice (i + 1) e fields) ≡ width_of f + bits (slice (i + 1) e fields)
      → arity (f ∷ slice (i + 1) e fields) ≡ a + arity (slice (i + 1) e fields) → k' ≡ k + a → c < 2 ^ width_of f
      → join_pack n (f ∷ slice (i + 1) e fields) (drop k vs) ≡ join_pack (n * 2 ^ width_of f + c) (slice (i + 1) e fields) (drop k' vs)
      → Added fs vs at e i n k (width_of f) c k'
  added f c a k' ef eb ea ek l ej =
      let w = width_of f in
      let rest = slice (i + 1) e fields in
      let q : slice i e fields ≡ f ∷ rest = cons ∙ ap (λ x. x ∷ rest) ef in
      let g : n * 2 ^ w + c < 2 ^ (p.used + w) = grown p.used w n c p.small l in
      let b : bits (slice i e fields) ≡ w + bits rest = ap bits q ∙ eb in
      let r : arity (slice i e fields) ≡ a + arity rest = ap arity q ∙ ea in
      let t : p.used + w ≤ 64 = omega (arith, p.left, p.few) in
      record {
        fits = (subst (λ x. width_of x < 64) ef (width_few (field_in i) (field_in_sound i in_place)), lt_of_lt_of_le g (pow_mono t));
        next = λ em. rw em (record {
          in_table = p.in_table;
          few = p.few;
          place = omega (arith, p.place);
          used = p.used + w;
          left = omega (arith, p.left);
          small = g;
          same = sym ej ∙ sym (ap (λ x. join_pack n x (drop k vs)) q) ∙ p.same;
        });
      }

  -- a spare field
  add_spare : (field_row (field_in i)).holds ≡ Spare → Added fs vs at e i n k (field_row (field_in i)).bits 0 k
  add_spare y =
      let w = (field_row (field_in i)).bits in
      added (spare w) 0 0 k (spare_is (field_in i) y) refl (omega arith) (omega arith) (pow_pos w) (join_spare n w (slice (i + 1) e fields) (drop k vs))

  -- a value, whose code is c
  add_value : {c : ℕ} → ((field_row (field_in i)).holds ≡ Spare → ⊥) → code_for (field_in i) (drop k vs) ≡ ok c → (k < length vs) × Added fs vs at e i n k (field_row (field_in i)).bits c (k + 1)
  add_value {c} y ec =
      let w = (field_row (field_in i)).bits in
      let v = value_is (field_in i) y in
      let ec' : code_for (value w (kind_of (field_in i))) (drop k vs) ≡ ok c = ap (λ f. code_for f (drop k vs)) (sym v) ∙ ec in
      let (some, l) = code_fits (value w (kind_of (field_in i))) (drop k vs) ec' in (
        omega (arith, length-drop k vs),
        added (value w (kind_of (field_in i))) c 1 (k + 1) v refl (omega arith) refl l
            (join_cons n w (kind_of (field_in i)) (slice (i + 1) e fields) (drop k vs) ec' ∙ ap (join_pack (n * 2 ^ w + c) (slice (i + 1) e fields)) (drop-drop 1 k vs)),
      )

  -- no value, or one outside its range
  pack_no : {x q : ℕ} → ((field_row (field_in i)).holds ≡ Spare → ⊥) → code_for (field_in i) (drop k vs) ≡ refused x q → pack_from fs vs at ≡ refused x q
  unfolding pack_from ◌>>=◌
  pack_no {x} {q} y ec =
      let w = (field_row (field_in i)).bits in
      let v = value_is (field_in i) y in
      let rest = slice (i + 1) e fields in
      let d : pack_first fs (drop at vs) ≡ refused x q =
      sym p.same ∙ ap (λ x. join_pack n x (drop k vs)) (cons ∙ ap (λ x. x ∷ rest) v) ∙ join_no n w (kind_of (field_in i)) rest (drop k vs) (ap (λ f. code_for f (drop k vs)) (sym v) ∙ ec) in
      ap (λ m. m >>= (λ n. ok (part n (at + arity fs)))) d

  -- the same by the row
  module _ {r : FieldRow} (er : r ≡ field_at i) where
    row_is : field_row (field_in i) ≡ r
    row_is = sym (er ∙ field_row_lem i)

    pub turn_spare : r.holds ≡ Spare → Added fs vs at e i n k r.bits 0 k
    turn_spare y = subst (λ x. Added fs vs at e i n k x.bits 0 k) row_is (add_spare (ap (λ x. x.holds) row_is ∙ y))

    pub turn_value : {c : ℕ} → (r.holds ≡ Spare → ⊥) → ok c ≡ code_for (field_in i) (drop k vs) → (k < length vs) × Added fs vs at e i n k r.bits c (k + 1)
    turn_value {c} y ec = subst (λ x. (k < length vs) × Added fs vs at e i n k x.bits c (k + 1)) row_is (add_value (λ z. y (sym (ap (λ x. x.holds) row_is) ∙ z)) (sym ec))

    pub turn_no : {x q : ℕ} → (r.holds ≡ Spare → ⊥) → refused x q ≡ code_for (field_in i) (drop k vs) → refused x q ≡ pack_from fs vs at
    turn_no y ec = sym (pack_no (λ z. y (sym (ap (λ x. x.holds) row_is) ∙ z)) (sym ec))

field_nil : (i e : ℕ) → e ≤ i → e ≤ field_count → slice i e fields ≡ []
field_nil i e h t = drop_of_length-le (take e fields) (subst (λ x. x ≤ i) (sym (length-take-le e fields t)) h)

-- all fields are packed
pub packed_all : (fs : List Field) (vs : List ℤ) (at e i n k : ℕ) → Packing fs vs at e i n k → e ≤ i → ok (part n k) ≡ pack_from fs vs at
unfolding pack_from join_pack ◌>>=◌
packed_all fs vs at e i n k p h =
    let z : slice i e fields ≡ [] = field_nil i e h p.in_table in
    let q : pack_first fs (drop at vs) ≡ ok n = sym p.same ∙ ap (λ x. join_pack n x (drop k vs)) z ∙ ap (λ m. m >>= (λ m. ok (n * 2 ^ 0 + m))) (pack_none (drop k vs)) ∙ ap ok (omega arith) in
    let a : k ≡ at + arity fs = omega (arith, p.place, ap arity z) in
    ap (λ x. ok (part n x)) a ∙ sym (ap (λ m. m >>= (λ n. ok (part n (at + arity fs)))) q)
