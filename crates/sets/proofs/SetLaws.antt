-- The FSPEC read octet by octet, as the code reads it, is the rules' reading of presence octets.
--
-- In order: binds, octets; octets chained by FX bits; the set that they make; which of its FRNs are usable; the law; the steps of the loop. Assumes nothing.
use Prim.Native.Nat.{ℕ, suc, ◌+◌, ◌-◌, ◌*◌, ◌/◌, ◌%◌, ◌^◌, ◌≤◌, ◌<◌}
use mathlib.Core.Path.{◌≡◌, refl, sym, ap, ap₂, ◌∙◌, subst}
use mathlib.Core.Logic.{⊎_elim}
use mathlib.Core.Bool.{Bool, true, false, ◌&&◌, not}
use mathlib.Core.Option.{Option}
use mathlib.Core.List.{List, [], ◌∷◌, ◌++◌, map}
use native.Mathlib.Omega.{arith}
use native.Mathlib.Nat.{mul-le-mul_right, sub-zero}
use native.Mathlib.Numerals.{add-one}
use lib.Pow.{pow-add}
use lib.Dec.{eqb}
use borrow.Author.Tests.{le-leb, lt-ltb, eqb-true, eq-eqb, ne_eqb, not-true, not-false}
use lib.ListN.{length, drop, get_or, replicate, length-append, length-map, length-replicate, drop_of_length-le}
use lib.Seq.{drop-cons}
use mir.Syntax.{w8}
use mir.Val.{Fits}
use Rattle.rules.specs.Answer.{Answer, ok, refused, ◌>>=◌, need◌or◌then◌, when◌then◌else◌}
use Rattle.rules.specs.Chain.{flatten, joined, read_num, read_chain}
use Rattle.rules.specs.Presence.{flags, number, present, usable, house, flag_rows, read_presence}
use Rattle.rules.specs.Record.{Place, places}
use Rattle.rules.proofs.AnswerLaws.{refused_ok, ok_inj, bind_in, bind_elim, bind_assoc, if_inv, if_true, if_false, both_left, both_right, Octets, bind_same}
use Rattle.rules.proofs.PresenceLaws.{flags_length, number_flags, number_append}
use Rattle.tables.proofs.TableLaws.{usable_within}
use Rattle.sets.specs.Sets.{category_at, bits_of, within, set_at}
use Rattle.sets.specs.Steps.{usable_bits, ended, set_from}
use Rattle.sets.proofs.FlagLaws.{number_none, over_pad, bits_flags, bits_tail, within_pad, within_append}
use Rattle.sets.proofs.ProfileLaws.{sevens, profile_sevens, profile_short, places_few}

-- what a slice of octets holds
pub octets_all : (bs : List ℕ) → ((k : ℕ) → Fits w8 (get_or bs k 0)) → Octets bs
octets_all [] h = tt
octets_all (b ∷ bs) h = ((h 0).fits, octets_all bs (λ k. h (suc k)))

-- ---- octets chained by FX bits

read_one_lem : (cut x : ℕ) (bs : List ℕ) → read_num cut 1 (x ∷ bs) ≡ ok (x, bs)
unfolding read_num joined need◌or◌then◌
read_one_lem cut x bs =
    let e : x * 1 + 0 ≡ x = omega arith in
    rw (le-leb 1 (suc (length bs)) (omega arith)) (ap (λ n. ok (n, bs)) e)

abbrev ones : {P : Type 0} → List P → List ℕ
ones ps = map (λ p. 1) ps

chain_step : {P : Type 0} (p : P) (ps : List P) (x : ℕ) (bs : List ℕ)
    → read_chain 5 6 (ones (p ∷ ps)) (x ∷ bs)
    ≡ (when eqb (x % 2) 0 then ok (x / 2 ∷ [], bs) else (read_chain 5 6 (ones ps) bs >>= (λ y. ok (x / 2 ∷ y.0, y.1))))
unfolding read_chain
chain_step p ps x bs = bind_in _ (read_one_lem 5 x bs) refl

-- the presence bits of an octet are a number below 128
abbrev Small : List ℕ → Type 0
Small [] = Unit {0}
Small (n ∷ ns) = (n < 128) × Small ns

record Chained (n : ℕ) (ns bs rest : List ℕ) : Type 0 where
  took : length bs ≡ length ns + length rest
  few : length ns ≤ n
  some : 0 < length ns
  small : Small ns

chained : {P : Type 0} (ps : List P) (ns bs rest : List ℕ) → Octets bs → read_chain 5 6 (ones ps) bs ≡ ok (ns, rest) → Chained (length ps) ns bs rest
chained [] ns bs rest o h = unfold read_chain in (refused_ok h)
chained (p ∷ ps) ns [] rest o h = unfold read_chain read_num need◌or◌then◌ ◌>>=◌ in (refused_ok h)
chained (p ∷ ps) ns (x ∷ bs) rest o h =
    ⊎_elim
    (λ (e, g).
    subst (λ z. Chained (suc (length ps)) z.0 (x ∷ bs) z.1) (ok_inj g)
    (record { took = omega arith; few = omega arith; some = omega arith; small = (omega arith, tt) }))
    (λ (e, g).
    bind_elim _ _ g λ y q g₁.
    let c : Chained (length ps) y.0 bs y.1 = chained ps y.0 bs y.1 o.1 q in
    subst (λ z. Chained (suc (length ps)) z.0 (x ∷ bs) z.1) (ok_inj g₁)
    (record { took = omega arith; few = omega arith; some = omega arith; small = (omega arith, c.small) }))
    (if_inv _ _ _ (sym (chain_step p ps x bs) ∙ h))

-- ---- the set that they make

-- octet by octet, the set so far and the octets so far given
abbrev weighed : ℕ → ℕ → List ℕ → ℕ
weighed bits used [] = bits
weighed bits used (n ∷ ns) = weighed (bits + n * 2 ^ (56 - 7 * used)) (used + 1) ns

abbrev seven_flags : List ℕ → List (List Bool)
seven_flags ns = map (flags 7) ns

seven_length : (ns : List ℕ) → length (flatten (seven_flags ns)) ≡ 7 * length ns
seven_length [] = refl
seven_length (n ∷ ns) = length-append (flags 7 n) (flatten (seven_flags ns)) ∙ ap₂ ◌+◌ (flags_length 7 n) (seven_length ns) ∙ omega arith

-- what one octet adds
one_weight : (n m k : ℕ) → 7 * (k + suc m) ≤ 63 → n * 2 ^ (7 * m) * 2 ^ (63 - 7 * (k + suc m)) ≡ n * 2 ^ (56 - 7 * k)
one_weight n m k h =
    let e : 56 - 7 * k ≡ 7 * m + (63 - 7 * (k + suc m)) = omega arith in
    rw (e, pow-add 2 (7 * m) (63 - 7 * (k + suc m))) (omega arith)

weighed_is : (ns : List ℕ) (bits used : ℕ) → Small ns → 7 * (used + length ns) ≤ 63
    → weighed bits used ns ≡ bits + number (flatten (seven_flags ns)) * 2 ^ (63 - 7 * (used + length ns))
weighed_is [] bits used s h = unfold number in (omega arith)
weighed_is (n ∷ ns) bits used s h =
    let x : List Bool = flatten (seven_flags ns) in
    let w : ℕ = 2 ^ (63 - 7 * (used + suc (length ns))) in
    let e : 7 * (used + 1 + length ns) ≡ 7 * (used + suc (length ns)) = omega arith in
    let q : number (flags 7 n ++ x) ≡ n * 2 ^ (7 * length ns) + number x =
    number_append (flags 7 n) x ∙ ap₂ (λ a b. a * 2 ^ b + number x) (number_flags 7 n s.0) (seven_length ns) in
    weighed_is ns (bits + n * 2 ^ (56 - 7 * used)) (used + 1) s.1 (omega arith)
    ∙ ap (λ m. bits + n * 2 ^ (56 - 7 * used) + number x * 2 ^ (63 - m)) e
    ∙ ap (λ m. bits + m + number x * w) (sym (one_weight n (length ns) used h))
    ∙ (let r : bits + n * 2 ^ (7 * length ns) * w + number x * w ≡ bits + (n * 2 ^ (7 * length ns) + number x) * w = omega arith in r)
    ∙ ap (λ m. bits + m * w) (sym q)

bits_number : (ts : List Bool) → length ts ≤ 63 → bits_of ts ≡ number ts * 2 ^ (63 - length ts)
bits_number ts h =
    bits_tail ts
    ∙ ap number (over_pad ts 63 false h)
    ∙ number_append ts (replicate (63 - length ts) false)
    ∙ ap₂ (λ a b. number ts * 2 ^ a + b) (length-replicate (63 - length ts) false) (number_none (63 - length ts))
    ∙ (let r : number ts * 2 ^ (63 - length ts) + 0 ≡ number ts * 2 ^ (63 - length ts) = omega arith in r)

weighed_bits : (ns : List ℕ) → Small ns → length ns ≤ 8 → weighed 0 0 ns ≡ bits_of (flatten (seven_flags ns))
weighed_bits ns s h =
    let l : length (flatten (seven_flags ns)) ≡ 7 * length ns = seven_length ns in
    let e : 0 + length ns ≡ length ns = omega arith in
    weighed_is ns 0 0 s (omega arith)
    ∙ (let r : 0 + number (flatten (seven_flags ns)) * 2 ^ (63 - 7 * (0 + length ns)) ≡ number (flatten (seven_flags ns)) * 2 ^ (63 - 7 * (0 + length ns)) = omega arith in r)
    ∙ ap (λ m. number (flatten (seven_flags ns)) * 2 ^ (63 - m)) (ap (λ m. 7 * m) e ∙ sym l)
    ∙ sym (bits_number (flatten (seven_flags ns)) (omega arith))

-- ---- which of its FRNs are usable

pub map_append : {A B : Type 0} (f : A → B) (xs ys : List A) → map f (xs ++ ys) ≡ map f xs ++ map f ys
map_append f [] ys = refl
map_append f (x ∷ xs) ys = ap (λ l. f x ∷ l) (map_append f xs ys)

need_both : {A B : Type 0} (a b : Bool) (x : A) (f : A → Answer B) → (need a or 8 then ((need b or 8 then ok x) >>= f)) ≡ (need a && b or 8 then f x)
unfolding need◌or◌then◌ ◌>>=◌
need_both true true x f = refl
need_both true false x f = refl
need_both false b x f = refl

rows_within : (ps : List (List (Option Place))) (ns : List ℕ) → sevens ps ≡ true → Small ns → length ns ≤ length ps
    → flag_rows ps ns ≡ (need within (flatten (seven_flags ns)) (map present (flatten ps)) or 8 then ok (seven_flags ns))
unfolding flag_rows need◌or◌then◌
rows_within ps [] h s l = refl
rows_within [] (n ∷ ns) h s l = absurd (omega arith)
rows_within (p ∷ ps) (n ∷ ns) h s l =
    let e : length p ≡ 7 = eqb-true _ _ (both_left (eqb (length p) 7) (sevens ps) h) in
    let f : length (flags 7 n) ≡ length (map present p) = flags_length 7 n ∙ sym (length-map p present ∙ e) in
    let g : length (flags 7 n) ≡ length p = flags_length 7 n ∙ sym e in
    rw (e, lt-ltb n 128 s.0, rows_within ps ns (both_right (eqb (length p) 7) (sevens ps) h) s.1 (omega arith))
    (need_both (usable p (flags 7 n)) _ (seven_flags ns) _
    ∙ ap (λ t. need t or 8 then ok (flags 7 n ∷ seven_flags ns))
    (ap (λ t. t && within (flatten (seven_flags ns)) (map present (flatten ps))) (usable_within p (flags 7 n) g)
    ∙ sym (within_append (flags 7 n) (map present p) (flatten (seven_flags ns)) (map present (flatten ps)) f)
    ∙ ap (within (flags 7 n ++ flatten (seven_flags ns))) (sym (map_append present p (flatten ps)))))

-- ---- the law

-- what is done with the octets of an FSPEC, the set so far and the octets so far given
abbrev chain_end : ℕ → ℕ → ℕ → List ℕ × List ℕ → Answer (ℕ × ℕ)
chain_end i bits used x =
    need house x.0 or 7 then
    need within (flags 64 (weighed bits used x.0)) (flags 64 (usable_bits i)) or 8 then ok (weighed bits used x.0, used + length x.0)

-- the house rule asks only of the last octet
end_step : (i bits used n : ℕ) (ns rest : List ℕ) → 0 < length ns
    → chain_end i bits used (n ∷ ns, rest) ≡ chain_end i (bits + n * 2 ^ (56 - 7 * used)) (used + 1) (ns, rest)
unfolding house
end_step i bits used n [] rest h = absurd (omega arith)
end_step i bits used n (m ∷ ns) rest h =
    let e : used + suc (suc (length ns)) ≡ used + 1 + suc (length ns) = omega arith in
    rw e

set_chain : {P : Type 0} (i : ℕ) (ps : List P) (bs : List ℕ) (bits used : ℕ) → Octets bs
    → set_from i (length ps) bs bits used ≡ (read_chain 5 6 (ones ps) bs >>= chain_end i bits used)
unfolding set_from
set_chain i [] bs bits used o = unfold read_chain ◌>>=◌ in refl
set_chain i (p ∷ ps) [] bits used o = unfold read_chain read_num need◌or◌then◌ ◌>>=◌ in refl
set_chain i (p ∷ ps) (x ∷ bs) bits used o =
    rw (chain_step p ps x bs) (go (eqb (x % 2) 0) (set_chain i ps bs (bits + x / 2 * 2 ^ (56 - 7 * used)) (used + 1) o.1))
  where
    go : (t : Bool)
        → set_from i (length ps) bs (bits + x / 2 * 2 ^ (56 - 7 * used)) (used + 1) ≡ (read_chain 5 6 (ones ps) bs >>= chain_end i (bits + x / 2 * 2 ^ (56 - 7 * used)) (used + 1))
        → (when t then ended i x (bits + x / 2 * 2 ^ (56 - 7 * used)) (used + 1) else set_from i (length ps) bs (bits + x / 2 * 2 ^ (56 - 7 * used)) (used + 1))
        ≡ ((when t then ok (x / 2 ∷ [], bs) else (read_chain 5 6 (ones ps) bs >>= (λ y. ok (x / 2 ∷ y.0, y.1)))) >>= chain_end i bits used)
    go true ih = unfold when◌then◌else◌ ended ◌>>=◌ house in refl
    go false ih =
        unfold when◌then◌else◌ in
        (ih
        ∙ bind_same (read_chain 5 6 (ones ps) bs) _ _ (λ y e. sym (end_step i bits used (x / 2) y.0 y.1 (chained ps y.0 bs y.1 o.1 e).some) ∙ sym (bind_in (chain_end i bits used) refl refl))
        ∙ sym (bind_assoc (read_chain 5 6 (ones ps) bs) _ _))

-- the same tests, and the same set
two_needs : {A B : Type 0} (a b c : Bool) (x : A) (f : A → Answer B) (y : B) → b ≡ c → f x ≡ ok y
    → (need a or 7 then need b or 8 then ok y) ≡ ((need a or 7 then need c or 8 then ok x) >>= f)
unfolding need◌or◌then◌ ◌>>=◌
two_needs true true true x f y e g = sym g
two_needs true false false x f y e g = refl
two_needs true true false x f y e g = let z : ◌≡◌ {A = ℕ} 0 1 = cc in absurd (omega arith)
two_needs true false true x f y e g = let z : ◌≡◌ {A = ℕ} 0 1 = cc in absurd (omega arith)
two_needs false b c x f y e g = refl

pub usable_flags : (i : ℕ) (ts : List Bool) → length ts ≤ 63 → within (flags 64 (bits_of ts)) (flags 64 (usable_bits i)) ≡ within ts (map present (places (category_at i)))
unfolding usable_bits
usable_flags i ts l =
    ap₂ within (bits_flags ts) (bits_flags (map present (places (category_at i))))
    ∙ within_pad 64 (false ∷ ts) (false ∷ map present (places (category_at i))) (omega arith)
    (let m : length (map present (places (category_at i))) ≡ length (places (category_at i)) = length-map (places (category_at i)) present in omega (arith, places_few i))

-- what the rules do with the flags: first with the octets after them, then as a set
abbrev with_rest : List ℕ → List (List Bool) → Answer (List (List Bool) × List ℕ)
with_rest rest ts = ok (ts, rest)

abbrev as_set : List ℕ → List (List Bool) × List ℕ → Answer (ℕ × ℕ)
as_set bs y = ok (bits_of (flatten y.0), length bs - length y.1)

pub set_law : (i : ℕ) (bs : List ℕ) → Octets bs → set_from i (length (category_at i).profile) bs 0 0 ≡ set_at i bs
unfolding set_at read_presence
set_law i bs o =
    set_chain i (category_at i).profile bs 0 0 o
    ∙ bind_same (read_chain 5 6 (ones (category_at i).profile) bs) _ _ (λ x e. each x (chained (category_at i).profile x.0 bs x.1 o e))
    ∙ sym (bind_assoc (read_chain 5 6 (ones (category_at i).profile) bs) _ _)
  where
    each : (x : List ℕ × List ℕ) → Chained (length (category_at i).profile) x.0 bs x.1
        → chain_end i 0 0 x
        ≡ (((need house x.0 or 7 then flag_rows (category_at i).profile x.0) >>= with_rest x.1) >>= as_set bs)
    each x c =
        let few : length x.0 ≤ 8 = omega (arith, profile_short i) in
        let w : weighed 0 0 x.0 ≡ bits_of (flatten (seven_flags x.0)) = weighed_bits x.0 c.small few in
        let n : 0 + length x.0 ≡ length bs - length x.1 = omega arith in
        let l : length (flatten (seven_flags x.0)) ≤ 63 = omega (arith, seven_length x.0) in
        rw (rows_within (category_at i).profile x.0 (profile_sevens i) c.small c.few, w, n, bind_assoc _ (with_rest x.1) (as_set bs))
        (two_needs (house x.0) _ _ (seven_flags x.0) _ _ (usable_flags i (flatten (seven_flags x.0)) l) (bind_in _ refl refl))

-- ---- the steps of the loop: at most so many octets, some of them read

one_more : (n k : ℕ) → k < n → n - k ≡ suc (n - (k + 1))
one_more n k h = omega arith

set_step : (i l : ℕ) (bs : List ℕ) (bits used : ℕ) → used < length bs
    → set_from i (suc l) (drop used bs) bits used
    ≡ (when eqb (get_or bs used 0 % 2) 0
    then ended i (get_or bs used 0) (bits + get_or bs used 0 / 2 * 2 ^ (56 - 7 * used)) (used + 1)
    else set_from i l (drop (used + 1) bs) (bits + get_or bs used 0 / 2 * 2 ^ (56 - 7 * used)) (used + 1))
unfolding set_from
set_step i l bs bits used h = rw (drop-cons bs used 0 h, add-one) refl

pub set_begin : (i most : ℕ) (bs : List ℕ) → most ≡ length (category_at i).profile → Octets bs → set_from i (most - 0) (drop 0 bs) 0 0 ≡ set_at i bs
set_begin i most bs e o = ap (λ l. set_from i l bs 0 0) (sub-zero most ∙ e) ∙ set_law i bs o

pub set_cut : (i most : ℕ) (bs : List ℕ) (bits used : ℕ) → used < most → length bs ≤ used → set_from i (most - used) (drop used bs) bits used ≡ refused 5 0
unfolding set_from
set_cut i most bs bits used u h = rw (one_more most used u, drop_of_length-le bs h)

pub set_past : (i most : ℕ) (bs : List ℕ) (bits used : ℕ) → most ≤ used → set_from i (most - used) bs bits used ≡ refused 6 0
unfolding set_from
set_past i most bs bits used u = let e : most - used ≡ 0 = omega arith in rw e

pub set_last : (i most : ℕ) (bs : List ℕ) (bits used x w : ℕ) → used < most → used < length bs → x ≡ get_or bs used 0 → w ≡ x / 2 * 2 ^ (56 - 7 * used) → x % 2 ≡ 0
    → set_from i (most - used) (drop used bs) bits used ≡ ended i x (bits + w) (used + 1)
set_last i most bs bits used x w u h ex ew z =
    rw (one_more most used u, set_step i (most - (used + 1)) bs bits used h, ew, ← ex) (if_true _ (eq-eqb (x % 2) 0 z) refl)

pub set_more : (i most : ℕ) (bs : List ℕ) (bits used x w : ℕ) → used < most → used < length bs → x ≡ get_or bs used 0 → w ≡ x / 2 * 2 ^ (56 - 7 * used) → (x % 2 ≡ 0 → ⊥)
    → set_from i (most - used) (drop used bs) bits used ≡ set_from i (most - (used + 1)) (drop (used + 1) bs) (bits + w) (used + 1)
set_more i most bs bits used x w u h ex ew z =
    rw (one_more most used u, set_step i (most - (used + 1)) bs bits used h, ew, ← ex) (if_false _ (ne_eqb (x % 2) 0 z) refl)

-- the set so far leaves room for the octets to come
pub set_room : (bits used x w : ℕ) → used ≤ 8 → x < 256 → w ≡ x / 2 * 2 ^ (56 - 7 * used) → bits + 2 ^ (63 - 7 * used) ≤ 2 ^ 63
    → bits + w + 2 ^ (63 - 7 * (used + 1)) ≤ 2 ^ 63
set_room bits used x w u b ew h =
    let p : ℕ = 2 ^ (56 - 7 * used) in
    let e : 63 - 7 * used ≡ 7 + (56 - 7 * used) = omega arith in
    let f : 63 - 7 * (used + 1) ≡ 56 - 7 * used = omega arith in
    let g : 2 ^ (63 - 7 * used) ≡ 128 * p = ap (λ k. 2 ^ k) e ∙ pow-add 2 7 (56 - 7 * used) in
    let m : x / 2 * p ≤ 127 * p = mul-le-mul_right p (omega arith) in
    rw (ew, f) (omega arith)

-- ---- the end of an FSPEC: m are the FRNs of the profile, t whether the set is within them

pub ended_empty : (i x bits used : ℕ) → x / 2 ≡ 0 → refused 7 0 ≡ ended i x bits used
unfolding ended need◌or◌then◌
ended_empty i x bits used h = rw h

module _ (i x bits used : ℕ) {m : ℕ} {t : Bool} (is : m ≡ usable_bits i) (e : t ≡ within (flags 64 bits) (flags 64 m)) (h : x / 2 ≡ 0 → ⊥) where
  ended_by : ended i x bits used ≡ (need t or 8 then ok (bits, used))
  unfolding ended need◌or◌then◌
  ended_by = rw (lt-ltb 0 (x / 2) (omega arith), e, is)

  pub ended_barred : not t ≡ true → refused 8 0 ≡ ended i x bits used
  unfolding need◌or◌then◌
  ended_barred n = rw (ended_by, not-true t n)

  pub ended_whole : not t ≡ false → ok (bits, used) ≡ ended i x bits used
  unfolding need◌or◌then◌
  ended_whole n = rw (ended_by, not-false t n)
