-- The FSPEC of a set: which rows of presence bits it has, and its octets, as the code makes them of the set's number.
--
-- In order: a set's FRNs and its flags; rows of flags; their octets; how many they are; each of them; the laws. Assumes nothing.
use Prim.Native.Nat.{ℕ, zero, suc, ◌+◌, ◌-◌, ◌*◌, ◌/◌, ◌%◌, ◌^◌, ◌≤◌, ◌<◌, min}
use mathlib.Core.Path.{◌≡◌, refl, sym, ap, ap₂, ◌∙◌, subst}
use mathlib.Core.Logic.{◌⊎◌, inl, inr, ⊎_elim}
use mathlib.Core.Bool.{Bool, true, false, ◌&&◌, ◌||◌, not, true≢false, false≢true}
use mathlib.Core.Option.{Option, none}
use mathlib.Core.List.{List, [], ◌∷◌, ◌++◌, map, append_assoc, cons≢nil}
use native.Mathlib.Omega.{arith}
use native.Mathlib.Nat.{add-zero, zero-add, sub-zero, mod-lt, mod-eq_of_lt, suc-min-suc, zero-min, min-zero, suc-sub-suc}
use lib.Dec.{ltb, leb, eqb, lt→ltb}
use lib.Pow.{pow_pos, shr_lt, field, mod-mod-pow}
use borrow.Author.Tests.{lt-ltb, eq-eqb, ne_eqb, eqb-true, eqb-false, lt-leb, leb-false, not-true, not-false}
use lib.ListN.{length, take, drop, get_or, replicate, length-append, length-drop, length-map, length-replicate, take-append-drop, replicate-append-replicate}
use lib.Seq.{drop-cons, drop-drop, length-take-le, take_at, drop_at}
use Rattle.rules.specs.Answer.{ok, octets_of}
use Rattle.rules.specs.Chain.{flatten, octets, write_num, write_chain}
use Rattle.rules.specs.Presence.{flags, number, present, usable, house, numbers, write_presence, has, all_usable, row_flags, any_set, keep_row, set_flags}
use Rattle.rules.specs.Record.{Place, places}
use Rattle.rules.specs.Entry.{over}
use Rattle.rules.proofs.AnswerLaws.{bind_in, need_in, need_out, if_true, if_false, T_true, octets_of-ok, both_left, both_right}
use Rattle.rules.proofs.PresenceLaws.{flags_length, number_lt, number_flags, usable_length}
use Rattle.tables.proofs.TableLaws.{usable_within}
use Rattle.sets.specs.Sets.{category_at, bits_of, frns_from, frns_of, within, fspec_at}
use Rattle.sets.specs.Steps.{usable_bits, rows_left}
use Rattle.sets.proofs.FlagLaws.{number_none, flags_split, over_pad, bits_tail, bits_flags, within_append, within_pad}
use Rattle.sets.proofs.ProfileLaws.{sevens, profile_sevens, profile_short, places_few}
use Rattle.sets.proofs.SetLaws.{map_append}
use Rattle.sets.proofs.UsableLaws.{RowsUsable, rows_few}

-- ---- a set's FRNs and its flags

frns_low : (x g : ℕ) (ts : List Bool) → x < g → has x (frns_from g ts) ≡ false
frns_low x g [] h = refl
frns_low x g (false ∷ ts) h = frns_low x (suc g) ts (omega arith)
frns_low x g (true ∷ ts) h =
    ap₂ ◌||◌ (ne_eqb x g (λ (e : x ≡ g). absurd (omega arith))) (frns_low x (suc g) ts (omega arith))

frns_has : (g j : ℕ) (ts : List Bool) → has (g + j) (frns_from g ts) ≡ get_or ts j false
frns_has g j [] = refl
frns_has g zero (false ∷ ts) = frns_low (g + 0) (suc g) ts (omega arith)
frns_has g (suc j) (false ∷ ts) = let e : g + suc j ≡ suc g + j = omega arith in ap (λ x. has x (frns_from (suc g) ts)) e ∙ frns_has (suc g) j ts
frns_has g zero (true ∷ ts) = ap (λ b. b || has (g + 0) (frns_from (suc g) ts)) (eq-eqb (g + 0) g (add-zero g))
frns_has g (suc j) (true ∷ ts) =
    let e : g + suc j ≡ suc g + j = omega arith in
    ap₂ ◌||◌ (ne_eqb (g + suc j) g (λ (e : g + suc j ≡ g). absurd (omega arith))) (ap (λ x. has x (frns_from (suc g) ts)) e ∙ frns_has (suc g) j ts)

-- a set has an FRN unless it is empty
pub frns_some : (g : ℕ) (ts : List Bool) → ltb 0 (length (frns_from g ts)) ≡ ltb 0 (number ts)
unfolding number
frns_some g [] = refl
frns_some g (false ∷ ts) = frns_some (suc g) ts
frns_some g (true ∷ ts) =
    lt-ltb 0 (suc (length (frns_from (suc g) ts))) (omega arith) ∙ sym (lt-ltb 0 (2 ^ length ts + number ts) (omega (arith, pow_pos (length ts))))

-- every FRN of a set has a usable place: from FRN 1 on, and from FRN 0, which none has
usable_step : {P : Type 0} (l : List (Option P)) (g : ℕ) (ts : List Bool)
    → within (true ∷ ts) (map present (drop g l)) ≡ present (get_or l g none) && within ts (map present (drop (suc g) l))
usable_step [] zero ts = refl
usable_step [] (suc g) ts = refl
usable_step (x ∷ l) zero ts = refl
usable_step (x ∷ l) (suc g) ts = usable_step l g ts

skip_step : {P : Type 0} (l : List (Option P)) (g : ℕ) (ts : List Bool) → within (false ∷ ts) (map present (drop g l)) ≡ within ts (map present (drop (suc g) l))
skip_step [] zero ts = refl
skip_step [] (suc g) ts = refl
skip_step (x ∷ l) zero ts = refl
skip_step (x ∷ l) (suc g) ts = skip_step l g ts

usable_from : {P : Type 0} (ps : List (List (Option P))) (g : ℕ) (ts : List Bool) → all_usable ps (frns_from (suc g) ts) ≡ within ts (map present (drop g (flatten ps)))
usable_from ps g [] = refl
usable_from ps g (false ∷ ts) = usable_from ps (suc g) ts ∙ sym (skip_step (flatten ps) g ts)
usable_from ps g (true ∷ ts) = ap (λ b. present (get_or (flatten ps) g none) && b) (usable_from ps (suc g) ts) ∙ sym (usable_step (flatten ps) g ts)

pub frns_usable : {P : Type 0} (ps : List (List (Option P))) (ts : List Bool) → all_usable ps (frns_from 0 ts) ≡ within ts (false ∷ map present (flatten ps))
frns_usable ps [] = refl
frns_usable ps (false ∷ ts) = usable_from ps 0 ts
frns_usable ps (true ∷ ts) = refl

-- ---- rows of flags, without those at the end that are empty

abbrev pub trim : {P : Type 0} → List (List (Option P)) → List Bool → List (List Bool)
trim [] ts = []
trim (p ∷ ps) ts = keep_row (any_set (take (length p) ts)) (take (length p) ts) (trim ps (drop (length p) ts))

row_is : {P : Type 0} (f : ℕ) (p : List (Option P)) (ts : List Bool) → f + length p ≤ length ts → row_flags f p (frns_from 0 ts) ≡ take (length p) (drop f ts)
row_is f [] ts h = refl
row_is f (q ∷ p) ts h =
    ap₂ ◌∷◌ (ap (λ x. has x (frns_from 0 ts)) (sym (zero-add f)) ∙ frns_has 0 f ts) (row_is (suc f) p ts (omega arith))
    ∙ ap (take (suc (length p))) (sym (drop-cons ts f false (omega arith)))

rows_are : {P : Type 0} (f : ℕ) (ps : List (List (Option P))) (ts : List Bool) → f + length (flatten ps) ≤ length ts → set_flags f ps (frns_from 0 ts) ≡ trim ps (drop f ts)
unfolding set_flags
rows_are f [] ts h = refl
rows_are f (p ∷ ps) ts h =
    let a : length (p ++ flatten ps) ≡ length p + length (flatten ps) = length-append p (flatten ps) in
    rw (row_is f p ts (omega arith), rows_are (f + length p) ps ts (omega arith), drop-drop (length p) f ts)

any_number : (ts : List Bool) → any_set ts ≡ ltb 0 (number ts)
unfolding number
any_number [] = refl
any_number (true ∷ ts) = sym (lt-ltb 0 (2 ^ length ts + number ts) (omega (arith, pow_pos (length ts))))
any_number (false ∷ ts) = any_number ts

none_set : (ts : List Bool) → any_set ts ≡ false → ts ≡ replicate (length ts) false
none_set [] h = refl
none_set (true ∷ ts) h = absurd (true≢false h)
none_set (false ∷ ts) h = ap (λ l. false ∷ l) (none_set ts h)

-- no place, no flag
no_places : (ts : List Bool) → within ts [] ≡ true → ts ≡ replicate (length ts) false
no_places [] h = refl
no_places (true ∷ ts) h = absurd (false≢true h)
no_places (false ∷ ts) h = ap (λ l. false ∷ l) (no_places ts h)

blank : (n : ℕ) → any_set (replicate n false) ≡ false
blank zero = refl
blank (suc n) = blank n

take_blank : (k n : ℕ) → take k (replicate n false) ≡ replicate (min k n) false
take_blank zero n = ap (λ m. replicate m false) (sym (zero-min n))
take_blank (suc k) zero = ap (λ m. replicate m false) (sym (min-zero (suc k)))
take_blank (suc k) (suc n) = ap (λ l. false ∷ l) (take_blank k n) ∙ ap (λ m. replicate m false) (sym (suc-min-suc k n))

drop_blank : (k n : ℕ) → drop k (replicate n false) ≡ replicate (n - k) false
drop_blank zero n = ap (λ m. replicate m false) (sym (sub-zero n))
drop_blank (suc k) zero = ap (λ m. replicate m false) (let e : 0 ≡ 0 - suc k = omega arith in e)
drop_blank (suc k) (suc n) = drop_blank k n ∙ ap (λ m. replicate m false) (sym (suc-sub-suc n k))

-- a row is kept as soon as it or one after it has a flag
kept : (Q : List (List Bool) → Type 0) (b : Bool) (t : List Bool) (ts : List (List Bool)) → (b ≡ false → ts ≡ [] → Q []) → Q (t ∷ ts) → Q (keep_row b t ts)
kept Q true t ts f g = g
kept Q false t [] f g = f refl refl
kept Q false t (u ∷ ts) f g = g

-- the flags of a row, and those after it
module _ {P : Type 0} (p : List (Option P)) (ps : List (List (Option P))) (ts : List Bool) (h : length (p ++ flatten ps) ≤ length ts) where
  row_fits : length p ≤ length ts
  row_fits = let a : length (p ++ flatten ps) ≡ length p + length (flatten ps) = length-append p (flatten ps) in omega arith

  row_length : length (take (length p) ts) ≡ length p
  row_length = length-take-le (length p) ts row_fits

  rest_fits : length (flatten ps) ≤ length (drop (length p) ts)
  rest_fits =
      let a : length (p ++ flatten ps) ≡ length p + length (flatten ps) = length-append p (flatten ps) in
      let b : length (drop (length p) ts) ≡ length ts - length p = length-drop (length p) ts in
      omega arith

  row_within : within ts (map present (p ++ flatten ps)) ≡ within (take (length p) ts) (map present p) && within (drop (length p) ts) (map present (flatten ps))
  row_within =
      ap₂ within (sym (take-append-drop (length p) ts)) (map_append present p (flatten ps))
      ∙ within_append (take (length p) ts) (map present p) (drop (length p) ts) (map present (flatten ps)) (row_length ∙ sym (length-map p present))

-- each row is usable
pub trim_usable : (ps : List (List (Option Place))) (ts : List Bool) → length (flatten ps) ≤ length ts → within ts (map present (flatten ps)) ≡ true → RowsUsable ps (trim ps ts)
trim_usable [] ts h w = tt
trim_usable (p ∷ ps) ts h w =
    let b : within (take (length p) ts) (map present p) && within (drop (length p) ts) (map present (flatten ps)) ≡ true = sym (row_within p ps ts h) ∙ w in
    let u : usable p (take (length p) ts) ≡ true =
    usable_within p (take (length p) ts) (row_length p ps ts h) ∙ both_left (within (take (length p) ts) (map present p)) (within (drop (length p) ts) (map present (flatten ps))) b in
    kept (RowsUsable (p ∷ ps)) (any_set (take (length p) ts)) (take (length p) ts) (trim ps (drop (length p) ts)) (λ _ _. tt)
    (T_true u, trim_usable ps (drop (length p) ts) (rest_fits p ps ts h) (both_right (within (take (length p) ts) (map present p)) (within (drop (length p) ts) (map present (flatten ps))) b))

-- they are the flags themselves, up to those at the end that are not set
pub trim_flags : (ps : List (List (Option Place))) (ts : List Bool) → length (flatten ps) ≤ length ts → within ts (map present (flatten ps)) ≡ true
    → flatten (trim ps ts) ++ replicate (length ts - length (flatten (trim ps ts))) false ≡ ts
trim_flags [] ts h w = ap (λ n. replicate n false) (sub-zero (length ts)) ∙ sym (no_places ts w)
trim_flags (p ∷ ps) ts h w =
    let r : List Bool = take (length p) ts in
    let s : List Bool = drop (length p) ts in
    let b : within r (map present p) && within s (map present (flatten ps)) ≡ true = sym (row_within p ps ts h) ∙ w in
    let ih : flatten (trim ps s) ++ replicate (length s - length (flatten (trim ps s))) false ≡ s =
    trim_flags ps s (rest_fits p ps ts h) (both_right (within r (map present p)) (within s (map present (flatten ps))) b) in
    let rs : r ++ s ≡ ts = take-append-drop (length p) ts in
    let ls : length ts ≡ length r + length s = sym (ap length rs) ∙ length-append r s in
    kept (λ l. flatten l ++ replicate (length ts - length (flatten l)) false ≡ ts) (any_set r) r (trim ps s)
    (λ e z.
    let es : replicate (length s) false ≡ s = ap (λ n. replicate n false) (sym (sub-zero (length s))) ∙ ap (λ l. flatten l ++ replicate (length s - length (flatten l)) false) (sym z) ∙ ih in
    ap (λ n. replicate n false) (sub-zero (length ts) ∙ ls) ∙ sym (replicate-append-replicate (length r) (length s) false) ∙ ap₂ ◌++◌ (sym (none_set r e)) es ∙ rs)
    (append_assoc r (flatten (trim ps s)) (replicate (length ts - length (r ++ flatten (trim ps s))) false)
    ∙ ap (λ n. r ++ (flatten (trim ps s) ++ replicate n false))
    (let a : length (r ++ flatten (trim ps s)) ≡ length r + length (flatten (trim ps s)) = length-append r (flatten (trim ps s)) in
    let d : length ts - length (r ++ flatten (trim ps s)) ≡ length s - length (flatten (trim ps s)) = omega arith in d)
    ∙ ap (λ l. r ++ l) ih
    ∙ rs)

trim_short : {P : Type 0} (ps : List (List (Option P))) (ts : List Bool) → length (trim ps ts) ≤ length ps
trim_short [] ts = omega arith
trim_short (p ∷ ps) ts =
    kept (λ l. length l ≤ suc (length ps)) (any_set (take (length p) ts)) (take (length p) ts) (trim ps (drop (length p) ts)) (λ _ _. omega arith)
    (omega (arith, trim_short ps (drop (length p) ts)))

-- ---- their octets

-- each but the last has FX set
abbrev pub chain_octets : List ℕ → List ℕ
chain_octets [] = []
chain_octets (n ∷ []) = (n * 2) ∷ []
chain_octets (n ∷ (m ∷ ns)) = (n * 2 + 1) ∷ chain_octets (m ∷ ns)

abbrev Small : List ℕ → Type 0
Small [] = Unit {0}
Small (n ∷ ns) = (n < 128) × Small ns

num_one : (n : ℕ) → n < 256 → write_num 1 n ≡ ok (n ∷ [])
unfolding write_num octets
num_one n h = need_in _ _ (lt→ltb n 256 h) (ap (λ m. ok (m ∷ [])) (let e : n / 1 ≡ n = omega arith in e))

chain_octets_lem : {P : Type 0} (ps : List P) (ns : List ℕ) → Small ns → 0 < length ns → length ns ≤ length ps → write_chain (map (λ p. 1) ps) ns ≡ ok (chain_octets ns)
unfolding write_chain
chain_octets_lem ps [] s z l = absurd (omega arith)
chain_octets_lem [] (n ∷ ns) s z l = absurd (omega arith)
chain_octets_lem (p ∷ ps) (n ∷ []) s z l = num_one (n * 2) (omega arith)
chain_octets_lem (p ∷ ps) (n ∷ (m ∷ ns)) s z l =
    bind_in _ (num_one (n * 2 + 1) (omega arith)) (bind_in _ (chain_octets_lem ps (m ∷ ns) s.1 (omega arith) (omega arith)) refl)

chain_length : (ns : List ℕ) → length (chain_octets ns) ≡ length ns
chain_length [] = refl
chain_length (n ∷ []) = refl
chain_length (n ∷ (m ∷ ns)) = ap suc (chain_length (m ∷ ns))

row_numbers_lem : (ps : List (List (Option Place))) (ts : List (List Bool)) → RowsUsable ps ts → numbers ps ts ≡ ok (map number ts)
unfolding numbers
row_numbers_lem ps [] u = refl
row_numbers_lem [] (t ∷ ts) u = absurd u
row_numbers_lem (p ∷ ps) (t ∷ ts) u = need_in _ _ u.0 (bind_in _ (row_numbers_lem ps ts u.1) refl)

rows_small : (ps : List (List (Option Place))) (ts : List (List Bool)) → RowsUsable ps ts → sevens ps ≡ true → Small (map number ts)
rows_small ps [] u s = tt
rows_small [] (t ∷ ts) u s = absurd u
rows_small (p ∷ ps) (t ∷ ts) u s =
    let e : length t ≡ 7 = usable_length p t u.0 ∙ eqb-true _ _ (both_left (eqb (length p) 7) (sevens ps) s) in
    (subst (λ n. number t < 2 ^ n) e (number_lt t), rows_small ps ts u.1 (both_right (eqb (length p) 7) (sevens ps) s))

-- the last row has a flag
trim_house : {P : Type 0} (ps : List (List (Option P))) (ts : List Bool) → (trim ps ts ≡ []) ⊎ (house (map number (trim ps ts)) ≡ true)
unfolding house
trim_house [] ts = inl refl
trim_house (p ∷ ps) ts = go (any_set (take (length p) ts)) refl (trim ps (drop (length p) ts)) (trim_house ps (drop (length p) ts))
  where
    go : (b : Bool) → any_set (take (length p) ts) ≡ b → (l : List (List Bool)) → (l ≡ []) ⊎ (house (map number l) ≡ true)
        → (keep_row b (take (length p) ts) l ≡ []) ⊎ (house (map number (keep_row b (take (length p) ts) l)) ≡ true)
    go false e [] ih = inl refl
    go true e [] ih = inr (sym (any_number (take (length p) ts)) ∙ e)
    go true e (u ∷ us) ih = inr (⊎_elim (λ z. absurd (cons≢nil z)) (λ z. z) ih)
    go false e (u ∷ us) ih = inr (⊎_elim (λ z. absurd (cons≢nil z)) (λ z. z) ih)

-- ---- how many they are

-- no flag, no row
trim_blank : {P : Type 0} (ps : List (List (Option P))) (n : ℕ) → trim ps (replicate n false) ≡ []
trim_blank [] n = refl
trim_blank (p ∷ ps) n =
    ap₂ (λ b l. keep_row b (take (length p) (replicate n false)) l) (ap any_set (take_blank (length p) n) ∙ blank (min (length p) n))
    (ap (trim ps) (drop_blank (length p) n) ∙ trim_blank ps (n - length p))

-- the flags of a number from a row on
row_flags_lem : (m x : ℕ) → x < 2 ^ (7 + m) → (take 7 (flags (7 + m) x) ≡ flags 7 (x / 2 ^ m)) × (drop 7 (flags (7 + m) x) ≡ flags m (x % 2 ^ m))
row_flags_lem m x h =
    let e : flags (7 + m) x ≡ flags 7 (x / 2 ^ m) ++ flags m (x % 2 ^ m) = flags_split 7 m x h in
    (ap (take 7) e ∙ take_at (flags 7 (x / 2 ^ m)) (flags m (x % 2 ^ m)) 7 (flags_length 7 (x / 2 ^ m)), ap (drop 7) e ∙ drop_at (flags 7 (x / 2 ^ m)) (flags m (x % 2 ^ m)) 7 (flags_length 7 (x / 2 ^ m)))

flags_none : (k : ℕ) → flags k 0 ≡ replicate k false
unfolding flags
flags_none zero = refl
flags_none (suc k) = ap₂ ◌∷◌ (lt-leb (2 ^ k) 0 (pow_pos k)) (ap (flags k) (mod-eq_of_lt (pow_pos k)) ∙ flags_none k)

-- a set whose rows are all empty is empty
trim_none : (ps : List (List (Option Place))) (ts : List Bool) → length (flatten ps) ≤ length ts → within ts (map present (flatten ps)) ≡ true → trim ps ts ≡ [] → number ts ≡ 0
trim_none ps ts h w e =
    ap number (sym (trim_flags ps ts h w) ∙ ap (λ l. flatten l ++ replicate (length ts - length (flatten l)) false) e) ∙ number_none (length ts - 0)

rows_done : (l n : ℕ) → rows_left l n 0 ≡ n
unfolding rows_left
rows_done zero n = refl
rows_done (suc l) n = if_true _ refl refl

flatten_sevens : (ps : List (List (Option Place))) → sevens ps ≡ true → length (flatten ps) ≡ 7 * length ps
flatten_sevens [] s = refl
flatten_sevens (p ∷ ps) s =
    length-append p (flatten ps)
    ∙ ap₂ ◌+◌ (eqb-true (length p) 7 (both_left (eqb (length p) 7) (sevens ps) s)) (flatten_sevens ps (both_right (eqb (length p) 7) (sevens ps) s))
    ∙ (let e : 7 + 7 * length ps ≡ 7 * suc (length ps) = omega arith in e)

-- the first row of a number's flags, where there are so many more
module _ (p : List (Option Place)) (ps : List (List (Option Place))) (m x : ℕ) (s : sevens (p ∷ ps) ≡ true) (h : x < 2 ^ (7 + m)) where
  seven : length p ≡ 7
  seven = eqb-true (length p) 7 (both_left (eqb (length p) 7) (sevens ps) s)

  first_row : trim (p ∷ ps) (flags (7 + m) x) ≡ keep_row (any_set (flags 7 (x / 2 ^ m))) (flags 7 (x / 2 ^ m)) (trim ps (flags m (x % 2 ^ m)))
  first_row =
      ap (λ k. keep_row (any_set (take k (flags (7 + m) x))) (take k (flags (7 + m) x)) (trim ps (drop k (flags (7 + m) x)))) seven
      ∙ ap₂ (λ r l. keep_row (any_set r) r (trim ps l)) (row_flags_lem m x h).0 (row_flags_lem m x h).1

  rest_within : within (flags (7 + m) x) (map present (p ++ flatten ps)) ≡ true → within (flags m (x % 2 ^ m)) (map present (flatten ps)) ≡ true
  rest_within w =
      both_right (within (flags 7 (x / 2 ^ m)) (map present p)) (within (flags m (x % 2 ^ m)) (map present (flatten ps)))
      (sym (within_append (flags 7 (x / 2 ^ m)) (map present p) (flags m (x % 2 ^ m)) (map present (flatten ps)) (flags_length 7 (x / 2 ^ m) ∙ sym (length-map p present ∙ seven)))
      ∙ ap₂ within (sym (flags_split 7 m x h)) (sym (map_append present p (flatten ps)))
      ∙ w)

count_step : (l n x y : ℕ) → (x ≡ 0 → ⊥) → y ≡ x % 2 ^ (63 - 7 * (n + 1)) → rows_left (suc l) n x ≡ rows_left l (n + 1) y
unfolding rows_left
count_step l n x y h e = if_false _ (ne_eqb x 0 h) (ap (rows_left l (n + 1)) (sym e))

-- the rows left, the octets so far given
trim_count : (ps : List (List (Option Place))) (n m x l : ℕ) → sevens ps ≡ true → m ≡ 63 - 7 * n → length (flatten ps) ≤ m → x < 2 ^ m
    → within (flags m x) (map present (flatten ps)) ≡ true → length ps ≤ l → n + length (trim ps (flags m x)) ≡ rows_left l n x
trim_count [] n m x l s e f h w c =
    let z : x ≡ 0 = sym (number_flags m x h) ∙ ap number (no_places (flags m x) w) ∙ number_none (length (flags m x)) in
    add-zero n ∙ sym (rows_done l n) ∙ ap (rows_left l n) (sym z)
trim_count (p ∷ ps) n m x zero s e f h w c = absurd (omega arith)
trim_count (p ∷ ps) n m x (suc l) s e f h w c =
    go (eqb x 0) refl
    (λ k q o v. trim_count ps (n + 1) k (x % 2 ^ k) l (both_right (eqb (length p) 7) (sevens ps) s) q o (mod-lt x (pow_pos k)) v (omega arith))
  where
    go : (t : Bool) → eqb x 0 ≡ t
        → ((k : ℕ) → k ≡ 63 - 7 * (n + 1) → length (flatten ps) ≤ k → within (flags k (x % 2 ^ k)) (map present (flatten ps)) ≡ true
        → n + 1 + length (trim ps (flags k (x % 2 ^ k))) ≡ rows_left l (n + 1) (x % 2 ^ k))
        → n + length (trim (p ∷ ps) (flags m x)) ≡ rows_left (suc l) n x
    go true z ih =
        let x0 : x ≡ 0 = eqb-true x 0 z in
        ap (λ y. n + length (trim (p ∷ ps) (flags m y))) x0
        ∙ ap (λ t. n + length (trim (p ∷ ps) t)) (flags_none m)
        ∙ ap (λ t. n + length t) (trim_blank (p ∷ ps) m)
        ∙ add-zero n
        ∙ sym (rows_done (suc l) n)
        ∙ ap (rows_left (suc l) n) (sym x0)
    go false z ih =
        let k : ℕ = m - 7 in
        let a : length (p ++ flatten ps) ≡ length p + length (flatten ps) = length-append p (flatten ps) in
        let p7 : length p ≡ 7 = eqb-true (length p) 7 (both_left (eqb (length p) 7) (sevens ps) s) in
        let mk : m ≡ 7 + k = omega arith in
        let q : k ≡ 63 - 7 * (n + 1) = omega arith in
        let hk : x < 2 ^ (7 + k) = subst (λ j. x < 2 ^ j) mk h in
        let wk : within (flags (7 + k) x) (map present (p ++ flatten ps)) ≡ true = subst (λ j. within (flags j x) (map present (p ++ flatten ps)) ≡ true) mk w in
        let fk : length (p ++ flatten ps) ≤ length (flags (7 + k) x) = rw (flags_length (7 + k) x) (omega arith) in
        let row : List Bool = flags 7 (x / 2 ^ k) in
        let more : List (List Bool) = trim ps (flags k (x % 2 ^ k)) in
        let fr : trim (p ∷ ps) (flags (7 + k) x) ≡ keep_row (any_set row) row more = first_row p ps k x s hk in
        let len : length (keep_row (any_set row) row more) ≡ suc (length more) =
        kept (λ t. length t ≡ suc (length more)) (any_set row) row more
        (λ b e. absurd (eqb-false x 0 z
        (sym (number_flags (7 + k) x hk) ∙ trim_none (p ∷ ps) (flags (7 + k) x) fk wk (fr ∙ ap₂ (λ c d. keep_row c row d) b e))))
        refl in
        ap (λ j. n + length (trim (p ∷ ps) (flags j x))) mk
        ∙ ap (λ t. n + length t) fr
        ∙ ap (λ j. n + j) len
        ∙ (let r : n + suc (length more) ≡ n + 1 + length more = omega arith in r)
        ∙ ih k q (omega arith) (rest_within p ps k x s hk wk)
        ∙ sym (count_step l n x (x % 2 ^ k) (eqb-false x 0 z) (ap (λ j. x % 2 ^ j) q))

-- ---- each of them

chain_last : (ns : List ℕ) (k : ℕ) → suc k ≡ length ns → get_or (chain_octets ns) k 0 ≡ get_or ns k 0 * 2
chain_last [] k h = absurd (omega arith)
chain_last (n ∷ []) zero h = refl
chain_last (n ∷ []) (suc k) h = absurd (omega arith)
chain_last (n ∷ (m ∷ ns)) zero h = absurd (omega arith)
chain_last (n ∷ (m ∷ ns)) (suc k) h = chain_last (m ∷ ns) k (omega arith)

chain_more : (ns : List ℕ) (k : ℕ) → suc k < length ns → get_or (chain_octets ns) k 0 ≡ get_or ns k 0 * 2 + 1
chain_more [] k h = absurd (omega arith)
chain_more (n ∷ []) k h = absurd (omega arith)
chain_more (n ∷ (m ∷ ns)) zero h = refl
chain_more (n ∷ (m ∷ ns)) (suc k) h = chain_more (m ∷ ns) k (omega arith)

-- seven bits of what is left of a number are seven bits of the number
seven_bits : (x m j : ℕ) → 7 + j ≤ m → x % 2 ^ m / 2 ^ j % 128 ≡ x / 2 ^ j % 128
seven_bits x m j h =
    let e : m ≡ (m - (7 + j)) + 7 + j = omega arith in
    ap (λ k. x % 2 ^ k / 2 ^ j % 128) e ∙ ap (λ y. y % 128) (field x (m - (7 + j) + 7) j) ∙ mod-mod-pow (x / 2 ^ j) (m - (7 + j)) 7

trim_octet : (ps : List (List (Option Place))) (m x k : ℕ) → sevens ps ≡ true → length (flatten ps) ≤ m → x < 2 ^ m → k < length (trim ps (flags m x))
    → get_or (map number (trim ps (flags m x))) k 0 ≡ x / 2 ^ (m - 7 - 7 * k) % 128
trim_octet [] m x k s f h l = absurd (omega arith)
trim_octet (p ∷ ps) m x k s f h l =
    let a : length (p ++ flatten ps) ≡ length p + length (flatten ps) = length-append p (flatten ps) in
    let p7 : length p ≡ 7 = eqb-true (length p) 7 (both_left (eqb (length p) 7) (sevens ps) s) in
    let mk : m ≡ 7 + (m - 7) = omega arith in
    let hk : x < 2 ^ (7 + (m - 7)) = subst (λ j. x < 2 ^ j) mk h in
    let fr : trim (p ∷ ps) (flags m x) ≡ keep_row (any_set (flags 7 (x / 2 ^ (m - 7)))) (flags 7 (x / 2 ^ (m - 7))) (trim ps (flags (m - 7) (x % 2 ^ (m - 7)))) =
    ap (λ j. trim (p ∷ ps) (flags j x)) mk ∙ first_row p ps (m - 7) x s hk in
    subst (λ t. get_or (map number t) k 0 ≡ x / 2 ^ (m - 7 - 7 * k) % 128) (sym fr)
    (kept (λ t. k < length t → get_or (map number t) k 0 ≡ x / 2 ^ (m - 7 - 7 * k) % 128) (any_set (flags 7 (x / 2 ^ (m - 7)))) (flags 7 (x / 2 ^ (m - 7))) (trim ps (flags (m - 7) (x % 2 ^ (m - 7))))
    (λ _ _ z. absurd (omega arith))
    (λ z. go k z (λ j q. trim_octet ps (m - 7) (x % 2 ^ (m - 7)) j (both_right (eqb (length p) 7) (sevens ps) s) (omega arith) (mod-lt x (pow_pos (m - 7))) q))
    (subst (λ t. k < length t) fr l))
  where
    go : (k : ℕ) → k < suc (length (trim ps (flags (m - 7) (x % 2 ^ (m - 7)))))
        → ((j : ℕ) → j < length (trim ps (flags (m - 7) (x % 2 ^ (m - 7))))
        → get_or (map number (trim ps (flags (m - 7) (x % 2 ^ (m - 7))))) j 0 ≡ x % 2 ^ (m - 7) / 2 ^ (m - 7 - 7 - 7 * j) % 128)
        → get_or (number (flags 7 (x / 2 ^ (m - 7))) ∷ map number (trim ps (flags (m - 7) (x % 2 ^ (m - 7))))) k 0 ≡ x / 2 ^ (m - 7 - 7 * k) % 128
    go zero z ih =
        let a : length (p ++ flatten ps) ≡ length p + length (flatten ps) = length-append p (flatten ps) in
        let p7 : length p ≡ 7 = eqb-true (length p) 7 (both_left (eqb (length p) 7) (sevens ps) s) in
        let mk : m ≡ 7 + (m - 7) = omega arith in
        let b : x / 2 ^ (m - 7) < 2 ^ 7 = shr_lt 7 (m - 7) (subst (λ j. x < 2 ^ j) mk h) in
        let e : m - 7 ≡ m - 7 - 7 * 0 = omega arith in
        number_flags 7 (x / 2 ^ (m - 7)) b ∙ sym (mod-eq_of_lt b) ∙ ap (λ j. x / 2 ^ j % 128) e
    go (suc j) z ih =
        let a : length (p ++ flatten ps) ≡ length p + length (flatten ps) = length-append p (flatten ps) in
        let p7 : length p ≡ 7 = eqb-true (length p) 7 (both_left (eqb (length p) 7) (sevens ps) s) in
        let q : length (flatten ps) ≡ 7 * length ps = flatten_sevens ps (both_right (eqb (length p) 7) (sevens ps) s) in
        let r : 7 + (m - 7 - 7 - 7 * j) ≤ m - 7 = omega (arith, trim_short ps (flags (m - 7) (x % 2 ^ (m - 7)))) in
        let e : m - 7 - 7 - 7 * j ≡ m - 7 - 7 * suc j = omega arith in
        ih j (omega arith) ∙ seven_bits x (m - 7) (m - 7 - 7 - 7 * j) r ∙ ap (λ y. x / 2 ^ y % 128) e

-- ---- the laws

over_full : {A : Type 0} (xs ys : List A) → length xs ≡ length ys → over xs ys ≡ xs
over_full [] [] h = refl
over_full [] (y ∷ ys) h = absurd (omega arith)
over_full (x ∷ xs) [] h = absurd (omega arith)
over_full (x ∷ xs) (y ∷ ys) h = ap (λ l. x ∷ l) (over_full xs ys (omega arith))

-- a set of so many FRNs within others
within_over : (n : ℕ) (ts us : List Bool) → length ts ≡ n → length us ≤ n → within ts (over us (replicate n false)) ≡ within ts us
within_over n ts us h k =
    ap (λ l. within l (over us (replicate n false))) (sym (over_full ts (replicate n false) (h ∙ sym (length-replicate n false))))
    ∙ within_pad n ts us (omega arith) k

pub set_some : (bits : ℕ) → bits < 2 ^ 64 → ltb 0 (length (frns_of bits)) ≡ ltb 0 bits
unfolding frns_of
set_some bits h = frns_some 0 (flags 64 bits) ∙ ap (ltb 0) (number_flags 64 bits h)

pub set_usable : (i bits : ℕ) → all_usable (category_at i).profile (frns_of bits) ≡ within (flags 64 bits) (flags 64 (usable_bits i))
unfolding frns_of usable_bits
set_usable i bits =
    let m : length (map present (places (category_at i))) ≡ length (places (category_at i)) = length-map (places (category_at i)) present in
    frns_usable (category_at i).profile (flags 64 bits)
    ∙ sym (within_over 64 (flags 64 bits) (false ∷ map present (places (category_at i))) (flags_length 64 bits) (omega (arith, places_few i)))
    ∙ ap (within (flags 64 bits)) (sym (bits_flags (map present (places (category_at i)))))

-- of a set that the profile has
module _ (i bits : ℕ) (fits : bits < 2 ^ 64) (u : within (flags 64 bits) (flags 64 (usable_bits i)) ≡ true) where
  -- FRN 0 is none
  no_zero : within (flags 64 bits) (false ∷ map present (places (category_at i))) ≡ true
  unfolding frns_of
  no_zero = sym (frns_usable (category_at i).profile (flags 64 bits)) ∙ set_usable i bits ∙ u

  pub set_low : bits < 2 ^ 63
  unfolding flags
  set_low = go (leb (2 ^ 63) bits) refl no_zero
    where
      go : (t : Bool) → leb (2 ^ 63) bits ≡ t → within (t ∷ flags 63 (bits % 2 ^ 63)) (false ∷ map present (places (category_at i))) ≡ true → bits < 2 ^ 63
      go true e w = absurd (false≢true w)
      go false e w = leb-false _ _ e

  tail_flags : flags 64 bits ≡ false ∷ flags 63 bits
  unfolding flags
  tail_flags = ap₂ (λ t n. t ∷ flags 63 n) (lt-leb (2 ^ 63) bits set_low) (mod-eq_of_lt set_low)

  tail_within : within (flags 63 bits) (map present (places (category_at i))) ≡ true
  tail_within = ap (λ l. within l (false ∷ map present (places (category_at i)))) (sym tail_flags) ∙ no_zero

  tail_fits : length (places (category_at i)) ≤ length (flags 63 bits)
  tail_fits = rw (flags_length 63 bits) (omega (arith, places_few i))

  -- a profile without a row has no FRN
  pub no_rows : {C : Type 0} → (bits ≡ 0 → ⊥) → (category_at i).profile ≡ [] → C
  no_rows h z =
      absurd (h
      (sym (number_flags 63 bits set_low)
      ∙ ap number (no_places (flags 63 bits) (subst (λ ps. within (flags 63 bits) (map present (flatten ps)) ≡ true) z tail_within))
      ∙ number_none (length (flags 63 bits))))

  -- the rows of its FSPEC
  abbrev pub set_rows : List (List Bool)
  set_rows = trim (category_at i).profile (flags 63 bits)

  pub set_rows_lem : set_flags 1 (category_at i).profile (frns_of bits) ≡ set_rows
  unfolding frns_of
  set_rows_lem =
      rows_are 1 (category_at i).profile (flags 64 bits) (rw (flags_length 64 bits) (omega (arith, places_few i)))
      ∙ ap (λ l. trim (category_at i).profile (drop 1 l)) tail_flags

  pub set_rows_usable : RowsUsable (category_at i).profile set_rows
  set_rows_usable = trim_usable (category_at i).profile (flags 63 bits) tail_fits tail_within

  pub set_rows_bits : bits_of (flatten set_rows) ≡ bits
  set_rows_bits =
      let t : flatten set_rows ++ replicate (length (flags 63 bits) - length (flatten set_rows)) false ≡ flags 63 bits = trim_flags (category_at i).profile (flags 63 bits) tail_fits tail_within in
      let l : length (flatten set_rows) ≤ 63 = omega (arith, rows_few (category_at i).profile set_rows set_rows_usable, places_few i) in
      bits_tail (flatten set_rows)
      ∙ ap number (over_pad (flatten set_rows) 63 false l ∙ ap (λ k. flatten set_rows ++ replicate (k - length (flatten set_rows)) false) (sym (flags_length 63 bits)) ∙ t)
      ∙ number_flags 63 bits set_low

  pub rows_counted : length set_rows ≡ rows_left 9 0 bits
  rows_counted =
      sym (zero-add (length set_rows))
      ∙ trim_count (category_at i).profile 0 63 bits 9 (profile_sevens i) refl (omega (arith, places_few i)) set_low tail_within (omega (arith, profile_short i))

  -- and its octets
  rows_some : (bits ≡ 0 → ⊥) → set_rows ≡ [] → ⊥
  rows_some h e = h (sym (number_flags 63 bits set_low) ∙ trim_none (category_at i).profile (flags 63 bits) tail_fits tail_within e)

  some_length : (l : List (List Bool)) → (l ≡ [] → ⊥) → 0 < length l
  some_length [] h = absurd (h refl)
  some_length (t ∷ ts) h = omega arith

  presence_octets : (bits ≡ 0 → ⊥) → write_presence (category_at i).profile set_rows ≡ ok (chain_octets (map number set_rows))
  unfolding write_presence
  presence_octets h =
      let m : length (map number set_rows) ≡ length set_rows = length-map set_rows number in
      bind_in _ (row_numbers_lem (category_at i).profile set_rows set_rows_usable)
      (need_in _ _ (T_true (⊎_elim (λ z. absurd (rows_some h z)) (λ z. z) (trim_house (category_at i).profile (flags 63 bits))))
      (chain_octets_lem (category_at i).profile (map number set_rows) (rows_small (category_at i).profile set_rows set_rows_usable (profile_sevens i))
      (omega (arith, some_length set_rows (rows_some h))) (omega (arith, trim_short (category_at i).profile (flags 63 bits)))))

  pub fspec_is : (bits ≡ 0 → ⊥) → fspec_at i bits ≡ chain_octets (map number set_rows)
  unfolding fspec_at
  fspec_is h = octets_of-ok (need_in _ _ (T_true (set_usable i bits ∙ u)) (ap (write_presence (category_at i).profile) set_rows_lem ∙ presence_octets h))

  fspec_long : (bits ≡ 0 → ⊥) → length (fspec_at i bits) ≡ length set_rows
  fspec_long h = ap length (fspec_is h) ∙ chain_length (map number set_rows) ∙ length-map set_rows number

  -- the empty set has no FSPEC
  fspec_empty : bits ≡ 0 → fspec_at i bits ≡ []
  unfolding fspec_at write_presence numbers house octets_of
  fspec_empty z =
      ap octets_of
      (need_in _ _ (T_true (set_usable i bits ∙ u))
      (ap (write_presence (category_at i).profile) (set_rows_lem ∙ ap (λ n. trim (category_at i).profile (flags 63 n)) z ∙ ap (trim (category_at i).profile) (flags_none 63) ∙ trim_blank (category_at i).profile 63)
      ∙ bind_in _ refl (need_out 7 _ refl)))

  pub fspec_counted : length (fspec_at i bits) ≡ rows_left 9 0 bits
  fspec_counted = go (eqb bits 0) refl
    where
      go : (t : Bool) → eqb bits 0 ≡ t → length (fspec_at i bits) ≡ rows_left 9 0 bits
      go true e = let z : bits ≡ 0 = eqb-true bits 0 e in ap length (fspec_empty z) ∙ sym (rows_done 9 0) ∙ ap (rows_left 9 0) (sym z)
      go false e = fspec_long (eqb-false bits 0 e) ∙ rows_counted

  -- an octet of it
  module _ (k : ℕ) (h : k < length (fspec_at i bits)) where
    not_empty : bits ≡ 0 → ⊥
    not_empty z = let e : length (fspec_at i bits) ≡ 0 = ap length (fspec_empty z) in absurd (omega arith)

    row_octet : get_or (map number set_rows) k 0 ≡ bits / 2 ^ (56 - 7 * k) % 128
    row_octet =
        trim_octet (category_at i).profile 63 bits k (profile_sevens i) (omega (arith, places_few i)) set_low (omega (arith, fspec_long not_empty))

    pub octet_last : suc k ≡ length (fspec_at i bits) → get_or (fspec_at i bits) k 0 ≡ bits / 2 ^ (56 - 7 * k) % 128 * 2
    octet_last e =
        ap (λ l. get_or l k 0) (fspec_is not_empty)
        ∙ chain_last (map number set_rows) k (e ∙ fspec_long not_empty ∙ sym (length-map set_rows number))
        ∙ ap (λ n. n * 2) row_octet

    pub octet_more : suc k < length (fspec_at i bits) → get_or (fspec_at i bits) k 0 ≡ bits / 2 ^ (56 - 7 * k) % 128 * 2 + 1
    octet_more e =
        let m : length (map number set_rows) ≡ length set_rows = length-map set_rows number in
        ap (λ l. get_or l k 0) (fspec_is not_empty) ∙ chain_more (map number set_rows) k (omega (arith, fspec_long not_empty)) ∙ ap (λ n. n * 2 + 1) row_octet

-- a set that the profile lacks has no FSPEC
pub fspec_barred : (i bits : ℕ) → within (flags 64 bits) (flags 64 (usable_bits i)) ≡ false → fspec_at i bits ≡ []
unfolding fspec_at octets_of
fspec_barred i bits u = ap octets_of (need_out 8 _ (set_usable i bits ∙ u))

-- ---- what the code asks of a set: m are the FRNs of the profile, t whether the set is within them

module _ (i bits : ℕ) {m : ℕ} {t : Bool} (is : m ≡ usable_bits i) (e : t ≡ within (flags 64 bits) (flags 64 m)) where
  pub set_within : not t ≡ false → within (flags 64 bits) (flags 64 (usable_bits i)) ≡ true
  set_within n = ap (λ k. within (flags 64 bits) (flags 64 k)) (sym is) ∙ sym e ∙ not-false t n

  pub set_barred : not t ≡ true → within (flags 64 bits) (flags 64 (usable_bits i)) ≡ false
  set_barred n = ap (λ k. within (flags 64 bits) (flags 64 k)) (sym is) ∙ sym e ∙ not-true t n

  pub fspec_none : not t ≡ true → 0 ≡ length (fspec_at i bits)
  fspec_none n = sym (ap length (fspec_barred i bits (set_barred n)))

-- a set with an octet in its FSPEC is one that the profile has
fspec_within : (i bits k : ℕ) → k < length (fspec_at i bits) → within (flags 64 bits) (flags 64 (usable_bits i)) ≡ true
fspec_within i bits k h = go (within (flags 64 bits) (flags 64 (usable_bits i))) refl
  where
    go : (t : Bool) → within (flags 64 bits) (flags 64 (usable_bits i)) ≡ t → t ≡ true
    go true e = refl
    go false e = let z : length (fspec_at i bits) ≡ 0 = ap length (fspec_barred i bits e) in absurd (omega arith)

module _ (i bits k : ℕ) {n : ℕ} (fits : bits < 2 ^ 64) (is : n ≡ length (fspec_at i bits)) where
  module _ (h : k < n) where
    here : k < length (fspec_at i bits)
    here = subst (λ m. k < m) is h

    pub octet_few : k ≤ 8
    octet_few =
        let u : within (flags 64 bits) (flags 64 (usable_bits i)) ≡ true = fspec_within i bits k here in
        omega (arith, here, fspec_counted i bits fits u, rows_counted i bits fits u, trim_short (category_at i).profile (flags 63 bits), profile_short i)

    pub octet_before : k + 1 < n → bits / 2 ^ (56 - 7 * k) % 128 * 2 + 1 ≡ get_or (fspec_at i bits) k 0
    octet_before q = sym (octet_more i bits fits (fspec_within i bits k here) k here (subst (λ m. suc k < m) is (omega arith)))

    pub octet_at_end : n ≤ k + 1 → bits / 2 ^ (56 - 7 * k) % 128 * 2 ≡ get_or (fspec_at i bits) k 0
    octet_at_end q = sym (octet_last i bits fits (fspec_within i bits k here) k here (sym (sym is ∙ (let e : n ≡ suc k = omega arith in e))))

-- ---- the steps of counting octets: so many so far, and the FRNs left

pub record Counting (bits left n : ℕ) : Type 0 where
  pub few : n ≤ 9
  pub below : left < 2 ^ (63 - 7 * n)
  pub same : rows_left (9 - n) n left ≡ rows_left 9 0 bits

pub count_first : (bits : ℕ) → bits < 2 ^ 63 → Counting bits bits 0
count_first bits h = record { few = omega arith; below = h; same = refl }

module _ (bits left n : ℕ) (c : Counting bits left n) where
  pub count_end : left ≡ 0 → (n ≡ rows_left 9 0 bits) × (n ≤ 9)
  count_end z = (sym (rows_done (9 - n) n) ∙ ap (rows_left (9 - n) n) (sym z) ∙ c.same, c.few)

  -- nine octets have every FRN
  none_left : 9 ≤ n → left ≡ 0
  none_left h =
      let b : left < 2 ^ (63 - 7 * n) = c.below in
      let z : 63 - 7 * n ≡ 0 = omega arith in
      let d : left < 2 ^ 0 = subst (λ j. left < 2 ^ j) z b in
      omega arith

  pub count_past : 9 ≤ n → (9 ≡ rows_left 9 0 bits) × (9 ≤ 9)
  count_past h = let e : n ≡ 9 = omega (arith, c.few) in subst (λ k. (k ≡ rows_left 9 0 bits) × (k ≤ 9)) e (count_end (none_left h))

  pub count_next : (w : ℕ) → n < 9 → (left ≡ 0 → ⊥) → w ≡ 2 ^ (63 - 7 * (n + 1)) → Counting bits (left % w) (n + 1)
  count_next w l h e =
      let o : 9 - n ≡ suc (9 - (n + 1)) = omega arith in
      record {
        few = omega arith;
        below = subst (λ x. left % x < 2 ^ (63 - 7 * (n + 1))) (sym e) (mod-lt left (pow_pos (63 - 7 * (n + 1))));
        same = sym (ap (λ k. rows_left k n left) o ∙ count_step (9 - (n + 1)) n left (left % w) h (ap (λ x. left % x) e)) ∙ c.same;
      }
