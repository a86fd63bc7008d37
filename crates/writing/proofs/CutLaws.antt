-- A list of numbers cut into parts until nothing is left, as the code does it: for a fixed, list or led item it writes what `write_fields` writes, and
-- refuses what it refuses, at the same place. Not here: an extended item (`PlainLaws`). Assumes nothing.
use Prim.Native.Nat.{ℕ, zero, suc, ◌+◌, ◌-◌, ◌*◌, ◌/◌, ◌≤◌, ◌<◌}
use mathlib.Core.Path.{◌≡◌, refl, sym, ap, ◌∙◌}
use mathlib.Core.Bool.{Bool, true, false}
use mathlib.Core.List.{List, [], ◌∷◌}
use native.Mathlib.Omega.{arith}
use native.Mathlib.Nat.{div-eq_of_lt, add-mul-div_right, one-mul, zero-mul, div-one, lt-div-mul-add}
use native.Mathlib.Numerals.{add-one}
use lib.Dec.{leb, eqb, le→leb}
use borrow.Author.Tests.{eqb-true, lt-leb, leb-true, leb-false, ne_eqb}
use lib.ListN.{length, take, drop, replicate, length-drop, length-replicate}
use lib.IntN.{ℤ}
use Rattle.rules.specs.Answer.{Answer, ok, refused, ◌>>=◌, need◌or◌then◌, when◌then◌else◌}
use Rattle.rules.specs.Field.{Field, any, arity}
use Rattle.rules.specs.Format.{Group, Format, fixed, repeated, led, PartValues, groups, pack_all, write_plain}
use Rattle.rules.specs.Layout.{plain, in_parts, write_item}
use Rattle.rules.specs.FieldList.{take_parts, take_plain, take_item, values_from, write_fields}
use Rattle.rules.proofs.AnswerLaws.{refused_ok, ok_inj, bind_elim, need_elim, bind_in, bind_assoc, bind_out, need_in, need_out, need_bind, if_true, if_false, Only, This, only_bind, only_need}
use Rattle.rules.proofs.FieldListLaws.{parts_count}
use Rattle.rules.proofs.Refusals.{plain_written, parts_taken}
use Rattle.writing.specs.Write.{parts_from, cut}

-- what was taken, if nothing is after it
abbrev whole : {A : Type 0} → A × List ℤ → Answer A
whole x = need eqb (length x.1) 0 or 11 then ok x.0

abbrev changed : {A B : Type 0} → (A → B) → A × List ℤ → Answer (B × List ℤ)
changed f y = ok (f y.0, y.1)

map_whole : {A B : Type 0} (x : Answer (A × List ℤ)) (f : A → B) → ((x >>= changed f) >>= whole) ≡ ((x >>= whole) >>= (λ a. ok (f a)))
unfolding ◌>>=◌
map_whole (ok y) f = sym (need_bind (eqb (length y.1) 0) 11 (ok y.0) (λ a. ok (f a)))
map_whole (refused n p) f = refl

-- so many parts, and nothing after them
abbrev cut_of : List (List Field) → List ℤ → Answer PartValues
cut_of gs fs = take_parts gs fs >>= whole

cut_step : (g : List Field) (gs : List (List Field)) (fs : List ℤ)
    → cut_of (g ∷ gs) fs ≡ (need leb (arity g) (length fs) or 11 then (cut_of gs (drop (arity g) fs) >>= (λ vs. ok (take (arity g) fs ∷ vs))))
unfolding take_parts
cut_step g gs fs =
    need_bind _ _ _ whole
    ∙ ap (λ z. need leb (arity g) (length fs) or 11 then z) (map_whole (take_parts gs (drop (arity g) fs)) (λ vs. take (arity g) fs ∷ vs))

none_left : (fs : List ℤ) (a : ℕ) → 0 < a → length fs / a ≡ 0 → length fs < a
none_left fs a z e = omega (arith, lt-div-mul-add {a = length fs} {b = a} z, ap (λ x. x * a) e, zero-mul a)

one_at_least : (fs : List ℤ) (a d : ℕ) → length fs / a ≡ suc d → a ≤ length fs
one_at_least fs a d e = go (leb a (length fs)) refl
  where
    go : (t : Bool) → leb a (length fs) ≡ t → a ≤ length fs
    go true h = leb-true _ _ h
    go false h = let z : ◌≡◌ {A = ℕ} 0 (suc d) = sym (div-eq_of_lt (leb-false _ _ h)) ∙ e in absurd (omega arith)

one_less : (fs : List ℤ) (a d : ℕ) → 0 < a → length fs / a ≡ suc d → length (drop a fs) / a ≡ d
one_less fs a d z e =
    let l : a ≤ length fs = one_at_least fs a d e in
    let s : length fs - a + 1 * a ≡ length fs = rw (one-mul a) (omega arith) in
    let q : suc (length (drop a fs) / a) ≡ suc d =
    sym (add-one (length (drop a fs) / a)) ∙ ap (λ x. x / a + 1) (length-drop a fs) ∙ sym (add-mul-div_right (length fs - a) 1 z) ∙ ap (λ x. x / a) s ∙ e in
    omega arith

-- as many parts as the numbers make, where so many may be
cut_enough : (g : List Field) → 0 < arity g → (d k : ℕ) (fs : List ℤ) → length fs / arity g ≡ d → d ≤ k
    → cut_of (replicate d g) fs ≡ parts_from (replicate k g) fs
unfolding take_parts parts_from ◌>>=◌
cut_enough g z zero zero fs e l = refl
cut_enough g z zero (suc k) fs e l = go (eqb (length fs) 0)
  where
    go : (t : Bool) → (need t or 11 then ok []) ≡ (when t then ok [] else need leb (arity g) (length fs) or 11 then (parts_from (replicate k g) (drop (arity g) fs) >>= (λ vs. ok (take (arity g) fs ∷ vs))))
    go true = need_in true 11 tt (sym (if_true _ refl refl))
    go false = need_out 11 _ refl ∙ sym (if_false _ refl (need_out 11 _ (lt-leb (arity g) (length fs) (none_left fs (arity g) z e))))
cut_enough g z (suc d) zero fs e l = absurd (omega arith)
cut_enough g z (suc d) (suc k) fs e l =
    let m : arity g ≤ length fs = one_at_least fs (arity g) d e in
    cut_step g (replicate d g) fs
    ∙ need_in _ _ (le→leb _ _ m) (ap (λ x. x >>= (λ vs. ok (take (arity g) fs ∷ vs))) (cut_enough g z d k (drop (arity g) fs) (one_less fs (arity g) d z e) (omega arith)))
    ∙ sym (if_false _ (ne_eqb (length fs) 0 (λ (h : length fs ≡ 0). absurd (omega arith))) (need_in _ _ (le→leb _ _ m) refl))

-- more than there may be
cut_over : (g : List Field) → 0 < arity g → (d k : ℕ) (fs : List ℤ) → length fs / arity g ≡ d → k < d → parts_from (replicate k g) fs ≡ refused 11 0
unfolding parts_from
cut_over g z zero k fs e l = absurd (omega arith)
cut_over g z (suc d) zero fs e l =
    let m : arity g ≤ length fs = one_at_least fs (arity g) d e in
    need_out 11 _ (ne_eqb (length fs) 0 (λ (h : length fs ≡ 0). absurd (omega arith)))
cut_over g z (suc d) (suc k) fs e l =
    let m : arity g ≤ length fs = one_at_least fs (arity g) d e in
    if_false _ (ne_eqb (length fs) 0 (λ (h : length fs ≡ 0). absurd (omega arith)))
    (need_in _ _ (le→leb _ _ m) (bind_out _ (cut_over g z d k (drop (arity g) fs) (one_less fs (arity g) d z e) (omega arith))))

-- the rule, with the list cut first
plain_cut : (s : Format) (fs : List ℤ) → write_fields (plain s) fs ≡ ((take_plain s fs >>= whole) >>= write_plain s)
unfolding write_fields values_from take_item write_item ◌>>=◌
plain_cut s fs =
    ap (λ z. z >>= write_item (plain s)) (map_whole (take_plain s fs) in_parts)
    ∙ bind_assoc (take_plain s fs >>= whole) (λ a. ok (in_parts a)) (write_item (plain s))

pack_all-count : (gs : List (List Field)) (vs : PartValues) (ns : List ℕ) → pack_all gs vs ≡ ok ns → length vs ≤ length gs
unfolding pack_all
pack_all-count gs [] ns h = omega arith
pack_all-count [] (v ∷ vs) ns h = refused_ok h
pack_all-count (g ∷ gs) (v ∷ vs) ns h =
    bind_elim _ _ h λ n p h₁.
    bind_elim _ _ h₁ λ us q h₂.
    omega (arith, pack_all-count gs vs us q)

-- a list of more parts than there may be is refused alike
pub over_written : (s : Format) (vs : PartValues) → length (groups s) < length vs → write_plain s vs ≡ refused 11 0
unfolding write_plain
over_written s vs l = go (write_plain s vs) refl (plain_written (This 11) (refl, refl) s vs)
  where
    go : (x : Answer (List ℕ)) → write_plain s vs ≡ x → Only (This 11) x → x ≡ refused 11 0
    go (ok bs) e o =
        bind_elim _ _ e λ ns p h₁.
        need_elim _ _ _ p λ t h₂.
        absurd (omega (arith, pack_all-count (groups s) vs ns h₂))
    go (refused n p) e o = ap (λ m. refused m p) o.0 ∙ ap (refused 11) o.1

too_many : (s : Format) (x : Answer PartValues) → Only (This 11) x → ((vs : PartValues) → x ≡ ok vs → length (groups s) < length vs) → (x >>= write_plain s) ≡ refused 11 0
unfolding ◌>>=◌
too_many s (ok vs) o h = over_written s vs (h vs refl)
too_many s (refused n p) o h = ap (λ m. refused m p) o.0 ∙ ap (refused 11) o.1

cut_form : (gs : List (List Field)) (fs : List ℤ) → Only (This 11) (cut_of gs fs)
cut_form gs fs = only_bind (This 11) _ _ (parts_taken (This 11) (refl, refl) gs fs) λ x. only_need (This 11) _ _ _ (refl, refl) tt

cut_count : (gs : List (List Field)) (fs : List ℤ) (vs : PartValues) → cut_of gs fs ≡ ok vs → length vs ≡ length gs
cut_count gs fs vs h =
    bind_elim _ _ h λ x p h₁.
    need_elim _ _ _ h₁ λ t h₂.
    ap length (sym (ok_inj h₂)) ∙ parts_count gs fs x.0 x.1 p

-- any format whose parts are alike
alike_cut : (s : Format) (hi : ℕ) (g : List Field) (fs : List ℤ) → 0 < arity g → length (groups s) ≡ hi
    → (cut_of (replicate (length fs / arity g) g) fs >>= write_plain s) ≡ (parts_from (replicate hi g) fs >>= write_plain s)
alike_cut s hi g fs z e = go (leb (length fs / arity g) hi) refl
  where
    go : (t : Bool) → leb (length fs / arity g) hi ≡ t
        → (cut_of (replicate (length fs / arity g) g) fs >>= write_plain s) ≡ (parts_from (replicate hi g) fs >>= write_plain s)
    go true h = ap (λ x. x >>= write_plain s) (cut_enough g z (length fs / arity g) hi fs refl (leb-true (length fs / arity g) hi h))
    go false h =
        let l : hi < length fs / arity g = leb-false (length fs / arity g) hi h in
        too_many s (cut_of (replicate (length fs / arity g) g) fs) (cut_form (replicate (length fs / arity g) g) fs)
        (λ vs u. omega (arith, cut_count (replicate (length fs / arity g) g) fs vs u, length-replicate (length fs / arity g) g))
        ∙ sym (bind_out (write_plain s) (cut_over g z (length fs / arity g) hi fs refl l))

pub list_cut : (lo hi : ℕ) (g : Group) (fs : List ℤ) → 0 < arity g.fields
    → write_fields (plain (repeated lo hi g)) fs ≡ cut (repeated lo hi g) fs
unfolding take_plain cut
list_cut lo hi g fs z = plain_cut (repeated lo hi g) fs ∙ alike_cut (repeated lo hi g) hi g.fields fs z (length-replicate hi g.fields)

pub led_cut : (lo : ℕ) (fs : List ℤ) → write_fields (plain (led lo)) fs ≡ cut (led lo) fs
unfolding take_plain cut
led_cut lo fs =
    plain_cut (led lo) fs
    ∙ ap (λ n. cut_of (replicate n (any 8 ∷ [])) fs >>= write_plain (led lo)) (sym (div-one (length fs)))
    ∙ alike_cut (led lo) 254 (any 8 ∷ []) fs (omega arith) (length-replicate 254 (any 8 ∷ []))

none_first : (s : Format) (t u : Bool) (x : Answer PartValues) → write_plain s [] ≡ refused 11 0 → (t ≡ true → u ≡ false)
    → ((need u or 11 then x) >>= write_plain s) ≡ ((when t then ok [] else need u or 11 then x) >>= write_plain s)
none_first s true u x h f = bind_out _ (need_out 11 x (f refl)) ∙ sym (ap (λ y. y >>= write_plain s) (if_true _ refl refl) ∙ bind_in _ refl h)
none_first s false u x h f = ap (λ y. y >>= write_plain s) (sym (if_false _ refl refl))

nothing_cut : (fs : List ℤ) → cut_of [] fs ≡ parts_from [] fs
unfolding take_parts parts_from ◌>>=◌
nothing_cut fs = refl

-- no number at all makes no part
none_fixed : (g : Group) → write_plain (fixed g) [] ≡ refused 11 0
unfolding write_plain need◌or◌then◌ ◌>>=◌
none_fixed g = refl

pub fixed_cut : (g : Group) (fs : List ℤ) → 0 < arity g.fields
    → write_fields (plain (fixed g)) fs ≡ cut (fixed g) fs
unfolding take_plain parts_from cut
fixed_cut g fs z =
    plain_cut (fixed g) fs
    ∙ ap (λ x. x >>= write_plain (fixed g))
    (cut_step g.fields [] fs
    ∙ ap (λ x. need leb (arity g.fields) (length fs) or 11 then (x >>= (λ vs. ok (take (arity g.fields) fs ∷ vs)))) (nothing_cut (drop (arity g.fields) fs)))
    ∙ none_first (fixed g) (eqb (length fs) 0) (leb (arity g.fields) (length fs)) _ (none_fixed g) (λ e. few (eqb-true (length fs) 0 e))
  where
    few : length fs ≡ 0 → leb (arity g.fields) (length fs) ≡ false
    few e = lt-leb (arity g.fields) (length fs) (omega arith)
