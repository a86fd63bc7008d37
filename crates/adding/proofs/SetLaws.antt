-- The FSPEC of a set of FRNs that a profile has: it can always be written, and so a new record is what the writing rule makes of a record.
--
-- In order: numbers of the set; rows; the house rule; the octets; a new record. Assumes nothing.
use Prim.Native.Nat.{ℕ, zero, suc, ◌+◌, ◌*◌, ◌^◌, ◌≤◌, ◌<◌}
use mathlib.Core.Path.{◌≡◌, refl, sym, ap, ◌∙◌, subst}
use mathlib.Core.Logic.{◌⊎◌, inl, inr, ⊎_elim}
use mathlib.Core.Bool.{Bool, true, false, ◌||◌, false≢true}
use mathlib.Core.Option.{Option, none, some}
use mathlib.Core.List.{List, [], ◌∷◌, ◌++◌, map}
use native.Mathlib.Omega.{arith}
use native.Mathlib.Nat.{add-zero, lt_of_lt_of_le}
use lib.Dec.{leb, eqb, lt→ltb}
use borrow.Author.Tests.{eq-eqb, eqb-true, lt-ltb, leb-true}
use lib.Pow.{pow_pos, pow_mono}
use lib.ListN.{length, get_or, length-append, length-map, get_or-append}
use lib.Seq.{get_or-append-add}
use Rattle.rules.specs.Answer.{ok}
use Rattle.rules.specs.Chain.{flatten, octets, write_num, write_chain}
use Rattle.rules.specs.Presence.{present, number, usable, house, numbers, write_presence, has, place_at, all_usable, row_flags, any_set, keep_row, set_flags}
use Rattle.rules.specs.Record.{Place}
use Rattle.rules.proofs.AnswerLaws.{bind_in, need_in, T_true, both_left, both_right, or_right, or_cases, below_or}
use Rattle.rules.proofs.PresenceLaws.{number_lt}
use Rattle.rules.proofs.Tables.{sevens}

-- ---- numbers of the set: each has a usable place

has_usable : (ps : List (List (Option Place))) (fs : List ℕ) (g : ℕ) → all_usable ps fs ≡ true → has g fs ≡ true → present (place_at ps g) ≡ true
has_usable ps [] g u h = absurd (false≢true h)
has_usable ps (f ∷ fs) g u h =
    ⊎_elim
    (λ e. ap (λ k. present (place_at ps k)) (eqb-true g f e) ∙ both_left (present (place_at ps f)) (all_usable ps fs) u)
    (λ e. has_usable ps fs g (both_right (present (place_at ps f)) (all_usable ps fs) u) e)
    (or_cases (eqb g f) (has g fs) h)

nil_cons {ℓ} : {A : Type 0} {C : Type ℓ} {a : A} {l : List A} → a ∷ l ≡ [] → C
nil_cons e = absurd (omega (arith, ap length e))

-- octets with room for FX
abbrev Small : List ℕ → Type 0
Small [] = Unit {0}
Small (n ∷ ns) = (n < 128) × Small ns

num_writes : (n : ℕ) → n < 256 → write_num 1 n ≡ ok (octets 1 n)
unfolding write_num
num_writes n l = need_in _ 11 (lt→ltb n 256 l) refl

chain_writes : {P : Type 0} (ps : List P) (ns : List ℕ) → 0 < length ns → length ns ≤ length ps → Small ns → (a : List ℕ) × (write_chain (map (λ p. 1) ps) ns ≡ ok a)
unfolding write_chain
chain_writes ps [] l m s = absurd (omega arith)
chain_writes [] (n ∷ ns) l m s = absurd (omega arith)
chain_writes (p ∷ ps) (n ∷ []) l m s = (octets 1 (n * 2), num_writes (n * 2) (omega (arith, s.0)))
chain_writes (p ∷ ps) (n ∷ (k ∷ ns)) l m s =
    let (a, e) = chain_writes ps (k ∷ ns) (omega arith) (omega arith) s.1 in
    (octets 1 (n * 2 + 1) ++ a, bind_in _ (num_writes (n * 2 + 1) (omega (arith, s.0))) (bind_in _ e refl))

-- one place more
usable_cons : (t : Bool) (q : Option Place) (ps : List (Option Place)) (ts : List Bool) → (t ≡ true → present q ≡ true) → usable ps ts ≡ true → usable (q ∷ ps) (t ∷ ts) ≡ true
unfolding usable
usable_cons false q ps ts h u = u
usable_cons true none ps ts h u = absurd (false≢true (h refl))
usable_cons true (some p) ps ts h u = u

first_or : (f g : ℕ) → f ≤ g → (f ≡ g) ⊎ (f < g)
first_or f g l = ⊎_elim (λ e. inr e) (λ e. inl (omega arith)) (below_or f g)

number_some : (ts : List Bool) → any_set ts ≡ true → 0 < number ts
unfolding number
number_some [] e = absurd (false≢true e)
number_some (true ∷ ts) e = omega (arith, pow_pos (length ts))
number_some (false ∷ ts) e = number_some ts e

keep_true : (t : Bool) (r : List Bool) (rs : List (List Bool)) → t ≡ true → 0 < length (keep_row t r rs)
keep_true true r rs e = omega arith
keep_true false r rs e = absurd (false≢true e)

keep_some : (t : Bool) (r : List Bool) (rs : List (List Bool)) → 0 < length rs → 0 < length (keep_row t r rs)
keep_some true r rs l = omega arith
keep_some false r [] l = absurd (omega arith)
keep_some false r (u ∷ rs) l = omega arith

keep_house : (t : Bool) (r : List Bool) (rs : List (List Bool)) → any_set r ≡ t → (rs ≡ []) ⊎ (house (map number rs) ≡ true)
    → (keep_row t r rs ≡ []) ⊎ (house (map number (keep_row t r rs)) ≡ true)
unfolding house
keep_house true r [] e h = inr (lt-ltb 0 (number r) (number_some r e))
keep_house true r (u ∷ rs) e h = ⊎_elim (λ z. nil_cons z) (λ z. inr z) h
keep_house false r [] e h = inl refl
keep_house false r (u ∷ rs) e h = ⊎_elim (λ z. nil_cons z) (λ z. inr z) h

-- what the numbers of the set say of the places, and that there is one
served_at : (ps : List (List (Option Place))) (fs : List ℕ) → all_usable ps fs ≡ true → (j : ℕ) → has (1 + j) fs ≡ true → present (get_or (flatten ps) j none) ≡ true
served_at ps fs u j h =
    let e : 1 + j ≡ suc j = omega arith in
    ap (λ k. present (place_at ps k)) (sym e) ∙ has_usable ps fs (1 + j) u h

place_in : (ps : List (List (Option Place))) (g : ℕ) → present (place_at ps g) ≡ true → (1 ≤ g) × (g < 1 + length (flatten ps))
place_in ps zero h = absurd (false≢true h)
place_in ps (suc g) h = (omega arith, omega (arith, present_in (flatten ps) g h))
  where
    present_in : (l : List (Option Place)) (n : ℕ) → present (get_or l n none) ≡ true → n < length l
    present_in [] n e = absurd (false≢true e)
    present_in (x ∷ l) zero e = omega arith
    present_in (x ∷ l) (suc n) e = omega (arith, present_in l n e)

module _ (fs : List ℕ) where
  -- each number of the set from f on has a usable place among these
  abbrev Served : ℕ → List (Option Place) → Type 0
  Served f ps = (j : ℕ) → j < length ps → has (f + j) fs ≡ true → present (get_or ps j none) ≡ true

  served_tail : (f : ℕ) (p : Option Place) (ps : List (Option Place)) → Served f (p ∷ ps) → Served (suc f) ps
  served_tail f p ps s j l h =
      let e : suc f + j ≡ f + suc j = omega arith in
      s (suc j) (omega arith) (ap (λ k. has k fs) (sym e) ∙ h)

  served_first : (f : ℕ) (p qs : List (Option Place)) → Served f (p ++ qs) → Served f p
  served_first f p qs s j l h =
      ap present (sym (get_or-append p qs none j l)) ∙ s j (rw length-append (omega arith)) h

  served_rest : (f : ℕ) (p qs : List (Option Place)) → Served f (p ++ qs) → Served (f + length p) qs
  served_rest f p qs s j l h =
      let e : f + length p + j ≡ f + (length p + j) = omega arith in
      ap present (sym (get_or-append-add p qs j none)) ∙ s (length p + j) (rw length-append (omega arith)) (ap (λ k. has k fs) (sym e) ∙ h)

  -- ---- rows

  row_usable : (f : ℕ) (p : List (Option Place)) → Served f p → usable p (row_flags f p fs) ≡ true
  unfolding usable
  row_usable f [] s = refl
  row_usable f (p ∷ ps) s =
      usable_cons (has f fs) p ps (row_flags (suc f) ps fs) (λ h. s 0 (omega arith) (ap (λ k. has k fs) (add-zero f) ∙ h)) (row_usable (suc f) ps (served_tail f p ps s))

  -- rows without one that is empty at the end are none, or the first and the others
  keep_cases : (t : Bool) (r : List Bool) (rs : List (List Bool)) → (keep_row t r rs ≡ []) ⊎ (keep_row t r rs ≡ r ∷ rs)
  keep_cases true r rs = inr refl
  keep_cases false r [] = inl refl
  keep_cases false r (u ∷ rs) = inr refl

  rows_numbers : (f : ℕ) (ps : List (List (Option Place))) → Served f (flatten ps) → numbers ps (set_flags f ps fs) ≡ ok (map number (set_flags f ps fs))
  unfolding numbers set_flags
  rows_numbers f [] s = refl
  rows_numbers f (p ∷ ps) s =
      ⊎_elim
      (λ e. ap (numbers (p ∷ ps)) e ∙ ap (λ z. ok (map number z)) (sym e))
      (λ e.
      ap (numbers (p ∷ ps)) e
      ∙ need_in _ 8 (T_true (row_usable f p (served_first f p (flatten ps) s))) (bind_in _ (rows_numbers (f + length p) ps (served_rest f p (flatten ps) s)) refl)
      ∙ ap (λ z. ok (map number z)) (sym e))
      (keep_cases (any_set (row_flags f p fs)) (row_flags f p fs) (set_flags (f + length p) ps fs))

  rows_few : (f : ℕ) (ps : List (List (Option Place))) → length (set_flags f ps fs) ≤ length ps
  unfolding set_flags
  rows_few f [] = omega arith
  rows_few f (p ∷ ps) =
      ⊎_elim
      (λ e. omega (arith, ap length e))
      (λ e. omega (arith, ap length e, rows_few (f + length p) ps))
      (keep_cases (any_set (row_flags f p fs)) (row_flags f p fs) (set_flags (f + length p) ps fs))

  -- ---- the house rule

  -- the last row that is kept has a flag set
  rows_house : (f : ℕ) (ps : List (List (Option Place))) → (set_flags f ps fs ≡ []) ⊎ (house (map number (set_flags f ps fs)) ≡ true)
  unfolding set_flags
  rows_house f [] = inl refl
  rows_house f (p ∷ ps) = keep_house (any_set (row_flags f p fs)) (row_flags f p fs) (set_flags (f + length p) ps fs) refl (rows_house (f + length p) ps)

  flag_set : (f g : ℕ) (p : List (Option Place)) → has g fs ≡ true → f ≤ g → g < f + length p → any_set (row_flags f p fs) ≡ true
  flag_set f g [] h l m = absurd (omega arith)
  flag_set f g (p ∷ ps) h l m =
      ⊎_elim
      (λ e. ap (λ t. t || any_set (row_flags (suc f) ps fs)) (ap (λ k. has k fs) e ∙ h))
      (λ e. or_right (has f fs) (any_set (row_flags (suc f) ps fs)) (flag_set (suc f) g ps h e (omega arith)))
      (first_or f g l)

  -- a set with a number in range has a row
  rows_some : (f g : ℕ) (ps : List (List (Option Place))) → has g fs ≡ true → f ≤ g → g < f + length (flatten ps) → 0 < length (set_flags f ps fs)
  unfolding set_flags
  rows_some f g [] h l m = absurd (omega arith)
  rows_some f g (p ∷ ps) h l m =
      ⊎_elim
      (λ e. keep_true (any_set (row_flags f p fs)) (row_flags f p fs) (set_flags (f + length p) ps fs) (flag_set f g p h l e))
      (λ e.
      keep_some (any_set (row_flags f p fs)) (row_flags f p fs) (set_flags (f + length p) ps fs)
      (rows_some (f + length p) g ps h e (omega (arith, length-append p (flatten ps)))))
      (below_or g (f + length p))

  -- ---- the octets

  set_row : (ps : List (List (Option Place))) → all_usable ps fs ≡ true → 0 < length fs → 0 < length (set_flags 1 ps fs)
  set_row ps u l = go fs refl
    where
      go : (gs : List ℕ) → fs ≡ gs → 0 < length (set_flags 1 ps fs)
      go [] e = absurd (omega (arith, ap length e))
      go (g ∷ gs) e =
          let h : has g fs ≡ true = ap (has g) e ∙ ap (λ t. t || has g gs) (eq-eqb g g refl) in
          let (a, b) = place_in ps g (has_usable ps fs g u h) in
          rows_some 1 g ps h a b

  row_length : (f : ℕ) (p : List (Option Place)) → length (row_flags f p fs) ≡ length p
  row_length f [] = refl
  row_length f (p ∷ ps) = ap suc (row_length (suc f) ps)

  rows_small : (f : ℕ) (ps : List (List (Option Place))) → sevens ps ≡ true → Small (map number (set_flags f ps fs))
  unfolding set_flags
  rows_small f [] s = tt
  rows_small f (p ∷ ps) s =
      let l : length p ≤ 7 = leb-true (length p) 7 (both_left (leb (length p) 7) (sevens ps) s) in
      let n : number (row_flags f p fs) < 128 =
      lt_of_lt_of_le (number_lt (row_flags f p fs)) (subst (λ k. 2 ^ k ≤ 128) (sym (row_length f p)) (pow_mono l)) in
      ⊎_elim
      (λ e. subst (λ z. Small (map number z)) (sym e) tt)
      (λ e. subst (λ z. Small (map number z)) (sym e) (n, rows_small (f + length p) ps (both_right (leb (length p) 7) (sevens ps) s)))
      (keep_cases (any_set (row_flags f p fs)) (row_flags f p fs) (set_flags (f + length p) ps fs))

  -- a set that the profile has is written
  pub presence_writes : (ps : List (List (Option Place))) → sevens ps ≡ true → all_usable ps fs ≡ true → 0 < length fs → (a : List ℕ) × (write_presence ps (set_flags 1 ps fs) ≡ ok a)
  unfolding write_presence
  presence_writes ps seven u l =
      let served : Served 1 (flatten ps) = λ j m h. served_at ps fs u j h in
      let some-row : 0 < length (set_flags 1 ps fs) = set_row ps u l in
      let count : length (map number (set_flags 1 ps fs)) ≡ length (set_flags 1 ps fs) = length-map (set_flags 1 ps fs) number in
      let (a, e) = chain_writes ps (map number (set_flags 1 ps fs)) (omega arith) (omega (arith, rows_few 1 ps)) (rows_small 1 ps seven) in
      ⊎_elim
      (λ z. absurd (omega (arith, ap length z)))
      (λ z. (a, bind_in _ (rows_numbers 1 ps served) (need_in _ 7 (T_true z) e)))
      (rows_house 1 ps)
