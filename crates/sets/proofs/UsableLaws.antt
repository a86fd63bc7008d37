-- An FSPEC as rows of flags, each set flag at a place that the profile has an item for; and what reading an FSPEC leaves.
--
-- In order: rows of flags; what an FSPEC leaves. Assumes nothing.
use Prim.Native.Nat.{ℕ, ◌+◌, ◌-◌, ◌^◌, ◌≤◌, ◌<◌}
use mathlib.Core.Path.{◌≡◌, refl, sym, ap, ap₂, ◌∙◌, subst}
use mathlib.Core.Bool.{Bool, true, false, ◌&&◌}
use mathlib.Core.Option.{Option}
use mathlib.Core.List.{List, [], ◌∷◌, ◌++◌, map}
use native.Mathlib.Omega.{arith}
use lib.Dec.{T}
use lib.ListN.{length, drop, length-append, length-map}
use lib.Seq.{drop_at}
use Rattle.rules.specs.Answer.{ok}
use Rattle.rules.specs.Chain.{flatten}
use Rattle.rules.specs.Presence.{present, usable, numbers, write_presence, read_presence}
use Rattle.rules.specs.Record.{Place}
use Rattle.rules.proofs.AnswerLaws.{refused_ok, ok_inj, bind_elim, need_elim, Octets, Split, after}
use Rattle.rules.proofs.PresenceLaws.{usable_length, presence_laws}
use Rattle.rules.proofs.EntryLaws.{presence_count}
use Rattle.tables.proofs.TableLaws.{usable_within}
use Rattle.sets.specs.Sets.{category_at, bits_of, within, set_at}
use Rattle.sets.proofs.FlagLaws.{bits_lt, within_append}
use Rattle.sets.proofs.SetLaws.{map_append}

-- ---- rows of flags

-- every flag that is set in a row has a usable place, and rows are as long as the profile's
abbrev pub RowsUsable : List (List (Option Place)) → List (List Bool) → Type 0
RowsUsable ps [] = Unit {0}
RowsUsable [] (t ∷ ts) = ⊥
RowsUsable (p ∷ ps) (t ∷ ts) = T (usable p t) × RowsUsable ps ts

T-is : (t : Bool) → T t → t ≡ true
T-is true h = refl
T-is false h = absurd h

pub rows_within : (ps : List (List (Option Place))) (ts : List (List Bool)) → RowsUsable ps ts → within (flatten ts) (map present (flatten ps)) ≡ true
rows_within ps [] u = refl
rows_within [] (t ∷ ts) u = absurd u
rows_within (p ∷ ps) (t ∷ ts) u =
    ap (within (t ++ flatten ts)) (map_append present p (flatten ps))
    ∙ within_append t (map present p) (flatten ts) (map present (flatten ps)) (usable_length p t u.0 ∙ sym (length-map p present))
    ∙ ap₂ ◌&&◌ (sym (usable_within p t (usable_length p t u.0)) ∙ T-is (usable p t) u.0) (rows_within ps ts u.1)

pub rows_few : (ps : List (List (Option Place))) (ts : List (List Bool)) → RowsUsable ps ts → length (flatten ts) ≤ length (flatten ps)
rows_few ps [] u = omega arith
rows_few [] (t ∷ ts) u = absurd u
rows_few (p ∷ ps) (t ∷ ts) u =
    let a : length (t ++ flatten ts) ≡ length t + length (flatten ts) = length-append t (flatten ts) in
    let b : length (p ++ flatten ps) ≡ length p + length (flatten ps) = length-append p (flatten ps) in
    omega (arith, usable_length p t u.0, rows_few ps ts u.1)

-- ---- what an FSPEC leaves

usable_rows : (ps : List (List (Option Place))) (ts : List (List Bool)) (ns : List ℕ) → numbers ps ts ≡ ok ns → RowsUsable ps ts
unfolding numbers
usable_rows ps [] ns h = tt
usable_rows [] (t ∷ ts) ns h = refused_ok h
usable_rows (p ∷ ps) (t ∷ ts) ns h =
    need_elim _ _ _ h λ u h₁.
    bind_elim _ _ h₁ λ ms q h₂.
    (u, usable_rows ps ts ms q)

pub record Fspec (i : ℕ) (bs : List ℕ) (ts : List (List Bool)) (rest : List ℕ) : Type 0 where
  pub took : length bs - length rest ≡ length ts
  pub long : length bs ≡ length ts + length rest
  pub left : drop (length bs - length rest) bs ≡ rest
  pub rows : RowsUsable (category_at i).profile ts
  pub clean : Octets rest

pub fspec_read : (i : ℕ) (bs : List ℕ) (ts : List (List Bool)) (rest : List ℕ) → Octets bs → read_presence 5 (category_at i).profile bs ≡ ok (ts, rest) → Fspec i bs ts rest
unfolding write_presence
fspec_read i bs ts rest o h =
    let s : Split (write_presence (category_at i).profile) ts bs rest = (presence_laws 5 (category_at i).profile).forth ts bs rest o h in
    let n : length s.out ≡ length ts = presence_count (category_at i).profile ts s.out s.writes in
    let a : length bs ≡ length s.out + length rest = ap length s.joins ∙ length-append s.out rest in
    let m : length s.out ≡ length bs - length rest = omega arith in
    bind_elim _ _ s.writes λ ns q _.
    record {
      took = omega arith;
      long = omega arith;
      left = ap (drop (length bs - length rest)) s.joins ∙ drop_at s.out rest (length bs - length rest) m;
      rows = usable_rows (category_at i).profile ts ns q;
      clean = after s o;
    }

pub set_bounds : (i : ℕ) (bs : List ℕ) (bits used : ℕ) → set_at i bs ≡ ok (bits, used) → (bits < 2 ^ 63) × (used ≤ length bs)
unfolding set_at
set_bounds i bs bits used h =
    bind_elim _ _ h λ x p h₁.
    let e : ◌≡◌ {A = ℕ × ℕ} (bits_of (flatten x.0), length bs - length x.1) (bits, used) = ok_inj h₁ in
    let u : length bs - length x.1 ≡ used = ap (λ z. z.1) e in
    (subst (λ n. n < 2 ^ 63) (ap (λ z. z.0) e) (bits_lt (flatten x.0)), omega arith)
