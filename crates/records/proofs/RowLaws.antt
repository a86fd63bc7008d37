-- Walking over flags is reading the rules' rows.
--
-- In order: places counted on; one row; rows end to end; the items of a set. Assumes nothing.
use Prim.Native.Nat.{ℕ, zero, suc, ◌+◌, ◌-◌, ◌≤◌}
use mathlib.Core.Path.{◌≡◌, refl, sym, ap, ap₂, ◌∙◌}
use mathlib.Core.Bool.{Bool, true, false}
use mathlib.Core.Option.{Option, none, some}
use mathlib.Core.List.{List, [], ◌∷◌, ◌++◌, append_assoc}
use native.Mathlib.Omega.{arith}
use native.Mathlib.Nat.{add-zero, add_assoc}
use native.Mathlib.Numerals.{add-one}
use lib.Dec.{T}
use lib.ListN.{length, take, drop, get_or, replicate, length-append}
use lib.Seq.{take_at, drop_at, drop-drop, get_or-drop}
use Rattle.rules.specs.Answer.{Answer, ok, refused, ◌>>=◌, later, octets_of}
use Rattle.rules.specs.Chain.{flatten}
use Rattle.rules.specs.Layout.{Values}
use Rattle.rules.specs.Presence.{flags, usable, read_row, read_rows}
use Rattle.rules.specs.Record.{Place, Record, places, read_place, write_place}
use Rattle.rules.specs.Catalogue.{categories}
use Rattle.rules.specs.Entry.{profile_at}
use Rattle.rules.proofs.AnswerLaws.{bind_in, bind_out, bind_cong, later_in, later_out, expect_in, octets_of-ok, Octets, Split, after}
use Rattle.rules.proofs.PresenceLaws.{usable_length, row_forth}
use Rattle.rules.proofs.RecordLaws.{place_laws}
use Rattle.rules.proofs.EntryLaws.{RowWritten, row_written}
use Rattle.items.specs.Answers.{size_of, check_at}
use Rattle.sets.specs.Sets.{category_at, bits_of}
use Rattle.sets.proofs.FlagLaws.{over_pad, bits_flags_tail}
use Rattle.sets.proofs.ProfileLaws.{profile_at_lem, places_few}
use Rattle.sets.proofs.UsableLaws.{RowsUsable, rows_few}
use Rattle.records.specs.Walk.{Came, passed, walk, start_at}
use Rattle.records.proofs.CameLaws.{comes, comes_none, comes_append, comes_here}

-- ---- places counted on

pub later_later : {A : Type 0} (j k : ℕ) (m : Answer A) → later j (later k m) ≡ later (j + k) m
unfolding later
later_later j k (ok a) = refl
later_later j k (refused n p) = ap (refused n) (sym (add_assoc j k p))

pub later_map : {A B C : Type 0} (k : ℕ) (m : Answer A) (f : A → B) (g : B → Answer C) → (later k (m >>= (λ a. ok (f a))) >>= g) ≡ (later k m >>= (λ a. g (f a)))
unfolding later ◌>>=◌
later_map k (ok a) f g = refl
later_map k (refused n p) f g = refl

-- ---- one row

next : {A : Type 0} (l : List A) (g : ℕ) (x : A) (xs : List A) → drop g l ≡ x ∷ xs → drop (suc g) l ≡ xs
next l g x xs e = ap (λ n. drop n l) (sym (add-one g)) ∙ sym (drop-drop 1 g l) ∙ ap (drop 1) e

first : {A : Type 0} (l : List A) (g : ℕ) (x : A) (xs : List A) (d : A) → drop g l ≡ x ∷ xs → get_or l g d ≡ x
first l g x xs d e = ap (λ n. get_or l n d) (sym (add-zero g)) ∙ sym (get_or-drop g l 0 d) ∙ ap (λ l. get_or l 0 d) e

past : {A : Type 0} (l : List A) (g : ℕ) (xs ys : List A) → drop g l ≡ xs ++ ys → drop (g + length xs) l ≡ ys
past l g xs ys e = sym (drop-drop (length xs) g l) ∙ ap (drop (length xs)) e ∙ drop_at xs ys (length xs) refl

module _ (i : ℕ) where
  -- from a row on
  abbrev onward : ℕ → List (Option Place) → List Bool → Came → List (Option Values) × List ℕ → Answer Came
  onward g ps us w x = walk i us (suc g + length ps) x.1 (comes i (suc g) ps x.0 w)

  absent_step : (g n : ℕ) (us : List Bool) (rest : List ℕ) (w : Came) → walk i us (suc (suc g) + n) rest w ≡ walk i us (suc g + suc n) rest w
  absent_step g n us rest w = let e : suc (suc g) + n ≡ suc g + suc n = omega arith in ap (λ f. walk i us f rest w) e

  -- an item that is there
  module _ (g : ℕ) (p : Place) (ps qs : List (Option Place)) (ts us : List Bool) (bs : List ℕ) (w : Came)
      (e : drop g (flatten (profile_at categories i)) ≡ some p ∷ (ps ++ qs)) (o : Octets bs)
      (ih : (rest : List ℕ) (v : Came) → Octets rest → walk i (ts ++ us) (suc (suc g)) rest v ≡ (later v.here (read_row read_place ps ts rest) >>= onward (suc g) ps us v)) where
    size : check_at i (suc g) bs ≡ size_of p.layout bs
    unfolding check_at
    size = bind_in (λ q. size_of q.layout bs) (expect_in 21 (first (flatten (profile_at categories i)) g (some p) (ps ++ qs) none e)) refl

    item_step : (x : Answer (Values × List ℕ)) → read_place p bs ≡ x
        → walk i (true ∷ (ts ++ us)) (suc g) bs w ≡ (later w.here (read_row read_place (some p ∷ ps) (true ∷ ts) bs) >>= onward g (some p ∷ ps) us w)
    unfolding walk read_row read_place size_of
    item_step (refused n q) h =
        bind_out _ (later_out w.here (size ∙ bind_out _ h)) ∙ sym (bind_out _ (later_out w.here (bind_out _ h)))
    item_step (ok (v, rest)) h =
        let s : Split (write_place p) v bs rest = (place_laws p).forth v bs rest o h in
        let n : ℕ = length bs - length rest in
        let out : List ℕ = octets_of (write_place p v) in
        let is : out ≡ s.out = octets_of-ok s.writes in
        let m : length s.out ≡ n = (let a : length bs ≡ length s.out + length rest = ap length s.joins ∙ length-append s.out rest in omega arith) in
        let dr : drop n bs ≡ rest = ap (drop n) s.joins ∙ drop_at s.out rest n m in
        let tk : take n bs ≡ out = ap (take n) s.joins ∙ take_at s.out rest n m ∙ sym is in
        let lo : n ≡ length out = sym (ap length is ∙ m) in
        let w₁ : Came = passed i (suc g) (length out) out w in
        bind_in _ (later_in w.here (size ∙ bind_in _ h refl)) refl
        ∙ ap₂ (λ f l. walk i (ts ++ us) f l (passed i (suc g) n (take n bs) w)) (add-one (suc g)) dr
        ∙ ap₂ (λ k l. walk i (ts ++ us) (suc (suc g)) rest (passed i (suc g) k l w)) lo tk
        ∙ ih rest w₁ (after s o)
        ∙ bind_cong _ _ _ (λ y. absent_step g (length ps) us y.1 (comes i (suc (suc g)) ps y.0 w₁))
        ∙ ap (λ k. later (w.here + k) (read_row read_place ps ts rest) >>= (λ y. onward g (some p ∷ ps) us w (some v ∷ y.0, y.1))) (sym lo)
        ∙ ap (λ z. z >>= (λ y. onward g (some p ∷ ps) us w (some v ∷ y.0, y.1))) (sym (later_later w.here n (read_row read_place ps ts rest)))
        ∙ sym (later_map w.here (later n (read_row read_place ps ts rest)) _ (onward g (some p ∷ ps) us w))
        ∙ ap (λ z. later w.here z >>= onward g (some p ∷ ps) us w) (sym (bind_in _ h refl))

  walk_row : (g : ℕ) (ps qs : List (Option Place)) (ts us : List Bool) (bs : List ℕ) (w : Came) → drop g (flatten (profile_at categories i)) ≡ ps ++ qs → T (usable ps ts) → Octets bs
      → walk i (ts ++ us) (suc g) bs w ≡ (later w.here (read_row read_place ps ts bs) >>= onward g ps us w)
  unfolding walk read_row usable
  walk_row g [] qs [] us bs w e u o = ap (λ f. walk i us f bs w) (sym (add-zero (suc g))) ∙ sym (bind_in (onward g [] us w) (later_in w.here refl) refl)
  walk_row g [] qs (t ∷ ts) us bs w e u o = absurd u
  walk_row g (p ∷ ps) qs [] us bs w e u o = absurd u
  walk_row g (none ∷ ps) qs (false ∷ ts) us bs w e u o =
      ap (λ f. walk i (ts ++ us) f bs w) (add-one (suc g))
      ∙ walk_row (suc g) ps qs ts us bs w (next _ g none (ps ++ qs) e) u o
      ∙ bind_cong _ _ _ (λ y. absent_step g (length ps) us y.1 (comes i (suc (suc g)) ps y.0 w))
      ∙ sym (later_map w.here (read_row read_place ps ts bs) _ (onward g (none ∷ ps) us w))
  walk_row g (some p ∷ ps) qs (false ∷ ts) us bs w e u o =
      ap (λ f. walk i (ts ++ us) f bs w) (add-one (suc g))
      ∙ walk_row (suc g) ps qs ts us bs w (next _ g (some p) (ps ++ qs) e) u o
      ∙ bind_cong _ _ _ (λ y. absent_step g (length ps) us y.1 (comes i (suc (suc g)) ps y.0 w))
      ∙ sym (later_map w.here (read_row read_place ps ts bs) _ (onward g (some p ∷ ps) us w))
  walk_row g (none ∷ ps) qs (true ∷ ts) us bs w e u o = absurd u
  walk_row g (some p ∷ ps) qs (true ∷ ts) us bs w e u o =
      item_step g p ps qs ts us bs w e o (λ rest v r. walk_row (suc g) ps qs ts us rest v (next _ g (some p) (ps ++ qs) e) u r) (read_place p bs) refl

  -- ---- rows end to end

  abbrev rows_on : ℕ → List (List (Option Place)) → List (List Bool) → List Bool → Came → Record × List ℕ → Answer Came
  rows_on g ps ts us w x = walk i us (suc g + length (flatten ts)) x.1 (comes i (suc g) (flatten ps) (flatten x.0) w)

  -- a row, then those after it
  module _ (g : ℕ) (p : List (Option Place)) (ps : List (List (Option Place))) (t : List Bool) (ts : List (List Bool)) (us : List Bool) (bs : List ℕ) (w : Came)
      (u : T (usable p t)) (o : Octets bs)
      (ih : (rest : List ℕ) (v : Came) → Octets rest
      → walk i (flatten ts ++ us) (suc (g + length p)) rest v ≡ (later v.here (read_rows read_place ps ts rest) >>= rows_on (g + length p) ps ts us v)) where
    row_step : (x : Answer (List (Option Values) × List ℕ)) → read_row read_place p t bs ≡ x
        → (later w.here x >>= onward g p (flatten ts ++ us) w) ≡ (later w.here (read_rows read_place (p ∷ ps) (t ∷ ts) bs) >>= rows_on g (p ∷ ps) (t ∷ ts) us w)
    unfolding read_rows
    row_step (refused n q) h = bind_out _ (later_out w.here refl) ∙ sym (bind_out _ (later_out w.here (bind_out _ h)))
    row_step (ok (vs, rest)) h =
        let (s, f) = row_forth place_laws p t vs bs rest o h in
        let k : RowWritten p vs s.out = row_written p vs s.out s.writes in
        let n : ℕ = length bs - length rest in
        let w₁ : Came = comes i (suc g) p vs w in
        let a : length bs ≡ length s.out + length rest = ap length s.joins ∙ length-append s.out rest in
        let b : w₁.here ≡ w.here + n = comes_here i (suc g) p vs w ∙ ap (λ l. w.here + length l) k.octets ∙ (let c : w.here + length s.out ≡ w.here + n = omega arith in c) in
        let pl : suc g + length p ≡ suc (g + length p) = omega arith in
        let tl : length t ≡ length p = usable_length p t u in
        let ll : length (t ++ flatten ts) ≡ length t + length (flatten ts) = length-append t (flatten ts) in
        let fl : suc (g + length p) + length (flatten ts) ≡ suc g + length (t ++ flatten ts) = omega arith in
        bind_in _ (later_in w.here refl) refl
        ∙ ap (λ f. walk i (flatten ts ++ us) f rest w₁) pl
        ∙ ih rest w₁ (after s o)
        ∙ bind_cong _ _ _ (λ y.
        ap₂ (λ f v. walk i us f y.1 v) fl (ap (λ m. comes i m (flatten ps) (flatten y.0) w₁) (sym pl) ∙ sym (comes_append i (suc g) p (flatten ps) vs (flatten y.0) w k.count)))
        ∙ ap (λ m. later m (read_rows read_place ps ts rest) >>= (λ y. rows_on g (p ∷ ps) (t ∷ ts) us w (vs ∷ y.0, y.1))) b
        ∙ ap (λ z. z >>= (λ y. rows_on g (p ∷ ps) (t ∷ ts) us w (vs ∷ y.0, y.1))) (sym (later_later w.here n (read_rows read_place ps ts rest)))
        ∙ sym (later_map w.here (later n (read_rows read_place ps ts rest)) _ (rows_on g (p ∷ ps) (t ∷ ts) us w))
        ∙ ap (λ z. later w.here z >>= rows_on g (p ∷ ps) (t ∷ ts) us w) (sym (bind_in _ h refl))

  walk_rows : (g : ℕ) (ps : List (List (Option Place))) (ts : List (List Bool)) (us : List Bool) (bs : List ℕ) (w : Came)
      → drop g (flatten (profile_at categories i)) ≡ flatten ps → RowsUsable ps ts → Octets bs
      → walk i (flatten ts ++ us) (suc g) bs w ≡ (later w.here (read_rows read_place ps ts bs) >>= rows_on g ps ts us w)
  unfolding read_rows
  walk_rows g ps [] us bs w e u o =
      ap₂ (λ f v. walk i us f bs v) (sym (add-zero (suc g))) (sym (comes_none i (suc g) (flatten ps) w)) ∙ sym (bind_in (rows_on g ps [] us w) (later_in w.here refl) refl)
  walk_rows g [] (t ∷ ts) us bs w e u o = absurd u
  walk_rows g (p ∷ ps) (t ∷ ts) us bs w e u o =
      ap (λ l. walk i l (suc g) bs w) (append_assoc t (flatten ts) us)
      ∙ walk_row g p (flatten ps) t (flatten ts ++ us) bs w e u.0 o
      ∙ row_step g p ps t ts us bs w u.0 o
      (λ rest v r. walk_rows (g + length p) ps ts us rest v (past (flatten (profile_at categories i)) g p (flatten ps) e) u.1 r) (read_row read_place p t bs) refl

-- ---- the items of a set

walk_blank : (i m f : ℕ) (bs : List ℕ) (w : Came) → walk i (replicate m false) f bs w ≡ ok w
unfolding walk
walk_blank i zero f bs w = refl
walk_blank i (suc m) f bs w = walk_blank i m (f + 1) bs w

pub items_law : (i : ℕ) (ts : List (List Bool)) (bs : List ℕ) (k : ℕ) → RowsUsable (category_at i).profile ts → Octets bs
    → walk i (flags 63 (bits_of (flatten ts))) 1 bs (start_at k)
    ≡ (later k (read_rows read_place (category_at i).profile ts bs) >>= (λ x. ok (comes i 1 (places (category_at i)) (flatten x.0) (start_at k))))
items_law i ts bs k u o =
    let few : length (flatten ts) ≤ 63 = omega (arith, rows_few (category_at i).profile ts u, places_few i) in
    ap (λ l. walk i l 1 bs (start_at k)) (bits_flags_tail (flatten ts) ∙ over_pad (flatten ts) 63 false few)
    ∙ walk_rows i 0 (category_at i).profile ts (replicate (63 - length (flatten ts)) false) bs (start_at k) (ap flatten (sym (profile_at_lem i))) u o
    ∙ bind_cong _ _ _ (λ y. walk_blank i (63 - length (flatten ts)) _ y.1 (comes i 1 (places (category_at i)) (flatten y.0) (start_at k)))
