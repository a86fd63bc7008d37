-- What a walk comes to over the values of items: where it stands, how many items it passed, where each starts, the first octet of the message type
-- item. It is what the record map says.
--
-- In order: over places end to end; the place; the count; the starts; the message type. Assumes nothing.
use Prim.Native.Nat.{ℕ, zero, suc, ◌+◌, ◌-◌, ◌%◌, ◌≤◌, ◌<◌}
use mathlib.Core.Path.{◌≡◌, refl, sym, ap, ap₂, ◌∙◌}
use mathlib.Core.Bool.{true, false≢true}
use mathlib.Core.Option.{Option, none, some}
use mathlib.Core.List.{List, [], ◌∷◌, ◌++◌, map, append_assoc}
use native.Mathlib.Omega.{arith}
use native.Mathlib.Nat.{add-zero, mod-eq_of_lt}
use borrow.Author.Tests.{eq-eqb, ne_eqb}
use lib.ListN.{length, get_or, set, replicate, length-append}
use lib.Seq.{set_at}
use Rattle.rules.specs.Answer.{ok, octets_of}
use Rattle.rules.specs.Layout.{Values}
use Rattle.rules.specs.Presence.{present}
use Rattle.rules.specs.Record.{Place, type_of, write_place}
use Rattle.rules.specs.Entry.{over, laid, start_of, count_of}
use Rattle.rules.proofs.AnswerLaws.{if_true, if_false, none_some, some_inj, octets_of-ok}
use Rattle.rules.proofs.EntryLaws.{item_octets, Written}
use Rattle.sets.specs.Sets.{within}
use Rattle.sets.specs.Steps.{type_frn}
use Rattle.sets.proofs.SpelledLaws.{spelling, spelled_type}
use Rattle.records.specs.Walk.{Came, passed}

-- the values at places, the first of which has the FRN f
abbrev pub comes : ℕ → ℕ → List (Option Place) → List (Option Values) → Came → Came
comes i f [] vs w = w
comes i f (p ∷ ps) [] w = w
comes i f (p ∷ ps) (none ∷ vs) w = comes i (suc f) ps vs w
comes i f (none ∷ ps) (some v ∷ vs) w = comes i (suc f) ps vs w
comes i f (some p ∷ ps) (some v ∷ vs) w = comes i (suc f) ps vs (passed i f (length (octets_of (write_place p v))) (octets_of (write_place p v)) w)

-- ---- over places end to end

pub comes_none : (i f : ℕ) (ps : List (Option Place)) (w : Came) → comes i f ps [] w ≡ w
comes_none i f [] w = refl
comes_none i f (p ∷ ps) w = refl

pub comes_append : (i f : ℕ) (ps qs : List (Option Place)) (vs ws : List (Option Values)) (w : Came) → length vs ≡ length ps
    → comes i f (ps ++ qs) (vs ++ ws) w ≡ comes i (f + length ps) qs ws (comes i f ps vs w)
comes_append i f [] qs [] ws w h = ap (λ k. comes i k qs ws w) (sym (add-zero f))
comes_append i f [] qs (v ∷ vs) ws w h = absurd (omega arith)
comes_append i f (p ∷ ps) qs [] ws w h = absurd (omega arith)
comes_append i f (none ∷ ps) qs (none ∷ vs) ws w h =
    comes_append i (suc f) ps qs vs ws w (omega arith) ∙ (let e : suc f + length ps ≡ f + suc (length ps) = omega arith in ap (λ k. comes i k qs ws (comes i (suc f) ps vs w)) e)
comes_append i f (none ∷ ps) qs (some v ∷ vs) ws w h =
    comes_append i (suc f) ps qs vs ws w (omega arith) ∙ (let e : suc f + length ps ≡ f + suc (length ps) = omega arith in ap (λ k. comes i k qs ws (comes i (suc f) ps vs w)) e)
comes_append i f (some p ∷ ps) qs (none ∷ vs) ws w h =
    comes_append i (suc f) ps qs vs ws w (omega arith) ∙ (let e : suc f + length ps ≡ f + suc (length ps) = omega arith in ap (λ k. comes i k qs ws (comes i (suc f) ps vs w)) e)
comes_append i f (some p ∷ ps) qs (some v ∷ vs) ws w h =
    comes_append i (suc f) ps qs vs ws (passed i f (length (octets_of (write_place p v))) (octets_of (write_place p v)) w) (omega arith)
    ∙ (let e : suc f + length ps ≡ f + suc (length ps) = omega arith in
    ap (λ k. comes i k qs ws (comes i (suc f) ps vs (passed i f (length (octets_of (write_place p v))) (octets_of (write_place p v)) w))) e)

-- ---- the place

pub comes_here : (i f : ℕ) (ps : List (Option Place)) (vs : List (Option Values)) (w : Came) → (comes i f ps vs w).here ≡ w.here + length (item_octets ps vs)
comes_here i f [] vs w = sym (add-zero w.here)
comes_here i f (p ∷ ps) [] w = sym (add-zero w.here)
comes_here i f (none ∷ ps) (none ∷ vs) w = comes_here i (suc f) ps vs w
comes_here i f (none ∷ ps) (some v ∷ vs) w = comes_here i (suc f) ps vs w
comes_here i f (some p ∷ ps) (none ∷ vs) w = comes_here i (suc f) ps vs w
comes_here i f (some p ∷ ps) (some v ∷ vs) w =
    comes_here i (suc f) ps vs (passed i f (length (octets_of (write_place p v))) (octets_of (write_place p v)) w)
    ∙ (let e : length (octets_of (write_place p v) ++ item_octets ps vs) ≡ length (octets_of (write_place p v)) + length (item_octets ps vs) = length-append (octets_of (write_place p v)) (item_octets ps vs) in omega arith)

-- ---- the count

pub comes_count : (i f : ℕ) (ps : List (Option Place)) (vs : List (Option Values)) (w : Came) → within (map present vs) (map present ps) ≡ true
    → (comes i f ps vs w).count ≡ w.count + count_of vs
comes_count i f [] [] w h = sym (add-zero w.count)
comes_count i f [] (none ∷ vs) w h = comes_count i f [] vs w h
comes_count i f [] (some v ∷ vs) w h = absurd (false≢true h)
comes_count i f (p ∷ ps) [] w h = sym (add-zero w.count)
comes_count i f (none ∷ ps) (none ∷ vs) w h = comes_count i (suc f) ps vs w h
comes_count i f (some p ∷ ps) (none ∷ vs) w h = comes_count i (suc f) ps vs w h
comes_count i f (none ∷ ps) (some v ∷ vs) w h = absurd (false≢true h)
comes_count i f (some p ∷ ps) (some v ∷ vs) w h =
    comes_count i (suc f) ps vs (passed i f (length (octets_of (write_place p v))) (octets_of (write_place p v)) w) h ∙ omega arith

-- ---- the starts: those of the places passed, and zeros for those to come

snoc : {A : Type 0} (xs : List A) (a : A) (ys : List A) → (xs ++ (a ∷ [])) ++ ys ≡ xs ++ (a ∷ ys)
snoc xs a ys = append_assoc xs (a ∷ []) ys

snoc_length : {A : Type 0} (xs : List A) (a : A) (n : ℕ) → length xs ≡ n → length (xs ++ (a ∷ [])) ≡ suc n
snoc_length xs a n h = let e : length (xs ++ (a ∷ [])) ≡ length xs + 1 = length-append xs (a ∷ []) in omega arith

pub comes_starts : (i f : ℕ) (ps : List (Option Place)) (vs : List (Option Values)) (w : Came) (xs : List ℕ) (j : ℕ) → w.starts ≡ xs ++ replicate j 0
    → length xs ≡ f → length ps ≤ j → w.here + length (item_octets ps vs) < 65_536
    → (comes i (suc f) ps vs w).starts ≡ xs ++ over (map start_of (laid w.here ps vs)) (replicate j 0)
comes_starts i f [] vs w xs j e l h b = e
comes_starts i f (p ∷ ps) [] w xs j e l h b = e
comes_starts i f (p ∷ ps) (v ∷ vs) w xs zero e l h b = absurd (omega arith)
comes_starts i f (none ∷ ps) (none ∷ vs) w xs (suc j) e l h b =
    comes_starts i (suc f) ps vs w (xs ++ (0 ∷ [])) j (e ∙ sym (snoc xs 0 (replicate j 0))) (snoc_length xs 0 f l) (omega arith) b
    ∙ snoc xs 0 (over (map start_of (laid w.here ps vs)) (replicate j 0))
comes_starts i f (none ∷ ps) (some v ∷ vs) w xs (suc j) e l h b =
    comes_starts i (suc f) ps vs w (xs ++ (0 ∷ [])) j (e ∙ sym (snoc xs 0 (replicate j 0))) (snoc_length xs 0 f l) (omega arith) b
    ∙ snoc xs 0 (over (map start_of (laid w.here ps vs)) (replicate j 0))
comes_starts i f (some p ∷ ps) (none ∷ vs) w xs (suc j) e l h b =
    comes_starts i (suc f) ps vs w (xs ++ (0 ∷ [])) j (e ∙ sym (snoc xs 0 (replicate j 0))) (snoc_length xs 0 f l) (omega arith) b
    ∙ snoc xs 0 (over (map start_of (laid w.here ps vs)) (replicate j 0))
comes_starts i f (some p ∷ ps) (some v ∷ vs) w xs (suc j) e l h b =
    let o : List ℕ = octets_of (write_place p v) in
    let a : length (o ++ item_octets ps vs) ≡ length o + length (item_octets ps vs) = length-append o (item_octets ps vs) in
    let z : suc f - 1 ≡ f = omega arith in
    let m : w.here % 65_536 ≡ w.here = mod-eq_of_lt (omega arith) in
    comes_starts i (suc f) ps vs (passed i (suc f) (length o) o w) (xs ++ (w.here ∷ [])) j
    (ap₂ (λ k x. set w.starts k x) z m ∙ ap (λ s. set s f w.here) e ∙ set_at xs 0 (replicate j 0) w.here f l ∙ sym (snoc xs w.here (replicate j 0)))
    (snoc_length xs w.here f l) (omega arith) (omega arith)
    ∙ snoc xs w.here (over (map start_of (laid (w.here + length o) ps vs)) (replicate j 0))

-- ---- the message type

kind_past : (i f : ℕ) (ps : List (Option Place)) (vs : List (Option Values)) (w : Came) → type_frn i < f → (comes i f ps vs w).kind ≡ w.kind
kind_past i f [] vs w h = refl
kind_past i f (p ∷ ps) [] w h = refl
kind_past i f (none ∷ ps) (none ∷ vs) w h = kind_past i (suc f) ps vs w (omega arith)
kind_past i f (none ∷ ps) (some v ∷ vs) w h = kind_past i (suc f) ps vs w (omega arith)
kind_past i f (some p ∷ ps) (none ∷ vs) w h = kind_past i (suc f) ps vs w (omega arith)
kind_past i f (some p ∷ ps) (some v ∷ vs) w h =
    kind_past i (suc f) ps vs (passed i f (length (octets_of (write_place p v))) (octets_of (write_place p v)) w) (omega arith)
    ∙ if_false (get_or (octets_of (write_place p v)) 0 0) (ne_eqb f (type_frn i) (λ (e : f ≡ type_frn i). absurd (omega arith))) refl

-- of the item at the index j from here
kind_at : (i f j : ℕ) (ps : List (Option Place)) (vs : List (Option Values)) (w : Came) (p : Place) (v : Values) → type_frn i ≡ f + j
    → get_or ps j none ≡ some p → get_or vs j none ≡ some v → (comes i f ps vs w).kind ≡ get_or (octets_of (write_place p v)) 0 0
kind_at i f j [] vs w p v t h k = none_some h
kind_at i f j (q ∷ ps) [] w p v t h k = none_some k
kind_at i f zero (none ∷ ps) (u ∷ vs) w p v t h k = none_some h
kind_at i f zero (some q ∷ ps) (none ∷ vs) w p v t h k = none_some k
kind_at i f zero (some q ∷ ps) (some u ∷ vs) w p v t h k =
    kind_past i (suc f) ps vs (passed i f (length (octets_of (write_place q u))) (octets_of (write_place q u)) w) (omega arith)
    ∙ if_true w.kind (eq-eqb f (type_frn i) (omega arith)) (ap₂ (λ x y. get_or (octets_of (write_place x y)) 0 0) (some_inj h) (some_inj k))
kind_at i f (suc j) (none ∷ ps) (none ∷ vs) w p v t h k = kind_at i (suc f) j ps vs w p v (omega arith) h k
kind_at i f (suc j) (none ∷ ps) (some u ∷ vs) w p v t h k = kind_at i (suc f) j ps vs w p v (omega arith) h k
kind_at i f (suc j) (some q ∷ ps) (none ∷ vs) w p v t h k = kind_at i (suc f) j ps vs w p v (omega arith) h k
kind_at i f (suc j) (some q ∷ ps) (some u ∷ vs) w p v t h k =
    kind_at i (suc f) j ps vs (passed i f (length (octets_of (write_place q u))) (octets_of (write_place q u)) w) p v (omega arith) h k

written_at : (ps : List (Option Place)) (vs : List (Option Values)) (j : ℕ) (p : Place) (v : Values) → Written ps vs → get_or ps j none ≡ some p → get_or vs j none ≡ some v
    → (u : List ℕ) × (write_place p v ≡ ok u)
written_at [] vs j p v w h k = none_some h
written_at (q ∷ ps) [] j p v w h k = none_some k
written_at (none ∷ ps) (u ∷ vs) zero p v w h k = none_some h
written_at (some q ∷ ps) (none ∷ vs) zero p v w h k = none_some k
written_at (some q ∷ ps) (some u ∷ vs) zero p v w h k = (w.0.0, ap₂ write_place (sym (some_inj h)) (sym (some_inj k)) ∙ w.0.1)
written_at (none ∷ ps) (none ∷ vs) (suc j) p v w h k = written_at ps vs j p v w h k
written_at (none ∷ ps) (some u ∷ vs) (suc j) p v w h k = written_at ps vs j p v w h k
written_at (some q ∷ ps) (none ∷ vs) (suc j) p v w h k = written_at ps vs j p v w h k
written_at (some q ∷ ps) (some u ∷ vs) (suc j) p v w h k = written_at ps vs j p v w.1 h k

-- the first octet of the message type item is the type
pub kind_law : (i j : ℕ) (ps : List (Option Place)) (vs : List (Option Values)) (w : Came) (p : Place) (v : Values) → type_frn i ≡ suc j → Written ps vs → spelling p.layout ≡ true
    → get_or ps j none ≡ some p → get_or vs j none ≡ some v → type_of (some v) ≡ ok (comes i 1 ps vs w).kind
unfolding write_place
kind_law i j ps vs w p v t a s h k =
    let (u, e) = written_at ps vs j p v a h k in
    (spelled_type p.layout v u s e).type_is ∙ ap ok (ap (λ l. get_or l 0 0) (sym (octets_of-ok e)) ∙ sym (kind_at i 1 j ps vs w p v (omega arith) h k))
