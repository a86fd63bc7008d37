-- A record read as the code reads it, its FSPEC, its items and its message type one after the other, is the rules' record, and its map is theirs.
--
-- In order: the law; where a record ends; the steps of checking a record. Assumes nothing.
use Prim.Native.Nat.{ℕ, ◌+◌, ◌-◌, ◌<◌}
use mathlib.Core.Path.{◌≡◌, refl, sym, ap, ap₂, ◌∙◌, subst}
use mathlib.Core.Logic.{⊎_elim}
use mathlib.Core.Bool.{Bool}
use mathlib.Core.List.{List, [], ◌∷◌, map}
use native.Mathlib.Omega.{arith}
use native.Mathlib.Nat.{add_assoc, add-zero, zero-add}
use lib.ListN.{length, take, drop, get_or, replicate, length-append}
use lib.Seq.{drop_at}
use mir.Syntax.{w8}
use mir.Val.{Fits}
use Rattle.std.specs.Prelude.{Result, Ok, Err, MatchResult, IsErrAnd}
use Rattle.rules.specs.Told.{number_of}
use Rattle.rules.specs.declared.faults.Fault.{Fault}
use Rattle.rules.specs.declared.faults.Refusal.{Refusal}
use Rattle.rules.specs.Answer.{Answer, ok, refused, octets_of}
use Rattle.rules.specs.Chain.{flatten, read_chain}
use Rattle.rules.specs.Presence.{flags, read_presence, read_rows, read_places}
use Rattle.rules.specs.Record.{Record, places, judge, read_place, write_record, read_record}
use Rattle.rules.specs.Entry.{map_places, RecordMap, map_of, over, laid, start_of, count_of}
use Rattle.rules.proofs.AnswerLaws.{refused_ok, ok_inj, bind_in, bind_out, bind_elim, later_in, later_out, later_inv, octets_of-ok, Octets, Split, after, to_end}
use Rattle.rules.proofs.RecordLaws.{record_laws, record_starts}
use Rattle.sets.specs.Sets.{category_at, bits_of, set_at}
use Rattle.sets.specs.Steps.{judge_set}
use Rattle.sets.specs.Answers.{set_of, judged_of}
use Rattle.sets.specs.declared.Fspec as fspec
use Rattle.sets.proofs.ProfileLaws.{places_few, TypePlace, type_place_lem}
use Rattle.sets.proofs.SetLaws.{octets_all}
use Rattle.sets.proofs.UsableLaws.{Fspec, fspec_read}
use Rattle.records.specs.Walk.{Came, walk, start_at, record_by}
use Rattle.records.specs.Answers.{came_of, Walked, record_at}
use Rattle.records.specs.declared.RecordMap as code
use Rattle.records.proofs.CameLaws.{comes_count, comes_starts}
use Rattle.records.proofs.ItemLaws.{came_to, octets_in, walk_refused, walk_came, rows_count, stands, items_long, items_end, judged}

-- ---- the law

module _ (i k : ℕ) (bs : List ℕ) (o : Octets bs) (b : k + length bs < 65_536) where
  -- the FSPEC was read, and the items
  module _ (ts : List (List Bool)) (bs₁ : List ℕ) (f : Fspec i bs ts bs₁) (h : read_presence 5 (category_at i).profile bs ≡ ok (ts, bs₁)) where
    set_ok : set_at i bs ≡ ok (bits_of (flatten ts), length bs - length bs₁)
    unfolding set_at
    set_ok = bind_in _ h refl

    from_items : (a : Answer Came) → walk i (flags 63 (bits_of (flatten ts))) 1 bs₁ (start_at (k + (length bs - length bs₁))) ≡ a
        → walk i (flags 63 (bits_of (flatten ts))) 1 (drop (length bs - length bs₁) bs) (start_at (k + (length bs - length bs₁))) ≡ a
    from_items a e = ap (λ l. walk i (flags 63 (bits_of (flatten ts))) 1 l (start_at (k + (length bs - length bs₁)))) f.left ∙ e

    module _ (r : Record) (rest : List ℕ) (g : read_rows read_place (category_at i).profile ts bs₁ ≡ ok (r, rest)) where
      -- where the items start, and what the walk over them comes to
      abbrev at : ℕ
      at = k + (length bs - length bs₁)

      places_read : read_places read_place 5 (category_at i).profile bs ≡ ok (r, rest)
      unfolding read_places
      places_read = bind_in _ h (later_in _ g)

      -- the map, where the message type is content
      module _ (j : judge (category_at i) r ≡ ok r) where
        read : read_record (category_at i) bs ≡ ok (r, rest)
        unfolding read_record
        read = bind_in _ places_read (bind_in _ j refl)

        size : length (octets_of (write_record (category_at i) r)) ≡ length bs - length rest
        size =
            let s : Split (write_record (category_at i)) r bs rest = (record_laws (category_at i)).forth r bs rest o read in
            let a : length bs ≡ length s.out + length rest = ap length s.joins ∙ length-append s.out rest in
            ap length (octets_of-ok s.writes) ∙ (let e : length s.out ≡ length bs - length rest = omega arith in e)

        fspec_count : length r ≡ length bs - length bs₁
        fspec_count = rows_count i at ts bs₁ f.rows f.clean r rest g ∙ sym f.took

        starts : (came_to i at r).starts ≡ over (map start_of (laid (k + length r) (places (category_at i)) (flatten r))) (replicate map_places 0)
        starts =
            comes_starts i 0 (places (category_at i)) (flatten r) (start_at at) [] map_places refl refl (places_few i)
            (let l : length bs ≡ length ts + length bs₁ = f.long in
            let t : length bs - length bs₁ ≡ length ts = f.took in
            omega (arith, items_long i at ts bs₁ f.rows f.clean r rest g, b))
            ∙ ap (λ n. over (map start_of (laid (k + n) (places (category_at i)) (flatten r))) (replicate map_places 0)) (sym fspec_count)

        ends : (came_to i at r).here ≡ k + length (octets_of (write_record (category_at i) r))
        ends =
            items_end i at ts bs₁ f.rows f.clean r rest g
            ∙ (let l : length bs ≡ length ts + length bs₁ = f.long in
            let t : length bs - length bs₁ ≡ length ts = f.took in
            let e : at + length (octets_in i r) ≡ k + (length bs - length rest) = omega (arith, items_long i at ts bs₁ f.rows f.clean r rest g) in e)
            ∙ ap (λ n. k + n) (sym size)

        map_is : map_of (category_at i) (record { start = k; value = r })
            ≡ record { start = k; starts = (came_to i at r).starts; end = (came_to i at r).here; count = (came_to i at r).count }
        unfolding map_of
        map_is =
            rw (starts, ends, comes_count i 1 (places (category_at i)) (flatten r) (start_at at) (stands i at ts bs₁ f.rows f.clean r rest g), zero-add (count_of (flatten r)))

      by_judge : (t : TypePlace i) (x : Answer (Unit {0})) → judge_set i (bits_of (flatten ts)) (came_to i at r).kind ≡ x → record_by i k bs ≡ record_at i k bs
      unfolding record_by record_at read_record
      by_judge t (refused n p) e =
          bind_in _ (later_in k set_ok) (bind_in _ (from_items _ (walk_came i at ts bs₁ f.rows f.clean r rest g)) (bind_out _ (later_out k e)))
          ∙ sym (later_out k (bind_out _ (bind_in _ places_read (bind_out _ (judged i at ts bs₁ f.rows f.clean r rest g t ∙ bind_out _ e)))))
      by_judge t (ok u) e =
          let j : judge (category_at i) r ≡ ok r = judged i at ts bs₁ f.rows f.clean r rest g t ∙ bind_in _ e refl in
          bind_in _ (later_in k set_ok) (bind_in _ (from_items _ (walk_came i at ts bs₁ f.rows f.clean r rest g)) (bind_in _ (later_in k e) refl))
          ∙ sym (later_in k (bind_in _ (bind_in _ places_read (bind_in _ j refl)) (ap ok (map_is j))))

  -- no FSPEC is read by no profile
  no_profile : {C : Type 0} {x : List (List Bool) × List ℕ} → (category_at i).profile ≡ [] → read_presence 5 (category_at i).profile bs ≡ ok x → C
  unfolding read_presence read_chain
  no_profile {C} {x} z h =
      bind_elim _ _ (subst (λ ps. read_presence 5 ps bs ≡ ok x) z h) λ y q _.
      refused_ok q

  by_rows : (ts : List (List Bool)) (bs₁ : List ℕ) (f : Fspec i bs ts bs₁) (h : read_presence 5 (category_at i).profile bs ≡ ok (ts, bs₁))
      → (x : Answer (Record × List ℕ)) → read_rows read_place (category_at i).profile ts bs₁ ≡ x → record_by i k bs ≡ record_at i k bs
  unfolding record_by record_at read_record read_places
  by_rows ts bs₁ f h (refused n p) g =
      bind_in _ (later_in k (set_ok ts bs₁ f h)) (bind_out _ (from_items ts bs₁ f h _ (walk_refused i (k + (length bs - length bs₁)) ts bs₁ f.rows f.clean n p g)))
      ∙ ap (refused n) (add_assoc k (length bs - length bs₁) p)
      ∙ sym (later_out k (bind_out _ (bind_out _ (bind_in _ h (later_out (length bs - length bs₁) g)))))
  by_rows ts bs₁ f h (ok (r, rest)) g =
      ⊎_elim
      (λ z. no_profile z h)
      (λ t. by_judge ts bs₁ f h r rest g t (judge_set i (bits_of (flatten ts)) (came_to i (k + (length bs - length bs₁)) r).kind) refl)
      (type_place_lem i)

  by_presence : (x : Answer (List (List Bool) × List ℕ)) → read_presence 5 (category_at i).profile bs ≡ x → record_by i k bs ≡ record_at i k bs
  unfolding record_by set_at record_at read_record read_places
  by_presence (refused n p) h =
      bind_out _ (later_out k (bind_out _ h)) ∙ sym (later_out k (bind_out _ (bind_out _ (bind_out _ h))))
  by_presence (ok (ts, bs₁)) h =
      by_rows ts bs₁ (fspec_read i bs ts bs₁ o h) h (read_rows read_place (category_at i).profile ts bs₁) refl

  pub record_law : record_by i k bs ≡ record_at i k bs
  record_law = by_presence (read_presence 5 (category_at i).profile bs) refl

-- ---- where a record ends

-- a record that is accepted: its value, what is left after it, and where it ends
pub record RecordRead (i k : ℕ) (bs : List ℕ) (m : RecordMap) : Type 0 where
  pub value : Record
  pub rest : List ℕ
  pub reads : read_record (category_at i) bs ≡ ok (value, rest)
  pub is : map_of (category_at i) (record { start = k; value = value }) ≡ m
  pub ends : m.end ≡ k + (length bs - length rest)
  pub less : length rest < length bs
  pub left : drop (m.end - k) bs ≡ rest
  pub clean : Octets rest

pub record_read : (i k : ℕ) (bs : List ℕ) (m : RecordMap) → Octets bs → record_at i k bs ≡ ok m → RecordRead i k bs m
unfolding record_at map_of
record_read i k bs m o h =
    bind_elim _ _ (later_inv k _ h) λ x p h₁.
    let s : Split (write_record (category_at i)) x.0 bs x.1 = (record_laws (category_at i)).forth x.0 bs x.1 o p in
    let a : length bs ≡ length s.out + length x.1 = ap length s.joins ∙ length-append s.out x.1 in
    let e : m.end ≡ k + length s.out = sym (ap (λ z. z.end) (ok_inj h₁)) ∙ ap (λ l. k + length l) (octets_of-ok s.writes) in
    let n : length s.out ≡ m.end - k = omega arith in
    record {
      value = x.0;
      rest = x.1;
      reads = p;
      is = ok_inj h₁;
      ends = omega arith;
      less = some_octet x.0 x.1 s.out s.writes a;
      left = ap (drop (m.end - k)) s.joins ∙ drop_at s.out x.1 (m.end - k) n;
      clean = after s o;
    }
  where
    some_octet : (r : Record) (rest out : List ℕ) → write_record (category_at i) r ≡ ok out → length bs ≡ length out + length rest → length rest < length bs
    some_octet r rest [] w a = absurd (record_starts (category_at i) r [] ((record_laws (category_at i)).back r [] [] w))
    some_octet r rest (x ∷ out) w a = omega arith

-- ---- the steps of checking a record: what each function answered, in the rules' terms

-- what an answer was whose fault alone was said anew
pub ok_of : {A E D : Type 0} (Q : E → D → Type 0) (x : Result A E) (y : Result A D) → MatchResult x (λ a. y ≡ Ok a) (λ e. IsErrAnd y (Q e)) → (a : A) → y ≡ Ok a → x ≡ Ok a
ok_of Q (Ok b) y h a e = cc
ok_of Q (Err d) (Ok b) h a e = absurd h
ok_of Q (Err d) (Err r) h a e = cc

pub err_of : {A E D : Type 0} (Q : E → D → Type 0) (x : Result A E) (y : Result A D) → MatchResult x (λ a. y ≡ Ok a) (λ e. IsErrAnd y (Q e)) → (r : D) → y ≡ Err r
    → (e : E) × (x ≡ Err e) × Q e r
err_of Q (Ok b) y h r e = cc
err_of Q (Err d) (Ok b) h r e = cc
err_of Q (Err d) (Err s) h r e = let f : s ≡ r = cc in (d, refl, subst (Q d) f h)

refused_at : (i k : ℕ) (bs : List ℕ) (e : Fault) (r : Refusal) → record_by i k bs ≡ refused (number_of e) (k + 0) → r.fault ≡ e → r.place ≡ k → Walked (Err r) (record_by i k bs)
refused_at i k bs e r h f p = ap₂ (λ x y. refused (number_of x) y) f (p ∙ sym (add-zero k)) ∙ sym (bind_out _ h)

module _ (i k : ℕ) (bs : List ℕ) (known : (j : ℕ) → Fits w8 (get_or bs j 0)) (b : k + length bs < 65_536) where
  by_rules : (x : Result code.RecordMap Refusal) → Walked x (record_by i k bs) → Walked x (record_at i k bs)
  by_rules x = subst (Walked x) (record_law i k bs (octets_all bs known) b)

  pub step_set : (x : Result fspec.Fspec Fault) (e : Fault) (r : Refusal) → set_of x ≡ set_at i bs → x ≡ Err e → r.fault ≡ e → r.place ≡ k → Walked (Err r) (record_at i k bs)
  unfolding record_by
  step_set x e r h c f p = by_rules (Err r) (refused_at i k bs e r (bind_out _ (later_out k (sym h ∙ ap set_of c))) f p)

  module _ (x : Result fspec.Fspec Fault) (bits used : ℕ) (h : set_of x ≡ set_at i bs) (c : set_of x ≡ ok (bits, used))
      (y : Result ℕ Refusal) (m : code.RecordMap) (g : came_of y m ≡ walk i (flags 63 bits) 1 (take (length bs - used) (drop used bs)) (start_at (k + used))) where
    set_read : set_at i bs ≡ ok (bits, used)
    set_read = sym h ∙ c

    walk_read : walk i (flags 63 bits) 1 (drop used bs) (start_at (k + used)) ≡ came_of y m
    walk_read = ap (λ l. walk i (flags 63 bits) 1 l (start_at (k + used))) (sym (to_end bs used)) ∙ sym g

    pub step_walk : (r : Refusal) → y ≡ Err r → Walked (Err r) (record_at i k bs)
    unfolding record_by
    step_walk r d = by_rules (Err r) (sym (bind_out _ (bind_in _ (later_in k set_read) (bind_out _ (walk_read ∙ ap (λ z. came_of z m) d)))))

    module _ (kind : ℕ) (d : y ≡ Ok kind) (z : Result (Unit {0}) Fault) (f : judged_of z ≡ judge_set i bits kind) where
      came_ok : walk i (flags 63 bits) 1 (drop used bs) (start_at (k + used)) ≡ ok (record { here = m.end; count = m.count; starts = m.starts; kind = kind })
      came_ok = walk_read ∙ ap (λ z. came_of z m) d

      pub step_judge : (e : Fault) (r : Refusal) → z ≡ Err e → r.fault ≡ e → r.place ≡ k → Walked (Err r) (record_at i k bs)
      unfolding record_by
      step_judge e r a q p =
          by_rules (Err r) (refused_at i k bs e r (bind_in _ (later_in k set_read) (bind_in _ came_ok (bind_out _ (later_out k (sym f ∙ ap judged_of a))))) q p)

      pub step_whole : (u : Unit {0}) → z ≡ Ok u → Walked (Ok m) (record_at i k bs)
      unfolding record_by
      step_whole u a =
          by_rules (Ok m) (sym (bind_in _ (bind_in _ (later_in k set_read) (bind_in _ came_ok (bind_in _ (later_in k (sym f ∙ ap judged_of a)) refl))) refl))
