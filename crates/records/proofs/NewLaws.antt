-- A new record checked as the code checks it, by its set and its items, is the rules' new record.
--
-- In order: the items; the law, and the octets of a new record; the steps of the code. Assumes nothing.
use Prim.Native.Nat.{ℕ, ◌+◌, ◌-◌, ◌^◌, ◌<◌}
use mathlib.Core.Path.{◌≡◌, refl, sym, ap, ◌∙◌}
use mathlib.Core.Logic.{⊎_elim}
use mathlib.Core.Bool.{Bool, true, false, not}
use mathlib.Core.List.{List, ◌++◌}
use native.Mathlib.Omega.{arith}
use native.Mathlib.Nat.{zero-add, add-zero}
use lib.Dec.{ltb, eqb}
use borrow.Author.Tests.{ltb-true, lt-ltb, eq-eqb, ne_eqb, eqb-true, eqb-false}
use lib.ListN.{length, get_or, length-append}
use mir.Syntax.{w8}
use mir.Val.{Fits}
use Rattle.std.specs.Prelude.{Result, Ok, Err}
use Rattle.rules.specs.Told.{number_of}
use Rattle.rules.specs.declared.faults.Fault.{Fault}
use Rattle.rules.specs.declared.faults.Refusal.{Refusal}
use Rattle.rules.specs.Answer.{Answer, ok, refused, ◌>>=◌, need◌or◌then◌, later, octets_of}
use Rattle.rules.specs.Chain.{flatten}
use Rattle.rules.specs.Presence.{flags, write_presence, read_rows, all_usable, set_flags}
use Rattle.rules.specs.Record.{Record, judge, read_place}
use Rattle.rules.specs.Entry.{new_record}
use Rattle.rules.proofs.AnswerLaws.{ok_inj, bind_elim, need_elim, bind_in, bind_out, need_bind, need_in, need_out, later_in, later_out, T_true, Octets}
use Rattle.sets.specs.Sets.{category_at, bits_of, frns_of, within, fspec_at}
use Rattle.sets.specs.Steps.{usable_bits, judge_set, rows_left}
use Rattle.sets.specs.Answers.{judged_of}
use Rattle.sets.proofs.ProfileLaws.{TypePlace, type_place_lem}
use Rattle.sets.proofs.SetLaws.{octets_all}
use Rattle.sets.proofs.FspecLaws.{set_within, set_barred, set_some, set_usable, set_rows, set_rows_lem, set_rows_usable, set_rows_bits, no_rows, fspec_counted}
use Rattle.records.specs.Walk.{Came, walk, start_at, new_by}
use Rattle.records.specs.Answers.{came_of, end_of, new_at}
use Rattle.records.specs.declared.RecordMap.{RecordMap}
use Rattle.records.proofs.ItemLaws.{came_to, octets_in, walk_refused, walk_came, items_long, items_end, judged}

-- ---- the items, of a set that is not empty and that the profile has

-- what each rule does with them
abbrev new_items : ℕ → ℕ → List ℕ → Answer ℕ
new_items i bits bs =
    walk i (flags 63 bits) 1 bs (start_at 0) >>= (λ w.
    later w.here (need eqb w.here (length bs) or 18 then ok (tt {0})) >>= (λ e.
    judge_set i bits w.kind >>= (λ s. ok (rows_left 9 0 bits + length bs))))

abbrev rule_items : ℕ → ℕ → List ℕ → Answer (List ℕ)
rule_items i bits bs =
    read_rows read_place (category_at i).profile (set_flags 1 (category_at i).profile (frns_of bits)) bs >>= (λ x.
    later (length bs - length x.1) (need eqb (length x.1) 0 or 18 then ok x.0) >>= (λ s.
    judge (category_at i) s >>= (λ t.
    ok (octets_of (write_presence (category_at i).profile (set_flags 1 (category_at i).profile (frns_of bits))) ++ bs))))

module _ (i bits : ℕ) (bs : List ℕ) (o : Octets bs) (fits : bits < 2 ^ 64) (u : within (flags 64 bits) (flags 64 (usable_bits i)) ≡ true) (some : bits ≡ 0 → ⊥) where
  rows_of : set_flags 1 (category_at i).profile (frns_of bits) ≡ set_rows i bits fits u
  rows_of = set_rows_lem i bits fits u

  from_rows : (a : Answer Came) → walk i (flags 63 (bits_of (flatten (set_rows i bits fits u)))) 1 bs (start_at 0) ≡ a → walk i (flags 63 bits) 1 bs (start_at 0) ≡ a
  from_rows a e = ap (λ n. walk i (flags 63 n) 1 bs (start_at 0)) (sym (set_rows_bits i bits fits u)) ∙ e

  fspec_of : octets_of (write_presence (category_at i).profile (set_flags 1 (category_at i).profile (frns_of bits))) ≡ fspec_at i bits
  unfolding fspec_at
  fspec_of = ap octets_of (sym (need_in _ 8 (T_true (set_usable i bits ∙ u)) refl))

  new_length : length (octets_of (write_presence (category_at i).profile (set_flags 1 (category_at i).profile (frns_of bits))) ++ bs) ≡ rows_left 9 0 bits + length bs
  new_length = ap (λ l. length (l ++ bs)) fspec_of ∙ length-append (fspec_at i bits) bs ∙ ap (λ n. n + length bs) (fspec_counted i bits fits u)

  -- the items were read
  module _ (r : Record) (rest : List ℕ) (g : read_rows read_place (category_at i).profile (set_rows i bits fits u) bs ≡ ok (r, rest)) where
    long : length bs ≡ (came_to i 0 r).here + length rest
    long =
        items_long i 0 (set_rows i bits fits u) bs (set_rows_usable i bits fits u) o r rest g
        ∙ ap (λ n. n + length rest) (sym (items_end i 0 (set_rows i bits fits u) bs (set_rows_usable i bits fits u) o r rest g ∙ zero-add (length (octets_in i r))))

    came : walk i (flags 63 bits) 1 bs (start_at 0) ≡ ok (came_to i 0 r)
    came = from_rows _ (walk_came i 0 (set_rows i bits fits u) bs (set_rows_usable i bits fits u) o r rest g)

    read : read_rows read_place (category_at i).profile (set_flags 1 (category_at i).profile (frns_of bits)) bs ≡ ok (r, rest)
    read = ap (λ ts. read_rows read_place (category_at i).profile ts bs) rows_of ∙ g

    same_end : eqb (came_to i 0 r).here (length bs) ≡ eqb (length rest) 0
    same_end = go (eqb (length rest) 0) refl
      where
        go : (t : Bool) → eqb (length rest) 0 ≡ t → eqb (came_to i 0 r).here (length bs) ≡ t
        go true e = let z : length rest ≡ 0 = eqb-true _ _ e in eq-eqb (came_to i 0 r).here (length bs) (omega (arith, long))
        go false e = ne_eqb (came_to i 0 r).here (length bs) (λ (q : (came_to i 0 r).here ≡ length bs). eqb-false (length rest) 0 e (omega (arith, long)))

    by_judge : (t : TypePlace i) → eqb (length rest) 0 ≡ true → (x : Answer (Unit {0})) → judge_set i bits (came_to i 0 r).kind ≡ x
        → new_items i bits bs ≡ (rule_items i bits bs >>= (λ new. ok (length new)))
    by_judge t z x e =
        let j : judge (category_at i) r ≡ (judge_set i bits (came_to i 0 r).kind >>= (λ u. ok r)) =
        judged i 0 (set_rows i bits fits u) bs (set_rows_usable i bits fits u) o r rest g t ∙ ap (λ n. judge_set i n (came_to i 0 r).kind >>= (λ u. ok r)) (set_rows_bits i bits fits u) in
        go x e j
      where
        go : (x : Answer (Unit {0})) → judge_set i bits (came_to i 0 r).kind ≡ x → judge (category_at i) r ≡ (judge_set i bits (came_to i 0 r).kind >>= (λ u. ok r))
            → new_items i bits bs ≡ (rule_items i bits bs >>= (λ new. ok (length new)))
        go (refused n p) e j =
            bind_in _ came (bind_in _ (later_in _ (need_in _ 18 (T_true (same_end ∙ z)) refl)) (bind_out _ e))
            ∙ sym (bind_out _ (bind_in _ read (bind_in _ (later_in _ (need_in _ 18 (T_true z) refl)) (bind_out _ (j ∙ bind_out _ e)))))
        go (ok v) e j =
            bind_in _ came (bind_in _ (later_in _ (need_in _ 18 (T_true (same_end ∙ z)) refl)) (bind_in _ e refl))
            ∙ sym (bind_in _ (bind_in _ read (bind_in _ (later_in _ (need_in _ 18 (T_true z) refl)) (bind_in _ (j ∙ bind_in _ e refl) refl))) (ap ok new_length))

    -- octets after the last item
    by_end : (t : Bool) → eqb (length rest) 0 ≡ t → TypePlace i → new_items i bits bs ≡ (rule_items i bits bs >>= (λ new. ok (length new)))
    by_end true e t = by_judge t e (judge_set i bits (came_to i 0 r).kind) refl
    by_end false e t =
        let d : length bs - length rest ≡ (came_to i 0 r).here = omega (arith, long) in
        bind_in _ came (bind_out _ (later_out _ (need_out 18 _ (same_end ∙ e))))
        ∙ ap (λ n. refused 18 (n + 0)) (sym d)
        ∙ sym (bind_out _ (bind_in _ read (bind_out _ (later_out _ (need_out 18 _ e)))))

  by_rows : (x : Answer (Record × List ℕ)) → read_rows read_place (category_at i).profile (set_rows i bits fits u) bs ≡ x
      → new_items i bits bs ≡ (rule_items i bits bs >>= (λ new. ok (length new)))
  by_rows (refused n p) g =
      bind_out _ (from_rows _ (walk_refused i 0 (set_rows i bits fits u) bs (set_rows_usable i bits fits u) o n p g))
      ∙ ap (refused n) (zero-add p)
      ∙ sym (bind_out _ (bind_out _ (ap (λ ts. read_rows read_place (category_at i).profile ts bs) rows_of ∙ g)))
  by_rows (ok (r, rest)) g = ⊎_elim (λ z. no_rows i bits fits u some z) (λ t. by_end r rest g (eqb (length rest) 0) refl t) (type_place_lem i)

  items_same : new_items i bits bs ≡ (rule_items i bits bs >>= (λ new. ok (length new)))
  items_same = by_rows (read_rows read_place (category_at i).profile (set_rows i bits fits u) bs) refl

-- ---- the law

new_law : (i bits : ℕ) (bs : List ℕ) → Octets bs → bits < 2 ^ 64 → new_by i bits bs ≡ new_at i bits bs
unfolding new_by new_at new_record
new_law i bits bs o fits =
    by_some (ltb 0 bits) refl
    ∙ ap (λ t. (need t or 7 then need all_usable (category_at i).profile (frns_of bits) or 8 then rule_items i bits bs) >>= (λ new. ok (length new))) (sym (set_some bits fits))
  where
    by_usable : (t : Bool) → within (flags 64 bits) (flags 64 (usable_bits i)) ≡ t → (bits ≡ 0 → ⊥)
        → (need t or 8 then new_items i bits bs) ≡ ((need t or 8 then rule_items i bits bs) >>= (λ new. ok (length new)))
    by_usable true u s = need_in true 8 tt (items_same i bits bs o fits u s) ∙ sym (need_bind true 8 (rule_items i bits bs) _ ∙ need_in true 8 tt refl)
    by_usable false u s = need_out 8 _ refl ∙ sym (bind_out _ (need_out 8 _ refl))

    by_some : (t : Bool) → ltb 0 bits ≡ t
        → (need t or 7 then need within (flags 64 bits) (flags 64 (usable_bits i)) or 8 then new_items i bits bs)
        ≡ ((need t or 7 then need all_usable (category_at i).profile (frns_of bits) or 8 then rule_items i bits bs) >>= (λ new. ok (length new)))
    by_some true e =
        need_in true 7 tt
        (by_usable (within (flags 64 bits) (flags 64 (usable_bits i))) refl (λ (z : bits ≡ 0). absurd (omega (arith, ltb-true 0 bits e))))
        ∙ ap (λ t. (need t or 8 then rule_items i bits bs) >>= (λ new. ok (length new))) (sym (set_usable i bits))
        ∙ sym (need_bind true 7 _ _ ∙ need_in true 7 tt refl)
    by_some false e = need_out 7 _ refl ∙ sym (bind_out _ (need_out 7 _ refl))

-- the octets of a new record: the FSPEC of its set, then its items
pub new_octets : (i bits : ℕ) (bs new : List ℕ) → new_record (category_at i) (frns_of bits) bs ≡ ok new → new ≡ fspec_at i bits ++ bs
unfolding new_record fspec_at
new_octets i bits bs new h =
    need_elim _ _ _ h λ s h₁.
    need_elim _ _ _ h₁ λ u h₂.
    bind_elim _ _ h₂ λ x p h₃.
    bind_elim _ _ h₃ λ y q h₄.
    bind_elim _ _ h₄ λ z r h₅.
    sym (ok_inj h₅) ∙ ap (λ l. octets_of l ++ bs) (sym (need_in _ 8 u refl))

-- ---- the steps of the code: m are the FRNs of the profile, t whether the set is within them

module _ (i bits : ℕ) (bs : List ℕ) (known : (j : ℕ) → Fits w8 (get_or bs j 0)) (fits : bits < 2 ^ 64) where
  law : new_by i bits bs ≡ new_at i bits bs
  law = new_law i bits bs (octets_all bs known) fits

  pub new_empty : bits ≡ 0 → refused 7 0 ≡ new_at i bits bs
  unfolding new_by
  new_empty z = sym (need_out 7 _ (ap (ltb 0) z)) ∙ law

  module _ {m : ℕ} {t : Bool} (some : bits ≡ 0 → ⊥) (is : m ≡ usable_bits i) (e : t ≡ within (flags 64 bits) (flags 64 m)) where
    pub new_barred : not t ≡ true → refused 8 0 ≡ new_at i bits bs
    unfolding new_by
    new_barred n = sym (need_in _ 7 (T_true (lt-ltb 0 bits (omega arith))) (need_out 8 _ (set_barred i bits is e n))) ∙ law

    module _ (n : not t ≡ false) where
      from_items : (a : Answer ℕ) → new_items i bits bs ≡ a → a ≡ new_at i bits bs
      unfolding new_by
      from_items a h = sym (need_in _ 7 (T_true (lt-ltb 0 bits (omega arith))) (need_in _ 8 (T_true (set_within i bits is e n)) h)) ∙ law

      module _ (x : Result ℕ Refusal) (z : RecordMap) (g : came_of x z ≡ walk i (flags 63 bits) 1 bs (start_at 0)) where
        pub new_stop : (r : Refusal) → x ≡ Err r → end_of (Err r) ≡ new_at i bits bs
        new_stop r c = from_items _ (bind_out _ (sym g ∙ ap (λ y. came_of y z) c))

        module _ (kind : ℕ) (c : x ≡ Ok kind) where
          came_ok : walk i (flags 63 bits) 1 bs (start_at 0) ≡ ok (record { here = z.end; count = z.count; starts = z.starts; kind = kind })
          came_ok = sym g ∙ ap (λ y. came_of y z) c

          pub new_more : (z.end ≡ length bs → ⊥) → refused 18 z.end ≡ new_at i bits bs
          new_more h = ap (refused 18) (sym (add-zero z.end)) ∙ from_items _ (bind_in _ came_ok (bind_out _ (later_out _ (need_out 18 _ (ne_eqb z.end (length bs) h)))))

          module _ (all : z.end ≡ length bs) (y : Result (Unit {0}) Fault) (f : judged_of y ≡ judge_set i bits kind) where
            pub new_judged : (e : Fault) → y ≡ Err e → refused (number_of e) 0 ≡ new_at i bits bs
            new_judged e a =
                from_items _
                (bind_in _ came_ok (bind_in _ (later_in _ (need_in _ 18 (T_true (eq-eqb z.end (length bs) all)) refl)) (bind_out _ (sym f ∙ ap judged_of a))))

            pub new_whole : (u : Unit {0}) (k : ℕ) → y ≡ Ok u → k ≡ rows_left 9 0 bits → ok (k + length bs) ≡ new_at i bits bs
            new_whole u k a q =
                from_items _
                (bind_in _ came_ok (bind_in _ (later_in _ (need_in _ 18 (T_true (eq-eqb z.end (length bs) all)) refl))
                (bind_in _ (sym f ∙ ap judged_of a) (ap (λ l. ok (l + length bs)) (sym q)))))
