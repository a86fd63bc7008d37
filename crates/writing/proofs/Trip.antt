-- What follows from the statements of `write_item` and `read_item`: `write_item` leaves no choice, what it wrote `read_item` reads back, and what
-- `read_item` read it writes again.
--
-- In order: the statements; no two results; reading what was written; writing what was read. Assumes nothing.
use Prim.Native.Nat.{ℕ, ◌≤◌}
use mathlib.Core.Path.{◌≡◌, refl, sym, ap, ◌∙◌, subst}
use mathlib.Core.List.{List, ◌++◌}
use native.Mathlib.Omega.{arith}
use lib.IntN.{ℤ}
use lib.ListN.{length, take, drop}
use lib.Seq.{take_at, drop_at}
use Rattle.rules.specs.Answer.{Answer, ok, refused, ◌>>=◌}
use Rattle.rules.specs.Catalogue.{categories}
use Rattle.rules.specs.Entry.{read_one, write_one, over, leaves}
use Rattle.rules.proofs.AnswerLaws.{Octets, refused_ok, ok_inj, bind_elim, bind_in}
use Rattle.rules.proofs.EntryLaws.{over_is}
use Rattle.rules.proofs.Tables.{tables_hold}
use Rattle.rules.proofs.Demands.{demand_2, demand_2_output}
use Rattle.items.specs.Answers.{read_of, count_of}
use Rattle.writing.specs.Item.{written_as}
use Rattle.std.specs.Prelude.{Result, Ok, Err}
use Rattle.rules.specs.declared.faults.Refusal.{Refusal}
use Rattle.rules.specs.Told.{refusal_of}
use Rattle.rules.proofs.ToldLaws.{one_told}

-- ---- the statements

-- of the category, the reference, the fields and the output lent: the answer, and what the output then holds
pub record Wrote (cat ref : ℕ) (fs : List ℤ) (out : List ℕ) (r : Result ℕ Refusal) (out' : List ℕ) : Type 0 where
  pub answer : written_as r ≡ count_of (write_one categories cat ref fs (length out))
  pub left : out' ≡ leaves (write_one categories cat ref fs (length out)) out

pub record WasRead (cat ref : ℕ) (bs : List ℕ) (old : List ℤ) (r : Result ℕ Refusal) (new : List ℤ) : Type 0 where
  pub answer : read_of r ≡ count_of (read_one categories cat ref bs)
  pub left : new ≡ leaves (read_one categories cat ref bs) old

-- ---- no two results

pub write_unique : (cat ref : ℕ) (fs : List ℤ) (out : List ℕ) (r s : Result ℕ Refusal) (out₁ out₂ : List ℕ)
    → Wrote cat ref fs out r out₁ → Wrote cat ref fs out s out₂ → (r ≡ s) × (out₁ ≡ out₂)
write_unique cat ref fs out r s out₁ out₂ a b = (one_told r s (a.answer ∙ sym b.answer), a.left ∙ sym b.left)

-- ---- reading what was written

-- the octets that were written stand at the start of the output, they are the item's, and no other octet changes
pub record WroteItem (cat ref : ℕ) (fs : List ℤ) (out : List ℕ) (n : ℕ) (out' : List ℕ) : Type 0 where
  pub room : n ≤ length out
  pub octets : Octets (take n out')
  pub read : read_one categories cat ref (take n out') ≡ ok fs
  pub kept : drop n out' ≡ drop n out

pub read_write : (cat ref : ℕ) (fs : List ℤ) (out : List ℕ) (n : ℕ) (out' : List ℕ) → Wrote cat ref fs out (Ok n) out' → WroteItem cat ref fs out n out'
unfolding count_of
read_write cat ref fs out n out' w =
    bind_elim _ _ (sym w.answer) λ bs p h.
    let e : length bs ≡ n = ok_inj h in
    let o : out' ≡ bs ++ drop (length bs) out = w.left ∙ demand_2_output categories tables_hold cat ref bs fs out p in
    let t : take n out' ≡ bs = ap (take n) o ∙ take_at bs (drop (length bs) out) n e in
    let d = (demand_2 categories tables_hold cat ref bs fs out).1 p in
    record {
      room = omega (arith, d.2);
      octets = subst Octets (sym t) d.0;
      read = ap (read_one categories cat ref) t ∙ d.1;
      kept = ap (drop n) o ∙ drop_at bs (drop (length bs) out) n e ∙ ap (λ x. drop x out) e;
    }

-- so `read_item`, lent the octets that `write_item` wrote, answers how many fields there were, and they stand at the start of its output
pub read_written : (cat ref : ℕ) (fs : List ℤ) (out : List ℕ) (n : ℕ) (out' : List ℕ) (old : List ℤ) (r : Result ℕ Refusal) (new : List ℤ)
    → Wrote cat ref fs out (Ok n) out' → WasRead cat ref (take n out') old r new → (r ≡ Ok (length fs)) × (new ≡ over fs old)
unfolding count_of
read_written cat ref fs out n out' old r new w d =
    let e = (read_write cat ref fs out n out' w).read in
    (one_told r (Ok (length fs)) (d.answer ∙ bind_in _ e refl), d.left ∙ ap (λ m. leaves m old) e)

-- a refusal changes nothing
pub write_refused : (cat ref : ℕ) (fs : List ℤ) (out : List ℕ) (e : Refusal) (out' : List ℕ) → Wrote cat ref fs out (Err e) out' → out' ≡ out
unfolding count_of ◌>>=◌
write_refused cat ref fs out e out' w = w.left ∙ go (write_one categories cat ref fs (length out)) w.answer
  where
    go : (m : Answer (List ℕ)) → refusal_of e ≡ count_of m → leaves m out ≡ out
    go (ok bs) d = refused_ok d
    go (refused m q) d = refl

-- ---- writing what was read

pub write_read : (cat ref : ℕ) (bs : List ℕ) (fs : List ℤ) (out : List ℕ) (r : Result ℕ Refusal) (out' : List ℕ)
    → Octets bs → read_one categories cat ref bs ≡ ok fs → length bs ≤ length out → Wrote cat ref fs out r out' → (r ≡ Ok (length bs)) × (out' ≡ bs ++ drop (length bs) out)
unfolding count_of
write_read cat ref bs fs out r out' o h room w =
    let p : write_one categories cat ref fs (length out) ≡ ok bs = (demand_2 categories tables_hold cat ref bs fs out).0 (o, h, room) in
    (one_told r (Ok (length bs)) (w.answer ∙ bind_in _ p refl), w.left ∙ demand_2_output categories tables_hold cat ref bs fs out p)

-- so `write_item`, lent the fields that `read_item` gave, writes the octets that it was lent
pub write_was_read : (cat ref : ℕ) (bs : List ℕ) (old new : List ℤ) (n : ℕ) (out : List ℕ) (r : Result ℕ Refusal) (out' : List ℕ)
    → Octets bs → WasRead cat ref bs old (Ok n) new → n ≤ length old → length bs ≤ length out → Wrote cat ref (take n new) out r out'
    → (r ≡ Ok (length bs)) × (out' ≡ bs ++ drop (length bs) out)
unfolding count_of
write_was_read cat ref bs old new n out r out' o d few room w =
    bind_elim _ _ (sym d.answer) λ fs p h.
    let e : length fs ≡ n = ok_inj h in
    let v : new ≡ fs ++ drop (length fs) old = d.left ∙ ap (λ m. leaves m old) p ∙ over_is fs old (omega arith) in
    let t : take n new ≡ fs = ap (take n) v ∙ take_at fs (drop (length fs) old) n e in
    write_read cat ref bs fs out r out' o p room (subst (λ x. Wrote cat ref x out r out') t w)
