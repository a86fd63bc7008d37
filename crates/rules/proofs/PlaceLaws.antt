-- Where the records and items of a block lie: end to end, from the head to the block's end, nothing between them and nothing over.
--
-- In order: records; items; the record map. Assumes nothing.
use Prim.Native.Nat.{ℕ, zero, suc, ◌+◌, ◌≤◌, ◌<◌, suc-le-suc, zero-le}
use mathlib.Core.Path.{◌≡◌, refl, sym, ap, ◌∙◌, subst}
use mathlib.Core.Logic.{◌⊎◌, inl, inr, ⊎_elim}
use mathlib.Core.Option.{Option, none, some}
use mathlib.Core.List.{List, [], ◌∷◌}
use native.Mathlib.Omega.{arith}
use native.Mathlib.Nat.{add_assoc, add-zero, le_of_eq}
use lib.Dec.{eqb}
use lib.ListN.{length, get_or, get_elem?, length-append}
use Rattle.rules.specs.Answer.{ok, octets_of}
use Rattle.rules.specs.Chain.{flatten, octets}
use Rattle.rules.specs.Layout.{Values}
use Rattle.rules.specs.Record.{Place, Category, Record, places, named, write_place, write_record}
use Rattle.rules.specs.Legal.{body_of, block_of, LastRow}
use Rattle.rules.specs.Entry.{Laid, laid, laid_items, laid_as, Numbered, numbered, count_of}
use Rattle.rules.proofs.AnswerLaws.{refused_ok, ok_inj, none_some, some_inj, if_inv, octets_of-ok}
use Rattle.rules.proofs.ChainLaws.{octets_length}
use Rattle.rules.proofs.EntryLaws.{item_octets, RecordWritten, record_written}
use Rattle.rules.proofs.LegalLaws.{Placed}

-- ---- records

-- the place after a record
abbrev pub end_of : Category → Numbered → ℕ
end_of c x = x.start + length (octets_of (write_record c x.value))

-- the first starts where the records start
pub numbered_first : (c : Category) (k : ℕ) (rs : List Record) (x : Numbered) → numbered c k rs 0 ≡ ok x → x.start ≡ k
unfolding numbered
numbered_first c k [] x h = refused_ok h
numbered_first c k (r ∷ rs) x h = sym (ap (λ z. z.start) (ok_inj h))

-- each next one where the last ends
pub numbered_next : (c : Category) (k : ℕ) (rs : List Record) (i : ℕ) (x y : Numbered) → numbered c k rs i ≡ ok x → numbered c k rs (suc i) ≡ ok y
    → y.start ≡ end_of c x
unfolding numbered
numbered_next c k [] i x y h g = refused_ok h
numbered_next c k (r ∷ rs) zero x y h g =
    numbered_first c (k + length (octets_of (write_record c r))) rs y g ∙ ap (end_of c) (ok_inj h)
numbered_next c k (r ∷ rs) (suc i) x y h g = numbered_next c (k + length (octets_of (write_record c r))) rs i x y h g

-- the last ends with the records
pub numbered_last : (c : Category) (k : ℕ) (rs : List Record) (i : ℕ) (x : Numbered) → numbered c k rs i ≡ ok x → suc i ≡ length rs
    → end_of c x ≡ k + length (body_of c rs)
unfolding numbered
numbered_last c k [] i x h e = refused_ok h
numbered_last c k (r ∷ []) zero x h e = sym (ap (end_of c) (ok_inj h)) ∙ ap (λ n. k + n) (sym (length-append (octets_of (write_record c r)) [] ∙ add-zero _))
numbered_last c k (r ∷ (s ∷ rs)) zero x h e = absurd (omega arith)
numbered_last c k (r ∷ rs) (suc i) x h e =
    numbered_last c (k + length (octets_of (write_record c r))) rs i x h (omega arith)
    ∙ add_assoc k (length (octets_of (write_record c r))) (length (body_of c rs))
    ∙ ap (λ n. k + n) (sym (length-append (octets_of (write_record c r)) (body_of c rs)))

-- a block is its head of three octets and its records
pub block_length_lem : (c : Category) (rs : List Record) → length (block_of c rs) ≡ 3 + length (body_of c rs)
block_length_lem c rs =
    let e : length (octets 2 (3 + length (body_of c rs))) ≡ 2 = octets_length 2 (3 + length (body_of c rs)) in
    let d = length-append (octets 2 (3 + length (body_of c rs))) (body_of c rs) in
    omega arith

-- every number below their count is one's
pub numbered_there : (c : Category) (k : ℕ) (rs : List Record) (i : ℕ) → i < length rs → (x : Numbered) × (numbered c k rs i ≡ ok x)
unfolding numbered
numbered_there c k [] i l = absurd (omega arith)
numbered_there c k (r ∷ rs) zero l = (record { start = k; value = r }, refl)
numbered_there c k (r ∷ rs) (suc i) l = numbered_there c (k + length (octets_of (write_record c r))) rs i (omega arith)

pub numbered_value : (c : Category) (k : ℕ) (rs : List Record) (i : ℕ) (x : Numbered) → numbered c k rs i ≡ ok x → get_elem? rs i ≡ some x.value
unfolding numbered
numbered_value c k [] i x h = refused_ok h
numbered_value c k (r ∷ rs) zero x h = ap (λ z. some z.value) (ok_inj h)
numbered_value c k (r ∷ rs) (suc i) x h = numbered_value c (k + length (octets_of (write_record c r))) rs i x h

-- ---- items

-- the items that are there lie end to end, from k to e, in rising FRN
abbrev pub EndToEnd : ℕ → ℕ → List (Option Laid) → Type 0
EndToEnd k e [] = k ≡ e
EndToEnd k e (none ∷ ls) = EndToEnd k e ls
EndToEnd k e (some l ∷ ls) = (l.start ≡ k) × EndToEnd (k + l.size) e ls

pub laid_tiles : (ps : List (Option Place)) (vs : List (Option Values)) (k e : ℕ) → k + length (item_octets ps vs) ≡ e → EndToEnd k e (laid k ps vs)
laid_tiles [] vs k e h = omega arith
laid_tiles (p ∷ ps) [] k e h = omega arith
laid_tiles (none ∷ ps) (none ∷ vs) k e h = laid_tiles ps vs k e h
laid_tiles (some p ∷ ps) (none ∷ vs) k e h = laid_tiles ps vs k e h
laid_tiles (none ∷ ps) (some v ∷ vs) k e h = laid_tiles ps vs k e h
laid_tiles (some p ∷ ps) (some v ∷ vs) k e h = (
  refl,
  laid_tiles ps vs (k + length (octets_of (write_place p v))) e
      (add_assoc k (length (octets_of (write_place p v))) (length (item_octets ps vs))
      ∙ ap (λ n. k + n) (sym (length-append (octets_of (write_place p v)) (item_octets ps vs))) ∙ h),
)

-- a record's: from its FSPEC's end to its own
pub record_tiles : (c : Category) (k : ℕ) (r : Record) (u : List ℕ) → write_record c r ≡ ok u
    → EndToEnd (k + length r) (k + length (octets_of (write_record c r))) (laid_items c k r)
record_tiles c k r u h =
    let w : RecordWritten c r u = record_written c r u h in
    let e : length (octets_of (write_record c r)) ≡ length r + length (item_octets (places c) (flatten r)) =
    ap length (octets_of-ok h ∙ w.joins) ∙ length-append w.fspec (item_octets (places c) (flatten r)) ∙ ap (λ n. n + length (item_octets (places c) (flatten r))) w.count in
    laid_tiles (places c) (flatten r) (k + length r) (k + length (octets_of (write_record c r))) (omega arith)

tiles_le : (ls : List (Option Laid)) (k e : ℕ) → EndToEnd k e ls → k ≤ e
tiles_le [] k e t = omega arith
tiles_le (none ∷ ls) k e t = tiles_le ls k e t
tiles_le (some l ∷ ls) k e t = omega (arith, tiles_le ls (k + l.size) e t.1)

-- each of them lies between
pub tiles_inside : (ls : List (Option Laid)) (ref k e : ℕ) (l : Laid) → EndToEnd k e ls → laid_as ref ls ≡ some l → (k ≤ l.start) × (l.start + l.size ≤ e)
tiles_inside [] ref k e l t h = none_some h
tiles_inside (none ∷ ls) ref k e l t h = tiles_inside ls ref k e l t h
tiles_inside (some m ∷ ls) ref k e l t h =
    ⊎_elim
    (λ (_, g).
    let le : k + m.size ≤ e = tiles_le ls (k + m.size) e t.1 in
    let s : m.start ≡ k = t.0 in
    subst (λ z. (k ≤ z.start) × (z.start + z.size ≤ e)) (some_inj g) (omega arith, omega arith))
    (λ (_, g). let r = tiles_inside ls ref (k + m.size) e l t.1 g in (omega (arith, r.0), r.1))
    (if_inv (eqb ref m.reference) (some m) (laid_as ref ls) h)

-- any two of them are one, or one lies before the other
pub tiles_apart : (ls : List (Option Laid)) (a b k e : ℕ) (l m : Laid) → EndToEnd k e ls → laid_as a ls ≡ some l → laid_as b ls ≡ some m
    → (l ≡ m) ⊎ ((l.start + l.size ≤ m.start) ⊎ (m.start + m.size ≤ l.start))
tiles_apart [] a b k e l m t h g = none_some h
tiles_apart (none ∷ ls) a b k e l m t h g = tiles_apart ls a b k e l m t h g
tiles_apart (some n ∷ ls) a b k e l m t h g =
    ⊎_elim
    (λ (_, h₁).
    ⊎_elim
    (λ (_, g₁). inl (some_inj (sym h₁ ∙ g₁)))
    (λ (_, g₁).
    let r = tiles_inside ls b (k + n.size) e m t.1 g₁ in
    let f : n.start + n.size ≤ m.start = omega (arith, t.0, r.0) in
    inr (inl (subst (λ z. z.start + z.size ≤ m.start) (some_inj h₁) f)))
    (if_inv (eqb b n.reference) (some n) (laid_as b ls) g))
    (λ (_, h₁).
    ⊎_elim
    (λ (_, g₁).
    let r = tiles_inside ls a (k + n.size) e l t.1 h₁ in
    let f : n.start + n.size ≤ l.start = omega (arith, t.0, r.0) in
    inr (inr (subst (λ z. z.start + z.size ≤ l.start) (some_inj g₁) f)))
    (λ (_, g₁). tiles_apart ls a b (k + n.size) e l m t.1 h₁ g₁)
    (if_inv (eqb b n.reference) (some n) (laid_as b ls) g))
    (if_inv (eqb a n.reference) (some n) (laid_as a ls) h)

-- an item lies no earlier than the first may
pub laid_low : (ref k : ℕ) (ps : List (Option Place)) (vs : List (Option Values)) (l : Laid) → laid_as ref (laid k ps vs) ≡ some l → k ≤ l.start
laid_low ref k [] vs l h = none_some h
laid_low ref k (p ∷ ps) [] l h = none_some h
laid_low ref k (p ∷ ps) (none ∷ vs) l h = laid_low ref k ps vs l h
laid_low ref k (none ∷ ps) (some v ∷ vs) l h = laid_low ref k ps vs l h
laid_low ref k (some p ∷ ps) (some v ∷ vs) l h =
    ⊎_elim
    (λ (e, g). le_of_eq (ap (λ y. y.start) (some_inj g)))
    (λ (e, g). omega (arith, laid_low ref (k + length (octets_of (write_place p v))) ps vs l g))
    (if_inv (eqb ref p.reference) _ (laid_as ref (laid (k + length (octets_of (write_place p v))) ps vs)) h)

-- ---- the record map

-- it counts the items
pub count_named : (ps : List (Option Place)) (vs : List (Option Values)) → Placed ps vs → count_of vs ≡ length (named ps vs)
count_named [] [] i = refl
count_named (p ∷ ps) [] i = refl
count_named [] (v ∷ vs) i = absurd i
count_named (none ∷ ps) (none ∷ vs) i = count_named ps vs i
count_named (some p ∷ ps) (none ∷ vs) i = count_named ps vs i
count_named (none ∷ ps) (some v ∷ vs) i = absurd i
count_named (some p ∷ ps) (some v ∷ vs) i = ap suc (count_named ps vs i)

-- and has nothing where the profile has no item
pub laid_none : (ps : List (Option Place)) (vs : List (Option Values)) (k i : ℕ) → get_or ps i none ≡ none → get_or (laid k ps vs) i none ≡ none
laid_none [] vs k i h = refl
laid_none (p ∷ ps) [] k i h = refl
laid_none (none ∷ ps) (none ∷ vs) k zero h = refl
laid_none (none ∷ ps) (none ∷ vs) k (suc i) h = laid_none ps vs k i h
laid_none (some p ∷ ps) (none ∷ vs) k zero h = refl
laid_none (some p ∷ ps) (none ∷ vs) k (suc i) h = laid_none ps vs k i h
laid_none (none ∷ ps) (some v ∷ vs) k zero h = refl
laid_none (none ∷ ps) (some v ∷ vs) k (suc i) h = laid_none ps vs k i h
laid_none (some p ∷ ps) (some v ∷ vs) k zero h = none_some (sym h)
laid_none (some p ∷ ps) (some v ∷ vs) k (suc i) h = laid_none ps vs (k + length (octets_of (write_place p v))) i h

-- an FSPEC has an octet
pub last_some : (r : Record) → LastRow r → 1 ≤ length r
last_some [] l = absurd l
last_some (v ∷ r) l = suc-le-suc zero-le
