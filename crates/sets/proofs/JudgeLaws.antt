-- What a record's message type asks for, judged by sets of FRNs, is what the rules judge by references and values.
--
-- In order: rows of message types; items by their references; what a message type may have; what it must have; the law; the steps of the
-- judgement. Assumes nothing.
use Prim.Native.Nat.{ℕ, zero, suc, ◌+◌, ◌*◌, ◌/◌, ◌%◌, ◌≤◌, ◌<◌}
use mathlib.Core.Path.{◌≡◌, refl, sym, ap, ap₂, ◌∙◌, subst}
use mathlib.Core.Logic.{⊎_elim}
use mathlib.Core.Bool.{Bool, true, false, ◌&&◌, not, true≢false, false≢true}
use mathlib.Core.Option.{Option, none, some}
use mathlib.Core.List.{List, [], ◌∷◌, ◌++◌, map, reverse}
use native.Mathlib.Omega.{arith}
use native.Mathlib.Nat.{add-zero, zero-add, add-suc, suc-add}
use lib.Dec.{eqb}
use borrow.Author.Tests.{eqb-true, eq-eqb, ne_eqb, not-true, not-false}
use lib.ListN.{length, get_or, replicate, get_or-map, length-map}
use Rattle.rules.specs.Answer.{Answer, ok, refused, ◌>>=◌, need◌or◌then◌, when◌then◌else◌}
use Rattle.rules.specs.Chain.{flatten}
use Rattle.rules.specs.Layout.{Values}
use Rattle.rules.specs.Presence.{flags, present, has}
use Rattle.rules.specs.Record.{Place, Message, Category, Record, places, named, items, references, value_of, all_in, type_of, message_of, judge}
use Rattle.rules.specs.Catalogue.{categories}
use Rattle.rules.specs.Entry.{over, is_item}
use Rattle.rules.proofs.AnswerLaws.{ok_inj, bind_in, bind_out, bind_assoc, need_bind, need_in, if_inv, if_true, if_false, some_inj, none_some, both_left, both_right, or_left, or_right, or_cases, refused_ok, bind_same}
use Rattle.rules.proofs.Tables.{distinct, every_category}
use Rattle.tables.specs.Tables.{profile_count}
use Rattle.tables.proofs.MatchLaws.{NoneOf, none_of}
use Rattle.tables.proofs.ProfileLaws.{category_none}
use Rattle.sets.specs.Sets.{category_in, category_at, bits_of, within}
use Rattle.sets.specs.Steps.{type_frn, marks, mark_bits, row_at, judge_row, judge_set}
use Rattle.sets.proofs.FlagLaws.{bits_flags, within_pad}
use Rattle.sets.proofs.ProfileLaws.{category_test, places_few, places_distinct, TypePlace}

-- ---- rows of message types

-- the numbers by which the code finds the rows: 256 for each category before, and the type
abbrev keys : ℕ → List Message → List ℕ
keys i ms = map (λ m. i * 256 + m.type) ms

abbrev pub keys_from : ℕ → List Category → List ℕ
keys_from i [] = []
keys_from i (c ∷ cs) = keys i c.messages ++ keys_from (suc i) cs

message_none : (i t : ℕ) (ms : List Message) (ks : List ℕ) → NoneOf (i * 256 + t) ks → all_in (keys i ms) ks ≡ true → message_of t ms ≡ refused 13 0
unfolding message_of
message_none i t [] ks n h = refl
message_none i t (m ∷ ms) ks n h =
    let o : eqb (i * 256 + t) (i * 256 + m.type) ≡ false = none_of _ _ ks n (both_left (has (i * 256 + m.type) ks) (all_in (keys i ms) ks) h) in
    if_false (ok m) (ne_eqb t m.type (λ e. false≢true (sym o ∙ eq-eqb _ _ (ap (λ k. i * 256 + k) e))))
    (message_none i t ms ks n (both_right (has (i * 256 + m.type) ks) (all_in (keys i ms) ks) h))

-- every message type of every category has its number among those of the match, which come the last first
abbrev all_keys : ℕ → List Category → List ℕ → Bool
all_keys i [] ks = true
all_keys i (c ∷ cs) ks = all_in (keys i c.messages) ks && all_keys (suc i) cs ks

keys_at : (k i : ℕ) (cs : List Category) (ks : List ℕ) → all_keys k cs ks ≡ true → all_in (keys (k + i) (category_in cs i).messages) ks ≡ true
keys_at k i [] ks h = refl
keys_at k zero (c ∷ cs) ks h = rw (add-zero k) (both_left (all_in (keys k c.messages) ks) _ h)
keys_at k (suc i) (c ∷ cs) ks h = rw (add-suc k i, ← suc-add k i) (keys_at (suc k) i cs ks (both_right (all_in (keys k c.messages) ks) _ h))

tables_keys : all_keys 0 categories (reverse (keys_from 0 categories)) ≡ true
unfolding categories
tables_keys = refl

pub row_unknown : (i t : ℕ) → NoneOf (i * 256 + t) (reverse (keys_from 0 categories)) → refused 13 0 ≡ row_at i t
unfolding row_at category_at
row_unknown i t n =
    sym (bind_out _ (message_none i t (category_in categories i).messages _ n
    (subst (λ j. all_in (keys j (category_in categories i).messages) (reverse (keys_from 0 categories)) ≡ true) (zero-add i) (keys_at 0 i categories _ tables_keys))))

-- an index past the last has no message types
pub row_none_lem : (i t : ℕ) → profile_count ≤ i → refused 13 0 ≡ row_at i t
unfolding row_at message_of
row_none_lem i t h = sym (bind_out _ (ap (λ c. message_of t c.messages) (category_none i h)))

-- the row that a number finds
pub row_key : (i t : ℕ) {key : ℕ} → t < 256 → i * 256 + t ≡ key → row_at (key / 256) (key % 256) ≡ row_at i t
row_key i t {key} h e =
    let q : key / 256 ≡ i = omega arith in
    let r : key % 256 ≡ t = omega arith in
    ap₂ row_at q r

-- ---- items by their references

also_item : (p : Place) (ps : List (Option Place)) (r : ℕ) → is_item r ps ≡ true → is_item r (some p ∷ ps) ≡ true
also_item p ps r h = go (eqb r p.reference) refl
  where
    go : (t : Bool) → eqb r p.reference ≡ t → is_item r (some p ∷ ps) ≡ true
    go true e = if_true (is_item r ps) e refl
    go false e = if_false true e h

self_item : (p : Place) (ps : List (Option Place)) → is_item p.reference (some p ∷ ps) ≡ true
self_item p ps = if_true (is_item p.reference ps) (eq-eqb p.reference p.reference refl) refl

item_at : (ps : List (Option Place)) (j : ℕ) (p : Place) → get_or ps j none ≡ some p → is_item p.reference ps ≡ true
item_at [] j p h = none_some h
item_at (none ∷ ps) zero p h = none_some h
item_at (some q ∷ ps) zero p h = ap (λ x. is_item x.reference (some q ∷ ps)) (sym (some_inj h)) ∙ self_item q ps
item_at (none ∷ ps) (suc j) p h = item_at ps j p h
item_at (some q ∷ ps) (suc j) p h = also_item q ps p.reference (item_at ps j p h)

-- a reference names one item
once : (p : Place) (ps : List (Option Place)) → distinct (some p ∷ ps) ≡ true → is_item p.reference ps ≡ false
once p ps d = not-true (is_item p.reference ps) (both_left (not (is_item p.reference ps)) (distinct ps) d)

distinct_rest : (p : Place) (ps : List (Option Place)) → distinct (some p ∷ ps) ≡ true → distinct ps ≡ true
distinct_rest p ps d = both_right (not (is_item p.reference ps)) (distinct ps) d

other : (p : Place) (ps : List (Option Place)) (r : ℕ) → distinct (some p ∷ ps) ≡ true → is_item r ps ≡ true → eqb r p.reference ≡ false
other p ps r d h = ne_eqb r p.reference (λ (e : r ≡ p.reference). false≢true (sym (once p ps d) ∙ ap (λ x. is_item x ps) (sym e) ∙ h))

value_none : (ps : List (Option Place)) (vs : List (Option Values)) (r : ℕ) → is_item r ps ≡ false → value_of r (named ps vs) ≡ none
unfolding value_of
value_none [] vs r h = refl
value_none (p ∷ ps) [] r h = refl
value_none (none ∷ ps) (none ∷ vs) r h = value_none ps vs r h
value_none (none ∷ ps) (some v ∷ vs) r h = value_none ps vs r h
value_none (some p ∷ ps) (none ∷ vs) r h =
    ⊎_elim (λ (e, g). absurd (true≢false g)) (λ (e, g). value_none ps vs r g) (if_inv (eqb r p.reference) true (is_item r ps) h)
value_none (some p ∷ ps) (some v ∷ vs) r h =
    ⊎_elim (λ (e, g). absurd (true≢false g)) (λ (e, g). if_false (some v) e (value_none ps vs r g)) (if_inv (eqb r p.reference) true (is_item r ps) h)

-- the value of the item at a place
value_at : (ps : List (Option Place)) (vs : List (Option Values)) (j : ℕ) (p : Place) → distinct ps ≡ true → get_or ps j none ≡ some p
    → value_of p.reference (named ps vs) ≡ get_or vs j none
unfolding value_of
value_at [] vs j p d h = none_some h
value_at (q ∷ ps) [] j p d h = refl
value_at (none ∷ ps) (v ∷ vs) zero p d h = none_some h
value_at (some q ∷ ps) (none ∷ vs) zero p d h = value_none ps vs p.reference (ap (λ x. is_item x.reference ps) (sym (some_inj h)) ∙ once q ps d)
value_at (some q ∷ ps) (some v ∷ vs) zero p d h =
    if_true (value_of p.reference (named ps vs)) (eq-eqb p.reference q.reference (ap (λ x. x.reference) (sym (some_inj h)))) refl
value_at (none ∷ ps) (none ∷ vs) (suc j) p d h = value_at ps vs j p d h
value_at (none ∷ ps) (some v ∷ vs) (suc j) p d h = value_at ps vs j p d h
value_at (some q ∷ ps) (none ∷ vs) (suc j) p d h = value_at ps vs j p (distinct_rest q ps d) h
value_at (some q ∷ ps) (some v ∷ vs) (suc j) p d h =
    if_false (some v) (other q ps p.reference d (item_at ps j p h)) (value_at ps vs j p (distinct_rest q ps d) h)

-- ---- what a message type may have

abbrev stands : List (Option Values) → List (Option Place) → Bool
stands vs ps = within (map present vs) (map present ps)

may_have : (ps : List (Option Place)) (vs : List (Option Values)) (rs : List ℕ) → stands vs ps ≡ true
    → all_in (references (named ps vs)) rs ≡ within (map present vs) (marks rs ps)
may_have [] [] rs h = refl
may_have [] (none ∷ vs) rs h = may_have [] vs rs h
may_have [] (some v ∷ vs) rs h = absurd (false≢true h)
may_have (p ∷ ps) [] rs h = refl
may_have (none ∷ ps) (none ∷ vs) rs h = may_have ps vs rs h
may_have (some p ∷ ps) (none ∷ vs) rs h = may_have ps vs rs h
may_have (none ∷ ps) (some v ∷ vs) rs h = absurd (false≢true h)
may_have (some p ∷ ps) (some v ∷ vs) rs h = ap (λ b. has p.reference rs && b) (may_have ps vs rs h)

-- ---- what a message type must have

iff : (a b : Bool) → (a ≡ true → b ≡ true) → (b ≡ true → a ≡ true) → a ≡ b
iff true b f g = sym (f refl)
iff false true f g = g refl
iff false false f g = refl

no_items : (ps : List (Option Place)) → named ps [] ≡ []
no_items [] = refl
no_items (p ∷ ps) = refl

named_item : (ps : List (Option Place)) (vs : List (Option Values)) (r : ℕ) → has r (references (named ps vs)) ≡ true → is_item r ps ≡ true
named_item [] vs r h = absurd (false≢true h)
named_item (p ∷ ps) [] r h = absurd (false≢true h)
named_item (none ∷ ps) (none ∷ vs) r h = named_item ps vs r h
named_item (none ∷ ps) (some v ∷ vs) r h = named_item ps vs r h
named_item (some p ∷ ps) (none ∷ vs) r h = also_item p ps r (named_item ps vs r h)
named_item (some p ∷ ps) (some v ∷ vs) r h =
    ⊎_elim (λ e. if_true (is_item r ps) e refl) (λ e. also_item p ps r (named_item ps vs r e)) (or_cases (eqb r p.reference) (has r (references (named ps vs))) h)

has_same : (r s : ℕ) (xs : List ℕ) → eqb r s ≡ true → has r xs ≡ has s xs
has_same r s xs e = ap (λ x. has x xs) (eqb-true r s e)

all_has : (xs ys : List ℕ) (r : ℕ) → all_in xs ys ≡ true → has r xs ≡ true → has r ys ≡ true
all_has [] ys r h k = absurd (false≢true k)
all_has (x ∷ xs) ys r h k =
    ⊎_elim
    (λ e. has_same r x ys e ∙ both_left (has x ys) (all_in xs ys) h)
    (λ e. all_has xs ys r (both_right (has x ys) (all_in xs ys) h) e)
    (or_cases (eqb r x) (has r xs) k)

-- every item that must be there is: the references that are there, of which those of the places still to come are among the items named
must_there : (ps : List (Option Place)) (vs : List (Option Values)) (xs rs : List ℕ) → distinct ps ≡ true
    → ((r : ℕ) → is_item r ps ≡ true → has r rs ≡ true → has r (references (named ps vs)) ≡ true)
    → all_in xs rs ≡ true → within (marks xs ps) (map present vs) ≡ true
must_there [] vs xs rs d f h = refl
must_there (none ∷ ps) [] xs rs d f h = must_there ps [] xs rs d (λ r i k. ap (λ l. has r (references l)) (no_items ps) ∙ f r i k) h
must_there (some p ∷ ps) [] xs rs d f h =
    go (has p.reference xs) refl
    (must_there ps [] xs rs (distinct_rest p ps d) (λ r i k. ap (λ l. has r (references l)) (no_items ps) ∙ f r (also_item p ps r i) k) h)
  where
    go : (t : Bool) → has p.reference xs ≡ t → within (marks xs ps) [] ≡ true → within (t ∷ marks xs ps) [] ≡ true
    go true e ih = absurd (false≢true (f p.reference (self_item p ps) (all_has xs rs p.reference h e)))
    go false e ih = ih
must_there (none ∷ ps) (none ∷ vs) xs rs d f h = must_there ps vs xs rs d f h
must_there (none ∷ ps) (some v ∷ vs) xs rs d f h = must_there ps vs xs rs d f h
must_there (some p ∷ ps) (none ∷ vs) xs rs d f h =
    go (has p.reference xs) refl (must_there ps vs xs rs (distinct_rest p ps d) (λ r i k. f r (also_item p ps r i) k) h)
  where
    go : (t : Bool) → has p.reference xs ≡ t → within (marks xs ps) (map present vs) ≡ true → within (t ∷ marks xs ps) (false ∷ map present vs) ≡ true
    go true e ih =
        absurd (false≢true (sym (once p ps d) ∙ named_item ps vs p.reference (f p.reference (self_item p ps) (all_has xs rs p.reference h e))))
    go false e ih = ih
must_there (some p ∷ ps) (some v ∷ vs) xs rs d f h = go (has p.reference xs) (must_there ps vs xs rs (distinct_rest p ps d) next h)
  where
    next : (r : ℕ) → is_item r ps ≡ true → has r rs ≡ true → has r (references (named ps vs)) ≡ true
    next r i k =
        ⊎_elim
        (λ e. absurd (false≢true (sym (other p ps r d i) ∙ e)))
        (λ e. e)
        (or_cases (eqb r p.reference) (has r (references (named ps vs))) (f r (also_item p ps r i) k))

    go : (t : Bool) → within (marks xs ps) (map present vs) ≡ true → within (t ∷ marks xs ps) (true ∷ map present vs) ≡ true
    go true e = e
    go false e = e

tail_within : (t u : Bool) (ts us : List Bool) → within (t ∷ ts) (u ∷ us) ≡ true → within ts us ≡ true
tail_within true u ts us h = both_right u (within ts us) h
tail_within false u ts us h = h

tail_within_none : (t : Bool) (ts : List Bool) → within (t ∷ ts) [] ≡ true → within ts [] ≡ true
tail_within_none true ts h = absurd (false≢true h)
tail_within_none false ts h = h

-- and back: an item that must be there is named
there_must : (ps : List (Option Place)) (vs : List (Option Values)) (xs : List ℕ) (r : ℕ) → has r xs ≡ true → is_item r ps ≡ true
    → within (marks xs ps) (map present vs) ≡ true → has r (references (named ps vs)) ≡ true
there_must [] vs xs r k i h = absurd (false≢true i)
there_must (none ∷ ps) [] xs r k i h = ap (λ l. has r (references l)) (sym (no_items ps)) ∙ there_must ps [] xs r k i h
there_must (some p ∷ ps) [] xs r k i h =
    ⊎_elim
    (λ (e, g). absurd (false≢true (ap (λ t. within (t ∷ marks xs ps) []) (sym k ∙ has_same r p.reference xs e) ∙ h)))
    (λ (e, g). ap (λ l. has r (references l)) (sym (no_items ps)) ∙ there_must ps [] xs r k g (tail_within_none (has p.reference xs) (marks xs ps) h))
    (if_inv (eqb r p.reference) true (is_item r ps) i)
there_must (none ∷ ps) (none ∷ vs) xs r k i h = there_must ps vs xs r k i h
there_must (none ∷ ps) (some v ∷ vs) xs r k i h = there_must ps vs xs r k i h
there_must (some p ∷ ps) (none ∷ vs) xs r k i h =
    ⊎_elim
    (λ (e, g). absurd (false≢true (ap (λ t. within (t ∷ marks xs ps) (false ∷ map present vs)) (sym k ∙ has_same r p.reference xs e) ∙ h)))
    (λ (e, g). there_must ps vs xs r k g (tail_within (has p.reference xs) false (marks xs ps) (map present vs) h))
    (if_inv (eqb r p.reference) true (is_item r ps) i)
there_must (some p ∷ ps) (some v ∷ vs) xs r k i h =
    ⊎_elim
    (λ (e, g). or_left (eqb r p.reference) (has r (references (named ps vs))) e)
    (λ (e, g). or_right (eqb r p.reference) (has r (references (named ps vs))) (there_must ps vs xs r k g (tail_within (has p.reference xs) true (marks xs ps) (map present vs) h)))
    (if_inv (eqb r p.reference) true (is_item r ps) i)

-- every reference of a list is an item
abbrev all_items : List (Option Place) → List ℕ → Bool
all_items ps [] = true
all_items ps (r ∷ rs) = is_item r ps && all_items ps rs

all_there : (ps : List (Option Place)) (vs : List (Option Values)) (xs ys : List ℕ) → all_items ps ys ≡ true → ((r : ℕ) → has r ys ≡ true → has r xs ≡ true)
    → within (marks xs ps) (map present vs) ≡ true → all_in ys (references (named ps vs)) ≡ true
all_there ps vs xs [] i f h = refl
all_there ps vs xs (y ∷ ys) i f h =
    ap₂ ◌&&◌
    (there_must ps vs xs y (f y (or_left (eqb y y) (has y ys) (eq-eqb y y refl))) (both_left (is_item y ps) (all_items ps ys) i) h)
    (all_there ps vs xs ys (both_right (is_item y ps) (all_items ps ys) i) (λ r k. f r (or_right (eqb r y) (has r ys) k)) h)

must_have : (ps : List (Option Place)) (vs : List (Option Values)) (xs : List ℕ) → distinct ps ≡ true → all_items ps xs ≡ true
    → all_in xs (references (named ps vs)) ≡ within (marks xs ps) (map present vs)
must_have ps vs xs d i =
    iff (all_in xs (references (named ps vs))) (within (marks xs ps) (map present vs))
    (λ h. must_there ps vs xs (references (named ps vs)) d (λ r j k. k) h)
    (λ h. all_there ps vs xs xs i (λ r k. k) h)

-- what a message type must have are items of the profile
abbrev all_messages : List (Option Place) → List Message → Bool
all_messages ps [] = true
all_messages ps (m ∷ ms) = all_items ps m.compulsory && all_messages ps ms

tables_messages : every_category (λ c. all_messages (places c) c.messages) categories ≡ true
unfolding categories when◌then◌else◌
tables_messages = refl

message_items : (ps : List (Option Place)) (ms : List Message) (t : ℕ) (m : Message) → all_messages ps ms ≡ true → message_of t ms ≡ ok m → all_items ps m.compulsory ≡ true
unfolding message_of
message_items ps [] t m h e = refused_ok e
message_items ps (k ∷ ms) t m h e =
    ⊎_elim
    (λ (_, g). subst (λ x. all_items ps x.compulsory ≡ true) (ok_inj g) (both_left (all_items ps k.compulsory) (all_messages ps ms) h))
    (λ (_, g). message_items ps ms t m (both_right (all_items ps k.compulsory) (all_messages ps ms) h) g)
    (if_inv (eqb t k.type) (ok k) (message_of t ms) e)

-- ---- the law

marks_length : (rs : List ℕ) (ps : List (Option Place)) → length (marks rs ps) ≡ length ps
marks_length rs [] = refl
marks_length rs (none ∷ ps) = ap suc (marks_length rs ps)
marks_length rs (some p ∷ ps) = ap suc (marks_length rs ps)

over_flag : (ts : List Bool) (n j : ℕ) → length ts ≤ n → get_or (over ts (replicate n false)) j false ≡ get_or ts j false
over_flag [] zero j h = refl
over_flag [] (suc n) zero h = refl
over_flag [] (suc n) (suc j) h = over_flag [] n j (omega arith)
over_flag (t ∷ ts) zero j h = absurd (omega arith)
over_flag (t ∷ ts) (suc n) zero h = refl
over_flag (t ∷ ts) (suc n) (suc j) h = over_flag ts n j (omega arith)

two_tests : {A : Type 0} (a b : Bool) (x : A)
    → (need a or 14 then need b or 15 then ok x) ≡ ((need a or 14 then need b or 15 then ok tt) >>= (λ (u : Unit {0}). ok x))
unfolding need◌or◌then◌ ◌>>=◌
two_tests true true x = refl
two_tests true false x = refl
two_tests false b x = refl

module _ (i : ℕ) (r : Record) (kind : ℕ) (t : TypePlace i) (stand : stands (flatten r) (places (category_at i)) ≡ true) (long : length (flatten r) ≤ 63)
    (type : (v : Values) → get_or (flatten r) t.index none ≡ some v → type_of (some v) ≡ ok kind) where
  few : length (map present (flatten r)) ≤ 63
  few = let e : length (map present (flatten r)) ≡ length (flatten r) = length-map (flatten r) present in omega arith

  marks_few : (rs : List ℕ) → length (marks rs (places (category_at i))) ≤ 63
  marks_few rs = omega (arith, marks_length rs (places (category_at i)), places_few i)

  pad : (ts us : List Bool) → length ts ≤ 63 → length us ≤ 63 → within (flags 64 (bits_of ts)) (flags 64 (bits_of us)) ≡ within ts us
  pad ts us h k = ap₂ within (bits_flags ts) (bits_flags us) ∙ within_pad 64 (false ∷ ts) (false ∷ us) (omega arith) (omega arith)

  type_flag : get_or (flags 64 (bits_of (map present (flatten r)))) (type_frn i) false ≡ present (get_or (flatten r) t.index none)
  type_flag =
      ap₂ (λ l k. get_or l k false) (bits_flags (map present (flatten r))) t.frn
      ∙ over_flag (map present (flatten r)) 63 t.index few
      ∙ get_or-map present (flatten r) t.index none

  type_value : value_of 0 (items (category_at i) r) ≡ get_or (flatten r) t.index none
  type_value = value_at (places (category_at i)) (flatten r) t.index _ (places_distinct i) t.place

  each_row : (m : Message) → message_of kind (category_at i).messages ≡ ok m
      → (need all_in m.compulsory (references (items (category_at i) r)) or 14 then
      need all_in (references (items (category_at i) r)) (m.compulsory ++ m.optional) or 15 then ok r)
      ≡ (judge_row (bits_of (map present (flatten r))) (mark_bits i m.compulsory, mark_bits i (m.compulsory ++ m.optional)) >>= (λ u. ok r))
  each_row m e =
      ap₂ (λ a b. need a or 14 then need b or 15 then ok r)
      (must_have (places (category_at i)) (flatten r) m.compulsory (places_distinct i)
      (message_items (places (category_at i)) (category_at i).messages kind m (category_test (λ c. all_messages (places c) c.messages) tables_messages refl i) e)
      ∙ sym (pad (marks m.compulsory (places (category_at i))) (map present (flatten r)) (marks_few m.compulsory) few))
      (may_have (places (category_at i)) (flatten r) (m.compulsory ++ m.optional) stand
      ∙ sym (pad (map present (flatten r)) (marks (m.compulsory ++ m.optional) (places (category_at i))) few (marks_few (m.compulsory ++ m.optional))))
      ∙ two_tests _ _ r

  -- what the rules do with a type
  abbrev judge_type : ℕ → Answer Record
  judge_type k =
      message_of k (category_at i).messages >>= (λ m.
      need all_in m.compulsory (references (items (category_at i) r)) or 14 then
      need all_in (references (items (category_at i) r)) (m.compulsory ++ m.optional) or 15 then ok r)

  typed : judge_type kind ≡ ((row_at i kind >>= judge_row (bits_of (map present (flatten r)))) >>= (λ u. ok r))
  unfolding row_at ◌>>=◌
  typed =
      bind_same (message_of kind (category_at i).messages) _ _ each_row
      ∙ sym (ap (λ z. z >>= (λ u. ok r)) (bind_assoc (message_of kind (category_at i).messages) _ _) ∙ bind_assoc (message_of kind (category_at i).messages) _ _)

  by_type : (x : Option Values) → get_or (flatten r) t.index none ≡ x
      → (type_of x >>= judge_type) ≡ ((need present x or 12 then (row_at i kind >>= judge_row (bits_of (map present (flatten r))))) >>= (λ u. ok r))
  by_type none e = unfold type_of need◌or◌then◌ ◌>>=◌ in refl
  by_type (some v) e = bind_in judge_type (type v e) (typed ∙ sym (need_bind true 12 _ _ ∙ need_in true 12 tt refl))

  pub judge_law : judge (category_at i) r ≡ (judge_set i (bits_of (map present (flatten r))) kind >>= (λ u. ok r))
  unfolding judge judge_set
  judge_law =
      ap (λ x. type_of x >>= judge_type) type_value
      ∙ by_type (get_or (flatten r) t.index none) refl
      ∙ ap (λ b. (need b or 12 then (row_at i kind >>= judge_row (bits_of (map present (flatten r))))) >>= (λ u. ok r)) (sym type_flag)

-- ---- the steps of the judgement: f is the message type item's FRN, t whether it is there

module _ (i bits kind f : ℕ) {t : Bool} (is : f ≡ type_frn i) (e : t ≡ get_or (flags 64 bits) f false) where
  pub judge_typeless : not t ≡ true → refused 12 0 ≡ judge_set i bits kind
  unfolding judge_set need◌or◌then◌
  judge_typeless n = rw (← is, ← e, not-true t n)

  judge_typed : not t ≡ false → judge_set i bits kind ≡ (row_at i kind >>= judge_row bits)
  unfolding judge_set need◌or◌then◌
  judge_typed n = rw (← is, ← e, not-false t n)

  pub judge_unknown : not t ≡ false → row_at i kind ≡ refused 13 0 → refused 13 0 ≡ judge_set i bits kind
  judge_unknown n h = sym (judge_typed n ∙ bind_out (judge_row bits) h)

  module _ {must may : ℕ} {a : Bool} (n : not t ≡ false) (h : row_at i kind ≡ ok (must, may)) (g : a ≡ within (flags 64 must) (flags 64 bits)) where
    judge_known : judge_set i bits kind ≡ (need a or 14 then need within (flags 64 bits) (flags 64 may) or 15 then ok tt)
    judge_known = judge_typed n ∙ bind_in (judge_row bits) h (ap (λ b. need b or 14 then need within (flags 64 bits) (flags 64 may) or 15 then ok tt) (sym g))

    pub judge_lacks : not a ≡ true → refused 14 0 ≡ judge_set i bits kind
    unfolding need◌or◌then◌
    judge_lacks m = rw (judge_known, not-true a m)

    module _ {b : Bool} (m : not a ≡ false) (k : b ≡ within (flags 64 bits) (flags 64 may)) where
      pub judge_unsent : not b ≡ true → refused 15 0 ≡ judge_set i bits kind
      unfolding need◌or◌then◌
      judge_unsent l = rw (judge_known, not-false a m, ← k, not-true b l)

      pub judge_right : not b ≡ false → ok tt ≡ judge_set i bits kind
      unfolding need◌or◌then◌
      judge_right l = rw (judge_known, not-false a m, ← k, not-false b l)
