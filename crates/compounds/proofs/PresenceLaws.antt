-- Primary octets as the code reads them, one after another, are the rules' presence octets.
--
-- In order: rows of the table; presence octets one after another; the bits that they set. Assumes nothing.
use Prim.Native.Nat.{ℕ, zero, suc, ◌+◌, ◌-◌, ◌*◌, ◌/◌, ◌%◌, ◌^◌, ◌≤◌, ◌<◌}
use mathlib.Core.Path.{◌≡◌, refl, sym, ap, ap₂, ◌∙◌, subst}
use mathlib.Core.Logic.{⊎_elim}
use mathlib.Core.Bool.{Bool, true, false, ◌&&◌, false≢true}
use mathlib.Core.Option.{Option}
use mathlib.Core.List.{List, [], ◌∷◌, ◌++◌, map}
use native.Mathlib.Omega.{arith}
use lib.Dec.{T, eqb, ltb}
use lib.ListN.{length, drop, replicate, length-append, length-replicate}
use borrow.Author.Tests.{le-leb, lt-ltb}
use Rattle.rules.specs.Answer.{Answer, ok, refused, ◌>>=◌, need◌or◌then◌, when◌then◌else◌}
use Rattle.rules.specs.Catalogue.{categories}
use Rattle.rules.specs.Chain.{joined, read_num, read_chain}
use Rattle.rules.specs.Format.{Format}
use Rattle.rules.specs.Presence.{flags, number, present, usable, house, flag_rows, read_presence}
use Rattle.rules.proofs.AnswerLaws.{Octets, Only, only_bind, only_need, only_if, This, ok_inj, refused_ok, bind_in, bind_out, bind_elim, bind_same, bind_assoc, need_elim, if_inv, both_left, both_right}
use Rattle.rules.proofs.PresenceLaws.{number_append, flags_length, flags_number, number_flags}
use Rattle.tables.specs.Tests.{all_below, within}
use Rattle.tables.specs.Tables.{fields, groups, layouts, group_at, layout_at, primaries, primaries_in, primary_at, primary_count, subfields_in, subfield_at, format_by, format_is, bits_is, primaries_is}
use Rattle.tables.proofs.TableLaws.{all_below_lem, usable_within}
use Rattle.compounds.specs.Compound.{Bits, known, last_of, before_of, primary}

-- ---- rows of the table

abbrev same : Bool → Bool → Bool
same true u = u
same false true = false
same false false = true

same_is : (a b : Bool) → same a b ≡ true → a ≡ b
same_is true b h = sym h
same_is false true h = absurd (false≢true h)
same_is false false h = refl

abbrev same_flags : List Bool → List Bool → Bool
same_flags [] [] = true
same_flags [] (u ∷ us) = false
same_flags (t ∷ ts) [] = false
same_flags (t ∷ ts) (u ∷ us) = same t u && same_flags ts us

flags_are : (ts us : List Bool) → same_flags ts us ≡ true → ts ≡ us
flags_are [] [] h = refl
flags_are [] (u ∷ us) h = absurd (false≢true h)
flags_are (t ∷ ts) [] h = absurd (false≢true h)
flags_are (t ∷ ts) (u ∷ us) h = ap₂ ◌∷◌ (same_is t u (both_left (same t u) (same_flags ts us) h)) (flags_are ts us (both_right (same t u) (same_flags ts us) h))

-- the bits of a primary octet that have a subfield are those of its row
row_flags_lem : (row : ℕ) → row < primary_count → map present (bits_is 7 (7 * row)) ≡ flags 7 (primary_at row / 2)
unfolding flags number primary_at primaries_in primaries subfield_at subfields_in format_is format_by layout_at group_at fields groups layouts categories
row_flags_lem row h = flags_are _ _ (all_below_lem primary_count (λ r. same_flags (map present (bits_is 7 (7 * r))) (flags 7 (primary_at r / 2))) row refl h)

-- whether each of seven bits has one, by their numbers
known_flags : (row n : ℕ) → row < primary_count → n < 128 → known row n ≡ within (flags 7 n) (flags 7 (primary_at row / 2))
unfolding flags number primary_at primaries_in primaries layouts categories
known_flags row n h k =
    same_is _ _
    (all_below_lem 128 (λ m. same (known row m) (within (flags 7 m) (flags 7 (primary_at row / 2)))) n
    (all_below_lem primary_count (λ r. all_below 128 (λ m. same (known r m) (within (flags 7 m) (flags 7 (primary_at r / 2))))) row refl h) k)

known_usable : (row n : ℕ) → row < primary_count → n < 128 → known row n ≡ usable (bits_is 7 (7 * row)) (flags 7 n)
known_usable row n h k =
    known_flags row n h k ∙ ap (within (flags 7 n)) (sym (row_flags_lem row h)) ∙ sym (usable_within (bits_is 7 (7 * row)) (flags 7 n) (flags_length 7 n))

-- ---- presence octets one after another

abbrev pub Sevens : List (List (Option Format)) → Type 0
Sevens [] = Unit {0}
Sevens (p ∷ ps) = (length p ≡ 7) × Sevens ps

-- the flags of each octet, and the octets after them
abbrev pub Came : Type 0
Came = List (List Bool) × List ℕ

-- one octet before those that came
abbrev pub before_row : List (Option Format) → ℕ → Came → Answer Came
before_row p n y = need usable p (flags 7 n) or 8 then ok (flags 7 n ∷ y.0, y.1)

unfoldable pub in_turn : List (List (Option Format)) → List ℕ → Answer Came
in_turn [] bs = refused 6 0
in_turn (p ∷ ps) [] = refused 9 0
in_turn (p ∷ ps) (x ∷ bs) =
    when eqb (x % 2) 0
    then need ltb 0 (x / 2) or 7 then before_row p (x / 2) ([], bs)
    else in_turn ps bs >>= before_row p (x / 2)

read_one_lem : (cut x : ℕ) (bs : List ℕ) → read_num cut 1 (x ∷ bs) ≡ ok (x, bs)
unfolding read_num joined need◌or◌then◌
read_one_lem cut x bs = let e : x * 1 + 0 ≡ x = omega arith in rw (le-leb 1 (suc (length bs)) (omega arith)) (ap (λ n. ok (n, bs)) e)

chain_some : (cut past : ℕ) (ks bs : List ℕ) (y : List ℕ × List ℕ) → read_chain cut past ks bs ≡ ok y → 0 < length y.0
unfolding read_chain
chain_some cut past [] bs y h = refused_ok h
chain_some cut past (k ∷ ks) bs y h =
    bind_elim _ _ h λ x p g.
    ⊎_elim
    (λ (_, e). subst (λ z. 0 < length z.0) (ok_inj e) (omega arith))
    (λ (_, e). bind_elim _ _ e λ z q e₁. subst (λ z. 0 < length z.0) (ok_inj e₁) (omega arith))
    (if_inv _ _ _ g)

rows_eight : (ps : List (List (Option Format))) (ns : List ℕ) → Only (This 8) (flag_rows ps ns)
unfolding flag_rows
rows_eight ps [] = tt
rows_eight [] (n ∷ ns) = (refl, refl)
rows_eight (p ∷ ps) (n ∷ ns) = only_need (This 8) _ _ _ (refl, refl) (only_need (This 8) _ _ _ (refl, refl) (only_bind (This 8) _ _ (rows_eight ps ns) λ ts. tt))

abbrev with_rest : List ℕ → List (List Bool) → Answer Came
with_rest rest ts = ok (ts, rest)

-- the rule, once the octets are chained
abbrev chained : List (List (Option Format)) → List ℕ × List ℕ → Answer Came
chained ps y = (need house y.0 or 7 then flag_rows ps y.0) >>= with_rest y.1

abbrev ones : List (List (Option Format)) → List ℕ
ones ps = map (λ p. 1) ps

-- one octet before others: their house rule, its own bits, theirs
step : (p : List (Option Format)) (ps : List (List (Option Format))) (n : ℕ) (ns rest : List ℕ) → length p ≡ 7 → n < 128 → 0 < length ns
    → chained (p ∷ ps) (n ∷ ns, rest) ≡ (chained ps (ns, rest) >>= before_row p n)
unfolding house flag_rows need◌or◌then◌ ◌>>=◌
step p ps n [] rest l small h = absurd (omega arith)
step p ps n (m ∷ ns) rest l small h = rw (l, lt-ltb n 128 small) (go (house (m ∷ ns)) (usable p (flags 7 n)) (flag_rows ps (m ∷ ns)) (rows_eight ps (m ∷ ns)))
  where
    go : (h u : Bool) (f : Answer (List (List Bool))) → Only (This 8) f
        → ((need h or 7 then need u or 8 then (f >>= (λ ts. ok (flags 7 n ∷ ts)))) >>= with_rest rest)
        ≡ (((need h or 7 then f) >>= with_rest rest) >>= (λ (y : Came). need u or 8 then ok (flags 7 n ∷ y.0, y.1)))
    go true true (ok ts) o = refl
    go true true (refused a b) o = refl
    go true false (ok ts) o = refl
    go true false (refused a b) o = sym (ap₂ refused o.0 o.1)
    go false u f o = refl

-- the last octet
last : (p : List (Option Format)) (ps : List (List (Option Format))) (n : ℕ) (rest : List ℕ) → length p ≡ 7 → n < 128
    → chained (p ∷ ps) (n ∷ [], rest) ≡ (need ltb 0 n or 7 then before_row p n ([], rest))
unfolding house flag_rows need◌or◌then◌ ◌>>=◌
last p ps n rest l small = rw (l, lt-ltb n 128 small) (go (ltb 0 n) (usable p (flags 7 n)))
  where
    go : (h u : Bool) → ((need h or 7 then need u or 8 then (◌>>=◌ {A = List (List Bool)} (ok []) (λ ts. ok (flags 7 n ∷ ts)))) >>= with_rest rest)
        ≡ (need h or 7 then need◌or◌then◌ {A = Came} u 8 (ok (flags 7 n ∷ [], rest)))
    go true true = refl
    go true false = refl
    go false u = refl

chain_one : (p : List (Option Format)) (ps : List (List (Option Format))) (x : ℕ) (bs : List ℕ)
    → read_chain 9 6 (ones (p ∷ ps)) (x ∷ bs) ≡ (when eqb (x % 2) 0 then ok (x / 2 ∷ [], bs) else (read_chain 9 6 (ones ps) bs >>= (λ y. ok (x / 2 ∷ y.0, y.1))))
unfolding read_chain
chain_one p ps x bs = bind_in _ (read_one_lem 9 x bs) refl

pub presence_in_turn : (ps : List (List (Option Format))) (bs : List ℕ) → Sevens ps → Octets bs → read_presence 9 ps bs ≡ in_turn ps bs
unfolding read_presence in_turn
presence_in_turn [] bs s o = unfold read_chain ◌>>=◌ in refl
presence_in_turn (p ∷ ps) [] s o = unfold read_chain read_num need◌or◌then◌ ◌>>=◌ in refl
presence_in_turn (p ∷ ps) (x ∷ bs) s o = ap (λ m. m >>= chained (p ∷ ps)) (chain_one p ps x bs) ∙ go (eqb (x % 2) 0) (presence_in_turn ps bs s.1 o.1)
  where
    small : x / 2 < 128
    small = omega (arith, o.0)

    go : (t : Bool) → (read_chain 9 6 (ones ps) bs >>= chained ps) ≡ in_turn ps bs
        → ((when t then ok (x / 2 ∷ [], bs) else (read_chain 9 6 (ones ps) bs >>= (λ y. ok (x / 2 ∷ y.0, y.1)))) >>= chained (p ∷ ps))
        ≡ (when t then (need ltb 0 (x / 2) or 7 then before_row p (x / 2) ([], bs)) else (in_turn ps bs >>= before_row p (x / 2)))
    go true ih = unfold when◌then◌else◌ in (bind_in (chained (p ∷ ps)) refl (last p ps (x / 2) bs s.0 small))
    go false ih =
        unfold when◌then◌else◌ in
        (bind_assoc (read_chain 9 6 (ones ps) bs) _ _
        ∙ bind_same (read_chain 9 6 (ones ps) bs) _ _ (λ y e. bind_in _ refl (step p ps (x / 2) y.0 y.1 s.0 small (chain_some 9 6 (ones ps) bs y e)))
        ∙ sym (bind_assoc (read_chain 9 6 (ones ps) bs) _ _) ∙ ap (λ m. m >>= before_row p (x / 2)) ih)

-- ---- the bits that they set

-- seven flags for each printed octet, none of those that are not there
abbrev pub padded : ℕ → List (List Bool) → List Bool
padded zero ts = []
padded (suc n) [] = replicate 7 false ++ padded n []
padded (suc n) (t ∷ ts) = t ++ padded n ts

-- no more octets than are printed, each of seven flags
abbrev pub Few : ℕ → List (List Bool) → Type 0
Few n [] = Unit {0}
Few zero (t ∷ ts) = ⊥
Few (suc n) (t ∷ ts) = (length t ≡ 7) × Few n ts

padded_long : (n : ℕ) (ts : List (List Bool)) → Few n ts → length (padded n ts) ≡ 7 * n
padded_long zero [] f = refl
padded_long zero (t ∷ ts) f = absurd f
padded_long (suc n) [] f = omega (arith, length-append (replicate 7 false) (padded n []), length-replicate 7 false, padded_long n [] tt)
padded_long (suc n) (t ∷ ts) f = omega (arith, length-append t (padded n ts), f.0, padded_long n ts f.1)

pub padded_flags : (n : ℕ) (ts : List (List Bool)) → Few n ts → flags (7 * n) (number (padded n ts)) ≡ padded n ts
padded_flags n ts f = ap (λ k. flags k (number (padded n ts))) (sym (padded_long n ts f)) ∙ flags_number (padded n ts)

none_set : (n : ℕ) → number (padded n []) ≡ 0
unfolding number
none_set zero = refl
none_set (suc n) = none_set n

-- what is told of octets: the bits, and how many there are
abbrev pub bits_of : ℕ → List ℕ → Came → Answer Bits
bits_of n bs y = ok (number (padded n y.0), length bs - length y.1)

pub sevens_rows : (n row : ℕ) → Sevens (primaries_is n row)
sevens_rows zero row = tt
sevens_rows (suc n) row = (refl, sevens_rows n (row + 1))

-- every flag that is set has a subfield
abbrev pub RowsUsable : List (List (Option Format)) → List (List Bool) → Type 0
RowsUsable ps [] = Unit {0}
RowsUsable [] (t ∷ ts) = ⊥
RowsUsable (p ∷ ps) (t ∷ ts) = T (usable p t) × RowsUsable ps ts

-- what came of them
pub record CameOf (n row : ℕ) (bs : List ℕ) (y : Came) : Type 0 where
  pub few : Few n y.0
  pub named : RowsUsable (primaries_is n row) y.0
  pub count : length bs ≡ length y.0 + length y.1
  pub after : drop (length y.0) bs ≡ y.1

pub came_of_lem : (n row : ℕ) (bs : List ℕ) (y : Came) → in_turn (primaries_is n row) bs ≡ ok y → CameOf n row bs y
unfolding in_turn
came_of_lem zero row bs y h = refused_ok h
came_of_lem (suc n) row [] y h = refused_ok h
came_of_lem (suc n) row (x ∷ bs) y h =
    ⊎_elim
    (λ (_, g).
    need_elim _ 7 _ g λ t g₁.
    need_elim _ 8 _ g₁ λ u g₂.
    subst (CameOf (suc n) row (x ∷ bs)) (ok_inj g₂) (record { few = (flags_length 7 (x / 2), tt); named = (u, tt); count = omega arith; after = refl }))
    (λ (_, g).
    bind_elim _ _ g λ z p g₁.
    need_elim _ 8 _ g₁ λ u g₂.
    let c : CameOf n (row + 1) bs z = came_of_lem n (row + 1) bs z p in
    subst (CameOf (suc n) row (x ∷ bs)) (ok_inj g₂) (record { few = (flags_length 7 (x / 2), c.few); named = (u, c.named); count = omega (arith, c.count); after = c.after }))
    (if_inv _ _ _ h)

-- every refusal of theirs is at the start
pub turn_first : (ps : List (List (Option Format))) (bs : List ℕ) → Only (λ n p. p ≡ 0) (in_turn ps bs)
unfolding in_turn
turn_first [] bs = refl
turn_first (p ∷ ps) [] = refl
turn_first (p ∷ ps) (x ∷ bs) =
    only_if (λ n p. p ≡ 0) (eqb (x % 2) 0) _ _ (only_need (λ n p. p ≡ 0) _ _ _ refl (only_need (λ n p. p ≡ 0) _ _ _ refl tt))
    (only_bind (λ n p. p ≡ 0) _ _ (turn_first ps bs) λ y. only_need (λ n p. p ≡ 0) _ _ _ refl tt)

-- one octet before others, by its number
raise : (n x : ℕ) (ts : List (List Bool)) → x < 128 → Few n ts → number (flags 7 x ++ padded n ts) ≡ x * 2 ^ (7 * n) + number (padded n ts)
raise n x ts h f = number_append (flags 7 x) (padded n ts) ∙ ap₂ (λ a b. a * 2 ^ b + number (padded n ts)) (number_flags 7 x h) (padded_long n ts f)

-- PRIMARY OCTETS: the code's reading is the rule's
pub primary_in_turn : (n row : ℕ) (bs : List ℕ) → row + n ≤ primary_count → Octets bs → (in_turn (primaries_is n row) bs >>= bits_of n bs) ≡ primary row n bs
unfolding in_turn primary last_of before_of
primary_in_turn zero row bs h o = bind_out _ refl
primary_in_turn (suc n) row [] h o = bind_out _ refl
primary_in_turn (suc n) row (x ∷ bs) h o = go (eqb (x % 2) 0) (primary_in_turn n (row + 1) bs (omega arith) o.1) (came_of_lem n (row + 1) bs)
  where
    small : x / 2 < 128
    small = omega (arith, o.0)

    u : usable (bits_is 7 (7 * row)) (flags 7 (x / 2)) ≡ known row (x / 2)
    u = sym (known_usable row (x / 2) (omega arith) small)

    one : (t k : Bool) → ((need t or 7 then need◌or◌then◌ {A = Came} k 8 (ok (flags 7 (x / 2) ∷ [], bs))) >>= bits_of (suc n) (x ∷ bs)) ≡ (need t or 7 then need◌or◌then◌ {A = Bits} k 8 (ok (x / 2 * 2 ^ (7 * n), 1)))
    one true true = unfold need◌or◌then◌ ◌>>=◌ in (ap₂ (λ a b. ok (a, b)) (raise n (x / 2) [] small tt ∙ omega (arith, none_set n)) (omega arith))
    one true false = unfold need◌or◌then◌ ◌>>=◌ in refl
    one false k = unfold need◌or◌then◌ ◌>>=◌ in refl

    more : (k : Bool) (m : Answer Came) → ((y : Came) → m ≡ ok y → CameOf n (row + 1) bs y)
        → ((m >>= (λ (y : Came). need◌or◌then◌ {A = Came} k 8 (ok (flags 7 (x / 2) ∷ y.0, y.1)))) >>= bits_of (suc n) (x ∷ bs))
        ≡ ((m >>= bits_of n bs) >>= (λ (b : Bits). need◌or◌then◌ {A = Bits} k 8 (ok (x / 2 * 2 ^ (7 * n) + b.0, b.1 + 1))))
    more true (ok y) c =
        unfold need◌or◌then◌ ◌>>=◌ in
        (ap₂ (λ a b. ok (a, b)) (raise n (x / 2) y.0 small (c y refl).few) (omega (arith, (c y refl).count)))
    more false (ok y) c = unfold need◌or◌then◌ ◌>>=◌ in refl
    more k (refused a b) c = unfold need◌or◌then◌ ◌>>=◌ in refl

    go : (t : Bool) → (in_turn (primaries_is n (row + 1)) bs >>= bits_of n bs) ≡ primary (row + 1) n bs → ((y : Came) → in_turn (primaries_is n (row + 1)) bs ≡ ok y → CameOf n (row + 1) bs y)
        → ((when t then (need ltb 0 (x / 2) or 7 then before_row (bits_is 7 (7 * row)) (x / 2) ([], bs)) else (in_turn (primaries_is n (row + 1)) bs >>= before_row (bits_is 7 (7 * row)) (x / 2))) >>= bits_of (suc n) (x ∷ bs))
        ≡ (when t then (need ltb 0 (x / 2) or 7 then need known row (x / 2) or 8 then ok (x / 2 * 2 ^ (7 * n), 1)) else (primary (row + 1) n bs >>= (λ b. need known row (x / 2) or 8 then ok (x / 2 * 2 ^ (7 * n) + b.0, b.1 + 1))))
    go true ih c = unfold when◌then◌else◌ in (one (ltb 0 (x / 2)) (usable (bits_is 7 (7 * row)) (flags 7 (x / 2))) ∙ ap (λ k. need ltb 0 (x / 2) or 7 then need◌or◌then◌ {A = Bits} k 8 (ok (x / 2 * 2 ^ (7 * n), 1))) u)
    go false ih c =
        unfold when◌then◌else◌ in
        (more (usable (bits_is 7 (7 * row)) (flags 7 (x / 2))) (in_turn (primaries_is n (row + 1)) bs) c
        ∙ ap (λ k. (in_turn (primaries_is n (row + 1)) bs >>= bits_of n bs) >>= (λ (b : Bits). need◌or◌then◌ {A = Bits} k 8 (ok (x / 2 * 2 ^ (7 * n) + b.0, b.1 + 1)))) u
        ∙ ap (λ m. m >>= (λ (b : Bits). need◌or◌then◌ {A = Bits} (known row (x / 2)) 8 (ok (x / 2 * 2 ^ (7 * n) + b.0, b.1 + 1)))) ih)
