-- The items of a set, once they are read: what the walk over them comes to, and what the message type asks of them. For a record that is read and
-- for one that is to be added. Assumes nothing.
use Prim.Native.Nat.{ℕ, ◌+◌, ◌≤◌}
use mathlib.Core.Path.{◌≡◌, refl, sym, ap, ◌∙◌}
use mathlib.Core.Bool.{Bool, true}
use mathlib.Core.List.{List, [], ◌∷◌, ◌++◌, map}
use native.Mathlib.Omega.{arith}
use lib.ListN.{length, length-append, length-map}
use Rattle.rules.specs.Answer.{ok, refused, ◌>>=◌}
use Rattle.rules.specs.Chain.{flatten}
use Rattle.rules.specs.Presence.{flags, present, read_rows, write_rows}
use Rattle.rules.specs.Record.{Record, places, judge, read_place, write_place}
use Rattle.rules.proofs.AnswerLaws.{bind_in, bind_out, later_in, later_out, Octets, Split}
use Rattle.rules.proofs.PresenceLaws.{rows_forth}
use Rattle.rules.proofs.RecordLaws.{place_laws}
use Rattle.rules.proofs.EntryLaws.{item_octets, Written, rows_written}
use Rattle.sets.specs.Sets.{category_at, bits_of, within}
use Rattle.sets.specs.Steps.{judge_set}
use Rattle.sets.proofs.ProfileLaws.{places_few, TypePlace}
use Rattle.sets.proofs.SetLaws.{map_append}
use Rattle.sets.proofs.JudgeLaws.{judge_law}
use Rattle.sets.proofs.UsableLaws.{RowsUsable, rows_within, rows_few}
use Rattle.records.specs.Walk.{Came, walk, start_at}
use Rattle.records.proofs.CameLaws.{comes, comes_here, kind_law}
use Rattle.records.proofs.RowLaws.{items_law}

map_flatten : {A B : Type 0} (f : A → B) (xs : List (List A)) → map f (flatten xs) ≡ flatten (map (map f) xs)
map_flatten f [] = refl
map_flatten f (x ∷ xs) = map_append f x (flatten xs) ∙ ap (λ l. map f x ++ l) (map_flatten f xs)

-- what the walk over a record's items comes to, which start at a place; and their octets
abbrev pub came_to : ℕ → ℕ → Record → Came
came_to i at r = comes i 1 (places (category_at i)) (flatten r) (start_at at)

abbrev pub octets_in : ℕ → Record → List ℕ
octets_in i r = item_octets (places (category_at i)) (flatten r)

module _ (i at : ℕ) (ts : List (List Bool)) (bs : List ℕ) (u : RowsUsable (category_at i).profile ts) (o : Octets bs) where
  pub walk_refused : (n p : ℕ) → read_rows read_place (category_at i).profile ts bs ≡ refused n p → walk i (flags 63 (bits_of (flatten ts))) 1 bs (start_at at) ≡ refused n (at + p)
  walk_refused n p g = items_law i ts bs at u o ∙ bind_out _ (later_out at g)

  module _ (r : Record) (rest : List ℕ) (g : read_rows read_place (category_at i).profile ts bs ≡ ok (r, rest)) where
    pub walk_came : walk i (flags 63 (bits_of (flatten ts))) 1 bs (start_at at) ≡ ok (came_to i at r)
    walk_came = items_law i ts bs at u o ∙ bind_in _ (later_in at g) refl

    flagged : map (map present) r ≡ ts
    flagged = (rows_forth place_laws (category_at i).profile ts r bs rest o g).1

    pub rows_count : length r ≡ length ts
    rows_count = sym (length-map r (map present)) ∙ ap length flagged

    flags_are : map present (flatten r) ≡ flatten ts
    flags_are = map_flatten present r ∙ ap flatten flagged

    pub stands : within (map present (flatten r)) (map present (places (category_at i))) ≡ true
    stands = ap (λ l. within l (map present (places (category_at i)))) flags_are ∙ rows_within (category_at i).profile ts u

    few : length (flatten r) ≤ 63
    few =
        let m : length (map present (flatten r)) ≡ length (flatten r) = length-map (flatten r) present in
        let n : length (map present (flatten r)) ≡ length (flatten ts) = ap length flags_are in
        omega (arith, rows_few (category_at i).profile ts u, places_few i)

    -- the items, as the writing rules have them
    items_split : Split (write_rows write_place (category_at i).profile) r bs rest
    items_split = (rows_forth place_laws (category_at i).profile ts r bs rest o g).0

    written : Written (places (category_at i)) (flatten r)
    written = (rows_written (category_at i).profile r items_split.out items_split.writes).1

    pub items_long : length bs ≡ length (octets_in i r) + length rest
    items_long =
        ap length items_split.joins
        ∙ length-append items_split.out rest
        ∙ ap (λ l. length l + length rest) (sym (rows_written (category_at i).profile r items_split.out items_split.writes).0)

    pub items_end : (came_to i at r).here ≡ at + length (octets_in i r)
    items_end = comes_here i 1 (places (category_at i)) (flatten r) (start_at at)

    pub judged : (t : TypePlace i) → judge (category_at i) r ≡ (judge_set i (bits_of (flatten ts)) (came_to i at r).kind >>= (λ u. ok r))
    judged t =
        judge_law i r (came_to i at r).kind t stands few
        (λ v e. kind_law i t.index (places (category_at i)) (flatten r) (start_at at) _ v t.frn written t.spells t.place e)
        ∙ ap (λ l. judge_set i (bits_of l) (came_to i at r).kind >>= (λ u. ok r)) flags_are
