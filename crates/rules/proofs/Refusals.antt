-- Which refusals an item can meet, and where: of any property of number and place that the rule's own refusals have at 0, every refusal has it
-- (document 01, "Refusal numbers and their order"; document 02, W-205). So in reading all are at the item's start, and in writing all are 11 there.
--
-- In order: writing; lists of numbers; reading. Assumes nothing.
use Prim.Native.Nat.{ℕ, zero, suc, ◌+◌, ◌-◌, ◌*◌, ◌/◌, ◌%◌, ◌^◌}
use mathlib.Core.Bool.{Bool, true, false}
use mathlib.Core.Option.{Option, none, some}
use mathlib.Core.List.{List, [], ◌∷◌}
use lib.Dec.{leb}
use lib.ListN.{length, drop, replicate}
use lib.IntN.{ℤ, pos, negsuc}
use Rattle.rules.specs.Answer.{Answer, ok, refused, need◌or◌then◌}
use Rattle.rules.specs.Field.{Kind, unsigned, signed, Field, spare, value, bits, arity, put, pack, get, unpack}
use Rattle.rules.specs.Chain.{read_num, write_num, read_many, write_many, read_chain, write_chain}
use Rattle.rules.specs.Format.{Format, fixed, repeated, led, extended, PartValues, groups, least, pack_all, unpack_all, read_parts, write_parts, read_plain, write_plain}
use Rattle.rules.specs.Presence.{numbers, write_presence, write_row, write_rows, write_places, flag_rows, read_presence, read_row, read_rows, read_places}
use Rattle.rules.specs.Layout.{Layout, plain, compound, Values, in_parts, in_subfields, at_start, barred, read_item, write_item}
use Rattle.rules.specs.FieldList.{take_parts, take_extents, take_count, take_sub, take_place, take_row, take_rows, take_plain, take_item, values_from, write_fields, read_fields}
use Rattle.rules.proofs.AnswerLaws.{Only, only_bind, only_need, only_if, only_later}

-- ---- writing

module _ (Q : ℕ → ℕ → Type 0) (eleven : Q 11 0) where
  pub num_written : (k n : ℕ) → Only Q (write_num k n)
  unfolding write_num
  num_written k n = only_need Q _ _ _ eleven tt

  many_written : (k : ℕ) (ns : List ℕ) → Only Q (write_many k ns)
  unfolding write_many
  many_written k [] = tt
  many_written k (n ∷ ns) = only_bind Q _ _ (num_written k n) λ b. only_bind Q _ _ (many_written k ns) λ bs. tt

  chain_written : (ks ns : List ℕ) → Only Q (write_chain ks ns)
  unfolding write_chain
  chain_written [] ns = eleven
  chain_written (k ∷ ks) [] = eleven
  chain_written (k ∷ ks) (n ∷ []) = num_written k (n * 2)
  chain_written (k ∷ ks) (n ∷ (m ∷ ns)) = only_bind Q _ _ (num_written k (n * 2 + 1)) λ b. only_bind Q _ _ (chain_written ks (m ∷ ns)) λ bs. tt

  pub parts_written : (s : Format) (ns : List ℕ) → Only Q (write_parts s ns)
  unfolding write_parts
  parts_written (fixed g) ns = only_need Q _ _ _ eleven (many_written g.size ns)
  parts_written (repeated lo hi g) ns = only_bind Q _ _ (num_written 1 (length ns)) λ c. only_bind Q _ _ (many_written g.size ns) λ bs. tt
  parts_written (led lo) ns =
      only_need Q _ _ _ eleven (only_bind Q _ _ (num_written 1 (suc (length ns))) λ c. only_bind Q _ _ (many_written 1 ns) λ bs. tt)
  parts_written (extended gs) ns = chain_written _ ns

  pub value_put : (w : ℕ) (k : Kind) (v : ℤ) → Only Q (put w k v)
  unfolding put
  value_put w (unsigned lo hi) (pos n) = only_need Q _ _ _ eleven (only_need Q _ _ _ eleven tt)
  value_put w (unsigned lo hi) (negsuc n) = eleven
  value_put w (signed lo hi) (pos n) = only_need Q _ _ _ eleven (only_need Q _ _ _ eleven tt)
  value_put w (signed lo hi) (negsuc n) = only_need Q _ _ _ eleven (only_need Q _ _ _ eleven tt)

  pub values_packed : (fs : List Field) (vs : List ℤ) → Only Q (pack fs vs)
  unfolding pack
  values_packed [] [] = tt
  values_packed [] (v ∷ vs) = eleven
  values_packed (spare w ∷ fs) vs = values_packed fs vs
  values_packed (value w k ∷ fs) [] = eleven
  values_packed (value w k ∷ fs) (v ∷ vs) =
      only_bind Q _ _ (value_put w k v) λ c. only_need Q _ _ _ eleven (only_bind Q _ _ (values_packed fs vs) λ n. tt)

  pub parts_packed : (gs : List (List Field)) (vs : PartValues) → Only Q (pack_all gs vs)
  unfolding pack_all
  parts_packed gs [] = tt
  parts_packed [] (v ∷ vs) = eleven
  parts_packed (g ∷ gs) (v ∷ vs) = only_bind Q _ _ (values_packed g v) λ n. only_bind Q _ _ (parts_packed gs vs) λ ns. tt

  pub plain_written : (s : Format) (vs : PartValues) → Only Q (write_plain s vs)
  unfolding write_plain
  plain_written s vs = only_bind Q _ _ (only_need Q _ _ _ eleven (parts_packed (groups s) vs)) λ ns. parts_written s ns

-- primary octets and subfields: 7 and 8 beside 11
module _ (Q : ℕ → ℕ → Type 0) (seven : Q 7 0) (eight : Q 8 0) (eleven : Q 11 0) where
  numbers_written : (ps : List (List (Option Format))) (ts : List (List Bool)) → Only Q (numbers ps ts)
  unfolding numbers
  numbers_written ps [] = tt
  numbers_written [] (t ∷ ts) = eight
  numbers_written (p ∷ ps) (t ∷ ts) = only_need Q _ _ _ eight (only_bind Q _ _ (numbers_written ps ts) λ ns. tt)

  row_written : (ps : List (Option Format)) (vs : List (Option PartValues)) → Only Q (write_row write_plain ps vs)
  unfolding write_row
  row_written [] [] = tt
  row_written [] (v ∷ vs) = eleven
  row_written (p ∷ ps) [] = eleven
  row_written (p ∷ ps) (none ∷ vs) = row_written ps vs
  row_written (none ∷ ps) (some v ∷ vs) = eight
  row_written (some s ∷ ps) (some v ∷ vs) = only_bind Q _ _ (plain_written Q eleven s v) λ b. only_bind Q _ _ (row_written ps vs) λ bs. tt

  rows_written : (ps : List (List (Option Format))) (rs : List (List (Option PartValues))) → Only Q (write_rows write_plain ps rs)
  unfolding write_rows
  rows_written ps [] = tt
  rows_written [] (r ∷ rs) = eleven
  rows_written (p ∷ ps) (r ∷ rs) = only_bind Q _ _ (row_written p r) λ b. only_bind Q _ _ (rows_written ps rs) λ bs. tt

  places_written : (ps : List (List (Option Format))) (rs : List (List (Option PartValues))) → Only Q (write_places write_plain ps rs)
  unfolding write_places write_presence
  places_written ps rs =
      only_bind Q _ _ (only_bind Q _ _ (numbers_written ps _) λ ns. only_need Q _ _ _ seven (chain_written Q eleven _ ns)) λ a.
      only_bind Q _ _ (rows_written ps rs) λ b. tt

module _ (Q : ℕ → ℕ → Type 0) (eleven : Q 11 0) where
  -- whatever the reason, 11
  barred_only : {A : Type 0} (x : Answer A) → Only (λ n p. Q 11 p) x → Only Q (barred x)
  unfolding barred
  barred_only (ok a) h = tt
  barred_only (refused n p) h = h

  pub item_written_lem : (l : Layout) (v : Values) → Only Q (write_item l v)
  unfolding write_item
  item_written_lem (plain s) (in_parts vs) = plain_written Q eleven s vs
  item_written_lem (plain s) (in_subfields rs) = eleven
  item_written_lem (compound ps) (in_parts vs) = eleven
  item_written_lem (compound ps) (in_subfields rs) = barred_only (write_places write_plain ps rs) (places_written (λ n p. Q 11 p) eleven eleven eleven ps rs)

  -- ---- lists of numbers

  pub parts_taken : (gs : List (List Field)) (fs : List ℤ) → Only Q (take_parts gs fs)
  unfolding take_parts
  parts_taken [] fs = tt
  parts_taken (g ∷ gs) fs = only_need Q _ _ _ eleven (only_bind Q _ _ (parts_taken gs (drop (arity g) fs)) λ x. tt)

  extents_taken : (gs : List (List Field)) (fs : List ℤ) → Only Q (take_extents gs fs)
  unfolding take_extents
  extents_taken [] fs = tt
  extents_taken (g ∷ gs) [] = eleven
  extents_taken (g ∷ gs) (f ∷ fs) =
      only_if Q _ _ _ (only_need Q _ _ _ eleven (only_need Q _ _ _ eleven tt))
      (only_bind Q _ _ (parts_taken (g ∷ []) (f ∷ fs)) λ x. only_bind Q _ _ (extents_taken gs x.1) λ y. tt)

  count_taken : (f : ℤ) (g : List Field) (fs : List ℤ) → Only Q (take_count f g fs)
  count_taken (pos c) g fs = parts_taken (replicate c g) fs
  count_taken (negsuc c) g fs = eleven

  sub_taken : (s : Format) (fs : List ℤ) → Only Q (take_sub s fs)
  unfolding take_sub
  sub_taken s [] = eleven
  sub_taken (fixed g) (f ∷ fs) = parts_taken _ _
  sub_taken (repeated lo hi g) (f ∷ fs) = count_taken f _ fs
  sub_taken (led lo) (f ∷ fs) = count_taken f _ fs
  sub_taken (extended gs) (f ∷ fs) = extents_taken _ _

  place_taken : (p : Option Format) (fs : List ℤ) → Only Q (take_place p fs)
  unfolding take_place
  place_taken none fs = tt
  place_taken (some s) [] = eleven
  place_taken (some s) (f ∷ fs) = only_if Q _ _ _ tt (only_bind Q _ _ (sub_taken s (f ∷ fs)) λ x. tt)

  row_taken : (ps : List (Option Format)) (fs : List ℤ) → Only Q (take_row ps fs)
  unfolding take_row
  row_taken [] fs = tt
  row_taken (p ∷ ps) fs = only_bind Q _ _ (place_taken p fs) λ x. only_bind Q _ _ (row_taken ps x.1) λ y. tt

  rows_taken : (ps : List (List (Option Format))) (fs : List ℤ) → Only Q (take_rows ps fs)
  unfolding take_rows
  rows_taken [] fs = tt
  rows_taken (p ∷ ps) fs = only_bind Q _ _ (row_taken p fs) λ x. only_bind Q _ _ (rows_taken ps x.1) λ y. tt

  plain_taken : (s : Format) (fs : List ℤ) → Only Q (take_plain s fs)
  unfolding take_plain
  plain_taken (fixed g) fs = parts_taken _ fs
  plain_taken (repeated lo hi g) fs = parts_taken _ fs
  plain_taken (led lo) fs = parts_taken _ fs
  plain_taken (extended gs) fs = extents_taken _ fs

  item_taken : (l : Layout) (fs : List ℤ) → Only Q (take_item l fs)
  unfolding take_item
  item_taken (plain s) fs = only_bind Q _ _ (plain_taken s fs) λ x. tt
  item_taken (compound ps) fs = only_bind Q _ _ (rows_taken ps fs) λ x. tt

  pub values_taken_only : (l : Layout) (fs : List ℤ) → Only Q (values_from l fs)
  unfolding values_from
  values_taken_only l fs = only_bind Q _ _ (item_taken l fs) λ x. only_need Q _ _ _ eleven tt

  -- WRITING: every refusal of an item's fields is as 11 at the item's start is
  pub fields_written : (l : Layout) (fs : List ℤ) → Only Q (write_fields l fs)
  unfolding write_fields
  fields_written l fs = only_bind Q _ _ (values_taken_only l fs) λ v. item_written_lem l v

-- ---- reading

module _ (Q : ℕ → ℕ → Type 0) where
  pub num_read : (cut k : ℕ) (bs : List ℕ) → Q cut 0 → Only Q (read_num cut k bs)
  unfolding read_num
  num_read cut k bs h = only_need Q _ _ _ h tt

  pub chain_read : (cut past : ℕ) (ks bs : List ℕ) → Q cut 0 → Q past 0 → Only Q (read_chain cut past ks bs)
  unfolding read_chain
  chain_read cut past [] bs h i = i
  chain_read cut past (k ∷ ks) bs h i =
      only_bind Q _ _ (num_read cut k bs h) λ x. only_if Q _ _ _ tt (only_bind Q _ _ (chain_read cut past ks x.1 h i) λ y. tt)

  many_read : (k c : ℕ) (bs : List ℕ) → Q 9 0 → Only Q (read_many k c bs)
  unfolding read_many
  many_read k zero bs nine = tt
  many_read k (suc c) bs nine = only_bind Q _ _ (num_read 9 k bs nine) λ x. only_bind Q _ _ (many_read k c x.1 nine) λ y. tt

-- the fields of parts: 11
module _ (Q : ℕ → ℕ → Type 0) (eleven : Q 11 0) where
  value_got : (w : ℕ) (k : Kind) (c : ℕ) → Only Q (get w k c)
  unfolding get
  value_got w (unsigned lo hi) c = only_need Q _ _ _ eleven (only_need Q _ _ _ eleven tt)
  value_got w (signed lo hi) c = only_if Q _ _ _ (only_need Q _ _ _ eleven tt) (only_need Q _ _ _ eleven (only_need Q _ _ _ eleven tt))

  values_unpacked : (fs : List Field) (n : ℕ) → Only Q (unpack fs n)
  unfolding unpack
  values_unpacked [] n = only_need Q _ _ _ eleven tt
  values_unpacked (spare w ∷ fs) n = only_need Q _ _ _ eleven (values_unpacked fs (n % 2 ^ bits fs))
  values_unpacked (value w k ∷ fs) n =
      only_bind Q _ _ (value_got w k (n / 2 ^ bits fs)) λ v.
      only_need Q _ _ _ eleven (only_bind Q _ _ (values_unpacked fs (n % 2 ^ bits fs)) λ vs. tt)

  parts_unpacked : (gs : List (List Field)) (ns : List ℕ) → Only Q (unpack_all gs ns)
  unfolding unpack_all
  parts_unpacked gs [] = tt
  parts_unpacked [] (n ∷ ns) = eleven
  parts_unpacked (g ∷ gs) (n ∷ ns) = only_bind Q _ _ (values_unpacked g n) λ v. only_bind Q _ _ (parts_unpacked gs ns) λ vs. tt

  pub numbers_unpacked : (s : Format) (ns : List ℕ) → Only Q (need leb (least s) (length ns) or 11 then unpack_all (groups s) ns)
  numbers_unpacked s ns = only_need Q _ _ _ eleven (parts_unpacked (groups s) ns)

-- what an item's reading may refuse
pub record Reads (Q : ℕ → ℕ → Type 0) : Type 0 where
  pub six : Q 6 0
  pub seven : Q 7 0
  pub eight : Q 8 0
  pub nine : Q 9 0
  pub ten : Q 10 0
  pub eleven : Q 11 0

module _ (Q : ℕ → ℕ → Type 0) (r : Reads Q) where
  parts_read : (s : Format) (bs : List ℕ) → Only Q (read_parts s bs)
  unfolding read_parts
  parts_read (fixed g) bs = many_read Q g.size 1 bs r.nine
  parts_read (repeated lo hi g) bs = only_bind Q _ _ (num_read Q 9 1 bs r.nine) λ x. many_read Q g.size x.0 x.1 r.nine
  parts_read (led lo) bs = only_bind Q _ _ (num_read Q 9 1 bs r.nine) λ x. only_need Q _ _ _ r.ten (many_read Q 1 (x.0 - 1) x.1 r.nine)
  parts_read (extended gs) bs = chain_read Q 9 6 _ bs r.nine r.six

  plain_read_lem : (s : Format) (bs : List ℕ) → Only Q (read_plain s bs)
  unfolding read_plain
  plain_read_lem s bs = only_bind Q _ _ (parts_read s bs) λ x. only_bind Q _ _ (numbers_unpacked Q r.eleven s x.0) λ vs. tt

-- presence octets and what they name, of any kind; a refusal further on is as one at the start
module _ {P X : Type 0} (readP : P → List ℕ → Answer (X × List ℕ)) (Q : ℕ → ℕ → Type 0) (on : (k n p : ℕ) → Q n p → Q n (k + p)) (seven : Q 7 0) (eight : Q 8 0)
    (each : (p : P) (bs : List ℕ) → Only Q (readP p bs)) where
  flags_read : (ps : List (List (Option P))) (ns : List ℕ) → Only Q (flag_rows ps ns)
  unfolding flag_rows
  flags_read ps [] = tt
  flags_read [] (n ∷ ns) = eight
  flags_read (p ∷ ps) (n ∷ ns) = only_need Q _ _ _ eight (only_need Q _ _ _ eight (only_bind Q _ _ (flags_read ps ns) λ ts. tt))

  row_read : (ps : List (Option P)) (ts : List Bool) (bs : List ℕ) → Only Q (read_row readP ps ts bs)
  unfolding read_row
  row_read [] [] bs = tt
  row_read [] (t ∷ ts) bs = eight
  row_read (p ∷ ps) [] bs = eight
  row_read (p ∷ ps) (false ∷ ts) bs = only_bind Q _ _ (row_read ps ts bs) λ x. tt
  row_read (none ∷ ps) (true ∷ ts) bs = eight
  row_read (some p ∷ ps) (true ∷ ts) bs =
      only_bind Q _ _ (each p bs) λ x. only_bind Q _ _ (only_later Q _ _ (on _) (row_read ps ts x.1)) λ y. tt

  pub rows_read : (ps : List (List (Option P))) (ts : List (List Bool)) (bs : List ℕ) → Only Q (read_rows readP ps ts bs)
  unfolding read_rows
  rows_read ps [] bs = tt
  rows_read [] (t ∷ ts) bs = eight
  rows_read (p ∷ ps) (t ∷ ts) bs = only_bind Q _ _ (row_read p t bs) λ x. only_bind Q _ _ (only_later Q _ _ (on _) (rows_read ps ts x.1)) λ y. tt

  pub places_read : (cut : ℕ) (ps : List (List (Option P))) (bs : List ℕ) → Q cut 0 → Q 6 0 → Only Q (read_places readP cut ps bs)
  unfolding read_places read_presence
  places_read cut ps bs h six =
      only_bind Q _ _ (only_bind Q _ _ (chain_read Q cut 6 _ bs h six) λ x. only_bind Q _ _ (only_need Q _ _ _ seven (flags_read ps x.0)) λ ts. tt) λ x.
      only_later Q _ _ (on _) (rows_read ps x.0 x.1)

module _ (Q : ℕ → ℕ → Type 0) (r : Reads Q) where
  -- wherever it is inside, at the item's start
  start_only : {A : Type 0} (x : Answer A) → Only (λ n p. Q n 0) x → Only Q (at_start x)
  unfolding at_start
  start_only (ok a) h = tt
  start_only (refused n p) h = h

  anywhere : Reads (λ n p. Q n 0)
  anywhere = record { six = r.six; seven = r.seven; eight = r.eight; nine = r.nine; ten = r.ten; eleven = r.eleven }

  -- READING: every refusal of an item is as those at its start are
  pub item_read_lem : (l : Layout) (bs : List ℕ) → Only Q (read_item l bs)
  unfolding read_item
  item_read_lem (plain s) bs = only_bind Q _ _ (plain_read_lem Q r s bs) λ x. tt
  item_read_lem (compound ps) bs =
      only_bind Q _ _
      (start_only _ (places_read read_plain (λ n p. Q n 0) (λ k n p h. h) r.seven r.eight (plain_read_lem (λ n p. Q n 0) anywhere) 9 ps bs r.nine r.six))
      λ x. tt

  pub fields_read : (l : Layout) (bs : List ℕ) → Only Q (read_fields l bs)
  unfolding read_fields
  fields_read l bs = only_bind Q _ _ (item_read_lem l bs) λ x. tt
