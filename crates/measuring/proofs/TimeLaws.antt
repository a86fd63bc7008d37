-- What is measured of a record that is legal is its length and its time, as the rules have them (document 02, W-201).
--
-- In order: octets that lie in others; an item of some octets; a record that was read; its time; its length; the theorem. Assumes nothing.
use Prim.Native.Nat.{ℕ, ◌+◌, ◌*◌, ◌^◌, ◌≤◌, ◌<◌}
use mathlib.Core.Path.{◌≡◌, refl, sym, ap, ap₂, ◌∙◌, subst}
use mathlib.Core.Bool.{Bool, true, false}
use mathlib.Core.Option.{Option, none, some}
use mathlib.Core.List.{List, [], ◌∷◌, ◌++◌}
use native.Mathlib.Omega.{arith}
use lib.ListN.{length, get_or, drop, length-append, get_or-append}
use lib.Seq.{get_or-append-add}
use borrow.Author.Tests.{le-leb}
use Rattle.rules.specs.Answer.{ok, when◌then◌else◌, octets_of}
use Rattle.rules.specs.Chain.{flatten, joined}
use Rattle.rules.specs.Layout.{Layout, Values, write_item}
use Rattle.rules.specs.Presence.{has}
use Rattle.rules.specs.Record.{Category, Record, places, items, value_of, type_of, judge, write_record, read_record}
use Rattle.rules.specs.Block.{category_of}
use Rattle.rules.specs.Catalogue.{categories}
use Rattle.rules.specs.Entry.{map_places, RecordMap, Laid, layout_as, laid, laid_items, map_of}
use Rattle.rules.specs.Entry as entry
use Rattle.rules.specs.Merge.{number_in, is_one_of, record_time}
use Rattle.rules.proofs.AnswerLaws.{refused_ok, bind_in, bind_elim, if_true, none_some, later_in, octets_of-ok, Octets, Split}
use Rattle.rules.proofs.Tables.{distinct}
use Rattle.rules.proofs.RecordLaws.{record_laws}
use Rattle.rules.proofs.EntryLaws.{Lies, lies_second, item_octets, RecordWritten, record_written, ItemFound, item_found_lem, index_as, start_found, start_absent}
use Rattle.rules.proofs.NumberLaws.{IsNumber}
use Rattle.rules.proofs.Demands.{map_start}
use Rattle.tables.specs.Places.{frn_as}
use Rattle.tables.specs.Profiles.{or_none, frn_in}
use Rattle.items.specs.Answers.{profile_in}
use Rattle.rules.proofs.PlaceLaws.{laid_low}
use Rattle.items.proofs.PlaceLaws.{missed}
use Rattle.sets.specs.Sets.{category_at}
use Rattle.sets.specs.Steps.{type_frn}
use Rattle.sets.proofs.SpelledLaws.{spelling, SpelledType, spelled_type}
use Rattle.sets.proofs.ProfileLaws.{places_few, places_distinct}
use Rattle.sets.proofs.UsableLaws.{set_bounds}
use Rattle.records.specs.Answers.{record_at}
use Rattle.measuring.specs.Measure.{end_of, start_of, time_frn, is_in, is_untimed, clock_at, time_in, sized, measure_by, measure_in, measure_of}
use Rattle.measuring.proofs.CategoryLaws.{number_layout, or_no_item, number_is, type_spelled, time_number, frn_index, frn_missing, category_named}
use Rattle.measuring.proofs.MeasureLaws as laws

-- ---- octets that lie in others

module _ {bs : List ℕ} {s : ℕ} {u : List ℕ} (l : Lies bs s u) where
  lies_at : (j : ℕ) → j < length u → get_or bs (s + j) 0 ≡ get_or u j 0
  lies_at j h =
      ap₂ (λ z k. get_or z (k + j) 0) l.joins (sym l.starts)
      ∙ get_or-append-add l.before (u ++ l.after) j 0
      ∙ get_or-append u l.after 0 j h

  lies_inside : s + length u ≤ length bs
  lies_inside = omega (arith, ap length l.joins ∙ length-append l.before (u ++ l.after), length-append u l.after, l.starts)

three_joined : (u : List ℕ) → length u ≡ 3 → get_or u 0 0 * 65_536 + get_or u 1 0 * 256 + get_or u 2 0 ≡ joined u
unfolding joined
three_joined [] h = absurd (omega arith)
three_joined (x ∷ []) h = absurd (omega arith)
three_joined (x ∷ (y ∷ [])) h = absurd (omega arith)
three_joined (x ∷ (y ∷ (z ∷ []))) h = omega arith
three_joined (x ∷ (y ∷ (z ∷ (w ∷ u)))) h = absurd (omega arith)

-- without the octet before all
lies_on : {bs : List ℕ} {s : ℕ} {u : List ℕ} → Lies (0 ∷ bs) (1 + s) u → Lies bs s u
lies_on {bs} {s} {u} l = go l.before l.joins l.starts
  where
    go : (before : List ℕ) → 0 ∷ bs ≡ before ++ (u ++ l.after) → length before ≡ 1 + s → Lies bs s u
    go [] e n = absurd (omega arith)
    go (x ∷ before) e n = record { before = before; after = l.after; joins = ap (drop 1) e; starts = omega arith }

-- ---- an item of some octets: whether it is there, and what lies at its start

data Seen (bs : List ℕ) (t : Bool) (s : ℕ) (Q : Values → List ℕ → Type 0) : Option Values → Type 0 where
  absent : t ≡ false → Seen bs t s Q none
  there : (v : Values) (u : List ℕ) → t ≡ true → Lies bs s u → Q v u → Seen bs t s Q (some v)

same_type : (bs : List ℕ) (t : Bool) (s kind : ℕ) (x : Option Values) → Seen bs t s SpelledType x → type_of x ≡ ok kind
    → (us : List ℕ) → has (get_or bs s 0) us ≡ is_one_of (type_of x) us
unfolding type_of
same_type bs t s kind none (absent z) e us = refused_ok e
same_type bs t s kind (some v) (there w u z l q) e us =
    let d : s + 0 ≡ s = omega arith in
    ap (λ k. has k us) (ap (λ k. get_or bs k 0) (sym d) ∙ lies_at l 0 (omega (arith, q.size))) ∙ ap (λ k. is_one_of k us) (sym q.type_is)

same_time : (bs : List ℕ) (t : Bool) (s : ℕ) (x : Option Values) → Seen bs t s (IsNumber 3) x → (k : Bool)
    → (when t then (when k then none else clock_at bs s) else none) ≡ (when k then none else number_in x)
unfolding clock_at when◌then◌else◌
same_time bs t s none (absent z) true = rw z
same_time bs t s none (absent z) false = rw z
same_time bs t s (some v) (there w u z l q) true = rw z
same_time bs t s (some v) (there w u z l q) false =
    let d : s + 0 ≡ s = omega arith in
    let n : length u ≡ 3 = q.size in
    let f : s + 3 ≤ length bs = omega (arith, lies_inside l) in
    rw (z, le-leb (s + 3) (length bs) f, q.value_is)
    (ap some
    (ap₂ (λ a b. a + b)
    (ap₂ (λ a b. a * 65_536 + b * 256) (ap (λ k. get_or bs k 0) (sym d) ∙ lies_at l 0 (omega arith)) (lies_at l 1 (omega arith))) (lies_at l 2 (omega arith))
    ∙ three_joined u n))

-- ---- a record that was read, with one octet before it: there no start is 0

module _ (i : ℕ) (bs : List ℕ) (r : Record) (rest : List ℕ) (o : Octets bs) (short : 1 + length bs < 65_536) (reads : read_record (category_at i) bs ≡ ok (r, rest)) where
  abbrev c : Category
  c = category_at i

  abbrev m : RecordMap
  m = map_of c (record { start = 1; value = r })

  split : Split (write_record c) r bs rest
  split = (record_laws c).forth r bs rest o reads

  map_is : record_at i 1 bs ≡ ok m
  unfolding record_at
  map_is = later_in 1 (bind_in _ reads refl)

  lay : laws.Laid i 1 bs o short m
  lay = laws.laid i 1 bs o short m map_is

  abbrev start : ℕ → ℕ
  start f = start_of i f lay.bits bs lay.used

  written : RecordWritten c r split.out
  written = record_written c r split.out split.writes

  items_lie : Lies (0 ∷ bs) (1 + length r) (item_octets (places c) (flatten r))
  items_lie =
      subst (λ z. Lies (0 ∷ bs) (1 + z) (item_octets (places c) (flatten r))) written.count
      (lies_second written.fspec (item_octets (places c) (flatten r))
      (record { before = 0 ∷ []; after = rest; joins = ap (λ l. 0 ∷ l) (split.joins ∙ ap (λ l. l ++ rest) written.joins); starts = refl }))

  once : distinct (places c) ≡ true
  once = places_distinct i

  low : lay.bits < 2 ^ 63
  low = (set_bounds i bs lay.bits lay.used lay.set_is).0

  -- an item whose layout passes a test, and what that test says of what is written
  seen : (ref : ℕ) (Q : Values → List ℕ → Type 0) (test : Layout → Bool) → ((l : Layout) (v : Values) (out : List ℕ) → test l ≡ true → write_item l v ≡ ok out → Q v out)
      → or_no_item test (layout_as ref (places c)) ≡ true → Seen bs (is_in (frn_in ref c) lay.bits) (start (frn_in ref c)) Q (value_of ref (items c r))
  seen ref Q test law passed = by (value_of ref (items c r)) refl (frn_as ref 1 (places c)) refl
    where
      g : ℕ
      g = index_as ref (places c)

      at : get_or m.starts g 0 ≡ entry.start_of (get_or (laid_items c 1 r) g none)
      at = map_start c (record { start = 1; value = r }) g (places_few i)

      found : (v : Values) → value_of ref (items c r) ≡ some v → ItemFound (places c) (flatten r) ref (1 + length r) (0 ∷ bs) v
      found v e = item_found_lem (places c) (flatten r) ref (1 + length r) (0 ∷ bs) v written.each once items_lie e

      -- at an FRN that is one more than the index
      here : (f : ℕ) → f ≡ g + 1 → g < map_places → (x : Option Values) → value_of ref (items c r) ≡ x → (t : Bool) → is_in f lay.bits ≡ t → Seen bs t (start f) Q x
      here f ef few none e true z =
          absurd (omega (arith, lay.there g few (ap (λ y. is_in y lay.bits) (sym ef) ∙ z), at ∙ start_absent (places c) (flatten r) ref (1 + length r) e))
      here f ef few none e false z = absent refl
      here f ef few (some v) e true z = go (found v e)
        where
          go : ItemFound (places c) (flatten r) ref (1 + length r) (0 ∷ bs) v → Seen bs true (start f) Q (some v)
          go it =
              let k : Q v it.out = law it.layout v it.out (ap (or_no_item test) (sym it.is_layout) ∙ passed) it.writes in
              let s : get_or m.starts g 0 ≡ it.item.start = at ∙ start_found (places c) (flatten r) ref (1 + length r) it.item once it.is_laid in
              let p : it.item.start ≡ 1 + start f = sym s ∙ lay.there g few (ap (λ y. is_in y lay.bits) (sym ef) ∙ z) ∙ ap (λ y. 1 + start y) (sym ef) in
              there v it.out refl (lies_on (subst (λ x. Lies (0 ∷ bs) x it.out) p it.lies)) k
      here f ef few (some v) e false z = go (found v e)
        where
          go : ItemFound (places c) (flatten r) ref (1 + length r) (0 ∷ bs) v → Seen bs false (start f) Q (some v)
          go it =
              let s : get_or m.starts g 0 ≡ it.item.start = at ∙ start_found (places c) (flatten r) ref (1 + length r) it.item once it.is_laid in
              absurd
              (omega
              (arith, s, lay.absent g few (ap (λ y. is_in y lay.bits) (sym ef) ∙ z), laid_low ref (1 + length r) (places c) (flatten r) it.item it.is_laid))

      by : (x : Option Values) → value_of ref (items c r) ≡ x → (q : Option ℕ) → frn_as ref 1 (places c) ≡ q
          → Seen bs (is_in (or_none q) lay.bits) (start (or_none q)) Q x
      by none e none d = absent (frn_missing lay.bits low)
      by (some v) e none d = none_some (sym (missed ref 1 (places c) d).layout ∙ (found v e).is_layout)
      by x e (some f) d =
          let k = frn_index ref 1 (places c) f d in
          here f (omega (arith, k.0)) (omega (arith, k.1, places_few i)) x e (is_in f lay.bits) refl

  -- ---- its time

  type_seen : Seen bs (is_in (type_frn i) lay.bits) (start (type_frn i)) SpelledType (value_of 0 (items c r))
  unfolding type_frn
  type_seen = seen 0 SpelledType spelling spelled_type (type_spelled i)

  time_seen : Seen bs (is_in (time_frn i) lay.bits) (start (time_frn i)) (IsNumber 3) (value_of c.time (items c r))
  time_seen = seen c.time (IsNumber 3) (number_layout 3) (number_is 3) (time_number i)

  type_known : (kind : ℕ) → type_of (value_of 0 (items c r)) ≡ ok kind
      → is_untimed i (get_or bs (start (type_frn i)) 0) ≡ is_one_of (type_of (value_of 0 (items c r))) c.untimed
  type_known kind e =
      same_type bs (is_in (type_frn i) lay.bits) (start (type_frn i)) kind (value_of 0 (items c r)) type_seen e c.untimed

  time_is : time_in i lay.bits bs lay.used ≡ record_time c r
  unfolding time_in record_time write_record judge
  time_is =
      bind_elim _ _ split.writes λ s p _.
      bind_elim _ _ p λ kind e _.
      ap (λ u. when is_in (time_frn i) lay.bits then (when u then none else clock_at bs (start (time_frn i))) else none) (type_known kind e)
      ∙ same_time bs (is_in (time_frn i) lay.bits) (start (time_frn i)) (value_of c.time (items c r)) time_seen
      (is_one_of (type_of (value_of 0 (items c r))) c.untimed)

  -- ---- its length

  long : end_of i lay.bits bs lay.used ≡ length (octets_of (write_record c r))
  unfolding map_of
  long = omega (arith, lay.ends)

  within : end_of i lay.bits bs lay.used ≤ length bs
  within = omega (arith, long, ap length (octets_of-ok split.writes), ap length split.joins ∙ length-append split.out rest)

  measures : measure_in i bs ≡ sized (length (octets_of (write_record c r))) (record_time c r)
  unfolding measure_in
  measures =
      ap (measure_by i bs) lay.set_is
      ∙ if_true (sized 0 none) (le-leb (end_of i lay.bits bs lay.used) (length bs) within) (ap₂ sized long time_is)

-- ---- THE THEOREM

pub measure_is : (cat : ℕ) (c : Category) → category_of cat categories ≡ some c → (bs : List ℕ) (r : Record) (rest : List ℕ) → Octets bs → length bs < 65_533
    → read_record c bs ≡ ok (r, rest) → measure_of cat bs ≡ sized (length (octets_of (write_record c r))) (record_time c r)
unfolding measure_of
measure_is cat c named bs r rest o short =
    subst (λ d. read_record d bs ≡ ok (r, rest) → measure_in (profile_in cat categories) bs ≡ sized (length (octets_of (write_record d r))) (record_time d r))
    (category_named cat c named) (measures (profile_in cat categories) bs r rest o (omega arith))
