-- Finding in a block that is accepted: the record with a number, and an item of it by the map of the record's items.
--
-- In order: the FRN of a reference; a record; an item. Assumes nothing.
use Prim.Native.Nat.{ℕ, zero, suc, ◌+◌, ◌-◌, ◌≤◌, ◌<◌}
use mathlib.Core.Path.{◌≡◌, refl, sym, ap, ap₂, ◌∙◌, subst}
use mathlib.Core.Logic.{◌⊎◌, inl, inr, ⊎_elim}
use mathlib.Core.Bool.{Bool, true, false}
use mathlib.Core.Option.{Option, none, some}
use mathlib.Core.List.{List, [], ◌∷◌, ◌++◌}
use native.Mathlib.Omega.{arith}
use native.Mathlib.Nat.{le_of_eq, add-zero}
use borrow.Author.Tests.{ltb-true, ltb-false}
use lib.Dec.{T, ltb, eqb}
use lib.ListN.{length, drop, get_or, get_elem?, length-append, get_or-eq_default}
use lib.Seq.{drop_at}
use Rattle.rules.specs.Answer.{Answer, ok, refused, octets_of}
use Rattle.rules.specs.Chain.{flatten}
use Rattle.rules.specs.Layout.{Layout, Values, read_item, write_item}
use Rattle.rules.specs.Presence.{place_at}
use Rattle.rules.specs.Record.{Place, Category, Record, places, items, value_of, write_record}
use Rattle.rules.specs.Block.{write_all}
use Rattle.rules.specs.Catalogue.{categories}
use Rattle.rules.specs.Entry.{map_places, Laid, laid_as, laid_items, Numbered, numbered, RecordMap, start_of, map_of, Opened, open_block, find_record, is_item, find_item, layout_as}
use Rattle.rules.proofs.AnswerLaws.{refused_ok, ok_inj, bind_in, bind_out, bind_elim, need_in, need_elim, need_out, expect_in, expect_out, later_in, later_out, if_inv, if_true, if_false, some_inj, none_some, T_true, octets_of-ok, Octets}
use Rattle.rules.proofs.EntryLaws.{Lies, RecordWritten, record_written, ItemFound, item_found_lem, item_absent, RecordFound, record_found_lem, BodyFound, body_found, index_as, start_found, start_absent}
use Rattle.rules.proofs.LayoutLaws.{item_laws}
use Rattle.rules.proofs.PlaceLaws.{laid_low}
use Rattle.rules.proofs.Tables.{distinct, tables_hold, sound_of}
use Rattle.rules.proofs.Demands.{items_lie, map_start}
use Rattle.tables.specs.Places.{is_named, frn_as}
use Rattle.items.specs.Answers.{size_of, check_at}
use Rattle.tables.proofs.ProfileLaws.{profile_at_lem}
use Rattle.sets.specs.Sets.{category_at}
use Rattle.records.specs.Answers.{map_by}
use Rattle.finding.specs.declared.find.RecordFound as code
use Rattle.finding.specs.Found.{seek_at, record_span, found_in, item_span, span_in}
use Rattle.blocks.specs.Read.{Opening, open_from}
use Rattle.blocks.proofs.HeadLaws.{opened_is}
use Rattle.blocks.proofs.LoopLaws.{made_refused}
use Rattle.blocks.proofs.OpenLaws.{open_refusal, Opens, opens}

-- ---- the FRN of a reference

pub frn_none : (ref f : ℕ) (ps : List (Option Place)) → frn_as ref f ps ≡ none → is_item ref ps ≡ false
unfolding frn_as
frn_none ref f [] h = refl
frn_none ref f (none ∷ ps) h =
    ⊎_elim (λ (e, g). none_some (sym g)) (λ (e, g). frn_none ref (f + 1) ps g) (if_inv (is_named ref none) (some f) (frn_as ref (f + 1) ps) h)
frn_none ref f (some p ∷ ps) h =
    ⊎_elim (λ (e, g). none_some (sym g)) (λ (e, g). if_false true e (frn_none ref (f + 1) ps g)) (if_inv (eqb ref p.reference) (some f) (frn_as ref (f + 1) ps) h)

-- the place that a reference names, among places of which the first has the number f
pub record NamedAt (ref f : ℕ) (ps : List (Option Place)) (g : ℕ) : Type 0 where
  pub is_item : is_item ref ps ≡ true
  pub frn_is : g ≡ f + index_as ref ps
  pub place : Place
  pub place_is : get_or ps (index_as ref ps) none ≡ some place
  pub layout_is : layout_as ref ps ≡ some place.layout

pub frn_some : (ref f : ℕ) (ps : List (Option Place)) (g : ℕ) → frn_as ref f ps ≡ some g → NamedAt ref f ps g
unfolding frn_as
frn_some ref f [] g h = none_some h
frn_some ref f (none ∷ ps) g h =
    ⊎_elim
    (λ (e, k). let z : ◌≡◌ {A = ℕ} 0 1 = cc in absurd (omega arith))
    (λ (e, k).
    let n : NamedAt ref (f + 1) ps g = frn_some ref (f + 1) ps g k in
    record { is_item = n.is_item; frn_is = omega (arith, n.frn_is); place = n.place; place_is = n.place_is; layout_is = n.layout_is })
    (if_inv (is_named ref none) (some f) (frn_as ref (f + 1) ps) h)
frn_some ref f (some p ∷ ps) g h =
    ⊎_elim
    (λ (e, k).
    let z : index_as ref (some p ∷ ps) ≡ 0 = if_true (suc (index_as ref ps)) e refl in
    record {
      is_item = if_true (is_item ref ps) e refl;
      frn_is = sym (some_inj k) ∙ omega arith;
      place = p;
      place_is = ap (λ i. get_or (some p ∷ ps) i none) z;
      layout_is = if_true (layout_as ref ps) e refl;
    })
    (λ (e, k).
    let n : NamedAt ref (f + 1) ps g = frn_some ref (f + 1) ps g k in
    let z : index_as ref (some p ∷ ps) ≡ suc (index_as ref ps) = if_false 0 e refl in
    record {
      is_item = if_false true e n.is_item;
      frn_is = omega (arith, n.frn_is);
      place = n.place;
      place_is = ap (λ i. get_or (some p ∷ ps) i none) z ∙ n.place_is;
      layout_is = if_false (some p.layout) e n.layout_is;
    })
    (if_inv (eqb ref p.reference) (some f) (frn_as ref (f + 1) ps) h)

-- its index in a map of 35 places
pub index_few : (i : ℕ) {ref f g : ℕ} → NamedAt ref f (places (category_at i)) g → index_as ref (places (category_at i)) < length (places (category_at i))
index_few i {ref} n = go (ltb (index_as ref (places (category_at i))) (length (places (category_at i)))) refl
  where
    go : (t : Bool) → ltb (index_as ref (places (category_at i))) (length (places (category_at i))) ≡ t → index_as ref (places (category_at i)) < length (places (category_at i))
    go true e = ltb-true _ _ e
    go false e = none_some (sym (get_or-eq_default (places (category_at i)) none (ltb-false _ _ e)) ∙ n.place_is)

-- the check of the item at that FRN
pub check_at_lem : (i ref g : ℕ) (bs : List ℕ) (n : NamedAt ref 1 (places (category_at i)) g) → check_at i g bs ≡ size_of n.place.layout bs
unfolding check_at
check_at_lem i ref g bs n =
    let e : g ≡ suc (index_as ref (places (category_at i))) = n.frn_is ∙ omega arith in
    bind_in _ (expect_in 21 (ap₂ place_at (sym (profile_at_lem i)) e ∙ n.place_is)) refl

-- ---- a record

-- a block that is refused is not searched
pub find_refused : (bs : List ℕ) (k n p : ℕ) → open_from 4 bs ≡ refused n p → find_record categories bs k ≡ refused n p
unfolding find_record
find_refused bs k n p h = bind_out _ (open_refusal bs n p h)

-- the record with a number is sought among those after the head
pub find_record_lem : (bs : List ℕ) (n : ℕ) (o : Opening) → Opens bs o → find_record categories bs n ≡ seek_at o.category 3 (drop 3 bs) n
unfolding find_record seek_at
find_record_lem bs n o k = bind_in _ k.opened refl ∙ sym (bind_in _ k.reads refl)

-- ---- an item

numbered_elem : (c : Category) (k : ℕ) (rs : List Record) (n : ℕ) (z : Numbered) → numbered c k rs n ≡ ok z → get_elem? rs n ≡ some z.value
unfolding numbered
numbered_elem c k [] n z h = refused_ok h
numbered_elem c k (r ∷ rs) zero z h = ap (λ y. some y.value) (ok_inj h)
numbered_elem c k (r ∷ rs) (suc n) z h = numbered_elem c (k + length (octets_of (write_record c r))) rs n z h

-- records and items start no earlier than the first of them
numbered_low : (c : Category) (k : ℕ) (rs : List Record) (n : ℕ) (z : Numbered) → numbered c k rs n ≡ ok z → k ≤ z.start
unfolding numbered
numbered_low c k [] n z h = refused_ok h
numbered_low c k (r ∷ rs) zero z h = le_of_eq (ap (λ y. y.start) (ok_inj h))
numbered_low c k (r ∷ rs) (suc n) z h = omega (arith, numbered_low c (k + length (octets_of (write_record c r))) rs n z h)

-- an item that lies in octets is what is read there
lies_read : (layout : Layout) (v : Values) (bs out : List ℕ) (start : ℕ) → write_item layout v ≡ ok out → Lies bs start out
    → size_of layout (drop start bs) ≡ ok (length out)
unfolding size_of
lies_read layout v bs out start h l =
    let d : drop start bs ≡ out ++ l.after = ap (drop start) l.joins ∙ drop_at l.before (out ++ l.after) start l.starts in
    let e : length (drop start bs) ≡ length out + length l.after = ap length d ∙ length-append out l.after in
    let n : length (drop start bs) - length l.after ≡ length out = omega arith in
    bind_in _ (ap (read_item layout) d ∙ (item_laws layout).back v out l.after h) (ap ok n)

pub item_refused : (bs : List ℕ) (ref k n p : ℕ) → open_from 4 bs ≡ refused n p → find_item categories bs ref k ≡ refused n p
unfolding find_item
item_refused bs ref k n p h = bind_out _ (open_refusal bs n p h)

module _ (bs : List ℕ) (ref n : ℕ) (o : Opening) (k : Opens bs o) where
  pub item_unknown : is_item ref (places o.category) ≡ false → find_item categories bs ref n ≡ refused 21 0
  unfolding find_item
  item_unknown h = bind_in _ k.opened (need_out 21 _ h)

  pub item_nowhere : is_item ref (places o.category) ≡ true → (m p : ℕ) → seek_at o.category 3 (drop 3 bs) n ≡ refused m p → find_item categories bs ref n ≡ refused m p
  unfolding find_item seek_at
  item_nowhere i m p h =
      bind_in _ k.opened (need_in _ 21 (T_true i) (bind_out _ (made_refused (numbered o.category 3 k.block.records n) (map_of o.category) m p (sym (bind_in _ k.reads refl) ∙ h))))

  -- the record that was sought
  record Sought (m : RecordMap) : Type 0 where
    value : Record
    found : RecordFound o.category 3 k.block.records n bs value
    map_is : map_of o.category (record { start = found.start; value = value }) ≡ m

  sought : (m : RecordMap) → seek_at o.category 3 (drop 3 bs) n ≡ ok m → Sought m
  unfolding seek_at
  sought m h =
      bind_elim _ _ h λ rs p h₁.
      bind_elim _ _ h₁ λ z q h₂.
      let y : BodyFound categories k.block bs = body_found categories k.block bs k.writes in
      let e : y.category ≡ o.category = some_inj (sym y.is_category ∙ k.named) in
      let f : rs ≡ k.block.records = ok_inj (sym p ∙ k.reads) in
      let g : numbered o.category 3 k.block.records n ≡ ok z = ap (λ u. numbered o.category 3 u n) (sym f) ∙ q in
      let r : RecordFound o.category 3 k.block.records n bs z.value =
      record_found_lem o.category k.block.records n 3 bs y.body z.value (ap (λ u. write_all (write_record u) k.block.records) (sym e) ∙ y.writes) y.lies
      (numbered_elem o.category 3 k.block.records n z g) in
      record { value = z.value; found = r; map_is = ap (map_of o.category) (ok_inj (sym r.is_numbered ∙ g)) ∙ ok_inj h₂ }

  -- an item that is there: its start is the map's, and its size is what its check answers there
  pub record ItemAt (m : RecordMap) (l : Laid) : Type 0 where
    pub is_found : find_item categories bs ref n ≡ ok l
    pub start_is : get_or m.starts (index_as ref (places o.category)) 0 ≡ l.start
    pub some_start : 0 < l.start
    pub size_is : (p : Layout) → layout_as ref (places o.category) ≡ some p → size_of p (drop l.start bs) ≡ ok l.size
    pub inside : l.start + l.size ≤ length bs

  pub record ItemAbsent (m : RecordMap) : Type 0 where
    pub is_absent_lem : find_item categories bs ref n ≡ refused 20 m.start
    pub start_is : get_or m.starts (index_as ref (places o.category)) 0 ≡ 0

  once : distinct (places o.category) ≡ true
  once = (sound_of categories tables_hold k.block.cat o.category k.named).references

  pub places_few : length (places o.category) ≤ map_places
  places_few = (sound_of categories tables_hold k.block.cat o.category k.named).few

  -- where the map has a reference's item
  start_in : (m : RecordMap) (s : Sought m) → get_or m.starts (index_as ref (places o.category)) 0
      ≡ start_of (get_or (laid_items o.category s.found.start s.value) (index_as ref (places o.category)) none)
  start_in m s =
      ap (λ z. get_or z.starts (index_as ref (places o.category)) 0) (sym s.map_is)
      ∙ map_start o.category (record { start = s.found.start; value = s.value }) (index_as ref (places o.category)) places_few

  absent_in : (m : RecordMap) → is_item ref (places o.category) ≡ true → (s : Sought m) → value_of ref (items o.category s.value) ≡ none → ItemAbsent m
  unfolding find_item map_of
  absent_in m is s e =
      let a : laid_as ref (laid_items o.category s.found.start s.value) ≡ none =
      item_absent (places o.category) (flatten s.value) ref (s.found.start + length s.value) e in
      record {
        is_absent_lem = bind_in _ k.opened (need_in _ 21 (T_true is) (bind_in _ s.found.is_numbered (later_out _ (expect_out 20 a))))
            ∙ ap (refused 20) (add-zero _ ∙ ap (λ z. z.start) s.map_is);
        start_is = start_in m s ∙ start_absent (places o.category) (flatten s.value) ref (s.found.start + length s.value) e;
      }

  there_in : (m : RecordMap) → is_item ref (places o.category) ≡ true → (s : Sought m) (v : Values) → value_of ref (items o.category s.value) ≡ some v
      → (l : Laid) × ItemAt m l
  unfolding find_item
  there_in m is s v e =
      let w : RecordWritten o.category s.value s.found.out = record_written o.category s.value s.found.out s.found.writes in
      let i : ItemFound (places o.category) (flatten s.value) ref (s.found.start + length s.value) bs v =
      item_found_lem (places o.category) (flatten s.value) ref (s.found.start + length s.value) bs v w.each once (items_lie s.found w) e in
      let low : 3 ≤ s.found.start = numbered_low o.category 3 k.block.records n _ s.found.is_numbered in
      let high : s.found.start + length s.value ≤ i.item.start =
      laid_low ref (s.found.start + length s.value) (places o.category) (flatten s.value) i.item i.is_laid in
      let z : length bs ≡ length i.lies.before + (length i.out + length i.lies.after) =
      ap length i.lies.joins ∙ length-append i.lies.before (i.out ++ i.lies.after) ∙ ap (λ y. length i.lies.before + y) (length-append i.out i.lies.after) in (
        i.item,
        record {
          is_found = bind_in _ k.opened (need_in _ 21 (T_true is) (bind_in _ s.found.is_numbered (later_in _ (expect_in 20 i.is_laid))));
          start_is = start_in m s ∙ start_found (places o.category) (flatten s.value) ref (s.found.start + length s.value) i.item once i.is_laid;
          some_start = omega arith;
          size_is = λ p q.
              ap (λ y. size_of y (drop i.item.start bs)) (some_inj (sym q ∙ i.is_layout))
              ∙ lies_read i.layout v bs i.out i.item.start i.writes i.lies
              ∙ ap ok (sym i.size);
          inside = omega (arith, i.lies.starts, i.size);
        },
      )

  pub item_either : (m : RecordMap) → is_item ref (places o.category) ≡ true → seek_at o.category 3 (drop 3 bs) n ≡ ok m → ((l : Laid) × ItemAt m l) ⊎ ItemAbsent m
  item_either m is h = go (value_of ref (items o.category (sought m h).value)) refl
    where
      go : (x : Option Values) → value_of ref (items o.category (sought m h).value) ≡ x → ((l : Laid) × ItemAt m l) ⊎ ItemAbsent m
      go none e = inr (absent_in m is (sought m h) e)
      go (some v) e = inl (there_in m is (sought m h) v e)

  -- by the map alone: 0 is absent
  pub item_absent_at : (m : RecordMap) → is_item ref (places o.category) ≡ true → seek_at o.category 3 (drop 3 bs) n ≡ ok m
      → get_or m.starts (index_as ref (places o.category)) 0 ≡ 0 → find_item categories bs ref n ≡ refused 20 m.start
  item_absent_at m is h z = ⊎_elim (λ (l, a). absurd (omega (arith, a.start_is, a.some_start))) (λ a. a.is_absent_lem) (item_either m is h)

  pub item_there_at : (m : RecordMap) → is_item ref (places o.category) ≡ true → seek_at o.category 3 (drop 3 bs) n ≡ ok m
      → (get_or m.starts (index_as ref (places o.category)) 0 ≡ 0 → ⊥) → (l : Laid) × ItemAt m l
  item_there_at m is h z = ⊎_elim (λ a. a) (λ a. absurd (z a.start_is)) (item_either m is h)

-- ---- what is found lies in the block

lies_inside : {bs : List ℕ} {start : ℕ} {out : List ℕ} → Lies bs start out → start + length out ≤ length bs
lies_inside {bs} {start} {out} l =
    let e : length bs ≡ length l.before + (length out + length l.after) =
    ap length l.joins ∙ length-append l.before (out ++ l.after) ∙ ap (λ z. length l.before + z) (length-append out l.after) in
    omega (arith, l.starts)

pub record_inside : (bs : List ℕ) (n : ℕ) (m : RecordMap) → Octets bs → find_record categories bs n ≡ ok m → m.start + (m.end - m.start) ≤ length bs
unfolding find_record map_of
record_inside bs n m b h =
    bind_elim _ _ h λ x p h₁.
    let o : Opening = record { category = x.category; count = length x.records } in
    let k : Opens bs o = opens bs o b (opened_is bs ∙ bind_in _ p refl) in
    let s : Sought bs 0 n o k m = sought bs 0 n o k m (sym (find_record_lem bs n o k) ∙ h) in
    let i : s.found.start + length s.found.out ≤ length bs = lies_inside s.found.lies in
    let e : s.found.start + length s.found.out ≡ m.end =
    ap (λ z. s.found.start + length z) (sym (octets_of-ok s.found.writes)) ∙ ap (λ z. z.end) s.map_is in
    let f : s.found.start ≡ m.start = ap (λ z. z.start) s.map_is in
    omega arith

T-eq : (t : Bool) → T t → t ≡ true
T-eq true h = refl
T-eq false h = absurd h

-- the map of a record that was found
found_record : (bs : List ℕ) (n : ℕ) (x : Opened) (r : Numbered) → open_block categories bs ≡ ok x → numbered x.category 3 x.records n ≡ ok r
    → find_record categories bs n ≡ ok (map_of x.category r)
unfolding find_record
found_record bs n x r p q = bind_in _ p (bind_in _ q refl)

pub item_inside : (bs : List ℕ) (ref n : ℕ) (l : Laid) → Octets bs → find_item categories bs ref n ≡ ok l → l.start + l.size ≤ length bs
unfolding find_item
item_inside bs ref n l b h =
    bind_elim _ _ h λ x p h₁.
    need_elim _ _ _ h₁ λ is h₂.
    bind_elim _ _ h₂ λ r q h₃.
    let o : Opening = record { category = x.category; count = length x.records } in
    let k : Opens bs o = opens bs o b (opened_is bs ∙ bind_in _ p refl) in
    let e : x.records ≡ k.block.records = ap (λ z. z.records) (ok_inj (sym p ∙ k.opened)) in
    let s : seek_at x.category 3 (drop 3 bs) n ≡ ok (map_of x.category r) =
    sym (find_record_lem bs n o k) ∙ found_record bs n x r p q in
    ⊎_elim
    (λ (m, a). subst (λ z. z.start + z.size ≤ length bs) (ok_inj (sym a.is_found ∙ h)) a.inside)
    (λ a. refused_ok (sym a.is_absent_lem ∙ h))
    (item_either bs ref n o k (map_of x.category r) (T-eq _ is) s)

-- ---- by what the code answers

pub record LocatedAt (x : Answer RecordMap) (r : code.RecordFound) : Type 0 where
  pub map : RecordMap
  pub found : x ≡ ok map
  pub start_is : map.start ≡ r.start
  pub length_is : map.end - map.start ≡ r.length
  pub map_is : r.map ≡ map_by map
  pub span_is : span_in (record_span x) ≡ (r.start, r.length)

pub located : (x : Answer RecordMap) (r : code.RecordFound) → ok r ≡ found_in x → LocatedAt x r
located (ok m) r h =
    let e : r ≡ record { start = m.start; length = m.end - m.start; map = map_by m } = ok_inj h in
    record {
      map = m;
      found = refl;
      start_is = ap (λ z. z.start) (sym e);
      length_is = ap (λ z. z.length) (sym e);
      map_is = ap (λ z. z.map) e;
      span_is = ap (λ z. (z.start, z.length)) (sym e);
    }
located (refused n p) r h = refused_ok (sym h)

pub record_inside_at : (bs : List ℕ) (n : ℕ) {r : code.RecordFound} → Octets bs → LocatedAt (find_record categories bs n) r → r.start + r.length ≤ length bs
record_inside_at bs n b a = omega (arith, record_inside bs n a.map b a.found, a.start_is, a.length_is)

pub lost : (x : Answer RecordMap) (n p : ℕ) → refused n p ≡ found_in x → x ≡ refused n p
lost (ok m) n p h = refused_ok h
lost (refused m q) n p h = cc

pub record ItemSpan (x : Answer Laid) (s l : ℕ) : Type 0 where
  pub item : Laid
  pub found : x ≡ ok item
  pub start_is : item.start ≡ s
  pub size_is : item.size ≡ l
  pub span_is : span_in (item_span x) ≡ (s, l)

pub item_located : (x : Answer Laid) (s l : ℕ) → ok (s, l) ≡ item_span x → ItemSpan x s l
item_located (ok m) s l h =
    let e : ◌≡◌ {A = ℕ × ℕ} (m.start, m.size) (s, l) = ok_inj (sym h) in
    record { item = m; found = refl; start_is = ap (λ z. z.0) e; size_is = ap (λ z. z.1) e; span_is = e }
item_located (refused n p) s l h = refused_ok (sym h)

pub item_lost : (x : Answer Laid) (n p : ℕ) → refused n p ≡ item_span x → x ≡ refused n p
item_lost (ok m) n p h = refused_ok h
item_lost (refused m q) n p h = cc

pub item_inside_at : (bs : List ℕ) (ref n s l : ℕ) → Octets bs → ItemSpan (find_item categories bs ref n) s l → s + l ≤ length bs
item_inside_at bs ref n s l b a = omega (arith, item_inside bs ref n a.item b a.found, a.start_is, a.size_is)

-- there is no record with a number only for the reason 19
numbered_refused : (c : Category) (k : ℕ) (rs : List Record) (n m p : ℕ) → numbered c k rs n ≡ refused m p → ◌≡◌ {A = Answer Numbered} (refused m p) (refused 19 0)
unfolding numbered
numbered_refused c k [] n m p h = sym h
numbered_refused c k (r ∷ rs) zero m p h = refused_ok (sym h)
numbered_refused c k (r ∷ rs) (suc n) m p h = numbered_refused c (k + length (octets_of (write_record c r))) rs n m p h

-- the item of a block that is opened, by its FRN and the map of its record
module _ (bs : List ℕ) (ref n i count : ℕ) (k : Opens bs (record { category = category_at i; count = count })) where
  pub no_record_is : (f m p : ℕ) → NamedAt ref 1 (places (category_at i)) f → seek_at (category_at i) 3 (drop 3 bs) n ≡ refused m p → find_item categories bs ref n ≡ refused m p
  no_record_is f m p named h = item_nowhere bs ref n _ k named.is_item m p h

  pub no_record_at : (f m p : ℕ) → NamedAt ref 1 (places (category_at i)) f → seek_at (category_at i) 3 (drop 3 bs) n ≡ refused m p → find_item categories bs ref n ≡ refused 19 0
  unfolding seek_at
  no_record_at f m p named h =
      let e : numbered (category_at i) 3 k.block.records n ≡ refused m p =
      made_refused (numbered (category_at i) 3 k.block.records n) (map_of (category_at i)) m p (sym (bind_in _ k.reads refl) ∙ h) in
      let g : ◌≡◌ {A = Answer Numbered} (refused m p) (refused 19 0) = numbered_refused (category_at i) 3 k.block.records n m p e in
      item_nowhere bs ref n _ k named.is_item m p h ∙ (cc)

  -- the map has a place for it
  pub index_in : (f : ℕ) → NamedAt ref 1 (places (category_at i)) f → f - 1 < map_places
  index_in f named = omega (arith, named.frn_is, index_few i named, places_few bs ref n _ k)

  -- 0 in the map
  pub absent_at_lem : (f : ℕ) (m : RecordMap) (starts : List ℕ) → NamedAt ref 1 (places (category_at i)) f → seek_at (category_at i) 3 (drop 3 bs) n ≡ ok m
      → starts ≡ m.starts → get_or starts (f - 1) 0 ≡ 0 → find_item categories bs ref n ≡ refused 20 m.start
  absent_at_lem f m starts named h e z =
      let d : f - 1 ≡ index_as ref (places (category_at i)) = omega (arith, named.frn_is) in
      item_absent_at bs ref n _ k m named.is_item h (ap₂ (λ y j. get_or y j 0) (sym e) (sym d) ∙ z)

  -- or where it starts, x, and what its check answers there
  pub record ThereAt (f x : ℕ) : Type 0 where
    pub item : Laid
    pub found : find_item categories bs ref n ≡ ok item
    pub start_is : x ≡ item.start
    pub inside : item.start + item.size ≤ length bs
    pub check : check_at i f (drop x bs) ≡ ok item.size

  pub there_at : (f : ℕ) (m : RecordMap) (starts : List ℕ) → NamedAt ref 1 (places (category_at i)) f → seek_at (category_at i) 3 (drop 3 bs) n ≡ ok m
      → starts ≡ m.starts → (get_or starts (f - 1) 0 ≡ 0 → ⊥) → ThereAt f (get_or starts (f - 1) 0)
  there_at f m starts named h e z =
      let d : f - 1 ≡ index_as ref (places (category_at i)) = omega (arith, named.frn_is) in
      let g : get_or starts (f - 1) 0 ≡ get_or m.starts (index_as ref (places (category_at i))) 0 = ap₂ (λ y j. get_or y j 0) e d in
      let (l, a) = item_there_at bs ref n _ k m named.is_item h (λ y. z (g ∙ y)) in
      let x : get_or starts (f - 1) 0 ≡ l.start = g ∙ a.start_is in
      record {
        item = l;
        found = a.is_found;
        start_is = x;
        inside = a.inside;
        check = check_at_lem i ref f (drop (get_or starts (f - 1) 0) bs) named ∙ ap (λ y. size_of named.place.layout (drop y bs)) x
            ∙ a.size_is named.place.layout named.layout_is;
      }
