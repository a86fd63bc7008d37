-- An item that is not compound, by the row of its layout: the list's values are cut into parts, and an extended item has one number more for each part
-- that is absent. What the row says is what the rules' `write_fields` writes.
--
-- In order: the kind of a row; every row can be told apart; the values of an extended item; a row's list cut; an extended item; any item. Assumes
-- nothing.
use Rattle.tables.specs.declared.tables.Kind.TheVariants.{Extended}
use Rattle.tables.proofs.KindLaws.{kind_same, kind_other}
use Prim.Native.Nat.{ℕ, zero, suc, ◌+◌, ◌-◌, ◌<◌, ◌≤◌}
use mathlib.Core.Path.{◌≡◌, refl, sym, ap, ap₂, ◌∙◌, subst}
use mathlib.Core.Bool.{Bool, true, false, cond, true≢false, false≢true}
use mathlib.Core.Option.{Option, none, some}
use mathlib.Core.List.{List, [], ◌∷◌, ◌++◌, map}
use native.Mathlib.Omega.{arith}
use mathlib.Core.Logic.{⊎_elim}
use borrow.Author.Tests.{eq-eqb, ne_eqb, eqb-true, ltb-true}
use lib.Dec.{T, ltb, eqb, le→leb, eqb→eq}
use lib.IntN.{ℤ, pos}
use lib.ListN.{length, get_or, take, drop, replicate, length-append, length-replicate, length-drop, take-append-drop, get_or-append, get_or-replicate}
use lib.Seq.{take_all, take_at, drop_at, drop-cons, get_or-append-add}
use Rattle.rules.specs.Answer.{ok, ◌>>=◌, need◌or◌then◌}
use Rattle.rules.specs.Field.{Field, spare, value, arity, put, pack}
use Rattle.rules.specs.Chain.{flatten}
use Rattle.rules.specs.Format.{Group, Format, fixed, repeated, led, extended, PartValues, groups, pack_all, write_plain}
use Rattle.rules.specs.Layout.{plain, Values, in_parts, in_subfields, write_item}
use Rattle.rules.specs.FieldList.{absent_field, is_absent, all_absent, field_list, values_from, write_fields}
use Rattle.rules.proofs.AnswerLaws.{refused_ok, ok_inj, bind_in, bind_elim, need_in, need_elim, if_inv, if_true, if_false, both_left, both_right, below_or, nil_of_length, bind_cong, T_true, Only, This, only_bind, only_need}
use Rattle.rules.proofs.Refusals.{parts_packed, fields_written}
use Rattle.rules.proofs.FieldLaws.{fields_inverse, unpack_arity}
use Rattle.rules.specs.Catalogue.{categories}
use Rattle.rules.proofs.FieldListLaws.{is_refused, tells, listed, all_listed, format_listed, absent_is, all_absent_lem, values_given, values_taken}
use Rattle.tables.specs.declared.tables.LayoutRow.{LayoutRow}
use Rattle.tables.specs.Tables as tables
use Rattle.tables.specs.Tables.{fields, layouts, group_at, layout_rows, no_layout_row, layout_at, format_by, format_is}
use Rattle.writing.specs.Write.{parts_from, cut, fields_of, numbers_of, parts_at, chained_at, Cut, cut_at}
use Rattle.writing.specs.Item.{Front, FrontAt, told_at, plain_at}
use Rattle.writing.proofs.Sound.{every, every_at}
use Rattle.writing.proofs.TableLaws.{layout_row_is}
use Rattle.writing.proofs.Refusals.{parts_cut, pass_alike}
use Rattle.writing.proofs.FormatLaws.{groups_parts, pack_all-length}
use Rattle.writing.proofs.RowLaws.{format_is_lem, cut_by}
use Rattle.writing.proofs.CutLaws.{fixed_cut, list_cut, led_cut}

-- ---- the kind of a row

module _ (i : ℕ) {r : LayoutRow} (er : r ≡ layout_at i) where
  pub most_is : length (parts_at i) ≡ r.most
  most_is = (layout_row_is i).most ∙ sym (ap (λ x. x.most) er)

  chained_yes : r.kind ≡ Extended → chained_at i ≡ true
  unfolding chained_at
  chained_yes e = kind_same (layout_at i).kind Extended (sym (ap (λ x. x.kind) er) ∙ e)

  chained_no : (r.kind ≡ Extended → ⊥) → chained_at i ≡ false
  unfolding chained_at
  chained_no e = kind_other (layout_at i).kind Extended (λ z. e (ap (λ x. x.kind) er ∙ z))

  pub told_parts : r.kind ≡ Extended → (k t : ℕ) → eqb (r.most - k) t ≡ told_at i k t
  unfolding told_at
  told_parts e k t = ap (λ x. eqb (x.most - k) t) er ∙ sym (ap (λ b. cond b (eqb ((layout_at i).most - k) t) true) (chained_yes e))

  pub told_whole : (r.kind ≡ Extended → ⊥) → (k t : ℕ) → true ≡ told_at i k t
  unfolding told_at
  told_whole e k t = sym (ap (λ b. cond b (eqb ((layout_at i).most - k) t) true) (chained_no e))

  pub front_parts : r.kind ≡ Extended → (vs : List ℤ) {n : ℕ} → Front vs n → FrontAt i vs n
  front_parts e vs f = record { few = f.few; whole = λ z. absurd (true≢false (sym (chained_yes e) ∙ z)); front = λ z. f }

  pub front_whole : (r.kind ≡ Extended → ⊥) → (vs : List ℤ) → FrontAt i vs (length vs)
  front_whole e vs = record { few = omega arith; whole = λ z. refl; front = λ z. absurd (true≢false (sym z ∙ chained_no e)) }

-- ---- every row can be told apart: each part has a value, and no field may hold the number that stands for what is absent

abbrev listed_in : Option Format → Bool
listed_in none = true
listed_in (some s) = format_listed s

rows_listed_lem : T (every (λ r. listed_in (format_is r)) (no_layout_row ∷ layout_rows 0 0 layouts))
unfolding format_is format_by group_at fields tables.groups layouts categories put need◌or◌then◌
rows_listed_lem = tt

pub row_listed_lem : (i : ℕ) (s : Format) → format_is (layout_at i) ≡ some s → format_listed s ≡ true
unfolding layout_at format_is format_by
row_listed_lem i s e =
    true_is (subst (λ o. T (listed_in o)) e (every_at (λ r. listed_in (format_is r)) (no_layout_row ∷ layout_rows 0 0 layouts) no_layout_row rows_listed_lem tt i))
  where
    true_is : {t : Bool} → T t → t ≡ true
    true_is {t = true} h = refl
    true_is {t = false} h = absurd h

-- so a part has a value
pub some_arity : (g : List Field) → listed g ≡ true → 0 < arity g
some_arity g t = ltb-true _ _ (both_left (ltb 0 (arity g)) (tells g) t)

-- ---- an extended item: no value is the number that stands for what is absent

abbrev Told : List ℤ → Type 0
Told [] = Unit {0}
Told (v ∷ vs) = (is_absent v ≡ false) × Told vs

told_append : (us vs : List ℤ) → Told us → Told vs → Told (us ++ vs)
told_append [] vs p q = q
told_append (u ∷ us) vs p q = (p.0, told_append us vs p.1 q)

told_at_lem : (vs : List ℤ) (n : ℕ) → Told vs → n < length vs → is_absent (get_or vs n (pos 0)) ≡ false
told_at_lem [] n t h = absurd (omega arith)
told_at_lem (v ∷ vs) zero t h = t.0
told_at_lem (v ∷ vs) (suc n) t h = told_at_lem vs n t.1 (omega arith)

pack_told : (g : List Field) (vs : List ℤ) (n : ℕ) → tells g ≡ true → pack g vs ≡ ok n → Told vs
unfolding pack
pack_told g [] n t h = tt
pack_told [] (v ∷ vs) n t h = refused_ok h
pack_told (spare w ∷ fs) (v ∷ vs) n t h = pack_told fs (v ∷ vs) n t h
pack_told (value w k ∷ fs) (v ∷ vs) n t h =
    bind_elim _ _ h λ c p h₁.
    need_elim _ _ _ h₁ λ q h₂.
    bind_elim _ _ h₂ λ m r h₃.
    (go (is_absent v) refl c p, pack_told fs vs m (both_right (is_refused (put w k absent_field)) (tells fs) t) r)
  where
    go : (b : Bool) → is_absent v ≡ b → (c : ℕ) → put w k v ≡ ok c → b ≡ false
    go true e c p = absurd (false≢true (ap is_refused (sym (ap (put w k) (sym (absent_is v e)) ∙ p)) ∙ both_left (is_refused (put w k absent_field)) (tells fs) t))
    go false e c p = refl

parts_told : (gs : List (List Field)) (us : PartValues) (ns : List ℕ) → all_listed gs ≡ true → pack_all gs us ≡ ok ns → Told (flatten us)
unfolding pack_all
parts_told gs [] ns t h = tt
parts_told [] (u ∷ us) ns t h = refused_ok h
parts_told (g ∷ gs) (u ∷ us) ns t h =
    bind_elim _ _ h λ n p h₁.
    bind_elim _ _ h₁ λ ms q h₂.
    told_append u (flatten us) (pack_told g u n (both_right (ltb 0 (arity g)) (tells g) (both_left (listed g) (all_listed gs) t)) p)
    (parts_told gs us ms (both_right (listed g) (all_listed gs) t) q)

-- so the values end where a number is not absent any more
front_is : (us : List ℤ) (t n : ℕ) → Told us → Front (us ++ replicate t absent_field) n → n ≡ length us
front_is us t n told f = ⊎_elim less more (below_or n (length us))
  where
    long : length (us ++ replicate t absent_field) ≡ length us + t
    long = length-append us (replicate t absent_field) ∙ ap (λ x. length us + x) (length-replicate t absent_field)

    less : n < length us → n ≡ length us
    less h =
        let a : is_absent (get_or (us ++ replicate t absent_field) n (pos 0)) ≡ true =
        both_left _ _ (sym (ap all_absent (drop-cons (us ++ replicate t absent_field) n (pos 0) (omega (arith, long)))) ∙ f.absent) in
        let b : is_absent (get_or (us ++ replicate t absent_field) n (pos 0)) ≡ false = ap is_absent (get_or-append us (replicate t absent_field) (pos 0) n h) ∙ told_at_lem us n told h in
        absurd (true≢false (sym a ∙ b))

    more : length us ≤ n → n ≡ length us
    more h = ⊎_elim (λ (l : length us < n). past l) (λ (l : n ≤ length us). omega arith) (below_or (length us) n)
      where
        past : length us < n → n ≡ length us
        past l =
            let j : n - 1 ≡ length us + (n - 1 - length us) = omega arith in
            let b : is_absent (get_or (us ++ replicate t absent_field) (n - 1) (pos 0)) ≡ true =
            ap (λ x. is_absent (get_or (us ++ replicate t absent_field) x (pos 0))) j
            ∙ ap is_absent (get_or-append-add us (replicate t absent_field) (n - 1 - length us) (pos 0) ∙ get_or-replicate t (n - 1 - length us) absent_field (pos 0) (omega (arith, long, f.few))) in
            absurd (true≢false (sym b ∙ f.last (omega arith)))

-- the values of parts, cut again
parts_back : (gs : List (List Field)) (us : PartValues) (ns : List ℕ) → all_listed gs ≡ true → pack_all gs us ≡ ok ns → parts_from gs (flatten us) ≡ ok us
unfolding pack_all parts_from
parts_back [] [] ns t h = need_in _ _ tt refl
parts_back (g ∷ gs) [] ns t h = if_true _ refl refl
parts_back [] (u ∷ us) ns t h = refused_ok h
parts_back (g ∷ gs) (u ∷ us) ns t h =
    bind_elim _ _ h λ n p h₁.
    bind_elim _ _ h₁ λ ms q h₂.
    let l : length u ≡ arity g = unpack_arity g n u ((fields_inverse g).from n u p) in
    let z : 0 < arity g = some_arity g (both_left (listed g) (all_listed gs) t) in
    let a : length (u ++ flatten us) ≡ length u + length (flatten us) = length-append u (flatten us) in
    if_false _ (ne_eqb (length (u ++ flatten us)) 0 (λ (e : length (u ++ flatten us) ≡ 0). absurd (omega arith)))
    (need_in _ _ (le→leb (arity g) (length (u ++ flatten us)) (omega arith))
    (rw (drop_at u (flatten us) (arity g) l, take_at u (flatten us) (arity g) l)
    (bind_in _ (parts_back gs us ms (both_right (listed g) (all_listed gs) t) q) refl)))

-- and a list cut is the values of its parts
cut_given : (gs : List (List Field)) (vs : List ℤ) (us : PartValues) → parts_from gs vs ≡ ok us → flatten us ≡ vs
unfolding parts_from
cut_given [] vs us h = need_elim _ _ _ h λ t h₁. ap flatten (sym (ok_inj h₁)) ∙ sym (nil_of_length vs (eqb→eq _ 0 t))
cut_given (g ∷ gs) vs us h =
    ⊎_elim
    (λ (e, h₁). ap flatten (sym (ok_inj h₁)) ∙ sym (nil_of_length vs (eqb-true (length vs) 0 e)))
    (λ (e, h₁).
    need_elim _ _ _ h₁ λ t h₂.
    bind_elim _ _ h₂ λ ps p h₃.
    ap flatten (sym (ok_inj h₃)) ∙ ap (λ m. take (arity g) vs ++ m) (cut_given gs (drop (arity g) vs) ps p) ∙ take-append-drop (arity g) vs)
    (if_inv _ _ _ h)

-- ---- a row's list cut, and the rules'

-- how many parts it makes
pub cut_count : (i : ℕ) (s : Format) (vs : List ℤ) (c : Cut) (us : PartValues) → format_is (layout_at i) ≡ some s → cut_at i vs ≡ ok c → parts_from (groups s) vs ≡ ok us
    → c.count ≡ length us
unfolding cut_at numbers_of
cut_count i s vs c us e h p =
    bind_elim _ _ h λ ns q h₁.
    need_elim _ _ _ h₁ λ t h₂.
    bind_elim _ _ q λ ps r h₃.
    let g : fields_of (parts_at i) ≡ groups s = ap fields_of (format_is_lem i s e).parts_are ∙ sym (groups_parts s) in
    let d : ps ≡ us = ok_inj (sym r ∙ ap (λ x. parts_from x vs) g ∙ p) in
    sym (ap (λ x. x.count) (ok_inj h₂)) ∙ pack_all-length (fields_of (parts_at i)) ps h₃ ∙ ap length d

pub record Cuts (i : ℕ) (s : Format) (vs : List ℤ) (k : ℕ) (bs : List ℕ) : Type 0 where
  pub us : PartValues
  pub parts : parts_from (groups s) vs ≡ ok us
  pub count : k ≡ length us
  pub writes : write_plain s us ≡ ok bs

pub cuts : (i : ℕ) (s : Format) (vs : List ℤ) (c : Cut) → format_is (layout_at i) ≡ some s → cut_at i vs ≡ ok c → Cuts i s vs c.count c.octets
unfolding cut
cuts i s vs c e h =
    bind_elim _ _ (cut_by i s vs e ∙ bind_in _ h refl) λ us p h₁.
    record { us = us; parts = p; count = cut_count i s vs c us e h p; writes = h₁ }

pub cut_in : (i : ℕ) (s : Format) (vs : List ℤ) (us : PartValues) (bs : List ℕ) → format_is (layout_at i) ≡ some s → parts_from (groups s) vs ≡ ok us → write_plain s us ≡ ok bs
    → (c : Cut) × (cut_at i vs ≡ ok c) × ((c.count ≡ length us) × (c.octets ≡ bs))
unfolding cut
cut_in i s vs us bs e p w =
    bind_elim _ _ (sym (cut_by i s vs e) ∙ bind_in _ p w) λ c q h₁.
    (c, q, (cut_count i s vs c us e q p, ok_inj h₁))

-- ---- an extended item, either way

-- every refusal is 11 at 0
numbers_only : (gs : List Group) (vs : List ℤ) → Only (This 11) (numbers_of gs vs)
unfolding numbers_of
numbers_only gs vs = only_bind (This 11) _ _ (parts_cut (fields_of gs) vs) λ ps. parts_packed (This 11) (refl, refl) (fields_of gs) ps

pub cut_only : (i : ℕ) (vs : List ℤ) → Only (This 11) (cut_at i vs)
unfolding cut_at
cut_only i vs = only_bind (This 11) _ _ (numbers_only (parts_at i) vs) λ ns. only_need (This 11) _ _ _ (refl, refl) tt

plain_only : (i : ℕ) (vs : List ℤ) (n : ℕ) → Only (This 11) (plain_at i vs n)
unfolding plain_at
plain_only i vs n = only_bind (This 11) _ _ (cut_only i (take n vs)) λ c. only_need (This 11) _ _ _ (refl, refl) tt

module _ (i : ℕ) (gs : List Group) (vs : List ℤ) (n : ℕ) (e : format_is (layout_at i) ≡ some (extended gs)) (f : Front vs n) where
  chains : chained_at i ≡ true
  chains = (format_is_lem i (extended gs) e).chained_is

  most_long : (layout_at i).most ≡ length gs
  most_long = sym (layout_row_is i).most ∙ ap length (format_is_lem i (extended gs) e).parts_are

  all_listed_lem : all_listed (map (λ g. g.fields) gs) ≡ true
  all_listed_lem = row_listed_lem i (extended gs) e

  told_is : (k : ℕ) → told_at i k (length vs - n) ≡ eqb (length gs - k) (length vs - n)
  unfolding told_at
  told_is k = ap (λ b. cond b (eqb ((layout_at i).most - k) (length vs - n)) true) chains ∙ ap (λ x. eqb (x - k) (length vs - n)) most_long

  -- what the rules write
  extended_to : (bs : List ℕ) → write_fields (plain (extended gs)) vs ≡ ok bs → plain_at i vs n ≡ ok bs
  unfolding write_fields write_item plain_at write_plain
  extended_to bs h = bind_elim _ _ h λ v p h₁. go v p h₁
    where
      go : (v : Values) → values_from (plain (extended gs)) vs ≡ ok v → write_item (plain (extended gs)) v ≡ ok bs → plain_at i vs n ≡ ok bs
      go (in_subfields rs) p w = refused_ok w
      go (in_parts us) p w =
          bind_elim _ _ w λ ns q w₁.
          need_elim _ _ _ q λ y pk.
          let t = length gs - length us in
          let g : flatten us ++ replicate t absent_field ≡ vs = values_given (plain (extended gs)) vs (in_parts us) p in
          let m : n ≡ length (flatten us) = front_is (flatten us) t n (parts_told (map (λ g. g.fields) gs) us ns all_listed_lem pk) (subst (λ x. Front x n) (sym g) f) in
          let a : take n vs ≡ flatten us = ap (take n) (sym g) ∙ take_at (flatten us) (replicate t absent_field) n (sym m) in
          let (c, d, k) = cut_in i (extended gs) (flatten us) us bs e (parts_back (map (λ g. g.fields) gs) us ns all_listed_lem pk) w in
          let l : length vs ≡ length (flatten us) + t = ap length (sym g) ∙ length-append (flatten us) (replicate t absent_field) ∙ ap (λ x. length (flatten us) + x) (length-replicate t absent_field) in
          let b : length gs - c.count ≡ length vs - n = omega (arith, k.0) in
          bind_in _ (ap (cut_at i) a ∙ d) (need_in _ _ (T_true (told_is c.count ∙ eq-eqb _ _ b)) (ap ok k.1))

  -- and what the row says
  extended_from : (bs : List ℕ) → plain_at i vs n ≡ ok bs → write_fields (plain (extended gs)) vs ≡ ok bs
  unfolding plain_at write_fields write_item
  extended_from bs h =
      bind_elim _ _ h λ c p h₁.
      need_elim _ _ _ h₁ λ t h₂.
      let d : Cuts i (extended gs) (take n vs) c.count c.octets = cuts i (extended gs) (take n vs) c e p in
      let b : length gs - c.count ≡ length vs - n = eqb→eq _ _ (subst T (told_is c.count) t) in
      let r : drop n vs ≡ replicate (length gs - length d.us) absent_field =
      all_absent_lem (drop n vs) f.absent ∙ ap (λ x. replicate x absent_field) (length-drop n vs ∙ sym b ∙ ap (λ x. length gs - x) d.count) in
      let g : field_list (plain (extended gs)) (in_parts d.us) ≡ vs =
      ap₂ ◌++◌ (cut_given (map (λ g. g.fields) gs) (take n vs) d.us d.parts) (sym r) ∙ take-append-drop n vs in
      let w : write_plain (extended gs) d.us ≡ ok bs = d.writes ∙ h₂ in
      bind_in _ (ap (values_from (plain (extended gs))) (sym g) ∙ values_taken (plain (extended gs)) (in_parts d.us) bs all_listed_lem w) w

  extended_at : write_fields (plain (extended gs)) vs ≡ plain_at i vs n
  extended_at =
      pass_alike (write_fields (plain (extended gs)) vs) (plain_at i vs n) (fields_written (This 11) (refl, refl) (plain (extended gs)) vs) (plain_only i vs n) extended_to extended_from

-- ---- any item that is not compound

module _ (i : ℕ) (s : Format) (vs : List ℤ) (n : ℕ) (e : format_is (layout_at i) ≡ some s) (f : FrontAt i vs n) where
  -- without an extension the list is all values
  whole_at : chained_at i ≡ false → write_fields (plain s) vs ≡ cut s vs → write_fields (plain s) vs ≡ plain_at i vs n
  unfolding plain_at told_at need◌or◌then◌
  whole_at z h =
      h ∙ cut_by i s vs e ∙ ap (λ x. cut_at i x >>= (λ c. ok c.octets)) (sym (take_all n vs (omega (arith, f.whole z))))
      ∙ bind_cong (cut_at i (take n vs)) _ _ (λ c. sym (ap (λ b. need (cond b (eqb ((layout_at i).most - c.count) (length vs - n)) true) or 11 then ok c.octets) z))

-- THE ROW SAYS what the rules write
pub plain_at_lem : (i : ℕ) (s : Format) (vs : List ℤ) (n : ℕ) → format_is (layout_at i) ≡ some s → FrontAt i vs n → write_fields (plain s) vs ≡ plain_at i vs n
plain_at_lem i (fixed g) vs n e f = whole_at i (fixed g) vs n e f (format_is_lem i (fixed g) e).chained_is (fixed_cut g vs (some_arity g.fields (row_listed_lem i (fixed g) e)))
plain_at_lem i (repeated lo hi g) vs n e f =
    whole_at i (repeated lo hi g) vs n e f (format_is_lem i (repeated lo hi g) e).chained_is (list_cut lo hi g vs (some_arity g.fields (row_listed_lem i (repeated lo hi g) e)))
plain_at_lem i (led lo) vs n e f = whole_at i (led lo) vs n e f (format_is_lem i (led lo) e).chained_is (led_cut lo vs)
plain_at_lem i (extended gs) vs n e f = extended_at i gs vs n e (f.front (format_is_lem i (extended gs) e).chained_is)
