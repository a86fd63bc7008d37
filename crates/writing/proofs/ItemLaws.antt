-- The answers of `write_item`, by what was tested on the way, and what the output then holds.
--
-- In order: a refusal, and an item; an item that is not compound; a compound one; the layout of a reference. Assumes nothing.
use Rattle.tables.specs.declared.tables.Kind.TheVariants.{Compound}
use Rattle.tables.specs.Tables.{same_kind}
use Rattle.tables.proofs.KindLaws.{kind_same, kind_other, kind_true}
use Prim.Native.Nat.{ℕ, zero, suc, ◌+◌, ◌-◌, ◌<◌, ◌≤◌}
use mathlib.Core.Path.{◌≡◌, refl, sym, ap, ◌∙◌, subst}
use mathlib.Core.Bool.{Bool, true, false, cond, false≢true}
use mathlib.Core.Option.{Option, none, some}
use mathlib.Core.List.{List}
use native.Mathlib.Omega.{arith}
use borrow.Author.Tests.{lt-leb}
use lib.Dec.{leb, le→leb}
use lib.IntN.{ℤ}
use lib.ListN.{length, take}
use lib.Seq.{sets}
use Rattle.rules.specs.Answer.{Answer, ok, refused, ◌>>=◌, need◌or◌then◌, expect◌or◌}
use Rattle.rules.specs.Format.{Format}
use Rattle.rules.specs.Layout.{plain, compound}
use Rattle.rules.specs.FieldList.{write_fields}
use Rattle.rules.specs.Presence.{present}
use Rattle.rules.specs.Catalogue.{categories}
use Rattle.rules.specs.Entry.{layout_of, write_one, leaves}
use Rattle.rules.proofs.AnswerLaws.{none_some, bind_in, bind_out, need_in, need_out, T_true}
use Rattle.tables.specs.declared.tables.LayoutRow.{LayoutRow}
use Rattle.tables.specs.Tables.{layout_count, primaries_is, as_plain, layout_at, format_by, format_is, layout_is}
use Rattle.tables.proofs.TableLaws.{layout_some}
use Rattle.layouts.proofs.Stores.{sets_over}
use Rattle.items.specs.Answers.{count_of}
use Rattle.writing.specs.Write.{parts_at, parts, cut_at, size_at, octets_at}
use Rattle.writing.specs.Compound.{all_rows, compound_at, rows_size, compound_octets}
use Rattle.writing.specs.Item.{FrontAt, told_at, plain_at, write_at}
use Rattle.writing.proofs.Handed.{refused_before}
use Rattle.writing.proofs.RowLaws.{Sized, sized, size_refused}
use Rattle.writing.proofs.PlainLaws.{plain_at_lem}
use Rattle.writing.proofs.PrimaryTurns.{Whole, whole}
use Rattle.writing.proofs.CompoundLaws.{compound_at_lem}

-- ---- a refusal, and an item

-- what the function answers and what the output then holds
abbrev pub Answers : Answer ℕ → List ℕ → Answer (List ℕ) → List ℕ → Type 0
Answers r out' m out = (r ≡ count_of m) × (out' ≡ leaves m out)

refusal : {m : Answer (List ℕ)} (n p : ℕ) (out : List ℕ) → m ≡ refused n p → Answers (refused n p) out m out
unfolding count_of ◌>>=◌
refusal n p out e = rw e (refl, refl)

item : {m : Answer (List ℕ)} {bs : List ℕ} {k : ℕ} (out : List ℕ) {out' : List ℕ} → m ≡ ok bs → k ≡ length bs → out' ≡ sets out 0 bs → Answers (ok k) out' m out
unfolding count_of ◌>>=◌
item {bs = bs} out e d o = rw e (ap ok d, o ∙ sets_over bs out)

-- the item's octets, where there is room for them
abbrev fitted : ℕ → Answer (List ℕ) → Answer (List ℕ)
fitted room m = m >>= (λ bs. need leb (length bs) room or 16 then ok bs)

-- of a rule that the layout is written by
module _ {m w : Answer (List ℕ)} (out : List ℕ) (e : m ≡ fitted (length out) w) where
  pub no_item : {x y : ℕ} → w ≡ refused x y → Answers (refused x y) out m out
  no_item {x} {y} h = refusal x y out (e ∙ bind_out _ h)

  module _ {bs : List ℕ} {k : ℕ} (h : w ≡ ok bs) (d : k ≡ length bs) where
    pub no_room : length out < k → Answers (refused 16 0) out m out
    no_room l = refusal 16 0 out (e ∙ bind_in _ h (need_out 16 _ (lt-leb (length bs) (length out) (omega arith))))

    pub with_room : {out' : List ℕ} → k ≤ length out → out' ≡ sets out 0 bs → Answers (ok k) out' m out
    with_room l o = item out (e ∙ bind_in _ h (need_in _ _ (le→leb (length bs) (length out) (omega arith)) refl)) d o

-- ---- an item that is not compound

no_format : (r : LayoutRow) → r.kind ≡ Compound → format_is r ≡ none
unfolding format_is format_by
no_format r e = rw e

row_plain : (r : LayoutRow) (s : Format) → format_is r ≡ some s → layout_is r ≡ some (plain s)
unfolding layout_is
row_plain r s e = go (same_kind r.kind Compound) refl
  where
    go : (t : Bool) → same_kind r.kind Compound ≡ t → cond t (some (compound (primaries_is (r.end - r.first) r.first))) (as_plain (format_is r)) ≡ some (plain s)
    go true d = none_some (sym (no_format r (kind_true r.kind Compound d)) ∙ e)
    go false d = ap as_plain e

pub present_elim : {A C : Type 0} (m : Option A) → present m ≡ true → ((a : A) → m ≡ some a → C) → C
present_elim none e k = absurd (false≢true e)
present_elim (some a) e k = k a refl

-- the code lends the first n numbers
first : (n : ℕ) (vs : List ℤ) → take (n - 0) vs ≡ take n vs
first n vs = let e : n - 0 ≡ n = omega arith in ap (λ x. take x vs) e

module _ (i : ℕ) (vs : List ℤ) (out : List ℕ) (h : present (format_is (layout_at i)) ≡ true) (n : ℕ) (f : FrontAt i vs n) where
  by_row_lem : write_at i vs (length out) ≡ fitted (length out) (plain_at i vs n)
  unfolding write_at expect◌or◌
  by_row_lem =
      present_elim (format_is (layout_at i)) h λ s e.
      bind_in _ (ap (λ x. expect x or 21) (row_plain (layout_at i) s e)) (ap (fitted (length out)) (plain_at_lem i s vs n e f))

  pub plain_no : {x y : ℕ} → refused x y ≡ size_at i (take (n - 0) vs) → Answers (refused x y) out (write_at i vs (length out)) out
  unfolding plain_at
  plain_no e = no_item out by_row_lem (bind_out _ (ap (cut_at i) (sym (first n vs)) ∙ size_refused i (take (n - 0) vs) e))

  module _ (k s : ℕ) (e : ok (parts k s) ≡ size_at i (take (n - 0) vs)) where
    sized_as : Sized i (take (n - 0) vs) k × (s ≡ length (octets_at i (take (n - 0) vs)))
    sized_as = sized i (take (n - 0) vs) k s (sym e)

    pub parts_few : k ≤ length (parts_at i)
    parts_few = sized_as.0.few

    pub plain_lays : size_at i (take (n - 0) vs) ≡ ok (parts k (length (octets_at i (take (n - 0) vs))))
    plain_lays = sym e ∙ ap (λ x. ok (parts k x)) sized_as.1

    pub plain_fits : s ≤ length out → 0 + length (octets_at i (take (n - 0) vs)) ≤ length out
    plain_fits l = omega (arith, sized_as.1)

    cut_is : cut_at i (take n vs) ≡ ok (record { count = k; octets = octets_at i (take (n - 0) vs) })
    cut_is = ap (cut_at i) (sym (first n vs)) ∙ sized_as.0.laid

    pub plain_untold : {t : Bool} → t ≡ told_at i k (length vs - n) → t ≡ false → Answers (refused 11 0) out (write_at i vs (length out)) out
    unfolding plain_at
    plain_untold d t = no_item out by_row_lem (bind_in _ cut_is (need_out 11 _ (sym d ∙ t)))

    module _ {t : Bool} (d : t ≡ told_at i k (length vs - n)) (y : t ≡ true) where
      plain_is : plain_at i vs n ≡ ok (octets_at i (take (n - 0) vs))
      unfolding plain_at
      plain_is = bind_in _ cut_is (need_in _ _ (T_true (sym d ∙ y)) refl)

      pub plain_full : length out < s → Answers (refused 16 0) out (write_at i vs (length out)) out
      plain_full l = no_room out by_row_lem plain_is sized_as.1 l

      pub plain_done : {out' : List ℕ} → s ≤ length out → out' ≡ sets out 0 (octets_at i (take (n - 0) vs)) → Answers (ok s) out' (write_at i vs (length out)) out
      plain_done l o = with_room out by_row_lem plain_is sized_as.1 l o

-- ---- a compound item

module _ (i : ℕ) (vs : List ℤ) (out : List ℕ) (h : (layout_at i).kind ≡ Compound) where
  row_compound : layout_is (layout_at i) ≡ some (compound (primaries_is ((layout_at i).end - (layout_at i).first) (layout_at i).first))
  unfolding layout_is
  row_compound =
      ap (λ t. cond t (some (compound (primaries_is ((layout_at i).end - (layout_at i).first) (layout_at i).first))) (as_plain (format_is (layout_at i)))) (kind_same (layout_at i).kind Compound h)

  by_rows : write_at i vs (length out) ≡ fitted (length out) (compound_at i vs)
  unfolding write_at expect◌or◌
  by_rows = bind_in _ (ap (λ x. expect x or 21) row_compound) (ap (fitted (length out)) (compound_at_lem i vs))

  pub compound_no : {x y : ℕ} → refused x y ≡ rows_size i vs → Answers (refused x y) out (write_at i vs (length out)) out
  unfolding rows_size compound_at ◌>>=◌
  compound_no e = no_item out by_rows (bind_out _ (refused_before _ (all_rows i vs) e))

  module _ (k s : ℕ) (e : ok (parts k s) ≡ rows_size i vs) where
    whole_as : Whole i vs k × (s ≡ length (compound_octets i vs))
    whole_as = whole i vs k s (sym e)

    pub compound_lays : rows_size i vs ≡ ok (parts k (length (compound_octets i vs)))
    compound_lays = sym e ∙ ap (λ x. ok (parts k x)) whole_as.1

    pub compound_fits : s ≤ length out → length (compound_octets i vs) ≤ length out
    compound_fits l = omega (arith, whole_as.1)

    compound_is : compound_at i vs ≡ ok (compound_octets i vs)
    unfolding compound_at
    compound_is = bind_in _ whole_as.0.passes (ap ok (sym whole_as.0.octets_are))

    pub compound_full : length out < s → Answers (refused 16 0) out (write_at i vs (length out)) out
    compound_full l = no_room out by_rows compound_is whole_as.1 l

    pub compound_done : {out' : List ℕ} → s ≤ length out → out' ≡ sets out 0 (compound_octets i vs) → Answers (ok s) out' (write_at i vs (length out)) out
    compound_done l o = with_room out by_rows compound_is whole_as.1 l o

-- ---- the layout of a reference

-- a row that is not compound has a format
pub has_format : (i : ℕ) {r : LayoutRow} → i < layout_count → 0 < i → r ≡ layout_at i → (r.kind ≡ Compound → ⊥) → present (format_is (layout_at i)) ≡ true
unfolding layout_is
has_format zero h z er e = absurd (omega arith)
has_format (suc i) {r} h z er e =
    go (format_is (layout_at (suc i)))
    (ap (λ t. present (cond t (some (compound (primaries_is ((layout_at (suc i)).end - (layout_at (suc i)).first) (layout_at (suc i)).first))) (as_plain (format_is (layout_at (suc i))))))
    (sym (kind_other (layout_at (suc i)).kind Compound (λ d. e (ap (λ x. x.kind) er ∙ d))))
    ∙ layout_some i h)
  where
    go : (o : Option Format) → present (as_plain o) ≡ true → present o ≡ true
    go none d = d
    go (some s) d = refl

module _ (cat ref i : ℕ) (vs : List ℤ) (out : List ℕ) (h : (expect layout_is (layout_at i) or 21) ≡ layout_of categories cat ref) where
  one_by : write_at i vs (length out) ≡ write_one categories cat ref vs (length out)
  unfolding write_one write_at
  one_by = ap (λ m. m >>= (λ l. write_fields l vs >>= (λ bs. need leb (length bs) (length out) or 16 then ok bs))) h

  pub one_layout : {r : Answer ℕ} {out' : List ℕ} → Answers r out' (write_at i vs (length out)) out → Answers r out' (write_one categories cat ref vs (length out)) out
  one_layout {r} {out'} a = subst (λ m. Answers r out' m out) one_by a

pub no_layout : (cat ref : ℕ) (vs : List ℤ) (out : List ℕ) → refused 21 0 ≡ layout_of categories cat ref → Answers (refused 21 0) out (write_one categories cat ref vs (length out)) out
unfolding write_one
no_layout cat ref vs out h = refusal 21 0 out (bind_out _ (sym h))
