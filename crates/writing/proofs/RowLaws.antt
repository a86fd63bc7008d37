-- The format at a place of the tables: what the code reads off its row is what the format is, so a list cut by the row is written as the rules
-- write it.
--
-- In order: the format of a row; a list cut by the row; its size; its octets. Assumes nothing.
use Rattle.tables.specs.declared.tables.Kind.TheVariants.{NoItem, Fixed, Repeated, Led, Extended}
use Rattle.tables.specs.declared.tables.Kind.{Kind}
use Rattle.tables.specs.Tables.{same_kind}
use Prim.Native.Nat.{ℕ, suc, ◌+◌, ◌*◌, ◌<◌, ◌≤◌}
use mathlib.Core.Path.{◌≡◌, refl, sym, ap, ap₂, ◌∙◌, subst}
use mathlib.Core.Bool.{Bool, true, false, cond}
use mathlib.Core.Option.{Option, none, some}
use mathlib.Core.List.{List, [], ◌∷◌, ◌++◌, map}
use native.Mathlib.Omega.{arith}
use borrow.Author.Tests.{lt-leb}
use lib.Dec.{leb, ltb, le→leb}
use lib.IntN.{ℤ}
use lib.ListN.{length, get_or, replicate, length-append, get_or-map}
use lib.Seq.{sets, slice, length-sets}
use Rattle.layouts.proofs.Stores.{sets_append}
use Rattle.rules.specs.Answer.{Answer, ok, refused, ◌>>=◌, need◌or◌then◌, octets_of}
use Rattle.rules.specs.Chain.{octets}
use Rattle.rules.specs.Format.{Group, Format, fixed, repeated, led, extended, least}
use Rattle.rules.specs.Catalogue.{categories}
use Rattle.rules.proofs.AnswerLaws.{refused_ok, ok_inj, bind_elim, bind_in, bind_out, bind_cong, bind_assoc, need_in, need_out, need_elim, need_bind, octets_of-ok}
use Rattle.rules.proofs.ChainLaws.{octets_length}
use Rattle.tables.specs.declared.tables.LayoutRow.{LayoutRow}
use Rattle.tables.specs.Tables.{fields, groups, layouts, group_rows, group_at, group_is, layout_rows, no_layout_row, layout_at, format_by, format_is}
use Rattle.writing.specs.Write.{cut, parts_of, chained, head_of, parts_at, chained_at, head_at, group_in, numbers_of, marked, laid_parts, parts, count_parts, lay_parts, Cut, cut_at, size_at, octets_at}
use Rattle.writing.proofs.Handed.{refused_before}
use Rattle.writing.proofs.Sound.{All, SoundGroup, Sound}
use Rattle.writing.proofs.TableLaws.{layout_row_is}
use Rattle.writing.proofs.LaidLaws.{fields_laid, fit_length, numbers_fit}

-- ---- the format of a row

abbrev Row : Type 0
Row = Kind × ℕ × List Group

abbrev kind_of : Format → Kind
kind_of (fixed g) = Fixed
kind_of (repeated lo hi g) = Repeated
kind_of (led lo) = Led
kind_of (extended gs) = Extended

abbrev row_seen : LayoutRow → Row
row_seen r = (r.kind, r.least, cond (same_kind r.kind Extended) (slice r.first r.end (map group_is (group_rows 0 groups))) (replicate r.most (group_is (group_at r.first))))

-- the row of no format, or of a compound item, is as it is
abbrev seen : LayoutRow → Option Format → Row
seen r none = row_seen r
seen r (some l) = (kind_of l, least l, parts_of l)

abbrev rows : List LayoutRow
rows = no_layout_row ∷ layout_rows 0 0 layouts

-- one test over the table: what the code reads off a row is what the format is
rows_seen : map row_seen rows ≡ map (λ r. seen r (format_is r)) rows
unfolding format_is format_by group_at fields groups layouts categories
rows_seen = refl

row_seen_lem : (i : ℕ) → row_seen (layout_at i) ≡ seen (layout_at i) (format_is (layout_at i))
unfolding layout_at format_is format_by
row_seen_lem i =
    sym (get_or-map row_seen rows i no_layout_row) ∙ ap (λ l. get_or l i (NoItem, 0, [])) rows_seen ∙ get_or-map (λ r. seen r (format_is r)) rows i no_layout_row

pub record FormatIs (i : ℕ) (l : Format) : Type 0 where
  pub least_is : (layout_at i).least ≡ least l
  pub parts_are : parts_at i ≡ parts_of l
  pub chained_is : chained_at i ≡ chained l
  pub head_is : (k : ℕ) → head_at i k ≡ head_of l k

kind_chained : (l : Format) → same_kind (kind_of l) Extended ≡ chained l
kind_chained (fixed g) = refl
kind_chained (repeated lo hi g) = refl
kind_chained (led lo) = refl
kind_chained (extended gs) = refl

kind_head : (l : Format) (k : ℕ) → cond (same_kind (kind_of l) Repeated) (k ∷ []) (cond (same_kind (kind_of l) Led) (suc k ∷ []) []) ≡ head_of l k
kind_head (fixed g) k = refl
kind_head (repeated lo hi g) k = refl
kind_head (led lo) k = refl
kind_head (extended gs) k = refl

pub format_is_lem : (i : ℕ) (l : Format) → format_is (layout_at i) ≡ some l → FormatIs i l
unfolding parts_at chained_at head_at group_in
format_is_lem i l e =
    let d : row_seen (layout_at i) ≡ (kind_of l, least l, parts_of l) = row_seen_lem i ∙ ap (seen (layout_at i)) e in
    record {
      least_is = ap (λ x. x.1) d;
      parts_are = ap (λ x. x.2) d;
      chained_is = ap (λ x. same_kind x.0 Extended) d ∙ kind_chained l;
      head_is = λ k. ap (λ x. cond (same_kind x.0 Repeated) (k ∷ []) (cond (same_kind x.0 Led) (suc k ∷ []) [])) d ∙ kind_head l k;
    }

-- ---- a list cut by the row

-- the head, and the octets of the parts
abbrev laid_by : ℕ → List ℕ → List ℕ
laid_by i ns = head_at i (length ns) ++ laid_parts (chained_at i) (parts_at i) ns

cut_numbers : (i : ℕ) (l : Format) (vs : List ℤ) → FormatIs i l → cut l vs ≡ (numbers_of (parts_at i) vs >>= (λ ns. need leb (layout_at i).least (length ns) or 11 then ok (laid_by i ns)))
cut_numbers i l vs t =
    let s : Sound (chained l) (parts_of l) = subst (λ x. Sound x (parts_of l)) t.chained_is (subst (Sound (chained_at i)) t.parts_are (layout_row_is i).sound) in
    fields_laid l vs s
    ∙ sym (ap₂ (λ gs fx. numbers_of gs vs >>= (λ ns. need leb (least l) (length ns) or 11 then ok (head_of l (length ns) ++ laid_parts fx gs ns))) t.parts_are t.chained_is)
    ∙ bind_cong (numbers_of (parts_at i) vs) _ _
    (λ ns. ap₂ (λ n h. need leb n (length ns) or 11 then ok (h ++ laid_parts (chained_at i) (parts_at i) ns)) (sym t.least_is) (sym (t.head_is (length ns))))

-- the octets that the rules write are those that the row says
pub cut_by : (i : ℕ) (l : Format) (vs : List ℤ) → format_is (layout_at i) ≡ some l → cut l vs ≡ (cut_at i vs >>= (λ c. ok c.octets))
unfolding cut_at ◌>>=◌
cut_by i l vs e =
    cut_numbers i l vs (format_is_lem i l e)
    ∙ bind_cong (numbers_of (parts_at i) vs) _ _ (λ ns. sym (need_bind (leb (layout_at i).least (length ns)) 11 _ (λ (c : Cut). ok c.octets)))
    ∙ sym (bind_assoc (numbers_of (parts_at i) vs) _ _)

-- ---- its size

-- what the count of the parts says of their numbers
counted_no : (fx : Bool) (gs : List Group) (vs : List ℤ) {x y : ℕ} → refused x y ≡ count_parts fx gs vs → numbers_of gs vs ≡ refused x y
unfolding count_parts ◌>>=◌
counted_no fx gs vs {x} {y} h = go (numbers_of gs vs) h
  where
    go : (m : Answer (List ℕ)) → refused x y ≡ (m >>= (λ ns. ok (parts (length ns) (length (laid_parts fx gs ns))))) → m ≡ refused x y
    go (ok ns) e = refused_ok e
    go (refused a b) e = cc

pub size_no : (i : ℕ) (vs : List ℤ) {x y : ℕ} → refused x y ≡ count_parts (chained_at i) (parts_at i) vs → refused x y ≡ size_at i vs
unfolding size_at cut_at
size_no i vs e = sym (bind_out _ (bind_out _ (counted_no (chained_at i) (parts_at i) vs e)))

pub size_refused : (i : ℕ) (vs : List ℤ) {x y : ℕ} → refused x y ≡ size_at i vs → cut_at i vs ≡ refused x y
unfolding size_at
size_refused i vs h = refused_before _ (cut_at i vs) h

laid_short : (fx : Bool) (gs : List Group) (ns : List ℕ) → All (SoundGroup fx) gs → length (laid_parts fx gs ns) ≤ 8 * length ns
unfolding laid_parts
laid_short fx [] ns s = omega arith
laid_short fx (g ∷ gs) [] s = omega arith
laid_short fx (g ∷ gs) (n ∷ ns) s =
    let o = octets g.size (marked fx (ltb 0 (length ns)) n) in
    omega (arith, length-append o (laid_parts fx gs ns), octets_length g.size (marked fx (ltb 0 (length ns)) n), s.0.short, laid_short fx gs ns s.1)

module _ (i : ℕ) (vs : List ℤ) (k s : ℕ) (h : ok (parts k s) ≡ count_parts (chained_at i) (parts_at i) vs) where
  -- the parts fit a count octet
  pub size_short : s ≤ 2_040
  unfolding count_parts
  size_short =
      bind_elim _ _ (sym h) λ ns e h₁.
      omega (arith, ap (λ x. x.size) (ok_inj h₁), laid_short (chained_at i) (parts_at i) ns (layout_row_is i).sound.each, fit_length (parts_at i) ns (numbers_fit (parts_at i) vs ns e), (layout_row_is i).sound.few)

  module _ {r : LayoutRow} (er : r ≡ layout_at i) where
    pub size_few : k < r.least → refused 11 0 ≡ size_at i vs
    unfolding count_parts size_at cut_at
    size_few l =
        bind_elim _ _ (sym h) λ ns e h₁.
        let d : length ns ≡ k = ap (λ x. x.count) (ok_inj h₁) in
        sym (bind_out _ (bind_in _ e (need_out 11 _ (lt-leb (layout_at i).least (length ns) (omega (arith, ap (λ x. x.least) er))))))

    pub size_yes : {n : ℕ} → r.least ≤ k → ((j : ℕ) → length (head_at i j) ≡ n) → ok (parts k (n + s)) ≡ size_at i vs
    unfolding count_parts size_at cut_at
    size_yes {n} l en =
        bind_elim _ _ (sym h) λ ns e h₁.
        let d : length ns ≡ k = ap (λ x. x.count) (ok_inj h₁) in
        let o : length (laid_by i ns) ≡ n + s =
        omega (arith, length-append (head_at i (length ns)) (laid_parts (chained_at i) (parts_at i) ns), en (length ns), ap (λ x. x.size) (ok_inj h₁)) in
        sym (bind_in _ (bind_in _ e (need_in _ _ (le→leb (layout_at i).least (length ns) (omega (arith, ap (λ x. x.least) er))) refl)) (ap₂ (λ x y. ok (parts x y)) d o))

-- ---- its octets

head_short : (i k : ℕ) → length (head_at i k) ≤ 1
unfolding head_at
head_short i k = go (same_kind (layout_at i).kind Repeated) (same_kind (layout_at i).kind Led)
  where
    go : (a b : Bool) → length (cond a (k ∷ []) (cond b (suc k ∷ []) [])) ≤ 1
    go true b = omega arith
    go false true = omega arith
    go false false = omega arith

pub record Sized (i : ℕ) (vs : List ℤ) (k : ℕ) : Type 0 where
  pub laid : cut_at i vs ≡ ok (record { count = k; octets = octets_at i vs })
  pub octets_are : octets_at i vs ≡ head_at i k ++ octets_of (lay_parts (chained_at i) (parts_at i) vs)
  pub count_is : count_parts (chained_at i) (parts_at i) vs ≡ ok (parts k (length (octets_of (lay_parts (chained_at i) (parts_at i) vs))))
  pub few : k ≤ length (parts_at i)
  pub short : length (octets_at i vs) ≤ 2_041

pub sized : (i : ℕ) (vs : List ℤ) (k s : ℕ) → size_at i vs ≡ ok (parts k s) → Sized i vs k × (s ≡ length (octets_at i vs))
unfolding size_at cut_at octets_at count_parts lay_parts
sized i vs k s h =
    bind_elim _ _ h λ c p h₁.
    bind_elim _ _ p λ ns e h₂.
    need_elim _ _ _ h₂ λ t h₃.
    let d : length ns ≡ k = ap (λ x. x.count) (ok_inj h₃) ∙ ap (λ x. x.count) (ok_inj h₁) in
    let o : octets_at i vs ≡ laid_by i ns = octets_of-ok (bind_in _ p (ap ok (sym (ap (λ x. x.octets) (ok_inj h₃))))) in
    let b : octets_of (lay_parts (chained_at i) (parts_at i) vs) ≡ laid_parts (chained_at i) (parts_at i) ns = octets_of-ok (bind_in _ e refl) in
    let m : count_parts (chained_at i) (parts_at i) vs ≡ ok (parts k (length (octets_of (lay_parts (chained_at i) (parts_at i) vs)))) =
    bind_in _ e (ap₂ (λ x y. ok (parts x (length y))) d (sym b)) in (
      record {
        laid = p ∙ ap ok (go c (ap (λ x. x.count) (ok_inj h₁)) (sym (ap (λ x. x.octets) (ok_inj h₃)) ∙ sym o));
        octets_are = o ∙ ap₂ (λ x y. head_at i x ++ y) d (sym b);
        count_is = m;
        few = omega (arith, fit_length (parts_at i) ns (numbers_fit (parts_at i) vs ns e));
        short = omega (arith, ap length o, length-append (head_at i (length ns)) (laid_parts (chained_at i) (parts_at i) ns), head_short i (length ns), size_short i vs k _ (sym m), ap length b);
      },
      sym (ap (λ x. x.size) (ok_inj h₁)) ∙ ap length (sym (ap (λ x. x.octets) (ok_inj h₃)) ∙ sym o),
    )
  where
    go : (c : Cut) {k : ℕ} {bs : List ℕ} → c.count ≡ k → c.octets ≡ bs → ◌≡◌ {A = Cut} c (record { count = k; octets = bs })
    go c e d = ap₂ (λ x y. record { count = x; octets = y }) e d

-- what laying the head and then the parts asks, and what it leaves
module _ (i : ℕ) (vs : List ℤ) (k start : ℕ) (out : List ℕ) (h : size_at i vs ≡ ok (parts k (length (octets_at i vs)))) (room : start + length (octets_at i vs) ≤ length out) where
  d : Sized i vs k
  d = (sized i vs k (length (octets_at i vs)) h).0

  pub count_few : k ≤ length (parts_at i)
  count_few = d.few

  both_long : length (octets_at i vs) ≡ length (head_at i k) + length (octets_of (lay_parts (chained_at i) (parts_at i) vs))
  both_long = ap length d.octets_are ∙ length-append (head_at i k) (octets_of (lay_parts (chained_at i) (parts_at i) vs))

  pub head_fits : start + length (head_at i k) ≤ length out
  head_fits = omega (arith, both_long)

  pub parts_counted : count_parts (chained_at i) (parts_at i) vs ≡ ok (parts k (length (octets_of (lay_parts (chained_at i) (parts_at i) vs))))
  parts_counted = d.count_is

  module _ {n : ℕ} (en : (j : ℕ) → length (head_at i j) ≡ n) {out₁ : List ℕ} (e₁ : out₁ ≡ sets out start (head_at i k)) where
    pub parts_fit : start + n + length (octets_of (lay_parts (chained_at i) (parts_at i) vs)) ≤ length out₁
    parts_fit = omega (arith, both_long, en k, ap length e₁, length-sets out start (head_at i k))

    pub all_laid : {out₂ : List ℕ} {end : ℕ} → out₂ ≡ sets out₁ (start + n) (octets_of (lay_parts (chained_at i) (parts_at i) vs))
        → end ≡ start + n + length (octets_of (lay_parts (chained_at i) (parts_at i) vs))
        → (out₂ ≡ sets out start (octets_at i vs)) × (end ≡ start + length (octets_at i vs))
    all_laid e₂ e =
        let o = octets_of (lay_parts (chained_at i) (parts_at i) vs) in (
          e₂ ∙ ap₂ (λ x y. sets x (start + y) o) e₁ (sym (en k)) ∙ sym (sets_append (head_at i k) o out start) ∙ ap (sets out start) (sym d.octets_are),
          omega (arith, both_long, en k),
        )
