-- What the two passes over the parts of an item do, turn by turn: the first packs each part and counts, the second packs it again and lays it.
--
-- In order: a part and those after it; the first pass; the second pass. Assumes nothing.
use Rattle.tables.specs.declared.tables.Kind.TheVariants.{Extended}
use Rattle.tables.specs.Tables.{same_kind}
use Prim.Native.Nat.{ℕ, zero, suc, ◌+◌, ◌*◌, ◌^◌, ◌<◌, ◌≤◌}
use mathlib.Core.Path.{◌≡◌, refl, sym, ap, ap₂, ◌∙◌, subst}
use mathlib.Core.Bool.{Bool, true, false}
use mathlib.Core.List.{List, [], ◌∷◌, ◌++◌}
use native.Mathlib.Omega.{arith}
use native.Mathlib.Nat.{lt_of_lt_of_le}
use native.Mathlib.Numerals.{add-one}
use borrow.Author.Tests.{ltb-true, ltb-false, lt-ltb, le-ltb}
use lib.Dec.{ltb}
use lib.IntN.{ℤ}
use lib.ListN.{length, get_or, drop, length-append, length-drop, drop_of_length-le}
use lib.Pow.{pow_mono}
use lib.Seq.{sets, drop-cons, drop-drop, length-sets}
use Rattle.rules.specs.Answer.{Answer, ok, refused, ◌>>=◌, octets_of}
use Rattle.rules.specs.Field.{Field, bits, arity}
use Rattle.rules.specs.Chain.{octets}
use Rattle.rules.specs.Format.{Group}
use Rattle.rules.proofs.AnswerLaws.{refused_ok, ok_inj, bind_elim, bind_in, bind_cong, octets_of-ok, nil_of_length}
use Rattle.rules.proofs.ChainLaws.{octets_length}
use Rattle.tables.specs.Tables.{group_at, layout_at}
use Rattle.tables.specs.declared.tables.GroupRow.{GroupRow}
use Rattle.tables.specs.declared.tables.LayoutRow.{LayoutRow}
use Rattle.layouts.proofs.Stores.{sets_append}
use Rattle.writing.specs.Write.{no_group, group_in, pack_first, numbers_of, marked, laid_parts, parts_at, chained_at, part, pack_from, Parts, parts, count_parts, lay_parts}
use Rattle.writing.proofs.Handed.{refused_before}
use Rattle.writing.proofs.Sound.{All, SoundGroup, all_drop}
use Rattle.writing.proofs.TableLaws.{layout_row_is, group_in_sound}
use Rattle.writing.proofs.FormatLaws.{numbers_none, numbers_over, numbers_cons}
use Rattle.writing.proofs.LaidLaws.{Fit, numbers_fit, part_lt, laid_none}

-- ---- a part and those after it

-- what a part's packing says of its number
packed_ok : (fs : List Field) (vs : List ℤ) (p n k : ℕ) → ok (part n k) ≡ pack_from fs vs p → (pack_first fs (drop p vs) ≡ ok n) × (k ≡ p + arity fs)
unfolding pack_from
packed_ok fs vs p n k h =
    bind_elim _ _ (sym h) λ m e h₁.
    let d = ok_inj h₁ in
    (e ∙ ap (λ x. ok x.number) d, sym (ap (λ x. x.next) d))

packed_no : (fs : List Field) (vs : List ℤ) (p : ℕ) {x y : ℕ} → refused x y ≡ pack_from fs vs p → pack_first fs (drop p vs) ≡ refused x y
unfolding pack_from
packed_no fs vs p h = refused_before _ (pack_first fs (drop p vs)) h

-- the part at a place of the parts, and those after it
module _ (gs : List Group) (vs : List ℤ) (k p : ℕ) {g : Group} (eg : g ≡ get_or gs k no_group) (h : k < length gs) (t : p < length vs) where
  part_cons : drop k gs ≡ g ∷ drop (k + 1) gs
  part_cons = rw (eg, add-one) (drop-cons gs k no_group h)

  some_left : 0 < length (drop p vs)
  some_left = rw length-drop (omega arith)

  cut_cons : numbers_of (drop k gs) (drop p vs) ≡ (pack_first g.fields (drop p vs) >>= (λ n. numbers_of (drop (k + 1) gs) (drop (p + arity g.fields) vs) >>= (λ ns. ok (n ∷ ns))))
  cut_cons =
      ap (λ x. numbers_of x (drop p vs)) part_cons ∙ numbers_cons g (drop (k + 1) gs) (drop p vs) some_left
      ∙ ap (λ x. pack_first g.fields (drop p vs) >>= (λ n. numbers_of (drop (k + 1) gs) x >>= (λ ns. ok (n ∷ ns)))) (drop-drop (arity g.fields) p vs)

  cut_ok : {n q : ℕ} → ok (part n q) ≡ pack_from g.fields vs p → numbers_of (drop k gs) (drop p vs) ≡ (numbers_of (drop (k + 1) gs) (drop q vs) >>= (λ ns. ok (n ∷ ns)))
  unfolding ◌>>=◌
  cut_ok {n} {q} e =
      let (a, b) = packed_ok g.fields vs p n q e in
      cut_cons
      ∙ ap (λ x. x >>= (λ n. numbers_of (drop (k + 1) gs) (drop (p + arity g.fields) vs) >>= (λ ns. ok (n ∷ ns)))) a
      ∙ ap (λ x. numbers_of (drop (k + 1) gs) (drop x vs) >>= (λ ns. ok (n ∷ ns))) (sym b)

  cut_no : {x y : ℕ} → refused x y ≡ pack_from g.fields vs p → numbers_of (drop k gs) (drop p vs) ≡ refused x y
  unfolding ◌>>=◌
  cut_no e =
      cut_cons ∙ ap (λ x. x >>= (λ n. numbers_of (drop (k + 1) gs) (drop (p + arity g.fields) vs) >>= (λ ns. ok (n ∷ ns)))) (packed_no g.fields vs p e)

-- ---- the first pass

-- so many parts and octets, and what is left
unfoldable pub more_parts : Bool → List Group → List ℤ → ℕ → ℕ → Answer Parts
more_parts fx gs vs k s = numbers_of gs vs >>= (λ ns. ok (parts (k + length ns) (s + length (laid_parts fx gs ns))))

pub record Counting (l : ℕ) (vs : List ℤ) (m k s p : ℕ) : Type 0 where
  pub most : m ≡ length (parts_at l)
  pub few : k ≤ length (parts_at l)
  pub small : s ≤ 8 * k
  pub same : more_parts (chained_at l) (drop k (parts_at l)) (drop p vs) k s ≡ count_parts (chained_at l) (parts_at l) vs

-- one part more
more_cons : (fx : Bool) (g : Group) (gs : List Group) (n k s : ℕ) (m : Answer (List ℕ))
    → ((m >>= (λ ns. ok (n ∷ ns))) >>= (λ ns. ok (parts (k + length ns) (s + length (laid_parts fx (g ∷ gs) ns)))))
    ≡ (m >>= (λ ns. ok (parts (k + 1 + length ns) (s + g.size + length (laid_parts fx gs ns)))))
unfolding ◌>>=◌ laid_parts
more_cons fx g gs n k s (refused x y) = refl
more_cons fx g gs n k s (ok ns) =
    let a : k + suc (length ns) ≡ k + 1 + length ns = omega arith in
    let o = octets g.size (marked fx (ltb 0 (length ns)) n) in
    let b : s + length (o ++ laid_parts fx gs ns) ≡ s + g.size + length (laid_parts fx gs ns) = omega (arith, length-append o (laid_parts fx gs ns), octets_length g.size (marked fx (ltb 0 (length ns)) n)) in
    ap₂ (λ x y. ok (parts x y)) a b

more_none : (fx : Bool) (gs : List Group) (vs : List ℤ) → more_parts fx gs vs 0 0 ≡ count_parts fx gs vs
unfolding more_parts count_parts
more_none fx gs vs =
    bind_cong (numbers_of gs vs) _ _ λ ns.
    let a : 0 + length ns ≡ length ns = omega arith in
    let b : 0 + length (laid_parts fx gs ns) ≡ length (laid_parts fx gs ns) = omega arith in
    ap₂ (λ x y. ok (parts x y)) a b

pub counting : (l : ℕ) (vs : List ℤ) {r : LayoutRow} → r ≡ layout_at l → Counting l vs r.most 0 0 0
counting l vs er =
    record {
      most = ap (λ x. x.most) er ∙ sym (layout_row_is l).most;
      few = omega arith;
      small = omega arith;
      same = more_none (chained_at l) (parts_at l) vs;
    }

module _ (l : ℕ) (vs : List ℤ) (m k s p : ℕ) (c : Counting l vs m k s p) where
  -- no value is left
  pub count_all : length vs ≤ p → ok (parts k s) ≡ count_parts (chained_at l) (parts_at l) vs
  unfolding more_parts ◌>>=◌ laid_parts
  count_all h =
      let gs = drop k (parts_at l) in
      let fx = chained_at l in
      let e : numbers_of gs (drop p vs) ≡ ok [] = ap (numbers_of gs) (drop_of_length-le vs h) ∙ numbers_none gs in
      let a : k ≡ k + 0 = omega arith in
      let b : s ≡ s + length (laid_parts fx gs []) = omega (arith, ap length (laid_none fx gs)) in
      ap₂ (λ x y. ok (parts x y)) a b ∙ sym (ap (λ x. x >>= (λ ns. ok (parts (k + length ns) (s + length (laid_parts fx gs ns))))) e) ∙ c.same

  module _ (t : p < length vs) where
    -- no part is left for them
    pub count_over : m ≤ k → refused 11 0 ≡ count_parts (chained_at l) (parts_at l) vs
    unfolding more_parts ◌>>=◌
    count_over h =
        let fx = chained_at l in
        let z : drop k (parts_at l) ≡ [] = drop_of_length-le (parts_at l) (subst (λ x. x ≤ k) c.most h) in
        let some : 0 < length (drop p vs) = rw length-drop (omega arith) in
        sym (ap (λ gs. more_parts fx gs (drop p vs) k s) z ∙ ap (λ x. x >>= (λ ns. ok (parts (k + length ns) (s + length (laid_parts fx [] ns))))) (numbers_over (drop p vs) some)) ∙ c.same

    module _ (h : k < m) where
      pub part_in_lem : k < length (parts_at l)
      part_in_lem = subst (λ x. k < x) c.most h

      module _ (j : ℕ) (ej : group_in j ≡ get_or (parts_at l) k no_group) where
        -- a part that cannot be packed
        pub count_no : {x y : ℕ} → refused x y ≡ pack_from (group_in j).fields vs p → refused x y ≡ count_parts (chained_at l) (parts_at l) vs
        unfolding more_parts ◌>>=◌
        count_no e =
            sym (ap (λ x. x >>= (λ ns. ok (parts (k + length ns) (s + length (laid_parts (chained_at l) (drop k (parts_at l)) ns))))) (cut_no (parts_at l) vs k p ej part_in_lem t e)) ∙ c.same

        pub size_fits : {r : GroupRow} → r ≡ group_at j → (s + r.octets ≤ 8 * (k + 1)) × (k < 255)
        unfolding group_in
        size_fits er =
            (omega (arith, c.small, ap (λ x. x.octets) er, (group_in_sound j).short), omega (arith, (layout_row_is l).sound.few, part_in_lem))

        pub counted : {n q : ℕ} {r : GroupRow} → r ≡ group_at j → ok (part n q) ≡ pack_from (group_in j).fields vs p → Counting l vs m (k + 1) (s + r.octets) q
        unfolding more_parts group_in
        counted {n} {q} {r} er e =
            let fx = chained_at l in
            let gs = drop (k + 1) (parts_at l) in
            let z : r.octets ≡ (group_in j).size = ap (λ x. x.octets) er in
            record {
              most = c.most;
              few = omega (arith, part_in_lem);
              small = (size_fits er).0;
              same =
                  ap (λ x. more_parts fx gs (drop q vs) (k + 1) (s + x)) z
                  ∙ sym (more_cons fx (group_in j) gs n k s (numbers_of gs (drop q vs)))
                  ∙ sym (ap (λ x. x >>= (λ ns. ok (parts (k + length ns) (s + length (laid_parts fx (group_in j ∷ gs) ns))))) (cut_ok (parts_at l) vs k p ej part_in_lem t e))
                  ∙ sym (ap (λ x. numbers_of (drop k (parts_at l)) (drop p vs) >>= (λ ns. ok (parts (k + length ns) (s + length (laid_parts fx x ns))))) (part_cons (parts_at l) vs k p ej part_in_lem t))
                  ∙ c.same;
            }

-- ---- the second pass

-- the octets of the parts that are left, laid at the place where the next part goes, make the output that is to be
pub record Placing (l : ℕ) (vs : List ℤ) (count start : ℕ) (out₀ : List ℕ) (fx : Bool) (out : List ℕ) (i p q : ℕ) : Type 0 where
  pub marks : fx ≡ chained_at l
  pub ns : List ℕ
  pub left : numbers_of (drop i (parts_at l)) (drop p vs) ≡ ok ns
  pub many : i + length ns ≡ count
  pub long : length out ≡ length out₀
  pub room : q + length (laid_parts (chained_at l) (drop i (parts_at l)) ns) ≤ length out₀
  pub end : q + length (laid_parts (chained_at l) (drop i (parts_at l)) ns) ≡ start + length (octets_of (lay_parts (chained_at l) (parts_at l) vs))
  pub same : sets out q (laid_parts (chained_at l) (drop i (parts_at l)) ns) ≡ sets out₀ start (octets_of (lay_parts (chained_at l) (parts_at l) vs))

pub placing : (l : ℕ) (vs : List ℤ) (count size start : ℕ) (out : List ℕ) {r : LayoutRow} → r ≡ layout_at l → {fx : Bool} → fx ≡ same_kind r.kind Extended
    → count_parts (chained_at l) (parts_at l) vs ≡ ok (parts count size)
    → start + length (octets_of (lay_parts (chained_at l) (parts_at l) vs)) ≤ length out
    → Placing l vs count start out fx out 0 0 start
unfolding count_parts lay_parts chained_at
placing l vs count size start out er ef h t =
    bind_elim _ _ h λ ns e h₁.
    let o : octets_of (lay_parts (chained_at l) (parts_at l) vs) ≡ laid_parts (chained_at l) (parts_at l) ns = octets_of-ok (bind_in _ e refl) in
    record {
      marks = ef ∙ ap (λ x. same_kind x.kind Extended) er;
      ns = ns;
      left = e;
      many = omega (arith, ap (λ x. x.count) (ok_inj h₁));
      long = refl;
      room = omega (arith, ap length o);
      end = ap (λ x. start + length x) (sym o);
      same = ap (sets out start) (sym o);
    }

-- whether another part follows
pub more_is : (i m : ℕ) → ltb (i + 1) (i + suc m) ≡ ltb 0 m
more_is i zero = le-ltb (i + 1) (i + 1) (omega arith) ∙ sym (le-ltb 0 0 (omega arith))
more_is i (suc m) = lt-ltb (i + 1) (i + suc (suc m)) (omega arith) ∙ sym (lt-ltb 0 (suc m) (omega arith))

-- where numbers are made, there are values and groups for them
some_values : (gs : List Group) (vs : List ℤ) (p : ℕ) {ns : List ℕ} → numbers_of gs (drop p vs) ≡ ok ns → 0 < length ns → p < length vs
some_values gs vs p h k = go (ltb p (length vs)) refl
  where
    go : (t : Bool) → ltb p (length vs) ≡ t → p < length vs
    go true e = ltb-true _ _ e
    go false e =
        let z = ok_inj (sym (ap (numbers_of gs) (drop_of_length-le vs (ltb-false p (length vs) e)) ∙ numbers_none gs) ∙ h) in
        absurd (omega (arith, ap length z))

some_groups : (gs : List Group) (vs : List ℤ) (i : ℕ) {ns : List ℕ} → numbers_of (drop i gs) vs ≡ ok ns → 0 < length vs → i < length gs
some_groups gs vs i h k = go (ltb i (length gs)) refl
  where
    go : (t : Bool) → ltb i (length gs) ≡ t → i < length gs
    go true e = ltb-true _ _ e
    go false e = refused_ok (sym (numbers_over vs k) ∙ sym (ap (λ x. numbers_of x vs) (drop_of_length-le gs (ltb-false i (length gs) e))) ∙ h)

-- what laying a part asks, and what is then left
pub record Placed (l : ℕ) (vs : List ℤ) (count start : ℕ) (out₀ : List ℕ) (fx : Bool) (out : List ℕ) (i p q n p' size : ℕ) : Type 0 where
  pub wide : marked fx (ltb (i + 1) count) n < 2 ^ 64
  pub short : size ≤ 8
  pub fits : marked fx (ltb (i + 1) count) n < 2 ^ (8 * size)
  pub fit : q + size ≤ length out
  pub next : {m : ℕ} {out' : List ℕ} → m ≡ marked fx (ltb (i + 1) count) n → out' ≡ sets out q (octets size m) → Placing l vs count start out₀ fx out' (i + 1) p' (q + size)

module _ (l : ℕ) (vs : List ℤ) (count start : ℕ) (out₀ : List ℕ) (fx : Bool) (out : List ℕ) (i p q : ℕ) (c : Placing l vs count start out₀ fx out i p q) where
  -- all parts are laid
  pub placed_all : count ≤ i
      → (out ≡ sets out₀ start (octets_of (lay_parts (chained_at l) (parts_at l) vs))) × (q ≡ start + length (octets_of (lay_parts (chained_at l) (parts_at l) vs)))
  placed_all h =
      let z : laid_parts (chained_at l) (drop i (parts_at l)) c.ns ≡ [] =
      ap (laid_parts (chained_at l) (drop i (parts_at l))) (nil_of_length c.ns (omega (arith, c.many))) ∙ laid_none (chained_at l) (drop i (parts_at l)) in
      (sym (ap (sets out q) z) ∙ c.same, omega (arith, c.end, ap length z))

  -- the part at i is laid; `ms` are the numbers after its number n
  module _ (g : Group) (n p' size : ℕ) (ms : List ℕ) (es : size ≡ g.size) (eg : drop i (parts_at l) ≡ g ∷ drop (i + 1) (parts_at l)) (en : c.ns ≡ n ∷ ms)
      (left : numbers_of (drop (i + 1) (parts_at l)) (drop p' vs) ≡ ok ms) where
    sound : SoundGroup (chained_at l) g
    sound = (subst (All (SoundGroup (chained_at l))) eg (all_drop (SoundGroup (chained_at l)) i (parts_at l) (layout_row_is l).sound.each)).0

    number_lt : n < 2 ^ bits g.fields
    number_lt = (subst (λ x. Fit x (n ∷ ms)) eg (subst (Fit (drop i (parts_at l))) en (numbers_fit (drop i (parts_at l)) (drop p vs) c.ns c.left))).0

    count_is : i + suc (length ms) ≡ count
    count_is = subst (λ x. i + length x ≡ count) en c.many

    mark_is : marked fx (ltb (i + 1) count) n ≡ marked (chained_at l) (ltb 0 (length ms)) n
    mark_is = ap₂ (λ x y. marked x y n) c.marks (ap (ltb (i + 1)) (sym count_is) ∙ more_is i (length ms))

    mark_lt : marked fx (ltb (i + 1) count) n < 2 ^ (8 * size)
    mark_lt = rw (mark_is, es) (part_lt (chained_at l) (ltb 0 (length ms)) g n sound number_lt)

    whole_is : laid_parts (chained_at l) (drop i (parts_at l)) c.ns ≡ octets size (marked fx (ltb (i + 1) count) n) ++ laid_parts (chained_at l) (drop (i + 1) (parts_at l)) ms
    unfolding laid_parts
    whole_is = rw (mark_is, es) (ap₂ (laid_parts (chained_at l)) eg en)

    length_is : length (laid_parts (chained_at l) (drop i (parts_at l)) c.ns) ≡ size + length (laid_parts (chained_at l) (drop (i + 1) (parts_at l)) ms)
    length_is =
        ap length whole_is ∙ length-append (octets size (marked fx (ltb (i + 1) count) n)) _
        ∙ ap (λ x. x + length (laid_parts (chained_at l) (drop (i + 1) (parts_at l)) ms)) (octets_length size _)

    place : Placed l vs count start out₀ fx out i p q n p' size
    place =
        record {
          wide = lt_of_lt_of_le mark_lt (pow_mono {j = 64} (omega (arith, sound.short, es)));
          short = omega (arith, sound.short, es);
          fits = mark_lt;
          fit = omega (arith, c.room, c.long, length_is);
          next = λ {m} {out'} em eo.
              let rest = laid_parts (chained_at l) (drop (i + 1) (parts_at l)) ms in
              let o = octets size (marked fx (ltb (i + 1) count) n) in
              record {
                marks = c.marks;
                ns = ms;
                left = left;
                many = omega (arith, count_is);
                long = ap length eo ∙ length-sets out q (octets size m) ∙ c.long;
                room = omega (arith, c.room, length_is);
                end = omega (arith, c.end, length_is);
                same =
                    ap (λ x. sets x (q + size) rest) (eo ∙ ap (λ x. sets out q (octets size x)) em)
                    ∙ ap (λ x. sets (sets out q o) (q + x) rest) (sym (octets_length size _))
                    ∙ sym (sets_append o rest out q)
                    ∙ ap (sets out q) (sym whole_is)
                    ∙ c.same;
              };
        }

  module _ (h : i < count) where
    values_in : p < length vs
    values_in = some_values (drop i (parts_at l)) vs p c.left (omega (arith, c.many))

    pub group_in_lem : i < length (parts_at l)
    group_in_lem = some_groups (parts_at l) (drop p vs) i c.left (rw length-drop (omega (arith, values_in)))

    module _ (j : ℕ) (ej : group_in j ≡ get_or (parts_at l) i no_group) where
      -- every part was packed before
      pub packs : {C : Type 0} {x y : ℕ} → refused x y ≡ pack_from (group_in j).fields vs p → C
      packs e = refused_ok (sym (cut_no (parts_at l) vs i p ej group_in_lem values_in e) ∙ c.left)

      pub placed : {n p' : ℕ} {r : GroupRow} → r ≡ group_at j → ok (part n p') ≡ pack_from (group_in j).fields vs p → Placed l vs count start out₀ fx out i p q n p' r.octets
      unfolding group_in
      placed {n} {p'} er e =
          bind_elim _ _ (sym (cut_ok (parts_at l) vs i p ej group_in_lem values_in e) ∙ c.left) λ ms a h₁.
          place (group_in j) n p' _ ms (ap (λ x. x.octets) er) (part_cons (parts_at l) vs i p ej group_in_lem values_in) (sym (ok_inj h₁)) a
