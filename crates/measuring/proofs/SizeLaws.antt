-- An item that is legal has as many octets as are measured, by its first octet where that tells: one law of how parts lie.
--
-- In order: parts by FX bits; the shapes; the law. Assumes nothing.
use Prim.Native.Nat.{ℕ, ◌+◌, ◌-◌, ◌%◌, ◌<◌}
use mathlib.Core.Path.{◌≡◌, refl, sym, ap, ◌∙◌, subst}
use mathlib.Core.Bool.{Bool, true, false, ◌&&◌, false≢true}
use mathlib.Core.Logic.{⊎_elim}
use mathlib.Core.List.{List, [], ◌∷◌}
use native.Mathlib.Omega.{arith}
use lib.Dec.{eqb, ltb}
use lib.ListN.{get_or, take, drop}
use borrow.Author.Tests.{eqb-true, eqb-false, ltb-true}
use Rattle.rules.specs.Answer.{ok}
use Rattle.rules.specs.Chain.{joined}
use Rattle.rules.proofs.AnswerLaws.{if_true, if_false, refused_ok, ok_inj, bind_elim, need_elim, if_inv, both_left, both_right, Octets}
use Rattle.tables.specs.declared.tables.LayoutRow.{LayoutRow}
use Rattle.tables.specs.declared.tables.Kind.{Kind}
use Rattle.tables.specs.declared.tables.Kind.TheVariants as parts
use Rattle.tables.specs.Tables.{profile_count, frn_count, group_at}
use Rattle.layouts.specs.Read.{Shaped, chain, list_shape, shape_by, shape_of, whole_size}
use Rattle.layouts.proofs.WholeLaws.{whole_shape}
use Rattle.items.specs.Answers.{check_at}
use Rattle.items.proofs.CheckLaws.{plain_check}
use Rattle.quick_items.specs.Item.{octets_by, is_short, first_tells, row_octets, row_tells, is_place, row_of, tells_at, size_or0, octets_at}

-- ---- parts by FX bits: two at most, of an octet each

abbrev Short : ℕ → ℕ → Type 0
Short a e = (a + 2 ≡ e) × ((group_at a).octets ≡ 1) × ((group_at (a + 1)).octets ≡ 1)

-- the test of them
short_of : (a e : ℕ) → is_short a e ≡ true → Short a e
short_of a e h =
    let b = eqb (group_at a).octets 1 in
    let d = eqb (group_at (a + 1)).octets 1 in
    let g : b && d ≡ true = both_right (eqb (a + 2) e) (b && d) h in
    (eqb-true _ _ (both_left (eqb (a + 2) e) (b && d) h), eqb-true _ _ (both_left b d g), eqb-true _ _ (both_right b d g))

first_octet : (bs : List ℕ) → joined (take 1 bs) ≡ get_or bs 0 0
unfolding joined
first_octet [] = refl
first_octet (b ∷ bs) = omega arith

-- the last of them
chain_one : (a : ℕ) (bs : List ℕ) (s : Shaped) → chain a 1 bs ≡ ok s → s.1 ≡ (group_at a).octets
unfolding chain
chain_one a bs s h =
    need_elim _ _ _ h λ t h₁.
    ⊎_elim
    (λ (e, g). ap (λ x. x.1) (sym (ok_inj g)))
    (λ (e, g). bind_elim _ _ g λ y q _. refused_ok q)
    (if_inv (eqb (joined (take (group_at a).octets bs) % 2) 0) _ _ h₁)

chain_two : (a : ℕ) (bs : List ℕ) (s : Shaped) → (group_at a).octets ≡ 1 → (group_at (a + 1)).octets ≡ 1 → chain a 2 bs ≡ ok s → s.1 ≡ 1 + get_or bs 0 0 % 2
unfolding chain
chain_two a bs s one two h =
    let f : joined (take (group_at a).octets bs) ≡ get_or bs 0 0 = ap (λ n. joined (take n bs)) one ∙ first_octet bs in
    need_elim _ _ _ h λ t h₁.
    ⊎_elim
    (λ (e, g).
    let z : joined (take (group_at a).octets bs) % 2 ≡ 0 = eqb-true _ _ e in
    let n : (group_at a).octets ≡ s.1 = ap (λ x. x.1) (ok_inj g) in
    omega (arith, one, f))
    (λ (e, g).
    bind_elim _ _ g λ y q g₁.
    let z : joined (take (group_at a).octets bs) % 2 ≡ 0 → ⊥ = eqb-false _ _ e in
    let n : y.1 + (group_at a).octets ≡ s.1 = ap (λ x. x.1) (ok_inj g₁) in
    omega (arith, one, two, f, chain_one (a + 1) (drop (group_at a).octets bs) y q))
    (if_inv (eqb (joined (take (group_at a).octets bs) % 2) 0) _ _ h₁)

-- ---- the shapes: the octets of an item by how its parts lie, its group and its first octet

shape_size : (k : Kind) (lo hi a e : ℕ) (bs : List ℕ) (s : Shaped) → first_tells k a e ≡ true → shape_by k lo hi a e bs ≡ ok s → s.1 ≡ octets_by k (group_at a).octets (get_or bs 0 0)
unfolding shape_by list_shape
shape_size parts.NoItem lo hi a e bs s w h = refused_ok h
shape_size parts.Fixed lo hi a e bs s w h =
    need_elim _ _ _ h λ t g.
    ap (λ x. x.1) (sym (ok_inj g))
shape_size parts.Repeated lo hi a e bs s w h =
    need_elim _ _ _ h λ t h₁.
    need_elim _ _ _ h₁ λ t₁ h₂.
    need_elim _ _ _ h₂ λ t₂ h₃.
    need_elim _ _ _ h₃ λ t₃ g.
    ap (λ x. x.1) (sym (ok_inj g))
shape_size parts.Led lo hi a e bs s w h =
    need_elim _ _ _ h λ t h₁.
    need_elim _ _ _ h₁ λ t₁ h₂.
    need_elim _ _ _ h₂ λ t₂ g.
    ap (λ x. x.1) (sym (ok_inj g))
shape_size parts.Extended lo hi a e bs s w h =
    let v : Short a e = short_of a e w in
    let n : e - a ≡ 2 = omega (arith, v.0) in
    chain_two a bs s v.1 v.2 (subst (λ x. chain a x bs ≡ ok s) n h)
shape_size parts.Compound lo hi a e bs s w h = refused_ok h

row_size_lem : (l : LayoutRow) (bs : List ℕ) (n : ℕ) → row_tells l ≡ true → whole_size l bs ≡ ok n → n ≡ row_octets l (get_or bs 0 0)
unfolding whole_size shape_of
row_size_lem l bs n w h =
    bind_elim _ _ h λ s p h₁.
    sym (ok_inj h₁) ∙ shape_size l.kind l.least l.most l.first l.end bs s w (whole_shape l bs s p)

-- ---- the law

pub size_law : (i f : ℕ) (bs : List ℕ) (n : ℕ) → Octets bs → check_at i f bs ≡ ok n → n ≡ octets_at i f bs
unfolding octets_at
size_law i f bs n o c = go (tells_at i f) refl
  where
    go : (t : Bool) → tells_at i f ≡ t → n ≡ octets_at i f bs
    go true e =
        let p : is_place i f ≡ true = both_left (is_place i f) (row_tells (row_of i f)) e in
        let w : row_tells (row_of i f) ≡ true = both_right (is_place i f) (row_tells (row_of i f)) e in
        let h : i < profile_count = ltb-true i profile_count (both_left (ltb i profile_count) (ltb f frn_count) p) in
        let k : f < frn_count = ltb-true f frn_count (both_right (ltb i profile_count) (ltb f frn_count) p) in
        row_size_lem (row_of i f) bs n w (plain_check i f bs h k o (λ d. false≢true (sym (ap (λ x. first_tells x (row_of i f).first (row_of i f).end) d) ∙ w)) ∙ c)
        ∙ sym (if_true _ e refl)
    go false e = sym (if_false _ e (ap size_or0 c))
