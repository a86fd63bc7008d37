-- What the shape of an item says of its reading: the same octets, the same refusal. Assumes nothing.
use Prim.Native.Nat.{ℕ, zero, suc, ◌+◌, ◌*◌, ◌%◌}
use mathlib.Core.Path.{◌≡◌, refl, sym, ap, ap₂, ◌∙◌}
use mathlib.Core.Bool.{Bool, true, false}
use mathlib.Core.List.{List, [], ◌∷◌}
use native.Mathlib.Omega.{arith}
use lib.Dec.{eqb}
use lib.ListN.{drop}
use Rattle.rules.specs.Answer.{Answer, ok, refused, ◌>>=◌, when◌then◌else◌}
use Rattle.rules.specs.Presence.{flags}
use Rattle.rules.specs.Layout.{at_start}
use Rattle.rules.proofs.AnswerLaws.{Only, only_bind, only_need, only_if, ok_inj, refused_ok, bind_in, bind_out, bind_assoc, if_true, if_false}
use Rattle.tables.specs.declared.tables.Kind.TheVariants.{Compound}
use Rattle.tables.specs.declared.tables.LayoutRow.{LayoutRow}
use Rattle.tables.specs.Tables.{same_kind}
use Rattle.tables.proofs.KindLaws.{kind_other}
use Rattle.layouts.specs.Read.{Shaped, shape_by, shape_of, whole_of, whole_size}
use Rattle.compounds.specs.Compound.{Told, last_of, before_of, primary, plain_read, part_fields, subfields_read, printed, compound_read, item_read, item_size, size_from, shaped}

-- ---- every refusal of a compound item is at its start

abbrev First : ℕ → ℕ → Type 0
First n p = p ≡ 0

primary_first : (row left : ℕ) (bs : List ℕ) → Only First (primary row left bs)
unfolding primary last_of before_of
primary_first row zero bs = refl
primary_first row (suc left) [] = refl
primary_first row (suc left) (x ∷ bs) =
    only_if First (eqb (x % 2) 0) _ _ (only_need First _ 7 _ refl (only_need First _ 8 _ refl tt))
    (only_bind First _ _ (primary_first (row + 1) left bs) λ y. only_need First _ 8 _ refl tt)

start_first : {A : Type 0} (x : Answer A) → Only First (at_start x)
unfolding at_start
start_first (ok a) = tt
start_first (refused n p) = refl

compound_first : (l : LayoutRow) (bs : List ℕ) → Only First (compound_read l bs)
unfolding compound_read
compound_first l bs = only_bind First _ _ (primary_first l.first (printed l) bs) λ y. only_bind First _ _ (start_first (subfields_read (7 * l.first) (flags (7 * printed l) y.0) (drop y.1 bs))) λ z. tt

-- ---- the shape says how it is read

module _ (l : LayoutRow) (bs : List ℕ) where
  -- refused alike
  pub shape_refused : (n p : ℕ) → refused n p ≡ shaped l bs → item_read l bs ≡ refused n p
  unfolding shaped item_read
  shape_refused n p h = go (same_kind l.kind Compound) h
    where
      compound_refused : (m : Answer Told) → Only First m → refused n p ≡ size_from 0 m → m ≡ refused n p
      compound_refused (ok x) f e = refused_ok e
      compound_refused (refused a b) f e =
          let z : n ≡ a = cc in
          let w : p ≡ 0 = cc in
          ap₂ refused (sym z) (f ∙ sym w)

      go : (t : Bool) → refused n p ≡ (when t then size_from 0 (compound_read l bs) else whole_of l bs) → (when t then compound_read l bs else plain_read false l bs) ≡ refused n p
      go true e = unfold when◌then◌else◌ in (compound_refused (compound_read l bs) (compound_first l bs) (e ∙ (unfold when◌then◌else◌ in refl)))
      go false e = unfold when◌then◌else◌ plain_read in (bind_out _ (sym (e ∙ (unfold when◌then◌else◌ in refl))))

  -- read, with so many octets
  pub record ReadTo (long : ℕ) : Type 0 where
    pub told : Told
    pub is_read : item_read l bs ≡ ok told
    pub octets : told.1 ≡ long

  pub shape_read : (c long : ℕ) → ok (c, long) ≡ shaped l bs → ReadTo long
  unfolding shaped item_read
  shape_read c long h = go (same_kind l.kind Compound) refl h
    where
      compound_read_lem : (m : Answer Told) → ok (c, long) ≡ size_from 0 m → (x : Told) × (m ≡ ok x) × (x.1 ≡ long)
      compound_read_lem (ok x) e = (x, refl, (let d : ◌≡◌ {A = Shaped} (c, long) (0, 0 + x.1) = ok_inj e in let z : long ≡ 0 + x.1 = ap (λ s. s.1) d in omega arith))
      compound_read_lem (refused a b) e = refused_ok (sym e)

      go : (t : Bool) → same_kind l.kind Compound ≡ t → ok (c, long) ≡ (when t then size_from 0 (compound_read l bs) else whole_of l bs) → ReadTo long
      go true e h =
          let r = compound_read_lem (compound_read l bs) (h ∙ (unfold when◌then◌else◌ in refl)) in
          record { told = r.0; is_read = if_true _ e r.1; octets = r.2 }
      go false e h =
          record { told = (part_fields false l c bs, long); is_read = if_false _ e (unfold plain_read in (bind_in _ (sym (h ∙ (unfold when◌then◌else◌ in refl))) refl)); octets = refl }

  -- so how many octets it takes
  pub size_read : (c long : ℕ) → ok (c, long) ≡ shaped l bs → ok long ≡ item_size l bs
  unfolding item_size
  size_read c long h = let r : ReadTo long = shape_read c long h in sym (bind_in _ r.is_read (ap ok r.octets))

  pub size_refused : (n p : ℕ) → refused n p ≡ shaped l bs → refused n p ≡ item_size l bs
  unfolding item_size
  size_refused n p h = sym (bind_out _ (shape_refused n p h))

  -- an item that is not compound, by its parts
  pub whole_item : ¬ (l.kind ≡ Compound) → whole_size l bs ≡ item_size l bs
  unfolding whole_size item_size item_read plain_read
  whole_item h = sym (ap (λ m. m >>= (λ (x : Told). ok x.1)) (if_false _ (kind_other l.kind Compound h) refl) ∙ bind_assoc (whole_of l bs) _ _ ∙ go (whole_of l bs))
    where
      go : (m : Answer Shaped) → (m >>= (λ s. ◌>>=◌ {A = Told} (ok (part_fields false l s.0 bs, s.1)) (λ x. ok x.1))) ≡ (m >>= (λ s. ok s.1))
      go (ok s) = unfold ◌>>=◌ in refl
      go (refused n p) = unfold ◌>>=◌ in refl

  -- a compound one has no parts
  pub no_whole : (n : ℕ) → whole_size l bs ≡ ok n → ¬ (l.kind ≡ Compound)
  unfolding whole_size whole_of shape_of shape_by
  no_whole n h k = refused_ok (sym (bind_out _ (bind_out _ (ap (λ x. shape_by x l.least l.most l.first l.end bs) k))) ∙ h)
