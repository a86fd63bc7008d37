-- The three laws of every format. In order: the parts as numbers; their values; the laws; ranges. Assumes nothing.
use Prim.Native.Nat.{ℕ, suc, ◌-◌, ◌≤◌, ◌<◌, suc-le-suc}
use mathlib.Core.Path.{◌≡◌, refl, sym, ap, ◌∙◌, subst}
use mathlib.Core.List.{List, [], ◌∷◌, ◌++◌, append_assoc}
use native.Mathlib.Omega.{arith}
use lib.Dec.{T, leb, eqb, leb→le, le→leb, ltb→lt, lt→ltb, eqb→eq}
use lib.ListN.{length}
use lib.IntN.{ℤ}
use Rattle.rules.specs.Answer.{ok, ◌>>=◌}
use Rattle.rules.specs.Field.{Field}
use Rattle.rules.specs.Chain.{write_num, write_many, read_many}
use Rattle.rules.specs.Format.{Format, fixed, repeated, led, extended, write_parts, read_parts, groups, least, pack_all, unpack_all, write_plain, read_plain}
use Rattle.rules.proofs.AnswerLaws.{refused_ok, ok_inj, bind_in, bind_elim, need_elim, need_in, Octets, octets_append, Split, Laws, step_back, after, both, via_laws, need_inverse}
use Rattle.rules.proofs.FieldLaws.{fields_inverse}
use Rattle.rules.proofs.ChainLaws.{num_laws, many_back, many_forth, many_clean, chain_laws}

-- ---- the parts as numbers
parts_back : (l : Format) (ns bs rest : List ℕ) → write_parts l ns ≡ ok bs → read_parts l (bs ++ rest) ≡ ok (ns, rest)
unfolding read_parts write_parts
parts_back (fixed g) ns bs rest h =
    need_elim _ _ _ h λ p h₁.
    subst (λ c. read_many g.size c (bs ++ rest) ≡ ok (ns, rest)) (eqb→eq (length ns) 1 p) (many_back g.size ns bs rest h₁)
parts_back (repeated lo hi g) ns bs rest h =
    bind_elim _ _ h λ c p h₁.
    bind_elim _ _ h₁ λ us q h₂.
    rw (← ok_inj h₂, append_assoc c us rest) (step_back (num_laws 9 1) _ p (many_back g.size ns us rest q))
parts_back (led lo) ns bs rest h =
    need_elim _ _ _ h λ t h₀.
    bind_elim _ _ h₀ λ c p h₁.
    bind_elim _ _ h₁ λ us q h₂.
    let e : suc (length ns) - 1 ≡ length ns = omega arith in
    rw (← ok_inj h₂, append_assoc c us rest)
    (step_back (num_laws 9 1) _ p (need_in _ _ (lt→ltb lo (suc (length ns)) (suc-le-suc (leb→le _ _ t))) (rw e (many_back 1 ns us rest q))))
parts_back (extended gs) ns bs rest h = (chain_laws 9 6 _).back ns bs rest h

parts_forth : (l : Format) (ns bs rest : List ℕ) → Octets bs → read_parts l bs ≡ ok (ns, rest) → Split (write_parts l) ns bs rest
unfolding read_parts write_parts
parts_forth (fixed g) ns bs rest b h =
    let (s, e) = many_forth g.size 1 ns bs rest b h in
    record { out = s.out; writes = need_in _ _ (subst (λ x. T (eqb x 1)) (sym e) tt) s.writes; joins = s.joins }
parts_forth (repeated lo hi g) ns bs rest b h =
    bind_elim _ _ h λ x p h₁.
    let s : Split (write_num 1) x.0 bs x.1 = (num_laws 9 1).forth x.0 bs x.1 b p in
    let (t, e) = many_forth g.size x.0 ns x.1 rest (after s b) h₁ in
    both ns (λ u v f k. bind_in _ (ap (write_num 1) e ∙ f) (bind_in _ k refl)) s t
parts_forth (led lo) ns bs rest b h =
    bind_elim _ _ h λ x p h₀.
    need_elim _ _ _ h₀ λ q h₁.
    let s : Split (write_num 1) x.0 bs x.1 = (num_laws 9 1).forth x.0 bs x.1 b p in
    let (t, e) = many_forth 1 (x.0 - 1) ns x.1 rest (after s b) h₁ in
    let l : lo < x.0 = ltb→lt _ _ q in
    let i : suc (length ns) ≡ x.0 = omega arith in
    let m : lo ≤ length ns = omega arith in
    both ns (λ u v f k. need_in _ _ (le→leb _ _ m) (bind_in _ (ap (write_num 1) i ∙ f) (bind_in _ k refl))) s t
parts_forth (extended gs) ns bs rest b h = (chain_laws 9 6 _).forth ns bs rest b h

-- a count or length octet, and parts
headed_clean : (c k : ℕ) (ns bs : List ℕ) → (write_num 1 c >>= (λ u. write_many k ns >>= (λ v. ok (u ++ v)))) ≡ ok bs → Octets bs
headed_clean c k ns bs h =
    bind_elim _ _ h λ u p h₁.
    bind_elim _ _ h₁ λ v q h₂.
    rw (← ok_inj h₂) (octets_append u v ((num_laws 9 1).clean c u p) (many_clean k ns v q))

parts_clean : (l : Format) (ns bs : List ℕ) → write_parts l ns ≡ ok bs → Octets bs
unfolding write_parts
parts_clean (fixed g) ns bs h = need_elim _ _ _ h λ p h₁. many_clean g.size ns bs h₁
parts_clean (repeated lo hi g) ns bs h = headed_clean (length ns) g.size ns bs h
parts_clean (led lo) ns bs h = need_elim _ _ _ h λ t h₁. headed_clean (suc (length ns)) 1 ns bs h₁
parts_clean (extended gs) ns bs h = (chain_laws 9 6 _).clean ns bs h

-- ---- their values

unpack-pack_all : (gs : List (List Field)) (ns : List ℕ) (vs : List (List ℤ)) → unpack_all gs ns ≡ ok vs → pack_all gs vs ≡ ok ns
unfolding pack_all unpack_all
unpack-pack_all gs [] vs h = rw (← ok_inj h)
unpack-pack_all [] (n ∷ ns) vs h = refused_ok h
unpack-pack_all (g ∷ gs) (n ∷ ns) vs h =
    bind_elim _ _ h λ v p h₁.
    bind_elim _ _ h₁ λ us q h₂.
    rw (← ok_inj h₂) (bind_in _ ((fields_inverse g).to n v p) (bind_in _ (unpack-pack_all gs ns us q) refl))

pub pack-unpack_all : (gs : List (List Field)) (vs : List (List ℤ)) (ns : List ℕ) → pack_all gs vs ≡ ok ns → unpack_all gs ns ≡ ok vs
unfolding pack_all unpack_all
pack-unpack_all gs [] ns h = rw (← ok_inj h)
pack-unpack_all [] (v ∷ vs) ns h = refused_ok h
pack-unpack_all (g ∷ gs) (v ∷ vs) ns h =
    bind_elim _ _ h λ n p h₁.
    bind_elim _ _ h₁ λ us q h₂.
    rw (← ok_inj h₂) (bind_in _ ((fields_inverse g).from n v p) (bind_in _ (pack-unpack_all gs vs us q) refl))

pub unpack_all-length : (gs : List (List Field)) (ns : List ℕ) (vs : List (List ℤ)) → unpack_all gs ns ≡ ok vs → length ns ≡ length vs
unfolding unpack_all
unpack_all-length gs [] vs h = rw (← ok_inj h)
unpack_all-length [] (n ∷ ns) vs h = refused_ok h
unpack_all-length (g ∷ gs) (n ∷ ns) vs h =
    bind_elim _ _ h λ v p h₁.
    bind_elim _ _ h₁ λ us q h₂.
    rw (← ok_inj h₂) (ap suc (unpack_all-length gs ns us q))

-- THE LAWS OF EVERY FORMAT
pub plain_laws : (l : Format) → Laws (read_plain l) (write_plain l)
unfolding read_plain write_plain
plain_laws l =
    via_laws
    (record { back = parts_back l; forth = parts_forth l; clean = parts_clean l })
    (need_inverse 11 11 _ _ (record { to = unpack-pack_all (groups l); from = λ ns vs h. pack-unpack_all (groups l) vs ns h })
    (λ ns vs h. ap (leb (least l)) (unpack_all-length (groups l) ns vs h)))
