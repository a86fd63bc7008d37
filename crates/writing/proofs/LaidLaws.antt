-- The octets of an item, for a sound layout: where the numbers of its parts are made, the item is written, its octets the head and the parts
-- one after another.
--
-- In order: numbers that fit; one number; parts of one size; parts chained by FX bits; the item; its length. Assumes nothing.
use Prim.Native.Nat.{ℕ, zero, suc, ◌+◌, ◌*◌, ◌^◌, ◌<◌, ◌≤◌}
use mathlib.Core.Path.{◌≡◌, refl, sym, ap, ◌∙◌, subst}
use mathlib.Core.Bool.{Bool, true, false}
use mathlib.Core.List.{List, [], ◌∷◌, ◌++◌, map, append-nil}
use native.Mathlib.Omega.{arith}
use native.Mathlib.Nat.{lt_of_lt_of_le, pow-suc, div-one, add-zero}
use borrow.Author.Tests.{leb-true, lt-ltb}
use lib.Dec.{T, leb, ltb, eqb, le→leb}
use lib.ListN.{length, replicate, length-replicate}
use lib.Pow.{pow-add, pow_mono}
use lib.IntN.{ℤ}
use Rattle.rules.specs.Answer.{Answer, ok, refused, ◌>>=◌, need◌or◌then◌}
use Rattle.rules.specs.Field.{any, bits}
use Rattle.rules.specs.Chain.{octets, write_num, write_many, write_chain}
use Rattle.rules.specs.Format.{Group, Format, group, fixed, repeated, led, extended, least, PartValues, write_parts, pack_all}
use Rattle.rules.proofs.AnswerLaws.{refused_ok, ok_inj, bind_in, bind_elim, need_in}
use Rattle.rules.proofs.FieldLaws.{pack_lt}
use Rattle.writing.specs.Write.{cut, parts_of, fields_of, numbers_of, chained, marked, laid_parts, head_of}
use Rattle.writing.proofs.Sound.{All, SoundGroup, Sound, mark_bits}
use Rattle.writing.proofs.FormatLaws.{fields_numbers}

-- ---- numbers that fit

-- a number for each of the first groups, and it fits the bits
abbrev pub Fit : List Group → List ℕ → Type 0
Fit gs [] = Unit {0}
Fit [] (n ∷ ns) = ⊥
Fit (g ∷ gs) (n ∷ ns) = (n < 2 ^ bits g.fields) × Fit gs ns

pack_all-fit : (gs : List Group) (vs : PartValues) (ns : List ℕ) → pack_all (fields_of gs) vs ≡ ok ns → Fit gs ns
unfolding pack_all
pack_all-fit gs [] ns h = subst (Fit gs) (ok_inj h) tt
pack_all-fit [] (v ∷ vs) ns h = refused_ok h
pack_all-fit (g ∷ gs) (v ∷ vs) ns h =
    bind_elim _ _ h λ n p h₁.
    bind_elim _ _ h₁ λ ms q h₂.
    subst (Fit (g ∷ gs)) (ok_inj h₂) (pack_lt g.fields v n p, pack_all-fit gs vs ms q)

pub numbers_fit : (gs : List Group) (vs : List ℤ) (ns : List ℕ) → numbers_of gs vs ≡ ok ns → Fit gs ns
unfolding numbers_of
numbers_fit gs vs ns h = bind_elim _ _ h λ ps p h₁. pack_all-fit gs ps ns h₁

pub fit_length : (gs : List Group) (ns : List ℕ) → Fit gs ns → length ns ≤ length gs
fit_length gs [] h = omega arith
fit_length [] (n ∷ ns) h = absurd h
fit_length (g ∷ gs) (n ∷ ns) h = omega (arith, fit_length gs ns h.1)

-- ---- one number

pub pow_256 : (k : ℕ) → 256 ^ k ≡ 2 ^ (8 * k)
pow_256 zero = refl
pow_256 (suc k) =
    let e : 8 * suc k ≡ 8 * k + 8 = omega arith in
    pow-suc 256 k ∙ ap (λ x. x * 256) (pow_256 k) ∙ sym (ap (λ x. 2 ^ x) e ∙ pow-add 2 (8 * k) 8)

num_laid : (k n : ℕ) → n < 2 ^ (8 * k) → write_num k n ≡ ok (octets k n)
unfolding write_num need◌or◌then◌
num_laid k n h = rw (lt-ltb n (256 ^ k) (rw (pow_256 k) h))

pub marked_lt : (fx more : Bool) (w n : ℕ) → n < 2 ^ w → marked fx more n < 2 ^ (w + mark_bits fx)
marked_lt false more w n h = rw add-zero h
marked_lt true false w n h = rw (pow-add 2 w 1) (omega arith)
marked_lt true true w n h = rw (pow-add 2 w 1) (omega arith)

-- a part's number, with the bit that says whether another follows
pub part_lt : (fx more : Bool) (g : Group) (n : ℕ) → SoundGroup fx g → n < 2 ^ bits g.fields → marked fx more n < 2 ^ (8 * g.size)
part_lt fx more g n s h = lt_of_lt_of_le (marked_lt fx more (bits g.fields) n h) (pow_mono s.fits)

part_laid : (fx more : Bool) (g : Group) (n : ℕ) → SoundGroup fx g → n < 2 ^ bits g.fields
    → write_num g.size (marked fx more n) ≡ ok (octets g.size (marked fx more n))
part_laid fx more g n s h = num_laid g.size (marked fx more n) (part_lt fx more g n s h)

-- a count or length octet
pub octet_laid : (c : ℕ) → c ≤ 255 → write_num 1 c ≡ ok (c ∷ [])
unfolding octets
octet_laid c h = num_laid 1 c (omega arith) ∙ ap (λ x. ok (x ∷ [])) (div-one c)

-- ---- parts of one size

many_laid : (hi : ℕ) (g : Group) (ns : List ℕ) → All (SoundGroup false) (replicate hi g) → Fit (replicate hi g) ns
    → write_many g.size ns ≡ ok (laid_parts false (replicate hi g) ns)
unfolding write_many laid_parts
many_laid zero g [] s h = refl
many_laid zero g (n ∷ ns) s h = absurd h
many_laid (suc hi) g [] s h = refl
many_laid (suc hi) g (n ∷ ns) s h =
    bind_in _ (part_laid false (ltb 0 (length ns)) g n s.0 h.0) (bind_in _ (many_laid hi g ns s.1 h.1) refl)

-- ---- parts chained by FX bits

pub laid_none : (fx : Bool) (gs : List Group) → laid_parts fx gs [] ≡ []
unfolding laid_parts
laid_none fx [] = refl
laid_none fx (g ∷ gs) = refl

chain_laid : (gs : List Group) (ns : List ℕ) → All (SoundGroup true) gs → Fit gs ns → 0 < length ns
    → write_chain (map (λ g. g.size) gs) ns ≡ ok (laid_parts true gs ns)
unfolding write_chain laid_parts
chain_laid gs [] s h k = absurd (omega arith)
chain_laid [] (n ∷ ns) s h k = absurd h
chain_laid (g ∷ gs) (n ∷ []) s h k = rw (laid_none true gs, append-nil) (part_laid true false g n s.0 h.0)
chain_laid (g ∷ gs) (n ∷ (m ∷ ns)) s h k =
    rw (lt-ltb 0 (length (m ∷ ns)) (omega arith))
    (bind_in _ (part_laid true true g n s.0 h.0) (bind_in _ (chain_laid gs (m ∷ ns) s.1 h.1 (omega arith)) refl))

-- ---- the item

parts_laid : (l : Format) (ns : List ℕ) → Sound (chained l) (parts_of l) → Fit (parts_of l) ns → least l ≤ length ns
    → write_parts l ns ≡ ok (head_of l (length ns) ++ laid_parts (chained l) (parts_of l) ns)
unfolding write_parts
parts_laid (fixed g) ns s h k =
    let one : length ns ≡ 1 = omega (arith, fit_length (g ∷ []) ns h) in
    need_in _ _ (subst (λ x. T (eqb x 1)) (sym one) tt) (many_laid 1 g ns s.each h)
parts_laid (repeated lo hi g) ns s h k =
    bind_in _ (octet_laid (length ns) (omega (arith, fit_length (replicate hi g) ns h, s.few)))
    (bind_in _ (many_laid hi g ns s.each h) refl)
parts_laid (led lo) ns s h k =
    let e : length ns ≤ 254 = omega (arith, fit_length _ ns h, length-replicate 254 (group 1 (any 8 ∷ []))) in
    need_in _ _ (le→leb _ _ k) (bind_in _ (octet_laid (suc (length ns)) (omega arith)) (bind_in _ (many_laid 254 (group 1 (any 8 ∷ [])) ns s.each h) refl))
parts_laid (extended gs) ns s h k = chain_laid gs ns s.each h k

item_laid : (l : Format) → Sound (chained l) (parts_of l) → (m : Answer (List ℕ)) → ((ns : List ℕ) → m ≡ ok ns → Fit (parts_of l) ns)
    → (m >>= (λ ns. need leb (least l) (length ns) or 11 then write_parts l ns)) ≡ (m >>= (λ ns. need leb (least l) (length ns) or 11 then ok (head_of l (length ns) ++ laid_parts (chained l) (parts_of l) ns)))
unfolding ◌>>=◌ need◌or◌then◌
item_laid l s (ok ns) f = go (leb (least l) (length ns)) refl
  where
    go : (t : Bool) → leb (least l) (length ns) ≡ t → (need t or 11 then write_parts l ns) ≡ (need t or 11 then ok (head_of l (length ns) ++ laid_parts (chained l) (parts_of l) ns))
    go true e = parts_laid l ns s (f ns refl) (leb-true _ _ e)
    go false e = refl
item_laid l s (refused n p) f = refl

pub fields_laid : (l : Format) (fs : List ℤ) → Sound (chained l) (parts_of l)
    → cut l fs ≡ (numbers_of (parts_of l) fs >>= (λ ns. need leb (least l) (length ns) or 11 then ok (head_of l (length ns) ++ laid_parts (chained l) (parts_of l) ns)))
fields_laid l fs s = fields_numbers l fs ∙ item_laid l s (numbers_of (parts_of l) fs) (numbers_fit (parts_of l) fs)
