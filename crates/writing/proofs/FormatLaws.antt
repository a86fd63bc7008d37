-- A list cut into the parts of a format is written as the code does it: part by part.
--
-- In order: refusals ahead of a refusal; a part's number; the parts' numbers, one after another; the octets of a layout's parts; the item.
-- Assumes nothing.
use Prim.Native.Nat.{ℕ, zero, suc, ◌+◌, ◌*◌, ◌^◌, ◌<◌}
use mathlib.Core.Path.{◌≡◌, refl, sym, ap, ◌∙◌}
use mathlib.Core.Bool.{Bool, true, false}
use mathlib.Core.List.{List, [], ◌∷◌}
use native.Mathlib.Omega.{arith}
use borrow.Author.Tests.{leb-false, ne_eqb}
use lib.Dec.{leb}
use lib.ListN.{length, drop, replicate}
use lib.Seq.{take_all}
use lib.IntN.{ℤ}
use Rattle.rules.specs.Answer.{Answer, ok, refused, ◌>>=◌, need◌or◌then◌, when◌then◌else◌}
use Rattle.rules.specs.Field.{Field, any, spare, value, bits, arity, pack}
use Rattle.rules.specs.Format.{Group, Format, group, fixed, repeated, led, extended, groups, least, PartValues, write_parts, pack_all, write_plain}
use Rattle.rules.proofs.AnswerLaws.{refused_ok, ok_inj, bind_elim, need_bind}
use Rattle.writing.specs.Write.{parts_from, cut, parts_of, fields_of, pack_first, numbers_of}
use Rattle.writing.proofs.Refusals.{Eleven, done, not_done, put_eleven, pack_eleven, pack_all-eleven, parts_from-eleven}

-- ---- refusals ahead of a refusal

no_bind : {A B : Type 0} {m : Answer A} (f : A → Answer B) → Eleven m → ((a : A) → f a ≡ refused 11 0) → (m >>= f) ≡ refused 11 0
unfolding ◌>>=◌
no_bind f (done {a}) k = k a
no_bind f not_done k = refl

no_need : {A : Type 0} (t : Bool) (x : Answer A) → x ≡ refused 11 0 → (need t or 11 then x) ≡ refused 11 0
unfolding need◌or◌then◌
no_need true x h = h
no_need false x h = refl

-- ---- a part's number

-- too few values
pack_short : (fs : List Field) (vs : List ℤ) → length vs < arity fs → pack fs vs ≡ refused 11 0
unfolding pack ◌>>=◌
pack_short [] vs h = absurd (omega arith)
pack_short (spare w ∷ fs) vs h = pack_short fs vs h
pack_short (value w k ∷ fs) [] h = refl
pack_short (value w k ∷ fs) (v ∷ vs) h =
    no_bind _ (put_eleven w k v) λ c. no_need _ _ (ap (λ m. m >>= (λ n. ok (c * 2 ^ bits fs + n))) (pack_short fs vs (omega arith)))

pack_first-short : (fs : List Field) (vs : List ℤ) → length vs < arity fs → pack_first fs vs ≡ refused 11 0
unfolding pack_first
pack_first-short fs vs h = ap (pack fs) (take_all (arity fs) vs (omega arith)) ∙ pack_short fs vs h

-- ---- the parts' numbers, one after another

pub numbers_none : (gs : List Group) → numbers_of gs [] ≡ ok []
unfolding numbers_of parts_from pack_all ◌>>=◌ need◌or◌then◌ when◌then◌else◌
numbers_none [] = refl
numbers_none (g ∷ gs) = refl

pub numbers_over : (vs : List ℤ) → 0 < length vs → numbers_of [] vs ≡ refused 11 0
unfolding numbers_of parts_from pack_all ◌>>=◌ need◌or◌then◌
numbers_over vs h = rw (ne_eqb (length vs) 0 (omega arith))

-- the first part's number, and then the numbers of what is left
parts_step : (f : List Field) (fs : List (List Field)) (t : Bool) {m : Answer PartValues} (p : List ℤ) → Eleven m → (t ≡ false → pack f p ≡ refused 11 0)
    → ((need t or 11 then (m >>= (λ ps. ok (p ∷ ps)))) >>= pack_all (f ∷ fs)) ≡ (pack f p >>= (λ n. (m >>= pack_all fs) >>= (λ ns. ok (n ∷ ns))))
unfolding pack_all ◌>>=◌ need◌or◌then◌
parts_step f fs false p e h = rw (h refl)
parts_step f fs true p done h = refl
parts_step f fs true p not_done h = sym (no_bind _ (pack_eleven f p) λ n. refl)

pub numbers_cons : (g : Group) (gs : List Group) (vs : List ℤ) → 0 < length vs
    → numbers_of (g ∷ gs) vs ≡ (pack_first g.fields vs >>= (λ n. numbers_of gs (drop (arity g.fields) vs) >>= (λ ns. ok (n ∷ ns))))
unfolding numbers_of pack_first parts_from when◌then◌else◌
numbers_cons g gs vs h =
    rw (ne_eqb (length vs) 0 (omega arith))
    (parts_step g.fields (fields_of gs) _ _ (parts_from-eleven (fields_of gs) (drop (arity g.fields) vs)) λ e. pack_first-short g.fields vs (leb-false _ _ e))

-- ---- the item, from the numbers of its parts

replicate_fields : (n : ℕ) (g : Group) → replicate n g.fields ≡ fields_of (replicate n g)
replicate_fields zero g = refl
replicate_fields (suc n) g = ap (λ r. g.fields ∷ r) (replicate_fields n g)

pub groups_parts : (l : Format) → groups l ≡ fields_of (parts_of l)
groups_parts (fixed g) = refl
groups_parts (repeated lo hi g) = replicate_fields hi g
groups_parts (led lo) = replicate_fields 254 (group 1 (any 8 ∷ []))
groups_parts (extended gs) = refl

pub pack_all-length : (gs : List (List Field)) (vs : PartValues) {ns : List ℕ} → pack_all gs vs ≡ ok ns → length ns ≡ length vs
unfolding pack_all
pack_all-length gs [] h = rw (← ok_inj h)
pack_all-length [] (v ∷ vs) h = refused_ok h
pack_all-length (g ∷ gs) (v ∷ vs) h =
    bind_elim _ _ h λ n p h₁.
    bind_elim _ _ h₁ λ ms q h₂.
    rw (← ok_inj h₂) (ap suc (pack_all-length gs vs q))

-- the least number of parts is tested on the values or on the numbers
least_step : (l : Format) (k : ℕ) {m : Answer (List ℕ)} → Eleven m → ((ns : List ℕ) → m ≡ ok ns → length ns ≡ k)
    → ((need leb (least l) k or 11 then m) >>= write_parts l) ≡ (m >>= (λ ns. need leb (least l) (length ns) or 11 then write_parts l ns))
unfolding ◌>>=◌
least_step l k (done {a = ns}) e = need_bind _ _ _ _ ∙ ap (λ x. need leb (least l) x or 11 then write_parts l ns) (sym (e ns refl))
least_step l k not_done e = ap (λ r. r >>= write_parts l) (no_need _ _ refl)

item_step : (l : Format) (gs : List (List Field)) {m : Answer PartValues} → Eleven m
    → (m >>= (λ vs. (need leb (least l) (length vs) or 11 then pack_all gs vs) >>= write_parts l)) ≡ ((m >>= pack_all gs) >>= (λ ns. need leb (least l) (length ns) or 11 then write_parts l ns))
unfolding ◌>>=◌
item_step l gs (done {a = vs}) = least_step l (length vs) (pack_all-eleven gs vs) λ ns h. pack_all-length gs vs h
item_step l gs not_done = refl

pub fields_numbers : (l : Format) (fs : List ℤ) → cut l fs ≡ (numbers_of (parts_of l) fs >>= (λ ns. need leb (least l) (length ns) or 11 then write_parts l ns))
unfolding cut write_plain numbers_of
fields_numbers l fs = rw (groups_parts l) (item_step l (fields_of (parts_of l)) (parts_from-eleven (fields_of (parts_of l)) fs))
