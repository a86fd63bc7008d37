-- The message type item is one octet, and the type that its fields spell is that octet: one field, or several of which those after the first have four
-- bits each (the family and nature of I061/000).
--
-- In order: the test of a layout; the fields; the item. Assumes nothing.
use Prim.Native.Nat.{ℕ, ◌+◌, ◌*◌, ◌/◌, ◌^◌}
use mathlib.Core.Path.{◌≡◌, sym, ap, ap₂, ◌∙◌, subst}
use mathlib.Core.Bool.{Bool, true, false, ◌&&◌, false≢true}
use mathlib.Core.Option.{some}
use mathlib.Core.List.{List, [], ◌∷◌, ◌++◌, append-nil}
use native.Mathlib.Omega.{arith}
use lib.Dec.{eqb}
use lib.IntN.{ℤ, pos, negsuc}
use lib.ListN.{length, get_or}
use lib.Pow.{pow-add}
use borrow.Author.Tests.{eqb-true}
use Rattle.rules.specs.Answer.{ok}
use Rattle.rules.specs.Field.{Field, spare, value, unsigned, signed, bits, put, pack}
use Rattle.rules.specs.Chain.{octets, write_num, write_many}
use Rattle.rules.specs.Format.{fixed, repeated, led, extended, write_parts, pack_all, write_plain}
use Rattle.rules.specs.Layout.{Layout, plain, compound, Values, in_parts, in_subfields, item, write_item}
use Rattle.rules.specs.Record.{spelled, type_of}
use Rattle.rules.proofs.AnswerLaws.{refused_ok, ok_inj, bind_elim, need_elim, both_left, both_right}

-- ---- the test

abbrev fours : List Field → Bool
fours [] = true
fours (spare w ∷ fs) = false
fours (value w (signed lo hi) ∷ fs) = false
fours (value w (unsigned lo hi) ∷ fs) = eqb w 4 && fours fs

abbrev spelling_fields : List Field → Bool
spelling_fields [] = false
spelling_fields (spare w ∷ fs) = false
spelling_fields (value w (signed lo hi) ∷ fs) = false
spelling_fields (value w (unsigned lo hi) ∷ fs) = fours fs

abbrev pub spelling : Layout → Bool
spelling (plain (fixed g)) = eqb g.size 1 && spelling_fields g.fields
spelling (plain (repeated lo hi g)) = false
spelling (plain (led lo)) = false
spelling (plain (extended gs)) = false
spelling (compound ps) = false

-- ---- the fields

-- four bits more
four_more : (t w n b c k m : ℕ) → w ≡ 4 → n ≡ c → c * 2 ^ b + k ≡ m → (t * 16 + n) * 2 ^ b + k ≡ t * 2 ^ (w + b) + m
four_more t w n b c k m four e d =
    let p : t * 2 ^ (w + b) ≡ t * (16 * 2 ^ b) = ap (λ j. t * j) (ap (λ j. 2 ^ (j + b)) four ∙ pow-add 2 4 b) in
    let r : n * 2 ^ b ≡ c * 2 ^ b = ap (λ j. j * 2 ^ b) e in
    omega arith

fours_spelled : (t : ℕ) (fs : List Field) (vs : List ℤ) (m : ℕ) → fours fs ≡ true → pack fs vs ≡ ok m → spelled t vs ≡ ok (t * 2 ^ bits fs + m)
unfolding pack put spelled
fours_spelled t [] [] m h e = let z : 0 ≡ m = ok_inj e in ap ok (omega arith)
fours_spelled t [] (v ∷ vs) m h e = refused_ok e
fours_spelled t (spare w ∷ fs) vs m h e = absurd (false≢true h)
fours_spelled t (value w (signed lo hi) ∷ fs) vs m h e = absurd (false≢true h)
fours_spelled t (value w (unsigned lo hi) ∷ fs) [] m h e = refused_ok e
fours_spelled t (value w (unsigned lo hi) ∷ fs) (negsuc n ∷ vs) m h e =
    bind_elim _ _ e λ c d e₁.
    refused_ok d
fours_spelled t (value w (unsigned lo hi) ∷ fs) (pos n ∷ vs) m h e =
    bind_elim _ _ e λ c d e₁.
    need_elim _ _ _ d λ s₁ d₁.
    need_elim _ _ _ d₁ λ s₂ d₂.
    need_elim _ _ _ e₁ λ s₃ e₂.
    bind_elim _ _ e₂ λ k y z.
    fours_spelled (t * 16 + n) fs vs k (both_right (eqb w 4) (fours fs) h) y
    ∙ ap ok (four_more t w n (bits fs) c k m (eqb-true w 4 (both_left (eqb w 4) (fours fs) h)) (ok_inj d₂) (ok_inj z))

-- whatever bits the first has
fields_spelled : (fs : List Field) (vs : List ℤ) (m : ℕ) → spelling_fields fs ≡ true → pack fs vs ≡ ok m → spelled 0 vs ≡ ok m
unfolding pack put spelled
fields_spelled [] vs m h e = absurd (false≢true h)
fields_spelled (spare w ∷ fs) vs m h e = absurd (false≢true h)
fields_spelled (value w (signed lo hi) ∷ fs) vs m h e = absurd (false≢true h)
fields_spelled (value w (unsigned lo hi) ∷ fs) [] m h e = refused_ok e
fields_spelled (value w (unsigned lo hi) ∷ fs) (negsuc n ∷ vs) m h e =
    bind_elim _ _ e λ c d e₁.
    refused_ok d
fields_spelled (value w (unsigned lo hi) ∷ fs) (pos n ∷ vs) m h e =
    bind_elim _ _ e λ c d e₁.
    need_elim _ _ _ d λ s₁ d₁.
    need_elim _ _ _ d₁ λ s₂ d₂.
    need_elim _ _ _ e₁ λ s₃ e₂.
    bind_elim _ _ e₂ λ k y z.
    let first : 0 * 16 + n ≡ c = omega (arith, ok_inj d₂) in
    fours_spelled (0 * 16 + n) fs vs k h y ∙ ap ok (ap (λ x. x * 2 ^ bits fs + k) first ∙ ok_inj z)

-- ---- the item

pub record SpelledType (v : Values) (out : List ℕ) : Type 0 where
  pub type_is : type_of (some v) ≡ ok (get_or out 0 0)
  pub size : length out ≡ 1

octet_type : (fs : List Field) (v : Values) (out : List ℕ) → spelling_fields fs ≡ true → write_item (item 1 fs) v ≡ ok out → SpelledType v out
unfolding write_item write_plain pack_all write_parts write_many write_num octets type_of
octet_type fs (in_subfields rs) out t h = refused_ok h
octet_type fs (in_parts []) out t h =
    bind_elim _ _ h λ ns p _.
    need_elim _ _ _ p λ s q.
    absurd s
octet_type fs (in_parts (v ∷ (u ∷ us))) out t h =
    bind_elim _ _ h λ ns p _.
    need_elim _ _ _ p λ s q.
    bind_elim _ _ q λ m a b.
    bind_elim _ _ b λ ms x y.
    refused_ok x
octet_type fs (in_parts (v ∷ [])) out t h =
    bind_elim _ _ h λ ns p h₁.
    need_elim _ _ _ p λ s q.
    bind_elim _ _ q λ m a b.
    bind_elim _ _ b λ ms x b₁.
    need_elim _ _ _ h₁ λ s₁ h₂.
    bind_elim _ _ (subst (λ l. write_many 1 l ≡ ok out) (sym (ok_inj b₁) ∙ ap (λ l. m ∷ l) (sym (ok_inj x))) h₂) λ o f h₃.
    need_elim _ _ _ f λ s₂ f₁.
    bind_elim _ _ h₃ λ l r h₄.
    let one : m ≡ m / 1 = omega arith in
    let is : (m / 1 ∷ []) ≡ out = ap₂ ◌++◌ (ok_inj f₁) (ok_inj r) ∙ ok_inj h₄ in
    record { type_is = ap (spelled 0) (append-nil v) ∙ fields_spelled fs v m t a ∙ ap ok (one ∙ ap (λ y. get_or y 0 0) is); size = ap length (sym is) }

pub spelled_type : (l : Layout) (v : Values) (out : List ℕ) → spelling l ≡ true → write_item l v ≡ ok out → SpelledType v out
spelled_type (plain (fixed g)) v out t h =
    octet_type g.fields v out (both_right (eqb g.size 1) _ t)
    (subst (λ n. write_item (item n g.fields) v ≡ ok out) (eqb-true g.size 1 (both_left (eqb g.size 1) _ t)) h)
spelled_type (plain (repeated lo hi g)) v out t h = absurd (false≢true t)
spelled_type (plain (led lo)) v out t h = absurd (false≢true t)
spelled_type (plain (extended gs)) v out t h = absurd (false≢true t)
spelled_type (compound ps) v out t h = absurd (false≢true t)
