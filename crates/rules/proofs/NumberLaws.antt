-- An item that is one number: its value and its octets. Assumes nothing.
use Prim.Native.Nat.{ℕ, ◌+◌, ◌*◌}
use mathlib.Core.Path.{◌≡◌, sym, ap, ◌∙◌, subst}
use mathlib.Core.List.{List, [], ◌∷◌, ◌++◌, append-nil}
use native.Mathlib.Omega.{arith}
use lib.ListN.{length, take}
use lib.Seq.{take_all}
use lib.IntN.{pos, negsuc}
use Rattle.rules.specs.Answer.{ok}
use Rattle.rules.specs.Field.{value, unsigned, pack, put}
use Rattle.rules.specs.Chain.{joined, write_num, read_num, write_many}
use Rattle.rules.specs.Format.{write_parts, pack_all, write_plain}
use Rattle.rules.specs.Layout.{Values, item, write_item, in_parts, in_subfields}
use Rattle.rules.proofs.AnswerLaws.{refused_ok, ok_inj, bind_elim, need_elim}
use Rattle.rules.proofs.ChainLaws.{num_laws, num_length}

-- a number of n octets
num_joined : (n m : ℕ) (f : List ℕ) → write_num n m ≡ ok f → joined f ≡ m
unfolding read_num
num_joined n m f h =
    need_elim _ _ _ ((num_laws 9 n).back m f [] h) λ t g.
    let e : joined (take n (f ++ [])) ≡ m = ap (λ z. z.0) (ok_inj g) in
    ap joined (sym (take_all n f (omega (arith, num_length n m f h))) ∙ ap (take n) (sym (append-nil f))) ∙ e

-- a value that is one number, and its octets
pub record IsNumber (n : ℕ) (v : Values) (out : List ℕ) : Type 0 where
  pub value_is : v ≡ in_parts ((pos (joined out) ∷ []) ∷ [])
  pub size : length out ≡ n

pub number_item : (n w lo hi : ℕ) (v : Values) (out : List ℕ) → write_item (item n (value w (unsigned lo hi) ∷ [])) v ≡ ok out → IsNumber n v out
unfolding write_item write_plain pack_all pack put write_parts write_many
number_item n w lo hi (in_subfields rs) out h = refused_ok h
number_item n w lo hi (in_parts []) out h = bind_elim _ _ h λ ns p h₁. need_elim _ _ _ p λ t q. absurd t
number_item n w lo hi (in_parts ([] ∷ us)) out h =
    bind_elim _ _ h λ ns p h₁.
    need_elim _ _ _ p λ t q.
    bind_elim _ _ q λ m a b.
    refused_ok a
number_item n w lo hi (in_parts ((negsuc x ∷ xs) ∷ us)) out h =
    bind_elim _ _ h λ ns p h₁.
    need_elim _ _ _ p λ t q.
    bind_elim _ _ q λ m a b.
    bind_elim _ _ a λ c d e.
    refused_ok d
number_item n w lo hi (in_parts ((pos x ∷ (y ∷ xs)) ∷ us)) out h =
    bind_elim _ _ h λ ns p h₁.
    need_elim _ _ _ p λ t q.
    bind_elim _ _ q λ m a b.
    bind_elim _ _ a λ c d e.
    need_elim _ _ _ e λ s g.
    bind_elim _ _ g λ k y z.
    refused_ok y
number_item n w lo hi (in_parts ((pos x ∷ []) ∷ (u ∷ us))) out h =
    bind_elim _ _ h λ ns p h₁.
    need_elim _ _ _ p λ t q.
    bind_elim _ _ q λ m a b.
    bind_elim _ _ b λ ms x y.
    refused_ok x
number_item n w lo hi (in_parts ((pos x ∷ []) ∷ [])) out h =
    bind_elim _ _ h λ ns p h₁.
    need_elim _ _ _ p λ t q.
    bind_elim _ _ q λ m a b.
    bind_elim _ _ a λ c d e.
    need_elim _ _ _ d λ s₁ d₁.
    need_elim _ _ _ d₁ λ s₂ d₂.
    need_elim _ _ _ e λ s₃ g.
    bind_elim _ _ g λ k y z.
    bind_elim _ _ b λ ms u b₁.
    need_elim _ _ _ h₁ λ s₄ h₂.
    bind_elim _ _ (subst (λ l. write_many n l ≡ ok out) (sym (ok_inj b₁) ∙ ap (λ l. m ∷ l) (sym (ok_inj u))) h₂) λ f r h₃.
    bind_elim _ _ h₃ λ l r₂ h₄.
    let cn : x ≡ c = ok_inj d₂ in
    let ck : 0 ≡ k = ok_inj y in
    let cm : c * 1 + k ≡ m = ok_inj z in
    let mn : x ≡ m = omega arith in
    let j : f ≡ out = sym (append-nil f) ∙ ap (λ z. f ++ z) (ok_inj r₂) ∙ ok_inj h₄ in
    record {
      value_is = ap (λ z. in_parts ((pos z ∷ []) ∷ [])) (mn ∙ sym (num_joined n m f r) ∙ ap joined j);
      size = ap length (sym j) ∙ num_length n m f r;
    }
