-- No two distinct results satisfy the statement of a public function of heads: the statement has a profile's category, and no two profiles have one category.
--
-- In order: profiles; `front_head`. Assumes nothing.
use Rattle.std.specs.Prelude.{ℕ, Result, Ok, Err}
use mathlib.Core.Path.{◌≡◌, sym, ap, ap₂, ◌∙◌}
use mathlib.Core.Option.{some}
use mathlib.Core.List.{List}
use native.Mathlib.Omega.{arith}
use lib.Dec.{leb}
use Rattle.rules.specs.Block.{category_of}
use Rattle.rules.specs.Catalogue.{categories}
use Rattle.rules.specs.declared.faults.Fault.{Fault}
use Rattle.rules.proofs.AnswerLaws.{ok_inj}
use Rattle.rules.proofs.ToldLaws.{one_fault}
use Rattle.tables.specs.Profiles.{profile_in}
use Rattle.tables.proofs.ProfileLaws.{index_is}
use Rattle.sets.specs.Sets.{category_at}
use Rattle.blocks.specs.declared.heads.Head.{Head}
use Rattle.blocks.specs.declared.check.Opened.{Opened}
use Rattle.blocks.specs.Read.{head_by, open_from}
use Rattle.blocks.specs.Answers.{head_said, head_of, opened_of}
use Rattle.blocks.proofs.HeadLaws.{headed, opened_named}

-- ---- profiles

-- no two have one category
pub index_of_one : (i j : ℕ) → category_of (category_at i).cat categories ≡ some (category_at i) → category_at i ≡ category_at j → i ≡ j
index_of_one i j h e =
    let k : category_of (category_at j).cat categories ≡ some (category_at j) = rw (← e) h in
    sym (index_is i h) ∙ ap (λ c. profile_in c.cat categories) e ∙ index_is j k

-- the profile of a block that is opened is its category's
pub opened_profile : (bs : List ℕ) (least : ℕ) (o : Opened) → opened_of (Ok o) ≡ open_from least bs → o.profile ≡ profile_in (category_at o.profile).cat categories
opened_profile bs least o h = sym (index_is o.profile (opened_named bs least _ (sym h)))

-- ---- `front_head`

pub one_front_head : (part : List ℕ) (a b : Result Head Fault) → head_of a ≡ head_by leb part → head_of b ≡ head_by leb part → a ≡ b
one_front_head part (Ok h) (Ok k) p q =
    let e : head_said h ≡ head_said k = ok_inj (p ∙ sym q) in
    ap₂ (λ i n. Ok (record { profile = i; len = n })) (index_of_one h.profile k.profile (headed leb part _ (sym p)).named (ap (λ z. z.category) e)) (ap (λ z. z.len) e)
one_front_head part (Ok h) (Err f) p q = let e : head_of (Ok h) ≡ head_of (Err f) = p ∙ sym q in let z : ◌≡◌ {A = ℕ} 0 1 = cc in absurd (omega arith)
one_front_head part (Err f) (Ok k) p q = let e : head_of (Err f) ≡ head_of (Ok k) = p ∙ sym q in let z : ◌≡◌ {A = ℕ} 0 1 = cc in absurd (omega arith)
one_front_head part (Err f) (Err g) p q = let e : head_of (Err f) ≡ head_of (Err g) = p ∙ sym q in ap Err (one_fault f g (cc))
