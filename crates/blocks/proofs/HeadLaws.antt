-- A block by octets: its head, then the records in the octets that LEN leaves.
--
-- In order: the head; a block; a single block and the front of a recording, answer by answer. Assumes nothing.
use Prim.Native.Nat.{ℕ, suc, ◌+◌, ◌-◌, ◌*◌, ◌≤◌, ◌<◌}
use mathlib.Core.Path.{◌≡◌, refl, sym, ap, ap₂, ◌∙◌, subst}
use mathlib.Core.Bool.{Bool, true, false}
use mathlib.Core.Option.{Option, none, some}
use mathlib.Core.List.{List, [], ◌∷◌}
use native.Mathlib.Omega.{arith}
use native.Mathlib.Nat.{zero-add}
use lib.Dec.{T, leb, ltb, eqb, leb→le, le→leb, lt→ltb, eqb→eq}
use borrow.Author.Tests.{lt-leb, le-ltb, ltb-true, ltb-false, leb-true, leb-false}
use lib.ListN.{length, take, drop, get_or, length-drop}
use lib.Seq.{take_all}
use Rattle.rules.specs.Answer.{Answer, ok, refused, ◌>>=◌, need◌or◌then◌, expect◌or◌, later}
use Rattle.rules.specs.Chain.{joined, read_num}
use Rattle.rules.specs.Record.{Category, Record, read_record}
use Rattle.rules.specs.Block.{Block, Head, category_of, read_all, read_head, read_body, read_block}
use Rattle.rules.specs.Catalogue.{categories}
use Rattle.rules.specs.Entry.{check_block, Opened, open_block, old_block}
use Rattle.rules.proofs.BlockLaws.{category_cat}
use Rattle.rules.proofs.AnswerLaws.{refused_ok, ok_inj, later_inv, bind_elim, need_elim, expect_elim, expect_in, expect_out, bind_in, bind_out, bind_assoc, bind_cong, need_bind, need_in, need_out, T_true, Octets}
use Rattle.blocks.proofs.LoopLaws.{octets_at_lem}
use Rattle.blocks.specs.Read.{len_at, head_at, head_by, count_from, Opening, opening, open_from, body_at, check_front}

-- ---- the head

-- CAT and LEN as they are read
num_one : (a b : ℕ) (bs : List ℕ) → read_num 1 1 (a ∷ (b ∷ bs)) ≡ ok (a, b ∷ bs)
unfolding read_num joined
num_one a b bs =
    let e : a * 1 + 0 ≡ a = omega arith in
    need_in _ _ (le→leb 1 (suc (suc (length bs))) (omega arith)) (ap (λ n. ok (n, b ∷ bs)) e)

num_two : (a b : ℕ) (bs : List ℕ) → read_num 1 2 (a ∷ (b ∷ bs)) ≡ ok (a * 256 + b, bs)
unfolding read_num joined
num_two a b bs =
    let e : a * 256 + (b * 1 + 0) ≡ a * 256 + b = omega arith in
    need_in _ _ (le→leb 2 (suc (suc (length bs))) (omega arith)) (ap (λ n. ok (n, bs)) e)

-- the tests of a head, in one go and in two
head_tests : (o : Option Category) (t : Bool) (fits : ℕ → ℕ → Bool) (n m : ℕ) (bs : List ℕ)
    → ◌≡◌ {A = Answer (Head × List ℕ)} ((expect o or 2) >>= λ c. need t or 3 then need fits n m or 3 then ok (record { category = c; len = n }, bs))
    (((expect o or 2) >>= λ c. need t or 3 then ok (record { category = c; len = n })) >>= λ h. need fits h.len m or 3 then ok (h, bs))
unfolding expect◌or◌ need◌or◌then◌ ◌>>=◌
head_tests none t fits n m bs = refl
head_tests (some c) true fits n m bs = refl
head_tests (some c) false fits n m bs = refl

head_four : (a b d : ℕ) (bs : List ℕ)
    → head_at (a ∷ (b ∷ (d ∷ bs))) ≡ ((expect category_of a categories or 2) >>= λ c. need leb 3 (b * 256 + d) or 3 then ok (record { category = c; len = b * 256 + d }))
unfolding head_at
head_four a b d bs = need_in _ 1 (le→leb 3 (suc (suc (suc (length bs)))) (omega arith)) refl

head_short : (fits : ℕ → ℕ → Bool) (bs : List ℕ) → length bs < 3 → read_head fits categories bs ≡ refused 1 0
unfolding read_head read_num need◌or◌then◌ ◌>>=◌
head_short fits [] l = refl
head_short fits (a ∷ []) l = refl
head_short fits (a ∷ (b ∷ [])) l = refl
head_short fits (a ∷ (b ∷ (d ∷ bs))) l = absurd (omega arith)

pub head_none : (bs : List ℕ) → length bs < 3 → head_at bs ≡ refused 1 0
unfolding head_at
head_none bs l = need_out 1 _ (lt-leb 3 (length bs) l)

-- answer by answer
module _ (bs : List ℕ) (three : 3 ≤ length bs) where
  pub head_alien : category_of (get_or bs 0 0) categories ≡ none → head_at bs ≡ refused 2 0
  unfolding head_at
  head_alien e = need_in _ 1 (le→leb 3 (length bs) three) (bind_out _ (expect_out 2 e))

  pub head_less : (c : Category) (n : ℕ) → category_of (get_or bs 0 0) categories ≡ some c → n ≡ len_at bs → n < 3 → head_at bs ≡ refused 3 0
  unfolding head_at
  head_less c n e p l =
      let m : len_at bs < 3 = rw (← p) l in
      need_in _ 1 (le→leb 3 (length bs) three) (bind_in _ (expect_in 2 e) (need_out 3 _ (lt-leb 3 (len_at bs) m)))

  pub head_good : (c : Category) (n : ℕ) → category_of (get_or bs 0 0) categories ≡ some c → n ≡ len_at bs → 3 ≤ n
      → head_at bs ≡ ok (record { category = c; len = n })
  unfolding head_at
  head_good c n e p l =
      let m : 3 ≤ len_at bs = rw (← p) l in
      need_in _ 1 (le→leb 3 (length bs) three)
      (bind_in _ (expect_in 2 e) (need_in _ 3 (le→leb 3 (len_at bs) m) (ap (λ z. ok (record { category = c; len = z })) (sym p))))

pub head_is : (fits : ℕ → ℕ → Bool) (bs : List ℕ)
    → read_head fits categories bs ≡ (head_at bs >>= λ h. need fits h.len (length bs) or 3 then ok (h, drop 3 bs))
unfolding read_head
head_is fits [] = head_short fits [] (omega arith) ∙ sym (bind_out _ (head_none [] (omega arith)))
head_is fits (a ∷ []) = head_short fits (a ∷ []) (omega arith) ∙ sym (bind_out _ (head_none (a ∷ []) (omega arith)))
head_is fits (a ∷ (b ∷ [])) = head_short fits (a ∷ (b ∷ [])) (omega arith) ∙ sym (bind_out _ (head_none (a ∷ (b ∷ [])) (omega arith)))
head_is fits (a ∷ (b ∷ (d ∷ bs))) =
    bind_in _ (num_one a b (d ∷ bs))
    (bind_in _ (num_two b d bs)
    (head_tests (category_of a categories) (leb 3 (b * 256 + d)) fits (b * 256 + d) (suc (suc (suc (length bs)))) bs
    ∙ ap (λ z. z >>= λ h. need fits h.len (suc (suc (suc (length bs)))) or 3 then ok (h, bs)) (sym (head_four a b d bs))))

module _ (fits : ℕ → ℕ → Bool) (bs : List ℕ) where
  pub by_no_head : (n p : ℕ) → head_at bs ≡ refused n p → head_by fits bs ≡ refused n p
  unfolding head_by
  by_no_head n p e = bind_out _ e

  pub by_bad_len : (h : Head) → head_at bs ≡ ok h → fits h.len (length bs) ≡ false → head_by fits bs ≡ refused 3 0
  unfolding head_by
  by_bad_len h e f = bind_in _ e (need_out 3 _ f)

  pub by_head : (h : Head) → head_at bs ≡ ok h → fits h.len (length bs) ≡ true → head_by fits bs ≡ ok h
  unfolding head_by
  by_head h e f = bind_in _ e (need_in _ 3 (T_true f) refl)

  pub head_by_lem : read_head fits categories bs ≡ (head_by fits bs >>= λ h. ok (h, drop 3 bs))
  unfolding head_by ◌>>=◌
  head_by_lem =
      head_is fits bs
      ∙ bind_cong (head_at bs) _ _ (λ h. sym (need_bind (fits h.len (length bs)) 3 (ok h) (λ g. ok (g, drop 3 bs))))
      ∙ sym (bind_assoc (head_at bs) (λ h. need fits h.len (length bs) or 3 then ok h) (λ h. ok (h, drop 3 bs)))

  -- what a head says
  pub record Headed (h : Head) : Type 0 where
    pub fitted : T (fits h.len (length bs))
    pub room : 3 ≤ length bs
    pub least : 3 ≤ h.len
    pub len_is : h.len ≡ len_at bs
    pub named : category_of h.category.cat categories ≡ some h.category

  pub headed : (h : Head) → head_by fits bs ≡ ok h → Headed h
  unfolding head_by head_at
  headed h e =
      bind_elim _ _ e λ g p e₁.
      need_elim _ _ _ e₁ λ t e₂.
      need_elim _ _ _ p λ l p₁.
      bind_elim _ _ p₁ λ c q p₂.
      need_elim _ _ _ p₂ λ m p₃.
      expect_elim _ _ q λ found.
      subst Headed (ok_inj e₂)
      (subst (λ z. T (fits z.len (length bs)) → Headed z) (ok_inj p₃)
      (λ t'.
      record {
        fitted = t';
        room = leb→le _ _ l;
        least = leb→le _ _ m;
        len_is = refl;
        named = ap (λ k. category_of k categories) (sym (category_cat (get_or bs 0 0) categories c found)) ∙ found;
      }) t)

  -- LEN has two octets
  pub len_few : (h : Head) → Octets bs → head_by fits bs ≡ ok h → h.len < 65_536
  len_few h o e = omega (arith, (headed h e).len_is, octets_at_lem bs 1 o, octets_at_lem bs 2 o)

  -- ---- a block, answer by answer, however LEN is held to the octets lent

  pub block_refused : (n p : ℕ) → head_by fits bs ≡ refused n p → read_block fits categories bs ≡ refused n p
  unfolding read_block
  block_refused n p e = bind_out _ (head_by_lem ∙ bind_out _ e)

  pub block_empty : (h : Head) → head_by fits bs ≡ ok h → h.len ≤ 3 → read_block fits categories bs ≡ refused 4 0
  unfolding read_block
  block_empty h e l = bind_in _ (head_by_lem ∙ bind_in _ e refl) (need_out 4 _ (le-ltb 3 h.len l))

  pub block_body : (h : Head) → head_by fits bs ≡ ok h → 3 < h.len
      → read_block fits categories bs
      ≡ (later 3 (read_all (read_record h.category) (body_at h bs)) >>= λ rs. ok (record { cat = h.category.cat; records = rs }, drop (h.len - 3) (drop 3 bs)))
  unfolding read_block read_body ◌>>=◌
  block_body h e l =
      bind_in _ (head_by_lem ∙ bind_in _ e refl)
      (need_in _ 4 (lt→ltb 3 h.len l) (bind_assoc (later 3 (read_all (read_record h.category) (body_at h bs))) _ _))

-- ---- a single block

-- a block that is read has one of the categories
block_category : (fits : ℕ → ℕ → Bool) (bs rest : List ℕ) (b : Block) → read_block fits categories bs ≡ ok (b, rest)
    → (c : Category) × (category_of b.cat categories ≡ some c)
unfolding read_block
block_category fits bs rest b e =
    bind_elim _ _ e λ x p e₁.
    need_elim _ _ _ e₁ λ t e₂.
    bind_elim _ _ e₂ λ y q e₃.
    bind_elim _ _ (sym (head_by_lem fits bs) ∙ p) λ h p₁ p₂.
    (h.category, ap (λ z. category_of z.0.cat categories) (sym (ok_inj e₃)) ∙ ap (λ z. category_of z.0.category.cat categories) (sym (ok_inj p₂)) ∙ (headed fits bs h p₁).named)

count_opened : (c : Category) (x : Answer (List Record)) → ((x >>= λ rs. ok (0 + length rs)) >>= λ n. ok (opening c n))
    ≡ (◌>>=◌ {B = Opened} x (λ rs. ok (record { category = c; records = rs })) >>= λ b. ok (opening b.category (length b.records)))
unfolding ◌>>=◌
count_opened c (ok rs) = ap (λ n. ok (opening c n)) (zero-add (length rs))
count_opened c (refused n p) = refl

module _ (bs : List ℕ) where
  -- LEN leaves all that is after the head
  pub body_all : (h : Head) → head_by eqb bs ≡ ok h → body_at h bs ≡ drop 3 bs
  body_all h e =
      let f : h.len ≡ length bs = eqb→eq _ _ (headed eqb bs h e).fitted in
      take_all (h.len - 3) (drop 3 bs) (rw length-drop (omega arith))

  pub open_refused : (n p : ℕ) → head_by eqb bs ≡ refused n p → open_block categories bs ≡ refused n p
  unfolding open_block
  open_refused n p e = bind_out _ (block_refused eqb bs n p e)

  pub open_empty : (h : Head) → head_by eqb bs ≡ ok h → h.len ≤ 3 → open_block categories bs ≡ refused 4 0
  unfolding open_block
  open_empty h e l = bind_out _ (block_empty eqb bs h e l)

  pub open_body : (h : Head) → head_by eqb bs ≡ ok h → 3 < h.len
      → open_block categories bs ≡ (later 3 (read_all (read_record h.category) (drop 3 bs)) >>= λ rs. ok (record { category = h.category; records = rs }))
  unfolding open_block ◌>>=◌
  open_body h e l =
      ap (λ z. z >>= λ x. (expect category_of x.0.cat categories or 2) >>= λ c. ok (record { category = c; records = x.0.records })) (block_body eqb bs h e l)
      ∙ bind_assoc (later 3 (read_all (read_record h.category) (body_at h bs))) _ _
      ∙ bind_cong (later 3 (read_all (read_record h.category) (body_at h bs))) _ _ (λ rs. bind_in _ (expect_in 2 (headed eqb bs h e).named) refl)
      ∙ ap (λ z. later 3 (read_all (read_record h.category) z) >>= λ rs. ok (record { category = h.category; records = rs })) (body_all h e)

  -- a block that is opened has a head, and records after it
  pub record OpenHead (k : Opened) : Type 0 where
    pub head : Head
    pub is_head_lem : head_by eqb bs ≡ ok head
    pub long : 3 < head.len
    pub category : k.category ≡ head.category
    pub reads : read_all (read_record k.category) (drop 3 bs) ≡ ok k.records

  pub open_head : (k : Opened) → open_block categories bs ≡ ok k → OpenHead k
  open_head k e = go (head_by eqb bs) refl
    where
      long : (h : Head) (t : Bool) → head_by eqb bs ≡ ok h → ltb 3 h.len ≡ t → OpenHead k
      long h false p q = refused_ok (sym (open_empty h p (ltb-false 3 h.len q)) ∙ e)
      long h true p q =
          bind_elim _ _ (sym (open_body h p (ltb-true 3 h.len q)) ∙ e) λ rs r f.
          subst OpenHead (ok_inj f)
          (record { head = h; is_head_lem = p; long = ltb-true 3 h.len q; category = refl; reads = later_inv 3 _ r })

      go : (x : Answer Head) → head_by eqb bs ≡ x → OpenHead k
      go (refused n p) q = refused_ok (sym (open_refused n p q) ∙ e)
      go (ok h) q = long h (ltb 3 h.len) q refl

  -- ---- opening it, answer by answer

  pub opened_refused : (least n p : ℕ) → head_by eqb bs ≡ refused n p → open_from least bs ≡ refused n p
  unfolding open_from
  opened_refused least n p e = bind_out _ e

  pub opened_less : (least : ℕ) (h : Head) → head_by eqb bs ≡ ok h → h.len < least → open_from least bs ≡ refused 4 0
  unfolding open_from
  opened_less least h e l = bind_in _ e (need_out 4 _ (lt-leb least h.len l))

  pub opened_body : (least : ℕ) (h : Head) (part : List ℕ) → head_by eqb bs ≡ ok h → least ≤ h.len → part ≡ drop 3 bs
      → open_from least bs ≡ (count_from h.category 0 3 part >>= λ n. ok (opening h.category n))
  unfolding open_from
  opened_body least h part e l q =
      bind_in _ e (need_in _ 4 (le→leb least h.len l) (ap (λ z. count_from h.category 0 3 z >>= λ n. ok (opening h.category n)) (sym q)))

  pub opened_stop : (least : ℕ) (h : Head) (part : List ℕ) (n p : ℕ) → head_by eqb bs ≡ ok h → least ≤ h.len → part ≡ drop 3 bs → count_from h.category 0 3 part ≡ refused n p
      → open_from least bs ≡ refused n p
  opened_stop least h part n p e l q r = opened_body least h part e l q ∙ bind_out _ r

  pub opened_all : (least : ℕ) (h : Head) (part : List ℕ) (n : ℕ) → head_by eqb bs ≡ ok h → least ≤ h.len → part ≡ drop 3 bs → count_from h.category 0 3 part ≡ ok n
      → open_from least bs ≡ ok (opening h.category n)
  opened_all least h part n e l q r = opened_body least h part e l q ∙ bind_in _ r refl

  -- a block that is opened has one of the categories
  pub opened_named : (least : ℕ) (o : Opening) → open_from least bs ≡ ok o → category_of o.category.cat categories ≡ some o.category
  unfolding open_from
  opened_named least o e =
      bind_elim _ _ e λ h p e₁.
      need_elim _ _ _ e₁ λ t e₂.
      bind_elim _ _ e₂ λ n q e₃.
      subst (λ z. category_of z.category.cat categories ≡ some z.category) (ok_inj e₃) (headed eqb bs h p).named

  -- a single block as the rules open it
  pub opened_is : open_from 4 bs ≡ (open_block categories bs >>= λ b. ok (opening b.category (length b.records)))
  unfolding open_from count_from
  opened_is = go (head_by eqb bs) refl
    where
      by_len : (h : Head) (t : Bool) → head_by eqb bs ≡ ok h → leb 4 h.len ≡ t
          → open_from 4 bs ≡ (open_block categories bs >>= λ b. ok (opening b.category (length b.records)))
      by_len h false p q = bind_in _ p (need_out 4 _ q) ∙ sym (bind_out _ (open_empty h p (omega (arith, leb-false 4 h.len q))))
      by_len h true p q =
          bind_in _ p (need_in _ 4 (T_true q) (count_opened h.category (later 3 (read_all (read_record h.category) (drop 3 bs)))))
          ∙ sym (ap (λ z. z >>= λ b. ok (opening b.category (length b.records))) (open_body h p (leb-true 4 h.len q)))

      go : (x : Answer Head) → head_by eqb bs ≡ x → open_from 4 bs ≡ (open_block categories bs >>= λ b. ok (opening b.category (length b.records)))
      go (refused n p) q = bind_out _ q ∙ sym (bind_out _ (open_refused n p q))
      go (ok h) q = by_len h (leb 4 h.len) q refl

  -- what was found of the records is what was found of the block
  opened_checked : open_from 4 bs ≡ (open_block categories bs >>= λ b. ok (opening b.category (length b.records))) → check_block categories bs ≡ (open_from 4 bs >>= λ o. ok o.count)
  unfolding check_block open_block
  opened_checked h = go (read_block eqb categories bs) refl
    where
      go : (x : Answer (Block × List ℕ)) → read_block eqb categories bs ≡ x → check_block categories bs ≡ (open_from 4 bs >>= λ o. ok o.count)
      go (refused n p) e = bind_out _ e ∙ sym (bind_out _ (h ∙ bind_out _ (bind_out _ e)))
      go (ok (b, rest)) e =
          let (c, f) = block_category eqb bs rest b e in
          bind_in _ e refl ∙ sym (bind_in _ (h ∙ bind_in _ (bind_in _ e (bind_in _ (expect_in 2 f) refl)) refl) refl)

  -- checking a block is opening it
  pub check_stop : (n p : ℕ) → open_from 4 bs ≡ refused n p → check_block categories bs ≡ refused n p
  check_stop n p h = opened_checked opened_is ∙ bind_out _ h

  pub check_all : (o : Opening) → open_from 4 bs ≡ ok o → check_block categories bs ≡ ok o.count
  check_all o h = opened_checked opened_is ∙ bind_in _ h refl

  -- ---- the front of a recording

  pub front_refused : (n p : ℕ) → head_by leb bs ≡ refused n p → check_front bs ≡ refused n p
  unfolding check_front
  front_refused n p e = bind_out _ (block_refused leb bs n p e)

  pub front_empty : (h : Head) → head_by leb bs ≡ ok h → h.len ≡ 3 → check_front bs ≡ refused 4 0
  unfolding check_front
  front_empty h e l = bind_out _ (block_empty leb bs h e (omega arith))

  front_len : (n : ℕ) → 3 ≤ n → n ≤ length bs → length bs - length (drop (n - 3) (drop 3 bs)) ≡ n
  front_len n l m = rw (length-drop (n - 3) (drop 3 bs), length-drop 3 bs) (omega arith)

  pub front_body : (h : Head) → head_by leb bs ≡ ok h → (h.len ≡ 3 → ⊥)
      → check_front bs ≡ (count_from h.category 0 3 (body_at h bs) >>= λ n. ok (record { len = h.len; records = n }))
  unfolding check_front count_from ◌>>=◌
  front_body h e l =
      let m : 3 < h.len = omega (arith, (headed leb bs h e).least) in
      ap (λ z. z >>= λ x. ok (record { len = length bs - length x.1; records = length x.0.records })) (block_body leb bs h e m)
      ∙ bind_assoc (later 3 (read_all (read_record h.category) (body_at h bs))) _ _
      ∙ bind_cong (later 3 (read_all (read_record h.category) (body_at h bs))) _ _
      (λ rs. ap₂ (λ m n. ok (record { len = m; records = n })) (front_len h.len (headed leb bs h e).least (leb→le _ _ (headed leb bs h e).fitted)) (sym (zero-add (length rs))))
      ∙ sym (bind_assoc (later 3 (read_all (read_record h.category) (body_at h bs))) _ _)

  pub front_stop : (h : Head) (n p : ℕ) → head_by leb bs ≡ ok h → (h.len ≡ 3 → ⊥) → count_from h.category 0 3 (body_at h bs) ≡ refused n p → check_front bs ≡ refused n p
  front_stop h n p e l r = front_body h e l ∙ bind_out _ r

  pub front_all : (h : Head) (n : ℕ) → head_by leb bs ≡ ok h → (h.len ≡ 3 → ⊥) → count_from h.category 0 3 (body_at h bs) ≡ ok n
      → check_front bs ≡ ok (record { len = h.len; records = n })
  front_all h n e l r = front_body h e l ∙ bind_in _ r refl

-- ---- the block that a record is added to: LEN 3 is allowed

old_tests : (c : Category) (x : Answer (List Record)) (bs : List ℕ)
    → (◌>>=◌ {B = List Record × List ℕ} x (λ rs. ok (rs, bs)) >>= λ y. ok c) ≡ (((x >>= λ rs. ok (0 + length rs)) >>= λ n. ok (opening c n)) >>= λ o. ok o.category)
unfolding ◌>>=◌
old_tests c (ok rs) bs = refl
old_tests c (refused n p) bs = refl

module _ (out : List ℕ) (used : ℕ) where
  pub old_none : length out < used → old_block categories out used ≡ refused 16 0
  unfolding old_block
  old_none l = need_out 16 _ (lt-leb used (length out) l)

  pub old_is : used ≤ length out → old_block categories out used ≡ (open_from 3 (take used out) >>= λ o. ok o.category)
  unfolding old_block read_body open_from count_from
  old_is l = need_in _ 16 (le→leb used (length out) l) (go (head_by eqb (take used out)) refl)
    where
      go : (x : Answer Head) → head_by eqb (take used out) ≡ x
          → (read_head eqb categories (take used out) >>= λ x. read_body x.0 x.1 >>= λ y. ok x.0.category) ≡ (open_from 3 (take used out) >>= λ o. ok o.category)
      go (refused n p) e = bind_out _ (head_by_lem eqb (take used out) ∙ bind_out _ e) ∙ sym (bind_out _ (bind_out _ e))
      go (ok h) e =
          bind_in _ (head_by_lem eqb (take used out) ∙ bind_in _ e refl)
          (ap (λ z. ◌>>=◌ {B = List Record × List ℕ} (later 3 (read_all (read_record h.category) z)) (λ rs. ok (rs, drop (h.len - 3) (drop 3 (take used out)))) >>= λ y. ok h.category) (body_all (take used out) h e)
          ∙ old_tests h.category (later 3 (read_all (read_record h.category) (drop 3 (take used out)))) (drop (h.len - 3) (drop 3 (take used out)))
          ∙ sym (ap (λ z. z >>= λ o. ok o.category) (bind_in _ e (need_in _ 4 (le→leb 3 h.len (headed eqb (take used out) h e).least) refl))))
