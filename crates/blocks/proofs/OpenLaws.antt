-- A single block that is opened, or is not: what is then known of it, in the rules' words. Assumes nothing.
use Prim.Native.Nat.{ℕ, ◌<◌}
use mathlib.Core.Path.{◌≡◌, sym, ap, ap₂, ◌∙◌}
use mathlib.Core.Option.{some}
use mathlib.Core.List.{List}
use native.Mathlib.Omega.{arith}
use lib.Dec.{eqb, eqb→eq}
use lib.ListN.{length, drop}
use Rattle.rules.specs.Answer.{ok, refused}
use Rattle.rules.specs.Record.{read_record}
use Rattle.rules.specs.Block.{Block, category_of, read_all, write_block}
use Rattle.rules.specs.Catalogue.{categories}
use Rattle.rules.specs.Entry.{open_block}
use Rattle.rules.proofs.AnswerLaws.{ok_inj, bind_elim, expect_elim, Octets}
use Rattle.rules.proofs.BlockLaws.{single_forth}
use Rattle.blocks.specs.Read.{Records, Opening, opening, open_from}
use Rattle.blocks.proofs.HeadLaws.{headed, len_few, OpenHead, open_head, opened_is}
use Rattle.blocks.proofs.LoopLaws.{made_refused}

pub open_refusal : (bs : List ℕ) (n p : ℕ) → open_from 4 bs ≡ refused n p → open_block categories bs ≡ refused n p
open_refusal bs n p h = made_refused (open_block categories bs) (λ b. opening b.category (length b.records)) n p (sym (opened_is bs) ∙ h)

-- what is known of a block that is opened
pub record Opens (bs : List ℕ) (o : Opening) : Type 0 where
  pub block : Block
  pub opened : open_block categories bs ≡ ok (record { category = o.category; records = block.records })
  pub writes : write_block categories block ≡ ok bs
  pub named : category_of block.cat categories ≡ some o.category
  pub reads : read_all (read_record o.category) (drop 3 bs) ≡ ok block.records
  pub room : 3 < length bs
  pub few : length bs < 65_536

pub opens : (bs : List ℕ) (o : Opening) → Octets bs → open_from 4 bs ≡ ok o → Opens bs o
unfolding open_block
opens bs o b h =
    bind_elim _ _ (sym (opened_is bs) ∙ h) λ k p h₁.
    bind_elim _ _ p λ x q p₁.
    bind_elim _ _ p₁ λ c r p₂.
    expect_elim _ _ r λ named.
    let d : OpenHead bs k = open_head bs k p in
    let f : d.head.len ≡ length bs = eqb→eq _ _ (headed eqb bs d.head d.is_head_lem).fitted in
    let e : k.category ≡ o.category = ap (λ z. z.category) (ok_inj h₁) in
    let g : k.category ≡ c = ap (λ z. z.category) (sym (ok_inj p₂)) in
    let u : x.0.records ≡ k.records = ap (λ z. z.records) (ok_inj p₂) in
    record {
      block = x.0;
      opened = p ∙ ap₂ (λ y z. ok (record { category = y; records = z })) e (sym u);
      writes = single_forth categories x.0 bs x.1 b q;
      named = named ∙ ap some (sym g ∙ e);
      reads = ap (λ z. read_all (read_record z) (drop 3 bs)) (sym e) ∙ d.reads ∙ ap ok (sym u);
      room = omega (arith, d.long);
      few = omega (arith, len_few eqb bs d.head b d.is_head_lem);
    }

pub opens_records : {bs : List ℕ} {o : Opening} → Opens bs o → Records o.category (drop 3 bs)
opens_records k = record { values = k.block.records; reads = k.reads }
