-- `merging::many::put` meets its contract: six numbers in place of six. Assumes nothing.
use mathlib.Core.Path.{refl, ap₂, ◌∙◌}
use mathlib.Core.List.{[], ◌∷◌}
use Rattle.merging.proofs.ManyLaws.{six_stored}
use Rattle.merging.proofs.many.put.Goals as goal

pub returns : goal.returns
returns c =
    six_stored c.args.out.now c.args.place _ _ refl c.requires
    (c.copy_from_slice.ensures.after
    ∙ ap₂ (λ l k. l ∷ c.args.head.size ∷ c.args.head.at.block ∷ c.args.head.at.place ∷ c.args.head.at.end ∷ k ∷ []) c.number.ensures c.octet.ensures.0)
