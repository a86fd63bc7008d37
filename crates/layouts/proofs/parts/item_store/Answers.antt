-- `layouts::parts::item_store` meets its contract. Assumes nothing.
use Rattle.layouts.proofs.WholeLaws.{step_small}
use Rattle.layouts.proofs.parts.item_store.Goals as goal

pub store-requires : goal.store-requires
store-requires c =
    record {
      there = rw c.of.ensures (step_small c.args.l.kind, c.requires.parts_value.0, c.requires.parts_value.1);
      room = rw c.of.ensures c.requires.parts_bound;
    }

pub returns : goal.returns
returns c = rw c.of.ensures at c.store.ensures
