-- `compounds::fields::parts_fields` meets its contract: the count, the values, the parts that are not there. Assumes nothing.
use Prim.Native.Nat.{◌-◌, ◌*◌}
use mathlib.Core.Path.{◌≡◌, ap, ◌∙◌}
use native.Mathlib.Omega.{arith}
use native.Mathlib.Nat.{one-mul}
use Rattle.rules.proofs.AnswerLaws.{Octets}
use Rattle.layouts.specs.Read.{step_of}
use Rattle.layouts.proofs.OctetLaws.{octets_known}
use Rattle.compounds.proofs.FieldLaws.{count_short, fits_at, parts_there, fields_few, stored_extended, stored_plain}
use Rattle.compounds.proofs.fields.parts_fields.Goals as goal
use Rattle.compounds.proofs.fields.parts_fields.Goals.{After-shared_slice_known-1}

octets_at_lem : (c : After-shared_slice_known-1) → Octets c.args.s.now
octets_at_lem c = octets_known c.args.s.now (λ i. omega (arith, c.type_inv.s i))

pub count_store-at-requires : goal.count_store-at-requires
count_store-at-requires c =
    (omega (arith, c.requires.2), omega (arith, parts_there c.args.l _ _ (octets_at_lem (goal.at.count_store-at-requires c).After-shared_slice_known-1) c.requires.0 c.requires.1, c.well_formed.1.1.0.0))

pub item_store-end-requires : goal.item_store-end-requires
item_store-end-requires c =
    let f = fits_at c.args.l _ _ (octets_at_lem (goal.at.item_store-end-requires c).After-shared_slice_known-1) c.requires.0 c.requires.1 in
    record { parts_value = (f.sound, omega (arith, f.spans, f.there)); parts_bound = omega (arith, fields_few c.args.l _ _ (octets_at_lem (goal.at.item_store-end-requires c).After-shared_slice_known-1) c.requires.0 c.requires.1 c.args.start _ c.requires.2 (count_short c.args.sub c.args.l.kind c.args.parts), c.count_store-at.ensures.0) }

pub overflow_sub-l : goal.overflow_sub-l
overflow_sub-l c =
    (fits_at c.args.l _ _ (octets_at_lem (goal.at.overflow_sub-l c).After-shared_slice_known-1) c.requires.0 c.requires.1).few

pub absent_store-requires : goal.absent_store-requires
absent_store-requires c =
    let e : step_of c.args.l.kind * (c.args.l.most - c.args.parts) ≡ c.args.l.most - c.args.parts = ap (λ k. step_of k * (c.args.l.most - c.args.parts)) c.in-Extended.is ∙ one-mul _ in
    omega (arith, fields_few c.args.l _ _ (octets_at_lem (goal.at.absent_store-requires c).After-shared_slice_known-1) c.requires.0 c.requires.1 c.args.start _ c.requires.2 (count_short c.args.sub c.args.l.kind c.args.parts), c.count_store-at.ensures.0, c.item_store-end.ensures.0)

pub returns-in-Extended : goal.returns-in-Extended
returns-in-Extended c =
    stored_extended c.args.sub c.args.l c.args.s.now c.args.parts _ _ _ _ _ _ c.count_store-at.ensures c.item_store-end.ensures c.in-Extended.is _ _ c.absent_store.ensures

pub returns-in_default : goal.returns-in_default
returns-in_default c =
    stored_plain c.args.sub c.args.l c.args.s.now c.args.parts _ _ _ _ _ _ c.count_store-at.ensures c.item_store-end.ensures c.in_default.not-Extended
