-- `layouts::parts::Run::first_store` meets its contract. Assumes nothing.
use Prim.Native.Nat.{◌≤◌, ◌<◌, ◌+◌, ◌*◌, ◌/◌, ◌^◌}
use mathlib.Core.Path.{◌≡◌, sym, ap, ◌∙◌, subst}
use native.Mathlib.Omega.{arith}
use lib.ListN.{length, drop, take}
use lib.Seq.{sets}
use Rattle.rules.specs.Chain.{joined}
use Rattle.tables.specs.declared.tables.GroupRow.{GroupRow}
use Rattle.tables.specs.Tables.{group_at}
use Rattle.layouts.specs.Read.{rows, count, values}
use Rattle.layouts.proofs.OctetLaws.{cut_number, cut_long}
use Rattle.layouts.proofs.PartLaws.{PartSound, part_sound_lem, one_part}
use Rattle.layouts.proofs.parts.Run.first_store.Goals as goal
use Rattle.layouts.proofs.parts.Run.first_store.Goals.{After-group_at-r, After-number_of-number}

-- the group's row is sound
sound_at : (c : After-group_at-r) → PartSound c.args.self.step c.group_at-r.result
sound_at c =
    subst (PartSound c.args.self.step) (sym c.group_at-r.ensures) (part_sound_lem c.args.self.step (group_at c.args.self.group) c.requires.step_bound.2)

pub overflow_mul-w : goal.overflow_mul-w
overflow_mul-w c = omega (arith, (sound_at (goal.at.overflow_mul-w c).After-group_at-r).short)

pub overflow_sub-w : goal.overflow_sub-w
overflow_sub-w c = omega (arith, (sound_at (goal.at.overflow_sub-w c).After-group_at-r).some)

-- the part is there
there : (c : After-group_at-r) → c.args.self.at + c.group_at-r.result.octets ≤ length c.args.s.now
there c = subst (λ (r : GroupRow). c.args.self.at + r.octets ≤ length c.args.s.now) (sym c.group_at-r.ensures) c.requires.step_bound.3

pub overflow_add-self : goal.overflow_add-self
overflow_add-self c = record { fits = omega (arith, there (goal.at.overflow_add-self c).After-group_at-r, c.well_formed.1.0.0) }

pub slice_bounds-number_of-end : goal.slice_bounds-number_of-end
slice_bounds-number_of-end c = there (goal.at.slice_bounds-number_of-end c).After-group_at-r

pub number_of-number-requires : goal.number_of-number-requires
number_of-number-requires c =
    omega (arith, cut_long c.args.s.now c.args.self.at c.group_at-r.result.octets (there (goal.at.number_of-number-requires c).After-group_at-r), (sound_at (goal.at.number_of-number-requires c).After-group_at-r).short)

-- the number of its octets
read_at : (c : After-number_of-number)
    → (c.number_of-number.result ≡ joined (take c.group_at-r.result.octets (drop c.args.self.at c.args.s.now))) × (c.number_of-number.result < 2 ^ (8 * c.group_at-r.result.octets))
read_at c =
    let m = c.group_at-r.result.octets in
    let h : c.args.self.at + m ≤ length c.args.s.now = subst (λ (r : GroupRow). c.args.self.at + r.octets ≤ length c.args.s.now) (sym c.group_at-r.ensures) c.requires.step_bound.3 in
    let n = c.number_of-number in
    (cut_number c.args.s.now c.args.self.at m n.ensures.0, subst (λ k. n.result < 2 ^ (8 * k)) (cut_long c.args.s.now c.args.self.at m h) n.ensures.1)

pub fields_store-requires : goal.fields_store-requires
fields_store-requires c =
    let r = c.group_at-r in
    let o = one_part c.args.self.step r.result c.number_of-number.result (sound_at (goal.at.fields_store-requires c).After-group_at-r) (read_at (goal.at.fields_store-requires c).After-number_of-number).1 in
    record { e_le_field_count = ((sound_at (goal.at.fields_store-requires c).After-group_at-r).inside, o.wide); w_bound = (omega (arith, o.few), o.small); e_bound = subst (λ (x : GroupRow). c.args.start + count (rows x.first x.end) ≤ 8_192) (sym r.ensures) c.requires.group_bound }

pub returns : goal.returns
returns c =
    let r = c.group_at-r in
    let f = c.fields_store.ensures in (
      f.0 ∙ ap (λ (x : GroupRow). c.args.start + count (rows x.first x.end)) r.ensures,
      f.1
          ∙ ap (λ n. sets c.args.out.now c.args.start (values (rows r.result.first r.result.end) (n / 2 ^ c.args.self.step))) (read_at (goal.at.returns c).After-number_of-number).0
          ∙ ap (λ (x : GroupRow). sets c.args.out.now c.args.start (values (rows x.first x.end) (joined (take x.octets (drop c.args.self.at c.args.s.now)) / 2 ^ c.args.self.step))) r.ensures,
    )
