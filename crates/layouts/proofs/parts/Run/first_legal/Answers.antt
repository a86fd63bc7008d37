-- `layouts::parts::Run::first_legal` meets its contract: a part is legal where it obeys the rules of its group. Assumes nothing.
use native.Mathlib.Omega.{arith}
use lib.ListN.{length}
use Prim.Native.Nat.{◌+◌, ◌≤◌}
use mathlib.Core.Path.{sym, subst}
use Rattle.rules.proofs.AnswerLaws.{Octets}
use Rattle.tables.proofs.TableLaws.{groups_few}
use Rattle.tables.proofs.RuleLaws.{rules_few}
use Rattle.layouts.proofs.OctetLaws.{octets_known, cut_number, cut_long}
use Rattle.layouts.proofs.LegalLaws.{size_few, part_free, part_ruled}
use Rattle.layouts.proofs.parts.Run.first_legal.Goals as goal
use Rattle.layouts.proofs.parts.Run.first_legal.Goals.{After-shared_slice_known-1, After-size_at-size}

-- the octets that the part lies in
octets_at_lem : (c : After-shared_slice_known-1) → Octets c.args.s.now
octets_at_lem c = octets_known c.args.s.now (λ i. omega (arith, c.type_inv.s i))

pub overflow_add-self : goal.overflow_add-self
overflow_add-self c = record { fits = omega (arith, groups_few, c.requires.1) }

pub returns-then-end-first : goal.returns-then-end-first
returns-then-end-first c = part_free _ _ _ _ (octets_at_lem (goal.at.returns-then-end-first c).After-shared_slice_known-1) c.requires.1 c.requires.2 c.requires.3 c.first_rule-first.ensures c.first_rule-end.ensures c.if-end-first.true

-- the part is there
there : (c : After-size_at-size) → c.args.self.at + c.size_at-size.result ≤ length c.args.s.now
there c = subst (λ m. c.args.self.at + m ≤ length c.args.s.now) (sym c.size_at-size.ensures) c.requires.3

pub overflow_add-self-2 : goal.overflow_add-self-2
overflow_add-self-2 c = record { fits = omega (arith, there (goal.at.overflow_add-self-2 c).After-size_at-size, c.well_formed.1.0.0) }

pub slice_bounds-number_of-end : goal.slice_bounds-number_of-end
slice_bounds-number_of-end c = there (goal.at.slice_bounds-number_of-end c).After-size_at-size

pub number_of-number-requires : goal.number_of-number-requires
number_of-number-requires c =
    omega (arith, cut_long c.args.s.now c.args.self.at c.size_at-size.result (there (goal.at.number_of-number-requires c).After-size_at-size), size_few _ _ c.requires.2 c.size_at-size.ensures)

pub are_obeyed-requires : goal.are_obeyed-requires
are_obeyed-requires c = rules_few _ c.requires.1 c.first_rule-end.ensures

pub returns : goal.returns
returns c =
    part_ruled _ _ _ _ (octets_at_lem (goal.at.returns c).After-shared_slice_known-1) c.requires.1 c.requires.2 c.requires.3 c.first_rule-first.ensures c.first_rule-end.ensures c.size_at-size.ensures (cut_number c.args.s.now c.args.self.at c.size_at-size.result c.number_of-number.ensures.0) c.are_obeyed.ensures
