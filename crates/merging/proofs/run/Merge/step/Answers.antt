-- `run::Merge::step` meets its contract: by which record goes first; that record lies in its log, so that the place behind it fits. Assumes nothing.
use mathlib.Core.Path.{refl}
use native.Mathlib.Omega.{arith}
use Rattle.merging.specs.Run.{log_is}
use Rattle.merging.proofs.MoveLaws.{choose_fits, fits, move_on, move_none, picked}
use Rattle.merging.proofs.run.Merge.step.Goals as goal

pub returns-in_err-log : goal.returns-in_err-log
returns-in_err-log c =
    rw c.from_residual.ensures
    (move_none c.args.log_a.now c.args.log_b.now c.args.self c.new.result c.new-2.result c.new.ensures c.new-2.ensures _ c.in_err-log.ensures refl)

pub behind-requires : goal.behind-requires
behind-requires c =
    choose_fits (log_is c.in_ok-log.log) c.args.self.a c.args.self.b c.args.log_a.now c.args.log_b.now c.pick-head.ensures
    (fits c.args.log_a.now c.args.log_b.now c.args.self c.new.result c.new-2.result c.new.ensures c.new-2.ensures _ c.in_ok-log.ensures _ refl)
    (omega (arith, c.well_formed)) (omega (arith, c.well_formed))

pub returns : goal.returns
returns c =
    move_on c.args.log_a.now c.args.log_b.now c.args.self c.new.result c.new-2.result c.new.ensures c.new-2.ensures _ c.in_ok-log.ensures _ refl
    c.pick-head.ensures (picked (log_is c.in_ok-log.log) _ _ c.pick.ensures) c.behind.ensures c.stand-after.ensures c.with.ensures
