-- `steps::check::follow_from_target` meets its contract: the target's constraints, then the steps.
use Rattle.std.proofs.lemmas.Result.{err_from_is_err_and}
use Rattle.steps.proofs.Following.{target_meets, target_breaks, target_troubles}
use Rattle.steps.proofs.check.follow_from_target.Goals as goal

pub returns-then-holds : goal.returns-then-holds
returns-then-holds c =
    target_meets _ _ _ c.start.ensures _ _ c.constraints_hold.ensures c.in_ok-holds.was c.if-holds.true c.follow_steps.ensures

pub returns : goal.returns
returns c =
    target_breaks _ _ _ c.start.ensures _ _ c.constraints_hold.ensures c.in_ok-holds.was c.if-holds.false

pub returns-in_err-holds : goal.returns-in_err-holds
returns-in_err-holds c =
    let p = err_from_is_err_and c.from_residual.result c.from_residual.ensures.1 in
    rw (p.1, p.2) (target_troubles _ _ _ c.start.ensures _ _ c.constraints_hold.ensures c.in_err-holds.was)
