-- `steps::check::follow_steps` meets its contract. The invariant: the steps passed lead to the state at the cost, and the rest of the plan is left.
use Rattle.std.proofs.lemmas.Result.{err_from_is_err_and}
use Rattle.steps.proofs.Following.{followed_more, followed_ended, followed_last}
use Rattle.steps.proofs.check.follow_steps.Goals as goal

pub loop-t-preserved : goal.loop-t-preserved
loop-t-preserved c =
    followed_more _ _ _ _ _ _ c.loop-t.invariant c.loop-t-test.true _ _ c.checked_step.ensures c.in_ok-g.was

pub returns-in_err-g : goal.returns-in_err-g
returns-in_err-g c =
    let p = err_from_is_err_and c.from_residual.result c.from_residual.ensures.1 in
    rw (p.1, p.2) (followed_ended _ _ _ _ _ _ c.loop-t.invariant c.loop-t-test.true _ _ c.checked_step.ensures c.in_err-g.was)

pub returns : goal.returns
returns c =
    followed_last _ _ _ _ _ _ c.loop-t.invariant c.loop-t-test.false c.finish.ensures
