-- `steps::check::checked_step` meets its contract.
use mathlib.Core.Path.{sym, ◌∙◌}
use Rattle.std.proofs.lemmas.Result.{err_from_is_err_and}
use Rattle.steps.proofs.Following.{checked_base, checked_troubles, checked_on}
use Rattle.steps.proofs.check.checked_step.Goals as goal

pub returns-in-Base : goal.returns-in-Base
returns-in-Base c =
    checked_base _ _ _ _ c.args.child.now (rw c.in-Base.is at (sym c.in_ok-status.was ∙ c.status.ensures))

pub returns-in-Unfinished : goal.returns-in-Unfinished
returns-in-Unfinished c =
    checked_on _ _ c.args.t c.args.g _ (rw c.in-Unfinished.is at (sym c.in_ok-status.was ∙ c.status.ensures))
    c.tried_step.result c.tried_step.ensures

pub returns-in_err-status : goal.returns-in_err-status
returns-in_err-status c =
    let p = err_from_is_err_and c.from_residual.result c.from_residual.ensures.1 in
    rw (p.1, p.2) (checked_troubles _ _ _ _ c.args.child.now (sym c.in_err-status.was ∙ c.status.ensures))
