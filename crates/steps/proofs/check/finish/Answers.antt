-- `steps::check::finish` meets its contract.
use mathlib.Core.Path.{sym, ◌∙◌}
use Rattle.std.proofs.lemmas.Result.{err_from_is_err_and}
use Rattle.steps.proofs.Following.{finish_base, finish_unfinished, finish_troubles}
use Rattle.steps.proofs.check.finish.Goals as goal

pub returns-in-Base : goal.returns-in-Base
returns-in-Base c =
    finish_base _ _ _ (rw c.in-Base.is at (sym c.in_ok-status.was ∙ c.status.ensures))

pub returns-in-Unfinished : goal.returns-in-Unfinished
returns-in-Unfinished c =
    finish_unfinished _ _ c.args.g (rw c.in-Unfinished.is at (sym c.in_ok-status.was ∙ c.status.ensures))

pub returns-in_err-status : goal.returns-in_err-status
returns-in_err-status c =
    let p = err_from_is_err_and c.from_residual.result c.from_residual.ensures.1 in
    rw (p.1, p.2) (finish_troubles _ _ c.args.g (sym c.in_err-status.was ∙ c.status.ensures))
