-- `steps::check::follow` meets its contract: the plan is followed, and a trouble is told by its number.
use mathlib.Core.Path.{sym, ◌∙◌}
use Rattle.steps.proofs.Following.{plan_passes, plan_refused}
use Rattle.steps.proofs.check.follow.Goals as goal

pub returns-in-Ok : goal.returns-in-Ok
returns-in-Ok c = plan_passes _ _ _ (sym c.in-Ok.is ∙ c.follow_from_target.ensures)

pub returns-in-Err : goal.returns-in-Err
returns-in-Err c = plan_refused _ _ _ (sym c.in-Err.is ∙ c.follow_from_target.ensures) c.number.ensures.kept c.refused_plan.ensures
