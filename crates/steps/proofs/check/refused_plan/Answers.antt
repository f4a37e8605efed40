-- `steps::check::refused_plan` tells the number, at no cost.
use mathlib.Core.Path.{refl}
use Rattle.model.specs.Check.{answer_number, cost_given}
use Rattle.steps.proofs.check.refused_plan.Goals as goal

pub returns : goal.returns
unfolding answer_number cost_given
returns c =
    record { number = refl; cost = c.hours.ensures }
