-- `steps::conditions::condition_holds` meets its contract.
use Rattle.steps.proofs.Trials.{quick_told, tested_told, tested_troubles}
use Rattle.steps.proofs.conditions.condition_holds.Goals as goal

pub returns-in-Some : goal.returns-in-Some
returns-in-Some c =
    quick_told _ c.args.at _ c.requires.0 c.in-Some.ensures

pub returns-in-Holds : goal.returns-in-Holds
returns-in-Holds c =
    tested_told _ c.args.at _ _ c.condition_at.ensures.0 c.in-Holds.is

pub returns-in-Trouble : goal.returns-in-Trouble
returns-in-Trouble c =
    tested_troubles _ c.args.at _ _ c.condition_at.ensures.0 c.in-Trouble.is
