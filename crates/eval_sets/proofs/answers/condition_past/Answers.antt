-- `eval_sets::answers::condition_past` meets its contract.
use Rattle.eval_sets.specs.Answers.{past_condition}
use Rattle.eval_sets.proofs.answers.condition_past.Goals as goal

pub returns-in-Holds : goal.returns-in-Holds
unfolding past_condition
returns-in-Holds c =
    rw c.in-Holds.is

pub returns-in-Trouble : goal.returns-in-Trouble
unfolding past_condition
returns-in-Trouble c =
    rw c.in-Trouble.is
