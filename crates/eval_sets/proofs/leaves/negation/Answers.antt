-- `eval_sets::leaves::negation` meets its contract.
use Rattle.eval_sets.specs.Answers.{negated}
use Rattle.eval_sets.proofs.leaves.negation.Goals as goal

pub returns-in-Holds : goal.returns-in-Holds
unfolding negated
returns-in-Holds c =
    rw c.in-Holds.is

pub returns-in-Trouble : goal.returns-in-Trouble
unfolding negated
returns-in-Trouble c =
    rw c.in-Trouble.is
