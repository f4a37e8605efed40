-- `eval_tests::past` meets its contract.
use Rattle.eval_sets.specs.Answers.{past_condition}
use Rattle.eval_tests.specs.Stopped.{stopped}
use Rattle.eval_tests.proofs.past.Goals as goal

pub returns-then-b : goal.returns-then-b
unfolding stopped past_condition
returns-then-b c =
    rw (c.in-Holds.is, c.if-b.true)

pub returns-else-b : goal.returns-else-b
unfolding stopped past_condition
returns-else-b c =
    rw (c.in-Holds.is, c.if-b.false)

pub returns-in-Trouble : goal.returns-in-Trouble
unfolding stopped past_condition
returns-in-Trouble c =
    rw c.in-Trouble.is
