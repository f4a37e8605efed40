-- `eval_tests::stop` meets its contract.
use Rattle.eval_tests.specs.Stopped.{stopped}
use Rattle.eval_tests.proofs.stop.Goals as goal

pub returns-then-b : goal.returns-then-b
unfolding stopped
returns-then-b c =
    rw (c.in-Holds.is, c.if-b.true)

pub returns-else-b : goal.returns-else-b
unfolding stopped
returns-else-b c =
    rw (c.in-Holds.is, c.if-b.false)

pub returns-in-Trouble : goal.returns-in-Trouble
unfolding stopped
returns-in-Trouble c =
    rw c.in-Trouble.is
