-- `eval_sets::leaves::relation` meets its contract.
use Rattle.model.specs.Meaning.{equal_z}
use Rattle.eval_sets.specs.Runs.{compared}
use Rattle.words.proofs.Integers.{back}
use Rattle.eval_sets.proofs.leaves.relation.Goals as goal

pub returns-then-a-b : goal.returns-then-a-b
unfolding compared equal_z
returns-then-a-b c =
    let t = rw (back c.ranges.a, back c.ranges.b) at c.if-a-b.true in rw (back c.ranges.a, back c.ranges.b, c.in-Equal.is, t)

pub returns-else-a-b : goal.returns-else-a-b
unfolding compared equal_z
returns-else-a-b c =
    let t = rw (back c.ranges.a, back c.ranges.b) at c.if-a-b.false in rw (c.in-Equal.is, t)

pub returns-in-Less : goal.returns-in-Less
unfolding compared
returns-in-Less c =
    rw (back c.ranges.a, back c.ranges.b, c.in-Less.is)

pub returns-in-AtMost : goal.returns-in-AtMost
unfolding compared
returns-in-AtMost c =
    rw (back c.ranges.a, back c.ranges.b, c.in-AtMost.is)
