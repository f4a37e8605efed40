-- `solver::buffers::plan_part` hands back the first part, or the empty one.
use borrow.Author.Tests.{le-leb, lt-leb}
use Rattle.search.specs.Answer.{handed_back}
use Rattle.solver.proofs.buffers.plan_part.Goals as goal

pub returns-then-steps-plan : goal.returns-then-steps-plan
unfolding handed_back
returns-then-steps-plan c =
    rw (le-leb _ _ c.if-steps-plan.true)

pub returns-else-steps-plan : goal.returns-else-steps-plan
unfolding handed_back
returns-else-steps-plan c =
    rw (lt-leb _ _ c.if-steps-plan.false)
