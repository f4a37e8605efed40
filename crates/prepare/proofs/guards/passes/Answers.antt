-- `prepare::guards::passes` meets its contract.
use Rattle.model.specs.Sets as Sets
use Rattle.prepare.specs.Guards.{passes, guard_in}
use Rattle.prepare.proofs.guards.passes.Goals as goal

pub returns : goal.returns
returns c =
    unfold Sets.intersection in unfold passes in unfold guard_in in rw c.word_at-w.ensures cc
