-- `eval_sets::leaves::same_elements` meets its contract.
use Rattle.eval_sets.specs.Runs.{same_elements}
use Rattle.eval_sets.proofs.leaves.same_elements.Goals as goal

pub returns : goal.returns
unfolding same_elements
returns c =
    rw c.two_elements-x.ensures
