-- `eval_sets::leaves::empty_set` meets its contract.
use Rattle.eval_sets.specs.Runs.{empty_set}
use Rattle.eval_sets.proofs.leaves.empty_set.Goals as goal

pub returns : goal.returns
unfolding empty_set
returns c =
    rw c.set_near-x.ensures
