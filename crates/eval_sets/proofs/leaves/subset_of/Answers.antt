-- `eval_sets::leaves::subset_of` meets its contract.
use Rattle.eval_sets.specs.Runs.{subset_of}
use Rattle.eval_sets.proofs.leaves.subset_of.Goals as goal

pub returns : goal.returns
unfolding subset_of
returns c =
    rw (c.is_subset.ensures, c.two_sets-x.ensures)
