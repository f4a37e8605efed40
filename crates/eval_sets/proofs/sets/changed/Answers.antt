-- `eval_sets::sets::changed` meets its contract.
use Rattle.eval_sets.specs.Runs.{changed}
use Rattle.eval_sets.proofs.sets.changed.Goals as goal

pub returns-in-Add : goal.returns-in-Add
unfolding changed
returns-in-Add c =
    rw (c.in-Add.is, c.union.ensures, c.single.ensures)

pub returns-in-Remove : goal.returns-in-Remove
unfolding changed
returns-in-Remove c =
    rw (c.in-Remove.is, c.difference.ensures, c.single-in-Remove.ensures)
