-- `eval_sets::sets::complemented` meets its contract.
use Rattle.eval_sets.specs.Runs.{complemented}
use Rattle.eval_sets.proofs.sets.complemented.Goals as goal

pub returns : goal.returns
unfolding complemented
returns c =
    rw (c.difference.ensures, c.full.ensures)
