-- `eval_sets::sets::combined` meets its contract.
use Rattle.eval_sets.specs.Runs.{combined}
use Rattle.eval_sets.proofs.sets.combined.Goals as goal

pub returns-in-Union : goal.returns-in-Union
unfolding combined
returns-in-Union c =
    rw (c.in-Union.is, c.union.ensures)

pub returns-in-Intersection : goal.returns-in-Intersection
unfolding combined
returns-in-Intersection c =
    rw (c.in-Intersection.is, c.intersection.ensures)

pub returns-in-Difference : goal.returns-in-Difference
unfolding combined
returns-in-Difference c =
    rw (c.in-Difference.is, c.difference.ensures)
