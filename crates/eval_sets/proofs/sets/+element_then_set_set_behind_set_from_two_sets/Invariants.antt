-- The cycle of the evaluators of sets: the depth falls, and each function comes before those that it calls at the same depth.
use Rattle.std.proofs.Common.{◌+◌, ◌*◌}
use Rattle.eval_sets.proofs.sets.+element_then_set_set_behind_set_from_two_sets.Given as goal

abbrev pub decreases-element_then_set : goal.decreases-element_then_set
decreases-element_then_set l = 3 * l.depth + 1

abbrev pub decreases-set_behind : goal.decreases-set_behind
decreases-set_behind l = 3 * l.depth + 2

abbrev pub decreases-set_from : goal.decreases-set_from
decreases-set_from l = 3 * l.depth

abbrev pub decreases-two_sets : goal.decreases-two_sets
decreases-two_sets l = 3 * l.depth + 1
