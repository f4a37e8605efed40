-- The cycle of the evaluators of numbers and conditions: the depth falls, and each function comes before those that it calls at the same depth.
use Rattle.std.proofs.Common.{◌+◌, ◌*◌}
use Rattle.eval_numbers.proofs.+choice_condition_behind_condition_from_connective_number_before_number_behind_number_beyond_number_from_pair.Given as goal

abbrev pub decreases-choice : goal.decreases-choice
decreases-choice l = 4 * l.depth + 2

abbrev pub decreases-condition_behind : goal.decreases-condition_behind
decreases-condition_behind l = 4 * l.depth + 3

abbrev pub decreases-condition_from : goal.decreases-condition_from
decreases-condition_from l = 4 * l.depth

abbrev pub decreases-connective : goal.decreases-connective
decreases-connective l = 4 * l.depth + 2

abbrev pub decreases-number_before : goal.decreases-number_before
decreases-number_before l = 4 * l.depth + 1

abbrev pub decreases-number_behind : goal.decreases-number_behind
decreases-number_behind l = 4 * l.depth + 3

abbrev pub decreases-number_beyond : goal.decreases-number_beyond
decreases-number_beyond l = 4 * l.depth + 1

abbrev pub decreases-number_from : goal.decreases-number_from
decreases-number_from l = 4 * l.depth

abbrev pub decreases-pair : goal.decreases-pair
decreases-pair l = 4 * l.depth + 1
