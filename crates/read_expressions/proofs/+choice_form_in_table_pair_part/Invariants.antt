-- The cycle of the readers: the depth falls, and each function comes before those that it calls at the same depth.
use Rattle.std.proofs.Common.{◌+◌, ◌*◌}
use Rattle.read_expressions.proofs.+choice_form_in_table_pair_part.Given as goal

abbrev pub decreases-choice : goal.decreases-choice
decreases-choice l = 4 * l.depth + 2

abbrev pub decreases-form : goal.decreases-form
decreases-form l = 4 * l.depth + 3

abbrev pub decreases-in_table : goal.decreases-in_table
decreases-in_table l = 4 * l.depth + 2

abbrev pub decreases-pair : goal.decreases-pair
decreases-pair l = 4 * l.depth + 1

abbrev pub decreases-part : goal.decreases-part
decreases-part l = 4 * l.depth
