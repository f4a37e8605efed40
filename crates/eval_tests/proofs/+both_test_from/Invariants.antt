-- The cycle of the tests: the depth falls, and a conjunction comes before its parts.
use Rattle.std.proofs.Common.{◌+◌, ◌*◌}
use Rattle.eval_tests.proofs.+both_test_from.Given as goal

abbrev pub decreases-both : goal.decreases-both
decreases-both l = 2 * l.depth + 1

abbrev pub decreases-test_from : goal.decreases-test_from
decreases-test_from l = 2 * l.depth
