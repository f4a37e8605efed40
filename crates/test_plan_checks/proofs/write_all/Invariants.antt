-- `test_plan_checks::write_all` walks the cases: what is left falls.
use Rattle.std.proofs.Common.{length}
use Rattle.test_plan_checks.proofs.write_all.Given as goal

abbrev pub decreases-loop-case : goal.decreases-loop-case
decreases-loop-case g l = length l.left
