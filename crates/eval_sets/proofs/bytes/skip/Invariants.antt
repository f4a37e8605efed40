-- `eval_sets::bytes::skip` meets its contract.
use Prim.Native.Nat.{◌+◌, ◌-◌, ◌*◌, ◌≤◌}
use lib.ListN.{length}
use Rattle.eval_sets.proofs.Passing.{Passed}
use Rattle.eval_sets.proofs.bytes.skip.Given as goal

abbrev pub invariant-loop-at : goal.invariant-loop-at
invariant-loop-at l = (l.due ≤ 1 + 2 * l.at) × (l.at ≤ length l.e + 9) × Passed l.e l.at l.due

abbrev pub decreases-loop-at : goal.decreases-loop-at
decreases-loop-at l = length l.e + 9 - l.at
