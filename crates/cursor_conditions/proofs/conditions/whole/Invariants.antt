-- `cursor_conditions::conditions::whole` meets its contract.
use Prim.Native.Nat.{◌-◌}
use lib.ListN.{length}
use Rattle.cursor_conditions.specs.Waiting.{Due}
use Rattle.cursor_conditions.proofs.conditions.whole.Given as goal

-- what waits, and the part that comes next
abbrev pub invariant-loop-waiting : goal.invariant-loop-waiting
invariant-loop-waiting l = Due l.m.now l.outline l.state l.initial.at l.waiting l.q

abbrev pub decreases-loop-waiting : goal.decreases-loop-waiting
decreases-loop-waiting l = length l.m.now - l.q
