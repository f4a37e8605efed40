-- `cursor_conditions::conditions::test` meets its contract.
use Prim.Native.Nat.{◌+◌, ◌-◌, ◌*◌}
use lib.ListN.{length}
use Rattle.cursor_conditions.proofs.ConditionLaws.{Tests}
use Rattle.cursor_conditions.proofs.conditions.test.Given as goal

-- the condition at the start, by those that are due
abbrev pub invariant-loop-due : goal.invariant-loop-due
invariant-loop-due l = Tests l.m.now l.outline l.state l.initial.at l.due l.at

abbrev pub decreases-loop-due : goal.decreases-loop-due
decreases-loop-due l = 2 * (length l.m.now - l.at) + l.due
