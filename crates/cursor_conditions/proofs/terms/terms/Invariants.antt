-- `cursor_conditions::terms::terms` meets its contract.
use Prim.Native.Nat.{◌+◌, ◌-◌, ◌*◌}
use lib.ListN.{length}
use Rattle.cursor_conditions.proofs.SumLaws.{Sums}
use Rattle.cursor_conditions.proofs.terms.terms.Given as goal

abbrev pub invariant-loop-due : goal.invariant-loop-due
invariant-loop-due l = Sums l.m.now l.outline l.state l.initial.at l.due l.at l.z l.most

abbrev pub decreases-loop-due : goal.decreases-loop-due
decreases-loop-due l = 2 * (length l.m.now - l.at) + l.due
