-- `steps::conditions::conditions_hold` meets its contract. The invariant: the conditions passed hold.
use Prim.Native.Nat.{◌-◌}
use lib.ListN.{length}
use Rattle.steps.proofs.Holding.{Trying}
use Rattle.steps.proofs.conditions.conditions_hold.Given as goal

abbrev pub invariant-loop-holds : goal.invariant-loop-holds
invariant-loop-holds l = Trying l.model l.state l.at l.next

abbrev pub decreases-loop-holds : goal.decreases-loop-holds
decreases-loop-holds l = length l.model - l.next
