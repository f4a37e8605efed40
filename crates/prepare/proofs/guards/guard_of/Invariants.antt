-- `prepare::guards::guard_of` meets its contract. The invariant: what was joined so far is a guard of the transition.
use Prim.Native.Nat.{◌-◌}
use lib.ListN.{length}
use Rattle.prepare.proofs.Guarding.{Guarding}
use Rattle.prepare.proofs.guards.guard_of.Given as goal

abbrev pub invariant-loop-t : goal.invariant-loop-t
invariant-loop-t l = Guarding l.model l.at l.variable l.mask l.need l.behind

abbrev pub decreases-loop-t : goal.decreases-loop-t
decreases-loop-t l = length l.model - l.behind
