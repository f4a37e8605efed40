-- `profile::transitions::removed` meets its contract. The invariant: what the effects before the place remove.
use Prim.Native.Nat.{◌-◌}
use lib.ListN.{length}
use Rattle.profile.proofs.Removing.{Removing}
use Rattle.profile.proofs.transitions.removed.Given as goal

abbrev pub invariant-loop-e : goal.invariant-loop-e
invariant-loop-e l = Removing l.model l.at l.seen l.object l.next

abbrev pub decreases-loop-e : goal.decreases-loop-e
decreases-loop-e l = length l.model - l.next
