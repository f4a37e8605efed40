-- `profile::transitions::requires_object` meets its contract. The invariant: the conditions before the place do not require the object.
use Prim.Native.Nat.{◌-◌}
use lib.ListN.{length}
use Rattle.profile.proofs.Walks.{Requiring}
use Rattle.profile.proofs.transitions.requires_object.Given as goal

abbrev pub invariant-loop-e : goal.invariant-loop-e
invariant-loop-e l = Requiring l.model l.object l.at l.next

abbrev pub decreases-loop-e : goal.decreases-loop-e
decreases-loop-e l = length l.model - l.next
