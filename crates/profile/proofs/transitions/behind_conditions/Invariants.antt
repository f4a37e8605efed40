-- `profile::transitions::behind_conditions` meets its contract. The invariant: the conditions before the place are passed.
use Prim.Native.Nat.{◌-◌}
use lib.ListN.{length}
use Rattle.profile.proofs.Walks.{Passing}
use Rattle.profile.proofs.transitions.behind_conditions.Given as goal

abbrev pub invariant-loop-behind : goal.invariant-loop-behind
invariant-loop-behind l = Passing l.model l.at l.behind

abbrev pub decreases-loop-behind : goal.decreases-loop-behind
decreases-loop-behind l = length l.model - l.behind
