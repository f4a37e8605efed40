-- `steps::moves::effects` meets its contract. The invariant: the child has the effects passed, each by its value in the old state, and the sums are remembered.
use Prim.Native.Nat.{◌-◌}
use lib.ListN.{length}
use Rattle.quick.specs.Sums.{Remembers}
use Rattle.steps.proofs.Writing.{Writing}
use Rattle.steps.proofs.moves.effects.Given as goal

abbrev pub invariant-loop-v : goal.invariant-loop-v
invariant-loop-v l = Writing l.model l.state l.at l.initial.child l.next l.child × Remembers l.model l.outline l.sums

abbrev pub decreases-loop-v : goal.decreases-loop-v
decreases-loop-v l = length l.model - l.next
