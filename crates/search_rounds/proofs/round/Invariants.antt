-- `search_rounds::round` meets its contract. The invariant: what is left of the round is what was left in its first layer.
use Prim.Native.Nat.{◌-◌}
use Rattle.search_rounds.proofs.Rounding.{Going}
use Rattle.search_rounds.proofs.round.Given as goal

abbrev pub invariant-loop-nodes : goal.invariant-loop-nodes
invariant-loop-nodes l = Going l.model l.outline l.initial.words l.initial.plan l.words l.plan l.limits.width l.limits.budget l.limits.length l.k l.n l.initial.now l.now

abbrev pub decreases-loop-nodes : goal.decreases-loop-nodes
decreases-loop-nodes l = l.limits.length - l.k
