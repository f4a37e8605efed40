-- `steps::states::dominates` meets its contract. The invariant: the variables passed are no worse.
use Rattle.steps.proofs.Dominance.{Comparing}
use Rattle.steps.proofs.states.dominates.Given as goal

abbrev pub invariant-loop-v : goal.invariant-loop-v
invariant-loop-v l = Comparing l.model l.t l.s l.v
