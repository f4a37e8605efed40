-- `steps::conditions::constraints_hold` meets its contract. The invariant: the conjuncts passed hold.
use Rattle.steps.proofs.Trials.{Meeting}
use Rattle.steps.proofs.conditions.constraints_hold.Given as goal

abbrev pub invariant-loop-k : goal.invariant-loop-k
invariant-loop-k l = Meeting l.model l.outline l.state l.k
