-- `steps::conditions::status` meets its contract. The invariant: the base cases passed do not hold.
use Rattle.steps.proofs.Trials.{Seeking}
use Rattle.steps.proofs.conditions.status.Given as goal

abbrev pub invariant-loop-k : goal.invariant-loop-k
invariant-loop-k l = Seeking l.model l.state l.k
