-- `steps::check::follow_steps` meets its contract. The invariant: the steps passed lead to the state at the cost, and the rest of the plan is left.
use Rattle.steps.proofs.Following.{Followed}
use Rattle.steps.specs.InBytes.{state_in}
use Rattle.steps.proofs.check.follow_steps.Given as goal

abbrev pub invariant-loop-t : goal.invariant-loop-t
invariant-loop-t l = Followed l.model l.plan (state_in l.model l.from) l.state l.g l.t-index
