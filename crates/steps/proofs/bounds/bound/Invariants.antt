-- `steps::bounds::bound` meets its contract. The invariant: h is the greatest of 0 and the bounds passed, and their sums are remembered.
use Rattle.quick.specs.Sums.{Remembers}
use Rattle.steps.proofs.Trials.{Raising}
use Rattle.steps.proofs.bounds.bound.Given as goal

abbrev pub invariant-loop-k : goal.invariant-loop-k
invariant-loop-k l = Raising l.model l.state l.k l.h × Remembers l.model l.outline l.sums
