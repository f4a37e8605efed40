-- `prepare::guards::guards` meets its contract. The invariant: the guards of the transitions passed are put.
use Rattle.prepare.proofs.Loops.{GuardsTo}
use Rattle.prepare.proofs.guards.guards.Given as goal

abbrev pub invariant-loop-t : goal.invariant-loop-t
invariant-loop-t l = GuardsTo l.model l.initial.outline l.outline l.t
