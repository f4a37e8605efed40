-- `prepare::places::places` meets its contract. The invariant: the places of the tables passed are put.
use Rattle.prepare.proofs.Loops.{PlacesTo}
use Rattle.prepare.proofs.places.places.Given as goal

abbrev pub invariant-loop-t : goal.invariant-loop-t
invariant-loop-t l = PlacesTo l.model l.initial.outline l.outline l.t
