-- `prepare::places::places` meets its contract. The invariant: the places of the tables passed are put.
use Rattle.prepare.proofs.Loops.{places_more}
use Rattle.prepare.proofs.places.places.Goals as goal

pub loop-t-preserved : goal.loop-t-preserved
loop-t-preserved c =
    places_more _ c.loop-t.invariant c.put_places.ensures
