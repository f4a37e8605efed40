-- `search_visits::layers::layer` meets its contract. The invariant: what the definition makes of all the nodes is what it makes of those from `i` on.
use Rattle.search_visits.proofs.Layering.{Halfway}
use Rattle.search_visits.proofs.layers.layer.Given as goal

abbrev pub invariant-loop-i : goal.invariant-loop-i
invariant-loop-i l = Halfway l.model l.outline l.initial.words l.initial.plan l.words l.plan l.limits.width l.limits.budget l.limits.length l.k l.n l.i l.initial.now l.now
