-- `prepare::conjuncts::conjuncts` meets its contract. The invariant: the constraints passed are taken apart.
use Rattle.prepare.specs.Promised.{PartedMore}
use Rattle.prepare.proofs.conjuncts.conjuncts.Given as goal

abbrev pub invariant-loop-k : goal.invariant-loop-k
invariant-loop-k l = PartedMore l.model l.initial.outline l.outline l.k l.n
