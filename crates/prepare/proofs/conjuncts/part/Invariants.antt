-- `prepare::conjuncts::part` meets its contract. The invariant: what is put, what stands in a row and what is left decide as the constraints do.
use Prim.Native.Nat.{◌+◌, ◌*◌, ◌-◌}
use lib.ListN.{length, drop}
use Rattle.outline.specs.Outline.{model_of}
use Rattle.prepare.proofs.Dividing.{Dividing}
use Rattle.prepare.proofs.conjuncts.part.Given as goal

abbrev pub invariant-loop-due : goal.invariant-loop-due
invariant-loop-due l = Dividing l.model l.initial.outline l.outline (drop (l.k + 1) (model_of l.model).constraints) l.at l.due l.n

abbrev pub decreases-loop-due : goal.decreases-loop-due
decreases-loop-due l = 2 * (length l.model - l.at) + l.due
