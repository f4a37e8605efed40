-- `prepare::masks::masks` meets its contract. The invariant: the masks of the variables passed are put.
use Rattle.prepare.proofs.Loops.{MasksTo}
use Rattle.prepare.proofs.masks.masks.Given as goal

abbrev pub invariant-loop-v : goal.invariant-loop-v
invariant-loop-v l = MasksTo l.initial.outline l.outline l.v
