-- `read_declarations::variables::variables` meets its contract. The invariant: so many variables are read and stored, and the loop goes on from here. The measure is the room that is left.
use Prim.Native.Nat.{◌-◌}
use Rattle.read_declarations.proofs.Declarations.{VariablesSoFar}
use Rattle.read_declarations.proofs.variables.variables.Given as goal

abbrev pub invariant-loop-behind : goal.invariant-loop-behind
invariant-loop-behind l = VariablesSoFar l.model l.start l.kinds l.words l.at l.n

abbrev pub decreases-loop-behind : goal.decreases-loop-behind
decreases-loop-behind l = 16 - l.n
