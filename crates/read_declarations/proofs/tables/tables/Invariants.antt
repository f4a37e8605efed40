-- `read_declarations::tables::tables` meets its contract. The invariant: so many tables are read and stored, and the loop goes on from here. The measure is the room that is left.
use Prim.Native.Nat.{◌-◌}
use Rattle.read_declarations.proofs.Declarations.{TablesSoFar}
use Rattle.read_declarations.proofs.tables.tables.Given as goal

abbrev pub invariant-loop-start : goal.invariant-loop-start
invariant-loop-start l = TablesSoFar l.model l.start l.rows l.columns l.words l.at l.n

abbrev pub decreases-loop-start : goal.decreases-loop-start
decreases-loop-start l = 32 - l.n
