-- `words::tables::few` meets its contract. The invariant: the sum so far and the sum over the members left make the whole.
use Rattle.model.specs.Sets.{members}
use Rattle.words.specs.Tables.{entry_in, columns_of, cells_of, at_of}
use Rattle.laws.specs.Lists.{All}
use Prim.Native.Nat.{◌<◌}
use Rattle.words.proofs.Sums.{Sofar}
use Rattle.words.proofs.tables.few.Given as goal

abbrev pub invariant-loop-i : goal.invariant-loop-i
invariant-loop-i l =
    Sofar 64 (λ i. entry_in l.model (at_of l.table) (columns_of l.table) (cells_of l.table) i l.j) l.s (members l.i-iterator.left) l.sum
    × All (λ i. i < 64) (members l.i-iterator.left)
