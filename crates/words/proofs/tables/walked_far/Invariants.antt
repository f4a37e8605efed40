-- `words::tables::walked_far` meets its contract. The invariant: the sum so far and the sum over the members left make the whole.
-- The measure is the set that is left.
use Prim.Native.Nat.{ℕ, ◌+◌, ◌<◌}
use mathlib.Core.List.{List}
use lib.IntN.{ℤ}
use Rattle.laws.specs.Lists.{All}
use Rattle.model.specs.Sets.{members}
use Rattle.words.specs.Tables.{entry_in, columns_of, cells_of, at_of}
use Rattle.words.proofs.Sums.{Sofar}
use Rattle.words.proofs.tables.walked_far.Given as goal

-- the entries of column j, by their row less `from`
abbrev pub column : List ℕ → ℕ → ℕ → ℕ → ℕ → ℤ
column model table from j i = entry_in model (at_of table) (columns_of table) (cells_of table) (from + i) j

abbrev pub invariant-loop-left : goal.invariant-loop-left
invariant-loop-left l =
    Sofar 32 (column l.model l.table l.from l.j) l.s (members l.left) l.sum
    × All (λ i. i < 32) (members l.left)

abbrev pub decreases-loop-left : goal.decreases-loop-left
decreases-loop-left l = l.left
