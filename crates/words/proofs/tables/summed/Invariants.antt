-- `words::tables::summed` meets its contract. The invariant: the sum so far and the sum over the members left make the whole, whose integers
-- are there.
use Prim.Native.Nat.{◌+◌, ◌*◌, ◌≤◌}
use lib.ListN.{length}
use Rattle.laws.specs.Lists.{All}
use Rattle.model.specs.Sets.{members}
use Rattle.words.specs.Tables.{integer_at}
use Rattle.words.proofs.Sums.{Sofar}
use Rattle.words.proofs.tables.summed.Given as goal

abbrev pub invariant-loop-i : goal.invariant-loop-i
invariant-loop-i l =
    Sofar 32 (λ i. integer_at l.model (l.first + l.stride * i)) l.s (members l.i-iterator.left) l.sum
    × All (λ i. l.first + l.stride * i + 4 ≤ length l.model) (members l.i-iterator.left)
