-- `search_paths::current::next_layer` meets its contract. The invariant: the first i nodes are gathered.
use Prim.Native.Nat.{◌+◌, ◌≤◌}
use Rattle.search_paths.proofs.Gathering.{Gathered}
use Rattle.search_paths.proofs.current.next_layer.Given as goal

abbrev pub invariant-loop-i : goal.invariant-loop-i
invariant-loop-i l = (l.i ≤ l.n) × Gathered l.initial.words l.words l.w (l.k + 1) l.i
