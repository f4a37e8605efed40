-- `search_paths::trace::trace` meets its contract. The invariant: the steps left to follow, and those written, are the path.
use Prim.Native.Nat.{◌≤◌}
use mathlib.Core.Path.{◌≡◌}
use mathlib.Core.List.{◌++◌, reverse}
use lib.ListN.{length, drop}
use Rattle.search_paths.specs.Routes.{path_by}
use Rattle.search_paths.proofs.trace.trace.Given as goal

abbrev pub invariant-loop-left : goal.invariant-loop-left
invariant-loop-left l = (l.left ≤ l.k) × ((length l.plan ≡ length l.initial.plan) × (reverse (path_by l.words l.w l.k l.i) ++ drop l.k l.initial.plan ≡ reverse (path_by l.words l.w l.left l.slot) ++ drop l.left l.plan))
