-- `beam_order::remove_at` meets its contract. The invariant: what is left to shift comes to the same.
use Prim.Native.Nat.{◌-◌, ◌≤◌, ◌<◌}
use mathlib.Core.Path.{◌≡◌}
use lib.ListN.{length}
use Rattle.beam_order.specs.Order.{removed}
use Rattle.beam_order.proofs.Shifts.{removing}
use Rattle.beam_order.proofs.remove_at.Given as goal

abbrev pub invariant-loop-j : goal.invariant-loop-j
invariant-loop-j l = (0 < l.j) × ((l.j ≤ l.n) × ((length l.order ≡ length l.initial.order) × (removing l.order l.n l.j l.x ≡ removed l.initial.order l.n l.p)))

abbrev pub decreases-loop-j : goal.decreases-loop-j
decreases-loop-j l = l.n - l.j
