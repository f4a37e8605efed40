-- `beam_order::insert_at` meets its contract. The invariant: putting x in at p, with j for n, comes to the same.
use Prim.Native.Nat.{◌≤◌}
use mathlib.Core.Path.{◌≡◌}
use lib.ListN.{length}
use Rattle.beam_order.specs.Order.{inserted}
use Rattle.beam_order.proofs.insert_at.Given as goal

abbrev pub invariant-loop-j : goal.invariant-loop-j
invariant-loop-j l = (l.p ≤ l.j) × ((l.j ≤ l.n) × ((length l.order ≡ length l.initial.order) × (inserted l.order l.j l.p l.x ≡ inserted l.initial.order l.n l.p l.x)))

abbrev pub decreases-loop-j : goal.decreases-loop-j
decreases-loop-j l = l.j
