-- `beam_order::fill` meets its contract. The invariant: the first i places hold 0 to i - 1.
use Prim.Native.Nat.{◌≤◌}
use mathlib.Core.Path.{◌≡◌}
use lib.ListN.{length, take}
use Rattle.beam_order.specs.Order.{up_from}
use Rattle.beam_order.proofs.fill.Given as goal

abbrev pub invariant-loop-i : goal.invariant-loop-i
invariant-loop-i l = (l.i ≤ length l.order) × ((length l.order ≡ length l.initial.order) × (take l.i l.order ≡ up_from 0 l.i))
