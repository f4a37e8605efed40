-- `beam_order::position_for` meets its contract. The invariant, where the test rises: all before low fail it, all from high on pass.
use Prim.Native.Nat.{ℕ, ◌-◌, ◌≤◌, ◌<◌}
use mathlib.Core.Path.{◌≡◌}
use mathlib.Core.Bool.{true, false}
use Rattle.beam_order.specs.Order.{earlier_at, Rising}
use Rattle.beam_order.proofs.position_for.Given as goal

abbrev pub invariant-loop-low : goal.invariant-loop-low
invariant-loop-low l = (l.low ≤ l.high) × ((l.high ≤ l.n) × (Rising (earlier_at l.slots l.order l.header) l.n → (((i : ℕ) → i < l.low → earlier_at l.slots l.order l.header i ≡ false) × ((i : ℕ) → l.high ≤ i → i < l.n → earlier_at l.slots l.order l.header i ≡ true))))

abbrev pub decreases-loop-low : goal.decreases-loop-low
decreases-loop-low l = l.high - l.low
