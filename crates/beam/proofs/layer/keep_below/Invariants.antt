-- `beam::layer::keep_below` meets its contract. The invariant: from place i on no f is below the best.
use Prim.Native.Nat.{ℕ, ◌+◌, ◌*◌, ◌≤◌, ◌<◌}
use mathlib.Core.Path.{◌≡◌}
use mathlib.Core.Bool.{true}
use lib.ListN.{get_or, drop}
use Rattle.model.specs.Costs.{at_most}
use Rattle.beam_order.specs.Slots.{slot_words, order_at, f_of}
use Rattle.beam.proofs.layer.keep_below.Given as goal

abbrev pub invariant-loop-i : goal.invariant-loop-i
invariant-loop-i l = (l.i ≤ l.n) × ((i : ℕ) → l.i ≤ i → i < l.n → at_most l.best (f_of (drop (get_or l.layer (order_at * l.width + i) 0 * slot_words) l.layer)) ≡ true)
