-- `steps::moves::allowed` meets its contract. The invariant: the mask is that of the transitions from t on.
use Prim.Native.Nat.{◌-◌, ◌≤◌}
use mathlib.Core.Path.{◌≡◌}
use Rattle.steps.specs.Allowed.{allowed_from}
use Rattle.steps.proofs.moves.allowed.Given as goal

abbrev pub invariant-loop-t : goal.invariant-loop-t
invariant-loop-t l = (l.mask ≡ allowed_from l.outline l.state (l.end - l.t) l.t) × (l.first ≤ l.t) × (l.t ≤ l.end)
