-- `steps::hashes::hash` meets its contract. The invariant: mixing in the variables left comes to the same.
use Prim.Native.Nat.{◌-◌, ◌≤◌}
use mathlib.Core.Path.{◌≡◌}
use Rattle.steps.specs.Hashes.{mix_from}
use Rattle.steps.proofs.hashes.hash.Given as goal

abbrev pub invariant-loop-v : goal.invariant-loop-v
invariant-loop-v l = (l.v ≤ l.count) × (mix_from l.outline l.state (l.count - l.v) l.v l.m ≡ mix_from l.outline l.state l.count 0 1)
