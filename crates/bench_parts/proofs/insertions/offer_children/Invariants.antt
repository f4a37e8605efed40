-- `bench_parts::insertions::offer_children` meets its contract, and no index or sum leaves its range.
use Prim.Native.Nat.{◌-◌}
use mathlib.Core.Path.{◌≡◌}
use lib.ListN.{length}
use Rattle.bench_parts.proofs.Offering.{Offering}
use Rattle.bench_parts.proofs.insertions.offer_children.Given as goal

abbrev pub invariant-loop-child : goal.invariant-loop-child
invariant-loop-child l = Offering l.model l.outline l.w l.children l.seed l.layer l.count l.x (l.children - l._child) × (length l.layer ≡ length l.initial.layer)
