-- `nested::leading` meets its contract. The invariant: what waits, and the part that comes next.
use Prim.Native.Nat.{◌-◌}
use mathlib.Core.Bool.{false}
use lib.IntN.{pos}
use lib.ListN.{length}
use Rattle.nested.specs.Waiting.{Reads}
use Rattle.nested.proofs.leading.Given as goal

abbrev pub invariant-loop-n : goal.invariant-loop-n
invariant-loop-n l = Reads l.m.now l.outline l.state l.initial.at l.waiting l.firsts l.n l.at (pos 0) false

abbrev pub decreases-loop-n : goal.decreases-loop-n
decreases-loop-n l = length l.m.now - l.at
