-- `nested::number` meets its contract.
use Prim.Native.Nat.{◌+◌, ◌-◌, ◌*◌}
use mathlib.Core.Bool.{cond}
use lib.ListN.{length}
use Rattle.quick.specs.Sums.{Remembers}
use Rattle.nested.specs.Waiting.{Reads}
use Rattle.nested.proofs.number.Given as goal

-- what waits, and the part that comes next or was read; the sums are remembered
abbrev pub invariant-loop-told : goal.invariant-loop-told
invariant-loop-told l = Reads l.m.now l.outline l.state l.initial.at l.waiting l.firsts l.n l.q l.z l.told × Remembers l.m.now l.outline l.sums

abbrev pub decreases-loop-told : goal.decreases-loop-told
decreases-loop-told l = 3 * (length l.m.now - l.q) + l.n + cond l.told 1 0
