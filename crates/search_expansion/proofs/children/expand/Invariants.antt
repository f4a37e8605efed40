-- `search_expansion::children::expand` meets its contract. The invariant: the transitions whose bits are left wait, those before them are tried or
-- blocked, the definition goes on behind the block's end, and the bounds' sums are remembered. The measure: what is left of the mask, and, before it, of the transitions.
use Prim.Native.Nat.{◌+◌, ◌-◌, ◌*◌, ◌^◌, ◌<◌}
use Rattle.quick.specs.Sums.{Remembers}
use Rattle.search_expansion.proofs.TrialLoop.{waiting, Expanding}
use Rattle.search_expansion.proofs.children.expand.Given as goal

abbrev pub invariant-loop-left : goal.invariant-loop-left
invariant-loop-left l = Expanding l.model l.outline l.n l.parent l.state l.initial.layer l.layer l.count l.cut (waiting l.model l.outline l.parent l.state l.first l.left) l.end × Remembers l.model l.outline l.sums × (l.left < 2 ^ 64)

abbrev pub decreases-loop-left : goal.decreases-loop-left
decreases-loop-left l = (l.all - l.end) * 2 ^ 64 + l.left
