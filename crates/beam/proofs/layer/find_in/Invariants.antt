-- `beam::layer::find_in` meets its contract. The invariant: the slots from the link on are not sought, and the link leads to a slot of the bucket.
use Prim.Native.Nat.{ℕ, ◌≤◌}
use mathlib.Core.Bool.{Bool}
use mathlib.Core.List.{◌++◌}
use Rattle.beam_index.specs.Links.{Index, Walked}
use Rattle.beam.specs.Parts.{sought}
use Rattle.beam.specs.Layers.{slots_of, links_of}
use Rattle.beam.proofs.layer.find_in.Given as goal

abbrev pub invariant-loop-next : goal.invariant-loop-next
invariant-loop-next l = (l.next ≤ l.w) × ((used : ℕ → Bool) (bucket : ℕ → ℕ) → Index l.w used bucket (links_of l.w l.layer) → Walked l.w l.k l.next used bucket (sought l.model (slots_of l.w l.layer) (l.header ++ l.state) l.beaten))

abbrev pub decreases-loop-next : goal.decreases-loop-next
decreases-loop-next l = l.next
