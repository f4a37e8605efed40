-- `read_model::groups::items` meets its contract. The invariant: so many items are read, their offsets are stored, and the loop goes on from here. The measure is the room that is left.
use Prim.Native.Nat.{◌-◌}
use lib.ListN.{length}
use Rattle.read_forms.specs.Parts.{variables_in, tables_in}
use Rattle.read_model.specs.Groups.{code_of, item_of}
use Rattle.read_model.proofs.Offsets.{OffsetsSoFar}
use Rattle.read_model.proofs.groups.items.Given as goal

abbrev pub invariant-loop-group : goal.invariant-loop-group
invariant-loop-group l = OffsetsSoFar (code_of l.group) (item_of (variables_in l.names) (tables_in l.names) l.group) l.model (length l.initial.offsets) l.start l.at l.n l.offsets

abbrev pub decreases-loop-group : goal.decreases-loop-group
decreases-loop-group l = length l.initial.offsets - l.n
