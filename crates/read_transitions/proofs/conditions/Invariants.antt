-- `read_transitions::conditions` meets its contract. The invariant: so many conditions are read, and the loop goes on from here. The measure is the room that is left.
use Prim.Native.Nat.{◌-◌}
use Rattle.model.specs.Expressions.{condition}
use Rattle.model.specs.Numbers.{most_nesting}
use Rattle.read_forms.specs.Parts.{variables_in, tables_in}
use Rattle.read_declarations.proofs.Items.{ItemsSoFar}
use Rattle.read_transitions.proofs.conditions.Given as goal

abbrev pub invariant-loop-start : goal.invariant-loop-start
invariant-loop-start l = ItemsSoFar 8 (condition (variables_in l.names) (tables_in l.names) most_nesting) l.model 16 l.start l.at l.n

abbrev pub decreases-loop-start : goal.decreases-loop-start
decreases-loop-start l = 16 - l.n
