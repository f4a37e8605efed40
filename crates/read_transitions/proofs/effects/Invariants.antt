-- `read_transitions::effects` meets its contract. The invariant: so many effects are read, their targets are the marked variables, and the loop goes on from here.
use Prim.Native.Nat.{◌-◌}
use Rattle.read_forms.specs.Parts.{variables_in, tables_in}
use Rattle.read_transitions.proofs.Reading.{EffectsSoFar}
use Rattle.read_transitions.proofs.effects.Given as goal

abbrev pub invariant-loop-marks : goal.invariant-loop-marks
invariant-loop-marks l = EffectsSoFar (variables_in l.names) (tables_in l.names) l.model l.start l.at l.n l.marks

abbrev pub decreases-loop-marks : goal.decreases-loop-marks
decreases-loop-marks l = 16 - l.n
