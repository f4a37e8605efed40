-- `effects` meets its contract, turn by turn.
use mathlib.Core.Path.{sym, ap, ◌∙◌}
use native.Mathlib.Omega.{arith}
use Rattle.read_declarations.specs.Positions.{position_of}
use Rattle.read_declarations.proofs.Positions.{passed_on}
use Rattle.read_transitions.proofs.Reading.{no_effects, effects_more, effects_refused, effects_end, effects_early}
use Rattle.read_transitions.proofs.effects.Goals as goal

pub loop-marks-init : goal.loop-marks-init
loop-marks-init c =
    no_effects

pub bounds-marks-change : goal.bounds-marks-change
bounds-marks-change c =
    let changed = c.in_ok-change.ensures c.loop-marks.invariant.items c.loop-marks.invariant.marked in
    omega (arith, changed.declared, c.loop-marks.invariant.marks_length)

pub loop-marks-smaller : goal.loop-marks-smaller
loop-marks-smaller c =
    let changed = c.in_ok-change.ensures c.loop-marks.invariant.items c.loop-marks.invariant.marked in
    omega (arith, changed.room)

pub loop-marks-preserved : goal.loop-marks-preserved
loop-marks-preserved c =
    effects_more c.loop-marks.invariant c.in_ok-change.ensures

pub returns-in_err-change : goal.returns-in_err-change
returns-in_err-change c =
    passed_on c.from_residual.result c.from_residual.ensures.1 ∙ effects_refused c.loop-marks.invariant c.in_err-change.ensures

pub returns-then-at-model : goal.returns-then-at-model
returns-then-at-model c =
    sym (ap position_of (effects_end c.loop-marks.invariant c.if-at-model.true (λ q. c.loop-marks-test.false (c.byte_at.ensures ∙ q))))

pub returns-else-at-model : goal.returns-else-at-model
returns-else-at-model c =
    sym (ap position_of (effects_early c.loop-marks.invariant c.if-at-model.false))
