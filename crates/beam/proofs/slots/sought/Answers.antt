-- `beam::slots::sought` meets its contract.
use Prim.Native.Nat.{◌+◌, ◌*◌, ◌-◌}
use mathlib.Core.Path.{◌≡◌, ◌∙◌}
use native.Mathlib.Omega.{arith}
use Rattle.model.specs.Numbers.{most_variables}
use Rattle.beam_order.specs.Slots.{slot_words, state_at}
use Rattle.beam.specs.Parts.{sought}
use Rattle.beam.proofs.Mapped.{child_beats, beats_child}
use Rattle.beam.proofs.slots.sought.Goals as goal

pub returns-then-beaten : goal.returns-then-beaten
unfolding sought
returns-then-beaten c =
    let e : c.args.s * slot_words + slot_words - (c.args.s * slot_words + state_at) ≡ most_variables = omega arith in
    rw c.if-beaten.true
    ((rw (e, c.g_in-g.ensures, c.g_in-other.ensures) at c.beats.ensures) ∙ child_beats c.args.model.now c.args.slots.now c.args.s c.args.header.now c.args.state.now c.requires.1.1)

pub returns : goal.returns
unfolding sought
returns c =
    let e : c.args.s * slot_words + slot_words - (c.args.s * slot_words + state_at) ≡ most_variables = omega arith in
    rw c.if-beaten.false
    ((rw (e, c.g_in-g.ensures, c.g_in-other.ensures) at c.beats-2.ensures) ∙ beats_child c.args.model.now c.args.slots.now c.args.s c.args.header.now c.args.state.now c.requires.1.1)
