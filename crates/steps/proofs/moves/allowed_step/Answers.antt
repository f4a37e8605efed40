-- `steps::moves::allowed_step` meets its contract.
use Prim.Native.Nat.{◌<◌}
use mathlib.Core.Path.{sym}
use native.Mathlib.Omega.{arith}
use lib.ListN.{length}
use Rattle.model.specs.Numbers.{most_transitions}
use Rattle.model.specs.Steps.{system_of}
use Rattle.outline.specs.Outline.{model_of}
use Rattle.steps.proofs.Moving.{transition_read, tried}
use Rattle.steps.proofs.moves.allowed_step.Goals as goal

pub overflow_mul-t : goal.overflow_mul-t
unfolding system_of
overflow_mul-t c =
    let declared : c.args.t < length (model_of c.args.model.now).transitions = c.requires.1.declared in
    let few : c.args.t < most_transitions = omega (arith, declared, c.requires.0.outlines.few_transitions) in
    record { fits = omega (arith, few) }

pub overflow_add-t : goal.overflow_add-t
unfolding system_of
overflow_add-t c =
    let declared : c.args.t < length (model_of c.args.model.now).transitions = c.requires.1.declared in
    let few : c.args.t < most_transitions = omega (arith, declared, c.requires.0.outlines.few_transitions) in
    record { fits = omega (arith, few) }

pub overflow_add-t-2 : goal.overflow_add-t-2
unfolding system_of
overflow_add-t-2 c =
    let declared : c.args.t < length (model_of c.args.model.now).transitions = c.requires.1.declared in
    let few : c.args.t < most_transitions = omega (arith, declared, c.requires.0.outlines.few_transitions) in
    record { fits = omega (arith, few) }

pub attempt-tried-requires : goal.attempt-tried-requires
unfolding system_of
attempt-tried-requires c =
    let declared : c.args.t < length (model_of c.args.model.now).transitions = c.requires.1.declared in
    (c.requires.0, transition_read _ _ c.requires.0 c.args.state.now c.args.t (declared) c.word_at-at.ensures, c.requires.1.room, c.requires.2)

pub settle-requires : goal.settle-requires
unfolding system_of
settle-requires c =
    let declared : c.args.t < length (model_of c.args.model.now).transitions = c.requires.1.declared in
    (c.requires.0, tried _ _ c.requires.0 _ _ (declared) c.word_at-at.ensures _ _ (sym c.requires.1.passes_there) c.attempt-tried.ensures.0)
