-- `steps::moves::step` meets its contract.
use Prim.Native.Nat.{◌≤◌, ◌<◌}
use mathlib.Core.Path.{sym, ◌∙◌}
use native.Mathlib.Omega.{arith}
use lib.ListN.{length}
use Rattle.model.specs.Numbers.{most_transitions}
use Rattle.model.specs.Steps.{system_of}
use Rattle.outline.specs.Outline.{model_of}
use Rattle.steps.proofs.Moving.{guard_within, move_guarded, move_undeclared}
use Rattle.steps.proofs.moves.step.Goals as goal

pub returns-then-transitions-t : goal.returns-then-transitions-t
unfolding system_of
returns-then-transitions-t c =
    let undeclared : (let a = c.args in length (model_of a.model.now).transitions ≤ a.t) = omega (arith, c.if-transitions-t.true, c.transitions.ensures) in
    (move_undeclared _ _ _ _ (undeclared), c.requires.1)

pub overflow_mul-t : goal.overflow_mul-t
unfolding system_of
overflow_mul-t c =
    let declared : (let a = c.args in a.t < length (model_of a.model.now).transitions) = omega (arith, c.if-transitions-t.false, c.transitions.ensures) in
    let few : c.args.t < most_transitions = omega (arith, declared, c.requires.0.outlines.few_transitions) in
    record { fits = omega (arith, few) }

pub overflow_add-t : goal.overflow_add-t
unfolding system_of
overflow_add-t c =
    let declared : (let a = c.args in a.t < length (model_of a.model.now).transitions) = omega (arith, c.if-transitions-t.false, c.transitions.ensures) in
    let few : c.args.t < most_transitions = omega (arith, declared, c.requires.0.outlines.few_transitions) in
    record { fits = omega (arith, few) }

pub passes-requires : goal.passes-requires
unfolding system_of
passes-requires c =
    let declared : (let a = c.args in a.t < length (model_of a.model.now).transitions) = omega (arith, c.if-transitions-t.false, c.transitions.ensures) in
    guard_within _ _ c.requires.0 c.args.state.now _ (declared)

pub returns : goal.returns
unfolding system_of
returns c =
    let declared : (let a = c.args in a.t < length (model_of a.model.now).transitions) = omega (arith, c.if-transitions-t.false, c.transitions.ensures) in
    (move_guarded _ _ c.requires.0 _ _ (declared) _ (sym c.if-passes.false ∙ c.passes.ensures), c.requires.1)
