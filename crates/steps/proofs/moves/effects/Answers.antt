-- `steps::moves::effects` meets its contract. The invariant: the child has the effects passed, each by its value in the old state, and the sums are remembered.
use Prim.Native.Nat.{◌+◌, ◌≤◌, ◌<◌}
use mathlib.Core.Path.{◌≡◌, sym, ◌∙◌}
use native.Mathlib.Omega.{arith}
use lib.ListN.{length, get_or}
use Rattle.std.proofs.lemmas.Result.{err_from_is_err_and}
use Rattle.steps.proofs.Writing.{writing_first, next_inside, writing_more, writing_troubles, writing_last}
use Rattle.steps.proofs.moves.effects.Goals as goal

pub loop-v-init : goal.loop-v-init
loop-v-init c =
    (writing_first _ _ _ _, c.requires.3)

pub word_for-requires : goal.word_for-requires
word_for-requires c =
    let here : get_or c.args.model.now c.loop-v.next 0 ≡ 10 = sym c.byte_at.ensures ∙ c.loop-v-test.true in
    let named : (let bytes = c.args.model.now in let next = c.loop-v.next in (next + 2 ≤ length bytes) × (get_or bytes (next + 1) 0 < 16)) = next_inside _ _ _ _ _ _ c.loop-v.invariant.0 _ c.requires.0 (here) c.requires.1 in
    (c.requires.0, (named).0, omega (arith, (named).1, c.byte_at-v.ensures), c.loop-v.invariant.1)

pub bounds-child-v : goal.bounds-child-v
bounds-child-v c =
    let here : get_or c.args.model.now c.loop-v.next 0 ≡ 10 = sym c.byte_at.ensures ∙ c.loop-v-test.true in
    let named : (let bytes = c.args.model.now in let next = c.loop-v.next in (next + 2 ≤ length bytes) × (get_or bytes (next + 1) 0 < 16)) = next_inside _ _ _ _ _ _ c.loop-v.invariant.0 _ c.requires.0 (here) c.requires.1 in
    omega (arith, (named).1, c.byte_at-v.ensures)

pub loop-v-preserved : goal.loop-v-preserved
loop-v-preserved c =
    let here : get_or c.args.model.now c.loop-v.next 0 ≡ 10 = sym c.byte_at.ensures ∙ c.loop-v-test.true in
    let named : (let bytes = c.args.model.now in let next = c.loop-v.next in (next + 2 ≤ length bytes) × (get_or bytes (next + 1) 0 < 16)) = next_inside _ _ _ _ _ _ c.loop-v.invariant.0 _ c.requires.0 (here) c.requires.1 in
    let writable : c.byte_at-v.result < length c.loop-v.child = omega (arith, (named).1, c.byte_at-v.ensures, c.loop-v.invariant.0.long, c.requires.2) in
    let more = writing_more _ _ _ _ _ _ c.loop-v.invariant.0 _ c.requires.0 (here) _ c.byte_at-v.ensures _ c.word_for.ensures.0 (writable) c.in_ok-word.was in
    (more, c.word_for.ensures.2)

pub returns-in_err-word : goal.returns-in_err-word
returns-in_err-word c =
    let here : get_or c.args.model.now c.loop-v.next 0 ≡ 10 = sym c.byte_at.ensures ∙ c.loop-v-test.true in
    let stops = writing_troubles _ _ _ _ _ _ c.loop-v.invariant.0 _ c.requires.0 (here) _ c.byte_at-v.ensures _ c.word_for.ensures.0 c.in_err-word.was in
    let p = err_from_is_err_and c.from_residual.result c.from_residual.ensures.1 in
    rw (p.1, p.2) (stops, c.word_for.ensures.2)

pub returns : goal.returns
returns c =
    (writing_last _ _ _ _ _ _ c.loop-v.invariant.0 (λ e. c.loop-v-test.false (c.byte_at.ensures ∙ e)), c.loop-v.invariant.1)
