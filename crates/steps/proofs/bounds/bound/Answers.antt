-- `steps::bounds::bound` meets its contract. The invariant: h is the greatest of 0 and the bounds passed, and their sums are remembered.
use Prim.Native.Nat.{◌<◌}
use native.Mathlib.Omega.{arith}
use lib.ListN.{length}
use Rattle.std.proofs.lemmas.Result.{err_from_is_err_and}
use Rattle.words.proofs.Integers.{back}
use Rattle.outline.specs.Outline.{model_of}
use Rattle.steps.proofs.Signs.{range_fits}
use Rattle.steps.proofs.Trials.{raising_first, raising_more, raising_troubles, raising_last, value_within}
use Rattle.steps.proofs.bounds.bound.Goals as goal

pub loop-k-init : goal.loop-k-init
loop-k-init c =
    (raising_first _ _, c.requires.1)

pub loop-k-preserved : goal.loop-k-preserved
loop-k-preserved c =
    let more : c.loop-k.k < length (model_of c.args.model.now).bounds = omega (arith, c.loop-k-test.true, c.word_at-count.ensures, c.requires.0.outlines.bound_count) in
    let says = c.bound_number.ensures in
    rw (c.raise-h.ensures, back (range_fits (value_within _ c.in_ok-z.was says.0.within).0))
    (raising_more _ _ _ _ c.loop-k.invariant.0 c.requires.0 (more) _ says.0 c.in_ok-z.was, says.1)

pub returns-in_err-z : goal.returns-in_err-z
returns-in_err-z c =
    let more : c.loop-k.k < length (model_of c.args.model.now).bounds = omega (arith, c.loop-k-test.true, c.word_at-count.ensures, c.requires.0.outlines.bound_count) in
    let says = c.bound_number.ensures in
    let p = err_from_is_err_and c.from_residual.result c.from_residual.ensures.1 in
    (rw (p.1, p.2) (raising_troubles _ _ _ _ c.loop-k.invariant.0 c.requires.0 (more) _ says.0 c.in_err-z.was), says.1)

pub returns : goal.returns
returns c =
    (raising_last _ _ c.loop-k.k _ c.loop-k.invariant.0 (omega (arith, c.loop-k-test.false, c.word_at-count.ensures, c.requires.0.outlines.bound_count)), c.loop-k.invariant.1)
