-- `cursor::places::behind` meets its contract.
use Prim.Native.Nat.{◌+◌, ◌≤◌}
use mathlib.Core.Path.{◌≡◌, sym, ap, ◌∙◌}
use native.Mathlib.Omega.{arith}
use lib.ListN.{length, drop, length-drop}
use lib.Seq.{drop-drop}
use Rattle.eval_sets.specs.Forms.{span}
use Rattle.eval_sets.proofs.Spans.{span_none, span_within}
use Rattle.cursor.proofs.NumberLaws.{span_parts}
use Rattle.cursor.proofs.places.behind.Goals as goal

pub loop-init : goal.loop-init
loop-init c = (omega (arith, c.requires.inside), omega (arith, span_none (drop c.args.at c.args.e.now)))

pub overflow_add-q : goal.overflow_add-q
overflow_add-q c =
    let e = c.args.e.now in
    let q = c.loop.q in
    let l : c.skip-q.result ≤ length (drop q e) = rw (c.skip-q.ensures, c.after.ensures) (span_within (drop q e) 0 1) in
    omega (arith, l, length-drop q e, c.loop.invariant.0, c.well_formed)

pub loop-preserved : goal.loop-preserved
loop-preserved c =
    let e = c.args.e.now in
    let at = c.args.at in
    let q = c.loop.q in
    let l : c.skip-q.result ≤ length (drop q e) = rw (c.skip-q.ensures, c.after.ensures) (span_within (drop q e) 0 1) in
    let so_far = span (drop at e) 0 c.loop.counter in
    let place : so_far + at ≡ q = omega (arith, c.loop.invariant.1) in
    let rest : drop so_far (drop at e) ≡ drop q e = drop-drop so_far at e ∙ ap (λ k. drop k e) (omega (arith, place)) in
    let used : c.skip-q.result ≡ span (drop so_far (drop at e)) 0 1 = c.skip-q.ensures ∙ ap (λ l. span l 0 1) (c.after.ensures ∙ sym rest) in
    (omega (arith, l, length-drop q e, c.loop.invariant.0), omega (arith, c.loop.invariant.1, span_parts (drop at e) 0 c.loop.counter 1, used))

pub returns : goal.returns
returns c =
    let all : c.loop.counter ≡ c.args.parts = omega (arith, c.loop-test.false, c.loop.auto.counter-end) in
    record { ends = rw all at c.loop.invariant.1; there = record { inside = omega (arith, c.loop.invariant.0); near = omega (arith, c.loop.invariant.0, c.well_formed) } }
