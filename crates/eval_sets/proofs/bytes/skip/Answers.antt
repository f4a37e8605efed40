-- `eval_sets::bytes::skip` meets its contract.
use Prim.Native.Nat.{◌≤◌}
use native.Mathlib.Omega.{arith}
use lib.ListN.{get_or}
use Rattle.eval_sets.proofs.Passing.{shape_small, passed_step, passed_end, passed_all}
use Rattle.eval_sets.proofs.bytes.skip.Goals as goal

pub returns-then-due-eq0 : goal.returns-then-due-eq0
returns-then-due-eq0 c =
    passed_end c.args.e.now c.loop-at.at c.loop-at.due c.loop-at.invariant.2 (omega arith) (omega arith)

pub overflow_add-at-in-loop-at : goal.overflow_add-at-in-loop-at
overflow_add-at-in-loop-at c =
    let small : (c.shape_of-s.result.operands ≤ 9) × (c.shape_of-s.result.parts ≤ 3) = let at = c.loop-at.at in
    let e = c.args.e.now in
    rw c.shape_of-s.ensures (shape_small (get_or e at 0) (omega (arith, c.shared_slice_known-in-loop-at-1.given at))) in
    omega (arith, small)

pub overflow_add-due : goal.overflow_add-due
overflow_add-due c =
    let small : (c.shape_of-s.result.operands ≤ 9) × (c.shape_of-s.result.parts ≤ 3) = let at = c.loop-at.at in
    let e = c.args.e.now in
    rw c.shape_of-s.ensures (shape_small (get_or e at 0) (omega (arith, c.shared_slice_known-in-loop-at-1.given at))) in
    omega (arith, c.loop-at.invariant.0, small)

pub loop-at-preserved : goal.loop-at-preserved
loop-at-preserved c =
    let small : (c.shape_of-s.result.operands ≤ 9) × (c.shape_of-s.result.parts ≤ 3) = let at = c.loop-at.at in
    let e = c.args.e.now in
    rw c.shape_of-s.ensures (shape_small (get_or e at 0) (omega (arith, c.shared_slice_known-in-loop-at-1.given at))) in
    let e = c.args.e.now in
    (omega (arith, c.loop-at.invariant.0, small), omega (arith, small), passed_step e c.loop-at.at c.loop-at.due c.shape_of-s.result c.loop-at.invariant.2 (omega arith) (omega arith) c.shape_of-s.ensures)

pub returns : goal.returns
returns c =
    passed_all c.args.e.now c.loop-at.at c.loop-at.due c.loop-at.invariant.2 (omega arith)
