-- `eval_sets::leaves::member_of` meets its contract.
use Prim.Native.Nat.{◌+◌}
use native.Mathlib.Omega.{arith}
use Rattle.eval_sets.specs.Runs.{member_of, element_then_set}
use Rattle.eval_sets.proofs.Within.{element_past, set_past}
use Rattle.eval_sets.proofs.Slices.{behind}
use Rattle.eval_sets.proofs.leaves.member_of.Goals as goal

pub overflow_add-at : goal.overflow_add-at
overflow_add-at c =
    let a = c.args in
    omega (
      arith,
      element_past a.state.now a.at a.e.now c.after.result.now c.element-x.result c.after.ensures
          c.element-x.ensures.run,
      c.well_formed.0.1,
    )

pub overflow_add-result : goal.overflow_add-result
overflow_add-result c =
    let a = c.args in
    omega (
      arith,
      element_past a.state.now a.at a.e.now c.after.result.now c.element-x.result c.after.ensures c.element-x.ensures.run,
      set_past a.depth a.state.now a.outline.now (a.at + c.element-x.result.used) a.e.now c.set_near-y.result c.set_near-y.ensures,
      c.well_formed.0.1,
    )

pub returns : goal.returns
unfolding member_of element_then_set
returns c =
    let a = c.args in rw (c.is_member.ensures, c.set_near-y.ensures, behind a.at c.element-x.result.used a.e.now, c.element-x.ensures.run, c.after.ensures)
