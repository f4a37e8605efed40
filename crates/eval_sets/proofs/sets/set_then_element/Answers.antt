-- `eval_sets::sets::set_then_element` meets its contract.
use native.Mathlib.Omega.{arith}
use Rattle.eval_sets.specs.Runs.{set_then_element}
use Rattle.eval_sets.proofs.Within.{element_used, set_past}
use Rattle.eval_sets.proofs.Slices.{behind}
use Rattle.eval_sets.proofs.sets.set_then_element.Goals as goal

pub overflow_add-at : goal.overflow_add-at
overflow_add-at c =
    let a = c.args in
    omega (
      arith,
      set_past a.depth a.state.now a.outline.now a.at a.e.now c.set_from-x.result c.set_from-x.ensures,
      c.well_formed.0.1,
    )

pub overflow_add-result : goal.overflow_add-result
overflow_add-result c =
    let a = c.args in
    omega (
      arith,
      set_past a.depth a.state.now a.outline.now a.at a.e.now c.set_from-x.result c.set_from-x.ensures,
      rw (← c.element-y.ensures.run) at (element_used a.state.now c.after.result.now),
      c.well_formed.0.1,
    )

pub returns : goal.returns
unfolding set_then_element
returns c =
    let a = c.args in rw (c.element-y.ensures.run, c.after.ensures, behind a.at c.set_from-x.result.used a.e.now, c.set_from-x.ensures)
