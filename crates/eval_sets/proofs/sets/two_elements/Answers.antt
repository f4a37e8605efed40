-- `eval_sets::sets::two_elements` meets its contract.
use native.Mathlib.Omega.{arith}
use Rattle.eval_sets.specs.Runs.{two_elements}
use Rattle.eval_sets.proofs.Within.{element_used}
use Rattle.eval_sets.proofs.sets.two_elements.Goals as goal

pub overflow_add-result : goal.overflow_add-result
overflow_add-result c =
    omega (
      arith,
      rw (← c.element-x.ensures.run) at (element_used c.args.state.now c.args.e.now),
      rw (← c.element-y.ensures.run) at (element_used c.args.state.now c.after.result.now),
    )

pub returns : goal.returns
unfolding two_elements
returns c =
    rw (c.element-y.ensures.run, c.after.ensures, c.element-x.ensures.run)
