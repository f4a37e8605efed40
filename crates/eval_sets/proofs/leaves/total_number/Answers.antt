-- `eval_sets::leaves::total_number` meets its contract.
use Prim.Native.Nat.{◌+◌}
use mathlib.Core.Path.{sym}
use native.Mathlib.Omega.{arith}
use lib.ListN.{drop, length-drop}
use mir.Val.{SFits}
use mir.Syntax.{w64}
use borrow.Author.Rules.{rules}
use Rattle.eval_sets.specs.Runs.{entry_of, run_set}
use Rattle.eval_sets.proofs.Within.{set_element_small, set_element_within, set_within}
use Rattle.eval_sets.proofs.Opening.{total_none, total_some}
use Rattle.eval_sets.proofs.Slices.{behind, none_behind, some_behind}
use Rattle.words.proofs.Integers.{back}
use Rattle.eval_sets.proofs.leaves.total_number.Goals as goal

pub returns-then-e-at : goal.returns-then-e-at
returns-then-e-at c =
    let a = c.args in
    sym (total_none a.model.now a.state.now a.outline.now _ (drop a.at a.e.now) (none_behind a.at a.e.now c.if-e-at.true))

pub total-requires : goal.total-requires
total-requires c =
    let a = c.args in
    rw c.set_then_element-x.ensures (set_element_small a.state.now _ (drop (a.at + 1) a.e.now))

pub overflow_add-x : goal.overflow_add-x
overflow_add-x c =
    let a = c.args in
    let h = set_element_within a.state.now (λ f. run_set a.depth a.state.now a.outline.now f) (λ f. set_within a.depth a.state.now a.outline.now f) (drop (a.at + 1) a.e.now) in
    omega (
      arith,
      rw (← c.set_then_element-x.ensures) at h,
      length-drop (a.at + 1) a.e.now,
      c.well_formed.0.1,
    )

pub returns : goal.returns
unfolding entry_of
returns c =
    let a = c.args in
    let f : SFits w64 c.total.result = search rules in
    rw (rw (back f, c.total.ensures, c.set_then_element-x.ensures, behind a.at 1 a.e.now, c.table_in-table.ensures, c.name.ensures.0, c.after.ensures) at c.ranged.ensures)
    (
    sym (
    total_some a.model.now a.state.now a.outline.now _ (drop a.at a.e.now)
    (some_behind a.at a.e.now c.if-e-at.false)
    )
    )
