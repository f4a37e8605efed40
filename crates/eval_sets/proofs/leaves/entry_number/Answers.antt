-- `eval_sets::leaves::entry_number` meets its contract.
use mathlib.Core.Path.{sym}
use native.Mathlib.Omega.{arith}
use mir.Val.{SFits}
use mir.Syntax.{w64}
use Rattle.eval_sets.specs.Runs.{entry_of}
use Rattle.eval_sets.proofs.Within.{elements_small, elements_used}
use Rattle.eval_sets.proofs.Opening.{entry_none, entry_some}
use Rattle.words.proofs.Integers.{back}
use Rattle.eval_sets.proofs.leaves.entry_number.Goals as goal

pub returns-then-e-eq0 : goal.returns-then-e-eq0
returns-then-e-eq0 c =
    sym (entry_none c.args.model.now c.args.state.now c.args.outline.now c.args.e.now c.if-e-eq0.true)

pub entry-requires : goal.entry-requires
entry-requires c =
    let h = rw (← c.two_elements-x.ensures) at (elements_small c.args.state.now c.after.result.now) in omega (arith, h.0, h.1)

pub overflow_add-x : goal.overflow_add-x
overflow_add-x c =
    omega (
      arith,
      rw (← c.two_elements-x.ensures) at (
          elements_used c.args.state.now
          c.after.result.now
          ),
    )

pub returns : goal.returns
unfolding entry_of
returns c =
    let f : SFits w64 c.entry.result = record { sfits = omega (arith, c.entry.ensures.1) } in
    rw (rw (back f, c.entry.ensures.0, c.two_elements-x.ensures, c.after.ensures, c.table_in-table.ensures, c.name.ensures.0) at c.ranged.ensures)
    (
    sym (
    entry_some c.args.model.now
    c.args.state.now
    c.args.outline.now
    c.args.e.now
    c.if-e-eq0.false
    )
    )
