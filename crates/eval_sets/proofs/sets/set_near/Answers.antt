-- `eval_sets::sets::set_near` meets its contract.
use mathlib.Core.Path.{sym, ◌∙◌}
use native.Mathlib.Omega.{arith}
use Rattle.eval_sets.specs.Forms.{set_form}
use Rattle.eval_sets.specs.Runs.{set_behind}
use Rattle.eval_sets.proofs.Within.{set_variable_used}
use Rattle.eval_sets.proofs.Opening.{set_opens}
use Rattle.eval_sets.proofs.sets.set_near.Goals as goal

pub returns-then-depth-eq0 : goal.returns-then-depth-eq0
returns-then-depth-eq0 c =
    c.no_set.ensures ∙ sym ((set_opens _ _).no_depth_lem _ c.args.at c.args.e.now c.if-depth-eq0.true)

pub returns-then-e-at : goal.returns-then-e-at
returns-then-e-at c =
    c.no_set-then-e-at.ensures ∙ sym ((set_opens _ _).no_byte _ c.args.at c.args.e.now c.if-e-at.true)

pub set_past-requires : goal.set_past-requires
set_past-requires c =
    omega (arith, rw (← c.set_variable.ensures) at (set_variable_used c.args.state.now c.args.outline.now c.after.result.now))

pub returns-then-e-at-eq65 : goal.returns-then-e-at-eq65
unfolding set_behind set_form
returns-then-e-at-eq65 c =
    rw (c.set_past.ensures, c.set_variable.ensures, c.after.ensures)
    (sym ((set_opens _ _).opened _ c.args.at c.args.e.now c.if-depth-eq0.false c.if-e-at.false c.if-e-at-eq65.true))
