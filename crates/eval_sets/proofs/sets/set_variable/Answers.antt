-- `eval_sets::sets::set_variable` meets its contract.
use mathlib.Core.Path.{sym, ◌∙◌}
use native.Mathlib.Omega.{arith}
use Rattle.eval_sets.proofs.Opening.{variable_none, variable_some}
use Rattle.eval_sets.proofs.sets.set_variable.Goals as goal

pub returns-then-e-eq0 : goal.returns-then-e-eq0
returns-then-e-eq0 c =
    c.no_set.ensures ∙ sym (variable_none c.args.state.now c.args.outline.now c.args.e.now (omega arith))

pub returns : goal.returns
returns c =
    rw (c.word_at.ensures, c.objects_in.ensures, c.name-v.ensures.0)
    (sym (variable_some c.args.state.now c.args.outline.now c.args.e.now c.if-e-eq0.false))
