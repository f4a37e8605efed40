-- `eval_sets::leaves::number_variable` meets its contract.
use mathlib.Core.Path.{sym}
use native.Mathlib.Omega.{arith}
use mir.Val.{SFits}
use mir.Syntax.{w64}
use Rattle.eval_sets.proofs.Opening.{number_variable_none, number_variable_some}
use Rattle.words.proofs.Integers.{back}
use Rattle.eval_sets.proofs.leaves.number_variable.Goals as goal

pub returns-then-e-eq0 : goal.returns-then-e-eq0
returns-then-e-eq0 c =
    sym (number_variable_none c.args.state.now c.args.e.now c.if-e-eq0.true)

pub returns : goal.returns
returns c =
    let f : SFits w64 c.signed_word.result = record { sfits = omega (arith, c.signed_word.ensures.1) } in
    rw (rw (back f, c.signed_word.ensures.0, c.word_at.ensures, c.name.ensures.0) at c.ranged.ensures)
    (
    sym (
    number_variable_some c.args.state.now
    c.args.e.now c.if-e-eq0.false
    )
    )
