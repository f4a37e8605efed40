-- `eval_sets::leaves::arithmetic` meets its contract.
use mir.Val.{SFits}
use mir.Syntax.{w64}
use borrow.Author.Rules.{rules}
use Rattle.std.proofs.lemmas.Result.{err_from_is_err_and}
use Rattle.eval_sets.specs.Answers.{number_of_two}
use Rattle.words.proofs.Integers.{back}
use Rattle.eval_sets.proofs.leaves.arithmetic.Goals as goal

pub returns-in_err-p : goal.returns-in_err-p
unfolding number_of_two
returns-in_err-p c = let p = err_from_is_err_and c.from_residual.result c.from_residual.ensures.1 in rw (p.1, p.2, c.in_err-p.was)

pub returns : goal.returns
unfolding number_of_two
returns c =
    let f : SFits w64 c.in_ok-p.p.value.0 = search rules in
    let g : SFits w64 c.in_ok-p.p.value.1 = search rules in
    rw c.in_ok-p.was (rw (back f, back g) at c.operation.ensures)
