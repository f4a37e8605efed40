-- `eval_sets::answers::number_past` meets its contract.
use mir.Facts.{to_z-of_z}
use mir.Val.{SFits}
use mir.Syntax.{w64}
use borrow.Author.Rules.{rules}
use Rattle.std.proofs.lemmas.Result.{err_from_is_err_and}
use Rattle.eval_sets.specs.Answers.{past_number}
use Rattle.eval_sets.proofs.answers.number_past.Goals as goal

pub returns-in_err-x : goal.returns-in_err-x
unfolding past_number
returns-in_err-x c = let p = err_from_is_err_and c.from_residual.result c.from_residual.ensures.1 in rw (p.1, p.2, c.in_err-x.was)

pub returns : goal.returns
unfolding past_number
returns c =
    let f : SFits w64 c.in_ok-x.x.value = search rules in rw (c.in_ok-x.was, to_z-of_z f)
