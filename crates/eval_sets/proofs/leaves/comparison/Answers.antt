-- `eval_sets::leaves::comparison` meets its contract.
use mir.Val.{SFits}
use mir.Syntax.{w64}
use borrow.Author.Rules.{rules}
use Rattle.eval_sets.specs.Answers.{condition_of_two}
use Rattle.words.proofs.Integers.{back}
use Rattle.eval_sets.proofs.leaves.comparison.Goals as goal

pub returns-in-Ok : goal.returns-in-Ok
unfolding condition_of_two
returns-in-Ok c =
    let f : SFits w64 c.in-Ok.p.value.0 = search rules in
    let g : SFits w64 c.in-Ok.p.value.1 = search rules in
    let q = rw (back f, back g) at c.relation.ensures in
    rw (q, c.in-Ok.is)

pub returns-in-Err : goal.returns-in-Err
unfolding condition_of_two
returns-in-Err c = rw c.in-Err.is
