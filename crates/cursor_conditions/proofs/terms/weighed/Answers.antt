-- `cursor_conditions::terms::weighed` meets its contract.
use borrow.Author.Rules.{rules}
use mir.Val.{SFits}
use mir.Syntax.{w64}
use Rattle.words.proofs.Integers.{back}
use Rattle.cursor_conditions.proofs.SumLaws.{weighed_told}
use Rattle.cursor_conditions.proofs.terms.weighed.Goals as goal

pub returns-then-e-p-eq34 : goal.returns-then-e-p-eq34
returns-then-e-p-eq34 c =
    let f : SFits w64 c.in_ok-x.x = search rules in
    let g : SFits w64 c.in_ok-y.y = search rules in
    weighed_told _ _ _ c.requires c.in_ok-x.ensures c.in_ok-y.ensures _ (rw (back f, back g) at c.operation.ensures)
