-- `cursor_conditions::conditions::two_simple` meets its contract.
use borrow.Author.Rules.{rules}
use mir.Val.{SFits}
use mir.Syntax.{w64}
use Rattle.words.proofs.Integers.{back}
use Rattle.cursor.proofs.NumberLaws.{operates, two_told}
use Rattle.cursor_conditions.proofs.conditions.two_simple.Goals as goal

pub returns : goal.returns
returns c =
    let f : SFits w64 c.in_ok-x.x = search rules in
    let g : SFits w64 c.in_ok-y.y = search rules in
    two_told _ _ _ c.requires.0 (operates c.args.b c.requires.1).form c.in_ok-x.ensures c.in_ok-y.ensures _ (rw (back f, back g) at c.operation.ensures)
