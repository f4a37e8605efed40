-- `nested::rounded::rounded_less` meets its contract.
use borrow.Author.Rules.{rules}
use mir.Val.{SFits}
use mir.Syntax.{w64}
use Rattle.words.proofs.Integers.{back}
use Rattle.nested.proofs.Quotients.{less_told}
use Rattle.nested.proofs.rounded.rounded_less.Goals as goal

pub returns-in-Some : goal.returns-in-Some
returns-in-Some c =
    let f : SFits w64 c.in_ok-x.x = search rules in
    let g : SFits w64 c.in-Some.z = search rules in
    less_told _ _ _ c.requires.0 c.in_ok-x.ensures c.in-Some.ensures _ (rw (back f, back g) at c.less.ensures)

pub returns-then-first_byte-eq43 : goal.returns-then-first_byte-eq43
returns-then-first_byte-eq43 c =
    let f : SFits w64 c.in_ok-x.x = search rules in
    let g : SFits w64 c.in_ok-y.y = search rules in
    less_told _ _ _ c.requires.0 c.in_ok-x.ensures c.in_ok-y.ensures _ (rw (back f, back g) at c.less-then-first_byte-eq43.ensures)
