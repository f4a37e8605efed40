-- `eval_sets::leaves::operation` meets its contract.
use mir.Val.{SFits}
use mir.Syntax.{w64}
use borrow.Author.Rules.{rules}
use Rattle.eval_sets.specs.Runs.{arithmetic}
use Rattle.words.proofs.Integers.{back}
use Rattle.eval_sets.proofs.leaves.operation.Goals as goal

pub returns-in-Sum : goal.returns-in-Sum
unfolding arithmetic
returns-in-Sum c =
    let f : SFits w64 c.sum.result = search rules in
    let v = rw (back c.ranges.a, back c.ranges.b) at c.sum.ensures in rw (c.in-Sum.is, rw (back f, v) at c.ranged.ensures)

pub returns-in-Difference : goal.returns-in-Difference
unfolding arithmetic
returns-in-Difference c =
    let f : SFits w64 c.difference.result = search rules in
    let v = rw (back c.ranges.a, back c.ranges.b) at c.difference.ensures in rw (c.in-Difference.is, rw (back f, v) at c.ranged-in-Difference.ensures)

pub returns-in-Product : goal.returns-in-Product
unfolding arithmetic
returns-in-Product c =
    let f : SFits w64 c.product.result = search rules in
    let v = rw (back c.ranges.a, back c.ranges.b) at c.product.ensures in rw (c.in-Product.is, rw (back f, v) at c.ranged-in-Product.ensures)

pub returns-in-Quotient : goal.returns-in-Quotient
unfolding arithmetic
returns-in-Quotient c =
    rw c.in-Quotient.is (rw (back c.ranges.a, back c.ranges.b) at c.quotient.ensures)

pub returns-in-Lesser : goal.returns-in-Lesser
unfolding arithmetic
returns-in-Lesser c =
    let f : SFits w64 c.lesser.result = search rules in
    let v = rw (back c.ranges.a, back c.ranges.b) at c.lesser.ensures in rw (c.in-Lesser.is, rw (back f, v) at c.ranged-in-Lesser.ensures)

pub returns-in-Greater : goal.returns-in-Greater
unfolding arithmetic
returns-in-Greater c =
    let f : SFits w64 c.greater.result = search rules in
    let v = rw (back c.ranges.a, back c.ranges.b) at c.greater.ensures in rw (c.in-Greater.is, rw (back f, v) at c.ranged-in-Greater.ensures)
