-- `words::literals::word` meets its contract.
use native.Mathlib.Omega.{arith}
use Rattle.words.proofs.Literal.{word_four}
use Rattle.words.proofs.literals.word.Goals as goal

pub returns : goal.returns
returns c =
    let a = c.wide.ensures in
    let b = c.wide-2.ensures in
    let d = c.wide-3.ensures in
    (word_four c.args.e.now c.requires a.0 b.0 d.0 c.wide-4.ensures.0, omega (arith, a.1, b.1, d.1, c.wide-4.ensures.1))
