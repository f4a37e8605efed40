-- `eval_sets::leaves::literal_number` meets its contract.
use native.Mathlib.Omega.{arith}
use lib.ListN.{length}
use mir.Val.{SFits}
use mir.Syntax.{w64}
use borrow.Author.Tests.{lt-ltb, le-ltb}
use Rattle.eval_sets.specs.Runs.{literal_number, literal_value}
use Rattle.words.proofs.Integers.{back}
use Rattle.eval_sets.proofs.leaves.literal_number.Goals as goal

pub returns-then-e-lt4 : goal.returns-then-e-lt4
unfolding literal_number
returns-then-e-lt4 c =
    rw (lt-ltb (length c.args.e.now) 4 c.if-e-lt4.true)

pub returns : goal.returns
unfolding literal_number literal_value
returns c =
    let f : SFits w64 c.integer.result = record { sfits = omega (arith, c.integer.ensures.1) } in
    rw (le-ltb (length c.args.e.now) 4 c.if-e-lt4.false, c.integer.ensures.0) (rw (back f) at c.ranged.ensures)
