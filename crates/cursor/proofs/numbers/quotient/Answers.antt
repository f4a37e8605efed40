-- `cursor::numbers::quotient` meets its contract.
use native.Mathlib.Omega.{arith}
use mir.Val.{SFits}
use mir.Syntax.{w64}
use Rattle.words.proofs.Integers.{back}
use Rattle.cursor.proofs.NumberLaws.{quotient_told}
use Rattle.cursor.proofs.numbers.quotient.Goals as goal

pub returns : goal.returns
returns c =
    let z = c.floor_quotient.result in
    let f : SFits w64 z = record { sfits = omega (arith, c.floor_quotient.ensures.1) } in
    (quotient_told c.args.x c.args.y z c.ranged.result (rw (back c.ranges.x, back c.ranges.y) at c.floor_quotient.ensures.0) (rw (back f) at c.ranged.ensures))
