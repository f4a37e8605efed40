-- `cursor::numbers::literal_at` meets its contract.
use Prim.Native.Nat.{◌+◌}
use native.Mathlib.Omega.{arith}
use mir.Val.{SFits}
use mir.Syntax.{w64}
use Rattle.words.proofs.Integers.{back}
use Rattle.words.proofs.Literal.{suffix}
use Rattle.cursor.proofs.NumberLaws.{literal_is}
use Rattle.cursor.proofs.numbers.literal_at.Goals as goal

pub returns : goal.returns
returns c =
    let f : SFits w64 c.integer.result = record { sfits = omega (arith, c.integer.ensures.1) } in
    rw (back f)
    (literal_is c.args.m.now.now c.args.outline.now c.args.state.now c.args.p c.integer.result c.requires.0 c.requires.1
    (rw (suffix (c.args.p + 1) c.args.m.now.now) at c.integer.ensures.0) c.integer.ensures.1)
