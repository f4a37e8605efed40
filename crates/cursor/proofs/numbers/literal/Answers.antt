-- `cursor::numbers::literal` meets its contract.
use Prim.Native.Nat.{◌+◌}
use native.Mathlib.Omega.{arith}
use mir.Val.{SFits}
use mir.Syntax.{w64}
use Rattle.words.proofs.Integers.{back}
use Rattle.words.proofs.Literal.{suffix}
use Rattle.cursor.specs.Places.{Stands}
use Rattle.cursor.proofs.NumberLaws.{literal_is}
use Rattle.cursor.proofs.numbers.literal.Goals as goal

pub returns-then-e-p-eq32 : goal.returns-then-e-p-eq32
returns-then-e-p-eq32 c =
    let there : (Stands c.args.m.now.now c.args.at.now 5) = c.stands.ensures c.if-stands.true in
    let f : SFits w64 c.integer.result = record { sfits = omega (arith, c.integer.ensures.1) } in
    rw (back f)
    (literal_is c.args.m.now.now c.args.outline.now c.args.state.now c.args.at.now c.integer.result (there) c.if-e-p-eq32.true
    (rw (suffix (c.args.at.now + 1) c.args.m.now.now) at c.integer.ensures.0) c.integer.ensures.1)
