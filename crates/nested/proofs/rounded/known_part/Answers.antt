-- `nested::rounded::known_part` meets its contract.
use native.Mathlib.Omega.{arith}
use mir.Val.{SFits}
use mir.Syntax.{w64}
use Rattle.words.proofs.Integers.{back}
use Rattle.cursor.specs.Places.{Stands}
use Rattle.nested.proofs.Quotients.{known_less_told}
use Rattle.nested.proofs.rounded.known_part.Goals as goal

pub returns-then-e-p-eq33 : goal.returns-then-e-p-eq33
returns-then-e-p-eq33 c =
    let there : (Stands c.args.m.now.now c.args.at.now 9) = c.stands.ensures c.if-stands.true in
    let second = c.variable_at-v.ensures in
    let f : SFits w64 c.variable_at-v.result = record { sfits = omega (arith, second.is.fits) } in
    known_less_told _ _ _ c.requires c.if-p-place-2.true (there) c.if-e-p-eq35.true second _ (rw (back f, back c.ranges.sum) at c.less.ensures)
