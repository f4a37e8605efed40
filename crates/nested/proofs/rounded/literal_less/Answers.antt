-- `nested::rounded::literal_less` meets its contract.
use native.Mathlib.Omega.{arith}
use mir.Val.{SFits}
use mir.Syntax.{w64}
use Rattle.words.proofs.Integers.{back}
use Rattle.nested.proofs.Quotients.{literal_less_told}
use Rattle.nested.proofs.rounded.literal_less.Goals as goal

pub returns : goal.returns
returns c =
    let first = c.literal_at-z.ensures in
    let f : SFits w64 c.literal_at-z.result = record { sfits = omega (arith, first.is.fits) } in
    literal_less_told _ _ _ c.requires.0 first c.requires.1 _ (rw (back f, back c.ranges.x) at c.less.ensures)
