-- `nested::rounded::quotient_on` meets its contract.
use native.Mathlib.Omega.{arith}
use borrow.Author.Rules.{rules}
use mir.Val.{SFits}
use mir.Syntax.{w64}
use Rattle.words.proofs.Integers.{back}
use Rattle.nested.proofs.Quotients.{quotient_told}
use Rattle.nested.proofs.rounded.quotient_on.Goals as goal

pub returns-then-e-q-eq32 : goal.returns-then-e-q-eq32
returns-then-e-q-eq32 c =
    let second = c.literal_at-w.ensures in
    let f : SFits w64 c.in_ok-d.d = search rules in
    let g : SFits w64 c.literal_at-w.result = record { sfits = omega (arith, second.is.fits) } in
    quotient_told _ _ _ c.requires.0.begins c.in_ok-d.ensures second _ (rw (back f, back g) at c.quotient.ensures)
