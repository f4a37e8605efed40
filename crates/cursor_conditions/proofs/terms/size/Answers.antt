-- `cursor_conditions::terms::size` meets its contract.
use native.Mathlib.Omega.{arith}
use Rattle.words.proofs.Integers.{plain}
use Rattle.cursor_conditions.proofs.SumLaws.{size_told}
use Rattle.cursor_conditions.proofs.terms.size.Goals as goal

pub returns : goal.returns
returns c =
    size_told _ _ _ c.requires (c.set-s.ensures c.if-at-p.false) c.count.ensures.0 c.count.ensures.1 (plain c.count.result (omega (arith, c.count.ensures.1)))
