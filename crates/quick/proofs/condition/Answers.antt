-- `quick::condition` meets its contract.
use mathlib.Core.Path.{◌≡◌}
use native.Mathlib.Omega.{arith}
use mir.Val.{SFits}
use mir.Syntax.{w64}
use Rattle.words.proofs.Integers.{back, sum_fits}
use Rattle.quick.specs.Quick.{SumForm, variable_in, entry_in, decided}
use Rattle.quick.proofs.Compared.{sum_says}
use Rattle.quick.proofs.condition.Goals as goal

pub returns-then-is_sum : goal.returns-then-is_sum
returns-then-is_sum c =
    let form : SumForm c.args.model.now c.args.at = c.is_sum.ensures c.if-is_sum.true in
    let bytes = c.args.model.now in
    let at = c.args.at in
    let s = c.summed-z.ensures in
    let z = c.summed-z.result in
    let k = c.integer-c.result in
    let z-fits : SFits w64 z = rw s.sum (sum_fits (variable_in bytes at c.args.state.now) (entry_in bytes at c.args.outline.now c.args.state.now) s.variable_fits s.entry_fits) in
    let k-fits : SFits w64 k = record { sfits = omega (arith, c.integer-c.ensures.1) } in
    let code : c.decided.result ≡ decided z k = rw (back z-fits, back k-fits) at c.decided.ensures in
    rw code (sum_says bytes at c.args.outline.now c.args.state.now z k (form) s (rw c.after.ensures at c.integer-c.ensures.0) c.integer-c.ensures.1)
