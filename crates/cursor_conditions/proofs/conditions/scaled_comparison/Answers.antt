-- `cursor_conditions::conditions::scaled_comparison` meets its contract.
use mathlib.Core.Path.{◌≡◌, sym, ◌∙◌}
use native.Mathlib.Omega.{arith}
use borrow.Author.Rules.{rules}
use lib.IntN.{◌*ℤ◌}
use mir.Val.{SFits}
use mir.Syntax.{w64}
use Rattle.words.proofs.Integers.{back}
use Rattle.cursor_conditions.proofs.ConditionLaws.{scaled_told}
use Rattle.cursor_conditions.proofs.conditions.scaled_comparison.Goals as goal

pub returns-then-is_scaled : goal.returns-then-is_scaled
returns-then-is_scaled c =
    let first = c.literal_at-a.ensures in
    let scale = c.literal_at-b.ensures in
    let variable = c.variable_at-x.ensures in
    let f : SFits w64 c.literal_at-a.result = record { sfits = omega (arith, first.is.fits) } in
    let g : SFits w64 c.literal_at-b.result = record { sfits = omega (arith, scale.is.fits) } in
    let h : SFits w64 c.variable_at-x.result = record { sfits = omega (arith, variable.is.fits) } in
    let k : SFits w64 c.product.result = search rules in
    let l : SFits w64 c.in_ok-y.y = search rules in
    let is : c.product.result ≡ c.literal_at-b.result *ℤ c.variable_at-x.result = rw (back g, back h) at c.product.ensures in
    rw (back f, back l) (scaled_told _ _ _ (c.is_scaled.ensures c.if-is_scaled.true) first scale variable (sym c.in_ok-y.was ∙ (rw (back k, is) at c.ranged.ensures)))
