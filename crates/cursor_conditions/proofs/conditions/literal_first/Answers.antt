-- `cursor_conditions::conditions::literal_first` meets its contract.
use Prim.Native.Nat.{◌+◌}
use mathlib.Core.Path.{◌≡◌}
use native.Mathlib.Omega.{arith}
use mir.Val.{SFits}
use mir.Syntax.{w64}
use Rattle.words.proofs.Integers.{back}
use Rattle.cursor.specs.Told.{NumberTo}
use Rattle.cursor_conditions.proofs.ConditionLaws.{relation_told}
use Rattle.cursor_conditions.proofs.conditions.literal_first.Goals as goal

pub returns-then-e-p-eq33 : goal.returns-then-e-p-eq33
returns-then-e-p-eq33 c =
    let first_is : (let a = c.args in NumberTo a.m.now.now a.outline.now a.state.now (a.at.now + 1) c.literal_at-x.result (a.at.now + 6)) = let a = c.args in
    let on : a.at.now + 1 + 5 ≡ a.at.now + 6 = omega arith in
    rw on at c.literal_at-x.ensures in
    let second_is : (let a = c.args in NumberTo a.m.now.now a.outline.now a.state.now (a.at.now + 6) c.variable_at-y.result (a.at.now + 8)) = let a = c.args in
    let on : a.at.now + 6 + 2 ≡ a.at.now + 8 = omega arith in
    rw on at c.variable_at-y.ensures in
    let f : SFits w64 c.literal_at-x.result = record { sfits = omega (arith, (first_is).is.fits) } in
    let g : SFits w64 c.variable_at-y.result = record { sfits = omega (arith, (second_is).is.fits) } in
    relation_told _ _ _ c.requires.0 c.requires.1 (first_is) (second_is) (rw (back f, back g) at c.related.ensures)
