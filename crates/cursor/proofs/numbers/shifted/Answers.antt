-- `cursor::numbers::shifted` meets its contract.
use Prim.Native.Nat.{◌+◌}
use mathlib.Core.Path.{◌≡◌, refl}
use native.Mathlib.Omega.{arith}
use borrow.Author.Rules.{rules}
use lib.IntN.{◌+ℤ◌, ◌-ℤ◌}
use mir.Val.{SFits}
use mir.Syntax.{w64}
use Rattle.words.proofs.Integers.{back}
use Rattle.eval_sets.specs.declared.first_bytes.Operation.TheVariants as Op
use Rattle.eval_sets.specs.Forms.{number_form}
use Rattle.eval_sets.specs.Runs.{arithmetic}
use Rattle.cursor.specs.Places.{Stands, Begins}
use Rattle.cursor.specs.Told.{NumberTo}
use Rattle.cursor.proofs.NumberLaws.{two_told, operation_told}
use Rattle.cursor.proofs.numbers.shifted.Goals as goal

pub returns-then-e-p-eq34 : goal.returns-then-e-p-eq34
unfolding number_form arithmetic
returns-then-e-p-eq34 c =
    let first_is : (let a = c.args in NumberTo a.m.now.now a.outline.now a.state.now (a.at.now + 1) c.variable_at-x.result (a.at.now + 3)) = let a = c.args in
    let on : a.at.now + 1 + 2 ≡ a.at.now + 3 = omega arith in
    rw on at c.variable_at-x.ensures in
    let fits-first : SFits w64 c.variable_at-x.result = record { sfits = omega (arith, (first_is).is.fits) } in
    let second_is : (let a = c.args in NumberTo a.m.now.now a.outline.now a.state.now (a.at.now + 3) c.literal_at-y.result (a.at.now + 8)) = let a = c.args in
    let on : a.at.now + 3 + 5 ≡ a.at.now + 8 = omega arith in
    rw on at c.literal_at-y.ensures in
    let fits-second : SFits w64 c.literal_at-y.result = record { sfits = omega (arith, (second_is).is.fits) } in
    let there : (Stands c.args.m.now.now c.args.at.now 8) = c.stands.ensures c.if-stands.true in
    let x = c.variable_at-x.result in
    let y = c.literal_at-y.result in
    let z = c.sum.result in
    let f : SFits w64 z = search rules in
    let sum : z ≡ x +ℤ y = rw (back (fits-first), back (fits-second)) at c.sum.ensures in
    let begins : Begins c.args.m.now.now c.args.at.now 0x22 = record { there = record { inside = omega (arith, (there).inside); near = omega (arith, (there).near) }; byte = search rules } in
    (two_told _ _ _ begins refl (first_is) (second_is) _ (operation_told 0x22 Op.Sum x y z c.ranged.result refl (rw sum) (rw (back f) at c.ranged.ensures)))

pub returns-then-e-p-eq35 : goal.returns-then-e-p-eq35
unfolding number_form arithmetic
returns-then-e-p-eq35 c =
    let first_is : (let a = c.args in NumberTo a.m.now.now a.outline.now a.state.now (a.at.now + 1) c.variable_at-x.result (a.at.now + 3)) = let a = c.args in
    let on : a.at.now + 1 + 2 ≡ a.at.now + 3 = omega arith in
    rw on at c.variable_at-x.ensures in
    let fits-first : SFits w64 c.variable_at-x.result = record { sfits = omega (arith, (first_is).is.fits) } in
    let second_is : (let a = c.args in NumberTo a.m.now.now a.outline.now a.state.now (a.at.now + 3) c.literal_at-y.result (a.at.now + 8)) = let a = c.args in
    let on : a.at.now + 3 + 5 ≡ a.at.now + 8 = omega arith in
    rw on at c.literal_at-y.ensures in
    let fits-second : SFits w64 c.literal_at-y.result = record { sfits = omega (arith, (second_is).is.fits) } in
    let there : (Stands c.args.m.now.now c.args.at.now 8) = c.stands.ensures c.if-stands.true in
    let x = c.variable_at-x.result in
    let y = c.literal_at-y.result in
    let z = c.difference.result in
    let f : SFits w64 z = search rules in
    let difference : z ≡ x -ℤ y = rw (back (fits-first), back (fits-second)) at c.difference.ensures in
    let begins : Begins c.args.m.now.now c.args.at.now 0x23 = record { there = record { inside = omega (arith, (there).inside); near = omega (arith, (there).near) }; byte = c.if-e-p-eq35.true } in
    (two_told _ _ _ begins refl (first_is) (second_is) _ (operation_told 0x23 Op.Difference x y z c.ranged-then-e-p-eq35.result refl (rw difference) (rw (back f) at c.ranged-then-e-p-eq35.ensures)))
