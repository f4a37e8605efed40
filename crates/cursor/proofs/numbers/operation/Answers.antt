-- `cursor::numbers::operation` meets its contract.
use mathlib.Core.Path.{◌≡◌, refl}
use native.Mathlib.Omega.{arith}
use lib.IntN.{◌+ℤ◌, ◌-ℤ◌, ◌*ℤ◌}
use mir.Val.{SFits}
use mir.Syntax.{w64}
use borrow.Author.Rules.{rules}
use Rattle.words.proofs.Integers.{back}
use Rattle.eval_sets.specs.declared.first_bytes.Operation.TheVariants as Op
use Rattle.eval_sets.specs.Forms.{number_form}
use Rattle.eval_sets.specs.Runs.{arithmetic}
use Rattle.cursor.proofs.NumberLaws.{operation_told, lesser_told, greater_told}
use Rattle.cursor.proofs.numbers.operation.Goals as goal

pub returns-in-34 : goal.returns-in-34
unfolding number_form arithmetic
returns-in-34 c =
    let x = c.args.x in
    let y = c.args.y in
    let z = c.sum.result in
    let f : SFits w64 z = search rules in
    let sum : z ≡ x +ℤ y = rw (back c.ranges.x, back c.ranges.y) at c.sum.ensures in
    rw c.in-34.is (operation_told 0x22 Op.Sum x y z c.ranged.result refl (rw sum) (rw (back f) at c.ranged.ensures))

pub returns-in-35 : goal.returns-in-35
unfolding number_form arithmetic
returns-in-35 c =
    let x = c.args.x in
    let y = c.args.y in
    let z = c.difference.result in
    let f : SFits w64 z = search rules in
    let difference : z ≡ x -ℤ y = rw (back c.ranges.x, back c.ranges.y) at c.difference.ensures in
    rw c.in-35.is (operation_told 0x23 Op.Difference x y z c.ranged-in-35.result refl (rw difference) (rw (back f) at c.ranged-in-35.ensures))

pub returns-in-36 : goal.returns-in-36
unfolding number_form arithmetic
returns-in-36 c =
    let x = c.args.x in
    let y = c.args.y in
    let z = c.product.result in
    let f : SFits w64 z = search rules in
    let product : z ≡ x *ℤ y = rw (back c.ranges.x, back c.ranges.y) at c.product.ensures in
    rw c.in-36.is (operation_told 0x24 Op.Product x y z c.ranged-in-36.result refl (rw product) (rw (back f) at c.ranged-in-36.ensures))

pub returns-then-x-y : goal.returns-then-x-y
returns-then-x-y c =
    let fx = back c.ranges.x in
    let t = rw (fx, back c.ranges.y) at c.if-x-y.true in
    rw (fx, c.in-38.is) (lesser_told c.args.x c.args.y c.args.x c.requires.0 c.requires.1 (rw t))

pub returns-else-x-y : goal.returns-else-x-y
returns-else-x-y c =
    let fy = back c.ranges.y in
    let t = rw (back c.ranges.x, fy) at c.if-x-y.false in
    rw (fy, c.in-38.is) (lesser_told c.args.x c.args.y c.args.y c.requires.0 c.requires.1 (rw t))

pub returns-then-x-y-2 : goal.returns-then-x-y-2
returns-then-x-y-2 c =
    let fy = back c.ranges.y in
    let t = rw (back c.ranges.x, fy) at c.if-x-y-2.true in
    rw fy (greater_told c.args.b c.args.x c.args.y c.args.y (omega (arith, c.ranges.b)) c.in_default.in_default-own.rest c.requires.0 c.requires.1 (rw t))

pub returns-else-x-y-2 : goal.returns-else-x-y-2
returns-else-x-y-2 c =
    let fx = back c.ranges.x in
    let t = rw (fx, back c.ranges.y) at c.if-x-y-2.false in
    rw fx (greater_told c.args.b c.args.x c.args.y c.args.x (omega (arith, c.ranges.b)) c.in_default.in_default-own.rest c.requires.0 c.requires.1 (rw t))

pub returns-in-37 : goal.returns-in-37
returns-in-37 c = rw c.in-37.is (rw (back c.ranges.x, back c.ranges.y) at c.quotient.ensures)
