-- `nested::rounded::less` meets its contract.
use mathlib.Core.Path.{◌≡◌, refl}
use borrow.Author.Rules.{rules}
use lib.IntN.{◌-ℤ◌}
use mir.Val.{SFits}
use mir.Syntax.{w64}
use Rattle.words.proofs.Integers.{back}
use Rattle.eval_sets.specs.declared.first_bytes.Operation.TheVariants as Op
use Rattle.eval_sets.specs.Forms.{number_form}
use Rattle.eval_sets.specs.Runs.{arithmetic}
use Rattle.cursor.proofs.NumberLaws.{operation_told}
use Rattle.nested.proofs.rounded.less.Goals as goal

pub returns : goal.returns
unfolding number_form arithmetic
returns c =
    let x = c.args.x in
    let y = c.args.y in
    let z = c.difference.result in
    let f : SFits w64 z = search rules in
    let is : z ≡ x -ℤ y = rw (back c.ranges.x, back c.ranges.y) at c.difference.ensures in
    operation_told 0x23 Op.Difference x y z c.ranged.result refl (rw is) (rw (back f) at c.ranged.ensures)
