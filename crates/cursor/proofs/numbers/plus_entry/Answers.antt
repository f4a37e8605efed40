-- `cursor::numbers::plus_entry` meets its contract: a number variable, a table's entry behind it, and their sum where it is told.
-- Nine bytes stand at the cursor; the variable is from the second of them on, the entry from the fourth on.
use Prim.Native.Nat.{◌+◌}
use mathlib.Core.Path.{◌≡◌, refl}
use native.Mathlib.Omega.{arith}
use borrow.Author.Rules.{rules}
use lib.IntN.{◌+ℤ◌}
use mir.Val.{SFits}
use mir.Syntax.{w64}
use Rattle.words.proofs.Integers.{back}
use Rattle.eval_sets.specs.declared.first_bytes.Operation.TheVariants as Op
use Rattle.eval_sets.specs.Forms.{number_form}
use Rattle.eval_sets.specs.Runs.{arithmetic}
use Rattle.quick.specs.Entries.{EntryForm}
use Rattle.cursor.specs.Places.{Stands, Begins}
use Rattle.cursor.specs.Told.{NumberTo}
use Rattle.cursor.proofs.NumberLaws.{entry_among, two_told, operation_told}
use Rattle.cursor.proofs.numbers.plus_entry.Goals as goal

pub returns-then-is_entry : goal.returns-then-is_entry
unfolding number_form arithmetic
returns-then-is_entry c =
    let first_is : (let a = c.args in NumberTo a.m.now.now a.outline.now a.state.now (a.at.now + 1) c.variable_at-x.result (a.at.now + 3)) = let a = c.args in
    let on : a.at.now + 1 + 2 ≡ a.at.now + 3 = omega arith in
    rw on at c.variable_at-x.ensures in
    let fits-first : SFits w64 c.variable_at-x.result = record { sfits = omega (arith, (first_is).is.fits) } in
    let there : (let a = c.args in Stands a.m.now.now a.at.now 9) = c.stands.ensures c.if-stands.true in
    let form : (let a = c.args in EntryForm a.m.now.now (a.at.now + 3)) = c.is_entry.ensures c.if-is_entry.true in
    let second_is : (let a = c.args in NumberTo a.m.now.now a.outline.now a.state.now (a.at.now + 3) c.entry_at-y.result (a.at.now + 9)) = entry_among 3 9 refl (omega arith) (there) (form) c.entry_at-y.ensures in
    let fits-second : SFits w64 c.entry_at-y.result = record { sfits = omega (arith, (second_is).is.fits) } in
    let begins : (let a = c.args in Begins a.m.now.now a.at.now 0x22) = let stand = there in
    record { there = record { inside = omega (arith, stand.inside); near = omega (arith, stand.near) }; byte = c.if-e-p-eq34.true } in
    let x = c.variable_at-x.result in
    let y = c.entry_at-y.result in
    let z = c.sum.result in
    let h : SFits w64 z = search rules in
    let sum : z ≡ x +ℤ y = rw (back (fits-first), back (fits-second)) at c.sum.ensures in
    (two_told _ _ _ (begins) refl (first_is) (second_is) _ (operation_told 0x22 Op.Sum x y z c.ranged.result refl (rw sum) (rw (back h) at c.ranged.ensures)))
