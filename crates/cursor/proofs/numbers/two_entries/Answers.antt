-- `cursor::numbers::two_entries` meets its contract: two entries in range, one behind the other, and their sum where it is told.
-- Thirteen bytes stand at the cursor; the first entry is from the second of them on, the second from the eighth on.
use Prim.Native.Nat.{◌+◌}
use mathlib.Core.Path.{◌≡◌, refl}
use native.Mathlib.Omega.{arith}
use borrow.Author.Rules.{rules}
use lib.IntN.{◌+ℤ◌}
use mir.Val.{SFits}
use mir.Syntax.{w64}
use Rattle.words.proofs.Integers.{back}
use Rattle.eval_sets.specs.declared.first_bytes.Operation.TheVariants as Op
use Rattle.eval_sets.specs.Forms.{number_form}
use Rattle.eval_sets.specs.Runs.{arithmetic}
use Rattle.quick.specs.Entries.{EntryForm}
use Rattle.cursor.specs.Places.{Stands}
use Rattle.cursor.specs.Told.{NumberTo}
use Rattle.cursor.proofs.NumberLaws.{entry_among, two_told, operation_told}
use Rattle.cursor.proofs.numbers.two_entries.Goals as goal

pub returns-then-is_entry-2 : goal.returns-then-is_entry-2
unfolding number_form arithmetic
returns-then-is_entry-2 c =
    let there : (let a = c.args in Stands a.m.now.now a.at.now 13) = c.stands.ensures c.if-stands.true in
    let first-form : (let a = c.args in EntryForm a.m.now.now (a.at.now + 1)) = c.is_entry.ensures c.if-is_entry.true in
    let first_is : (let a = c.args in NumberTo a.m.now.now a.outline.now a.state.now (a.at.now + 1) c.entry_at-x.result (a.at.now + 7)) = entry_among 1 7 refl (omega arith) (there) (first-form) c.entry_at-x.ensures in
    let second-form : (let a = c.args in EntryForm a.m.now.now (a.at.now + 7)) = c.is_entry-then-is_entry.ensures c.if-is_entry-2.true in
    let second_is : (let a = c.args in NumberTo a.m.now.now a.outline.now a.state.now (a.at.now + 7) c.entry_at-y.result (a.at.now + 13)) = entry_among 7 13 refl (omega arith) (there) (second-form) c.entry_at-y.ensures in
    let x = c.entry_at-x.result in
    let y = c.entry_at-y.result in
    let z = c.sum.result in
    let f : SFits w64 x = search rules in
    let g : SFits w64 y = search rules in
    let h : SFits w64 z = search rules in
    let sum : z ≡ x +ℤ y = rw (back f, back g) at c.sum.ensures in
    (two_told _ _ _ c.requires refl (first_is) (second_is) _ (operation_told 0x22 Op.Sum x y z c.ranged.result refl (rw sum) (rw (back h) at c.ranged.ensures)))
