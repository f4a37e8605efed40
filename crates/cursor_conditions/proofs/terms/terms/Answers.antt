-- `cursor_conditions::terms::terms` meets its contract.
use native.Mathlib.Omega.{arith}
use mathlib.Core.Path.{◌≡◌}
use mathlib.Core.Bool.{false}
use lib.IntN.{◌+ℤ◌, pos}
use lib.Signed.{le_z}
use mir.Syntax.{w64}
use mir.Val.{SFits, to_z, of_z}
use borrow.Author.Rules.{rules}
use Rattle.words.proofs.Integers.{back}
use Rattle.cursor_conditions.proofs.ConditionLaws.{begun}
use Rattle.cursor_conditions.proofs.SumLaws.{sums_and, sums_on, sum_small, bound_small, sums_end}
use Rattle.cursor_conditions.proofs.terms.terms.Goals as goal

pub loop-due-preserved-then-first_byte-eq34 : goal.loop-due-preserved-then-first_byte-eq34
loop-due-preserved-then-first_byte-eq34 c =
    sums_and _ _ _ _ _ _ _ _ c.loop-due.invariant c.loop-due-test.true (begun 0x22 c.first_byte.ensures c.if-first_byte-eq34.true (λ z. absurd (omega arith)))

pub loop-due-preserved : goal.loop-due-preserved
loop-due-preserved c =
    let f : SFits w64 c.in_ok-x.x = search rules in
    let number = c.in_ok-x.ensures in
    let g : SFits w64 c.magnitude-most.result = search rules in
    let size = rw (back f) at c.magnitude-most.ensures in
    let h : SFits w64 (to_z w64 c.loop-due.z-bits +ℤ c.in_ok-x.x) = sum_small _ _ _ _ _ _ _ _ _ _ c.loop-due.invariant number in
    let k : SFits w64 (to_z w64 c.loop-due.most-bits +ℤ c.magnitude-most.result) = bound_small _ _ _ _ _ _ _ _ _ _ _ c.loop-due.invariant number size in
    let few : le_z (pos 2147483648) (to_z w64 (of_z w64 (to_z w64 c.loop-due.most-bits +ℤ to_z w64 (of_z w64 c.magnitude-most.result)))) ≡ false = search rules in
    rw (back f, back g, back h, back k) (sums_on _ _ _ _ _ _ _ _ _ _ _ c.loop-due.invariant c.loop-due-test.true number size (rw (back g, back k) at few))

pub returns : goal.returns
returns c =
    sums_end _ _ _ _ _ _ _ _ c.loop-due.invariant c.loop-due-test.false
