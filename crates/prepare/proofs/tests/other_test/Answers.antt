-- `prepare::tests::other_test` meets its contract.
use Prim.Native.Nat.{◌%◌}
use mathlib.Core.Path.{◌≡◌, sym, ◌∙◌}
use native.Mathlib.Omega.{arith}
use native.Mathlib.Nat.{mod-eq_of_lt}
use lib.Bits.{and_zero_l}
use Rattle.model.specs.Numbers.{most_objects}
use Rattle.model.specs.Sets.{intersection}
use Rattle.prepare.specs.Forms.{AbsentForm, SameForm}
use Rattle.prepare.proofs.Bits.{element_bits}
use Rattle.prepare.proofs.Tested.{absent_says, same_says}
use Rattle.prepare.proofs.tests.other_test.Goals as goal

pub returns-then-is_absent : goal.returns-then-is_absent
unfolding intersection
returns-then-is_absent c =
    let absent : AbsentForm c.args.model.now c.args.at = c.is_absent.ensures c.if-is_absent.true in
    record { says = absent_says _ _ _ _ (absent) (sym c.byte_at-then-is_absent.ensures) (c.single-bit.ensures ∙ rw (c.wide.ensures.0, c.byte_at.ensures)); within = record { bits = and_zero_l c.single-bit.result; short = omega arith } }

pub returns-then-is_same : goal.returns-then-is_same
returns-then-is_same c =
    let same : SameForm c.args.model.now c.args.at = c.is_same.ensures c.if-is_same.true in
    let k = c.wide-then-is_same.result in
    let byte = c.wide-then-is_same.ensures.0 ∙ c.byte_at-then-is_same-2.ensures in
    let small : k % most_objects % most_objects ≡ k % most_objects = mod-eq_of_lt (omega arith) in
    record { says = same_says c.args.model.now c.args.at _ k (same) (sym c.byte_at-then-is_same.ensures) (sym byte); within = record { bits = element_bits (k % most_objects) ∙ small; short = omega arith } }
