-- `prepare::tests::test_at` meets its contract.
use mathlib.Core.Path.{sym, ◌∙◌}
use native.Mathlib.Omega.{arith}
use lib.Bits.{and_self, and_zero_l}
use Rattle.model.specs.Sets.{intersection}
use Rattle.prepare.specs.Forms.{MemberForm, MissingForm}
use Rattle.prepare.proofs.Tested.{member_says, missing_says}
use Rattle.prepare.proofs.tests.test_at.Goals as goal

pub returns-then-is_member : goal.returns-then-is_member
unfolding intersection
returns-then-is_member c =
    let member : MemberForm c.args.model.now c.args.at = c.is_member.ensures c.if-is_member.true in
    record { says = member_says _ _ _ _ (member) (sym c.byte_at-then-is_member.ensures) (c.single-bit.ensures ∙ rw (c.wide.ensures.0, c.byte_at.ensures)); within = record { bits = and_self _; short = omega arith } }

pub returns-then-is_missing : goal.returns-then-is_missing
unfolding intersection
returns-then-is_missing c =
    let missing : MissingForm c.args.model.now c.args.at = c.is_missing.ensures c.if-is_missing.true in
    record { says = missing_says _ _ _ _ (missing) (rw (← c.after.ensures) c.long.ensures) (sym c.byte_at-then-is_missing.ensures); within = record { bits = and_zero_l c.long.result; short = omega arith } }
