-- `steps::parts::condition_near` meets its contract.
use mathlib.Core.Path.{sym, ◌∙◌}
use Rattle.eval_tests.specs.Stopped.{stopped}
use Rattle.prepare.specs.Forms.{MemberForm}
use Rattle.steps.proofs.Evaluated.{fails_of, membership_promised, condition_told, failure_told}
use Rattle.steps.proofs.parts.condition_near.Goals as goal

pub returns-then-membership : goal.returns-then-membership
unfolding stopped
returns-then-membership c =
    let form : MemberForm c.args.model.now c.args.at = c.is_member.ensures c.if-is_member.true in
    membership_promised _ _ c.requires.0 _ _ (form) _ (sym c.membership.ensures ∙ c.if-membership.true)

pub returns-then-is_member : goal.returns-then-is_member
unfolding stopped
returns-then-is_member c =
    let form : MemberForm c.args.model.now c.args.at = c.is_member.ensures c.if-is_member.true in
    membership_promised _ _ c.requires.0 _ _ (form) _ (sym c.membership.ensures ∙ c.if-membership.false)

pub returns-then-holds : goal.returns-then-holds
returns-then-holds c =
    condition_told _ _ c.requires.0 _ _ _ (rw c.if-holds.true at c.in-Some.ensures)

pub returns-in-Some : goal.returns-in-Some
returns-in-Some c =
    failure_told _ _ c.requires.0 _ _ (fails_of (rw c.if-holds.false at c.in-Some.ensures))

pub returns-then-holds-2 : goal.returns-then-holds-2
returns-then-holds-2 c =
    condition_told _ _ c.requires.0 _ _ _ (rw c.if-holds-2.true at c.in-Some-test.ensures)

pub returns-in-Some-test : goal.returns-in-Some-test
returns-in-Some-test c =
    failure_told _ _ c.requires.0 _ _ (rw c.if-holds-2.false at c.in-Some-test.ensures)
