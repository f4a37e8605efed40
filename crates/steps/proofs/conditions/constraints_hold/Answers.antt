-- `steps::conditions::constraints_hold` meets its contract. The invariant: the conjuncts passed hold.
use Prim.Native.Nat.{◌<◌}
use native.Mathlib.Omega.{arith}
use lib.ListN.{get_or}
use Rattle.std.proofs.lemmas.Result.{err_from_is_err_and}
use Rattle.prepare.specs.Layout.{conjunct_count_at}
use Rattle.steps.proofs.Trials.{meeting_first, meeting_more, meeting_fails, meeting_troubles, meeting_last}
use Rattle.steps.proofs.conditions.constraints_hold.Goals as goal

pub loop-k-init : goal.loop-k-init
loop-k-init c =
    meeting_first c.requires _

pub loop-k-preserved : goal.loop-k-preserved
loop-k-preserved c =
    let more : c.loop-k.k < get_or c.args.outline.now conjunct_count_at 0 = omega (arith, c.loop-k-test.true, c.word_at-count.ensures) in
    meeting_more c.loop-k.invariant (more) _ c.conjunct_holds.ensures c.in_ok-holds.was c.if-not-holds.false

pub returns-then-not-holds : goal.returns-then-not-holds
returns-then-not-holds c =
    let more : c.loop-k.k < get_or c.args.outline.now conjunct_count_at 0 = omega (arith, c.loop-k-test.true, c.word_at-count.ensures) in
    meeting_fails c.loop-k.invariant (more) _ c.conjunct_holds.ensures c.in_ok-holds.was c.if-not-holds.true

pub returns-in_err-holds : goal.returns-in_err-holds
returns-in_err-holds c =
    let more : c.loop-k.k < get_or c.args.outline.now conjunct_count_at 0 = omega (arith, c.loop-k-test.true, c.word_at-count.ensures) in
    let p = err_from_is_err_and c.from_residual.result c.from_residual.ensures.1 in
    rw (p.1, p.2) (meeting_troubles c.loop-k.invariant (more) _ c.conjunct_holds.ensures c.in_err-holds.was)

pub returns : goal.returns
returns c =
    meeting_last c.loop-k.invariant (omega (arith, c.loop-k-test.false, c.word_at-count.ensures))
