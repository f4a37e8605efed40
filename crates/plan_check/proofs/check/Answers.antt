-- `plan_check::check` is the plan check's definition, test by test.
use mathlib.Core.Path.{sym, ◌∙◌}
use native.Mathlib.Omega.{arith}
use Prim.Native.Nat.{◌≤◌}
use lib.ListN.{length}
use borrow.Author.Tests.{leb-true, leb-false}
use Rattle.model.specs.Numbers.{most_model_bytes}
use Rattle.read_model.proofs.Refusals.{number_positive}
use Rattle.plan_check.proofs.Tests.{check_long_model, check_long_plan, check_refused, check_read, told_same}
use Rattle.plan_check.proofs.check.Goals as goal

pub returns-then-plan-gt-MOST_STEPS : goal.returns-then-plan-gt-MOST_STEPS
returns-then-plan-gt-MOST_STEPS c =
    let short : length c.args.model.now ≤ most_model_bytes = leb-true (length c.args.model.now) most_model_bytes (sym c.length_fits.ensures ∙ c.if-length_fits.true) in
    told_same _ (check_long_plan _ _ (short) c.if-plan-gt-MOST_STEPS.true) c.refused_plan.ensures

pub returns-in-Ok : goal.returns-in-Ok
returns-in-Ok c =
    let short : length c.args.model.now ≤ most_model_bytes = leb-true (length c.args.model.now) most_model_bytes (sym c.length_fits.ensures ∙ c.if-length_fits.true) in
    told_same _ (check_read _ _ (short) c.if-plan-gt-MOST_STEPS.false c.in-Ok.ensures.number) c.follow.ensures

pub returns-in-Err : goal.returns-in-Err
returns-in-Err c =
    let short : length c.args.model.now ≤ most_model_bytes = leb-true (length c.args.model.now) most_model_bytes (sym c.length_fits.ensures ∙ c.if-length_fits.true) in
    told_same _ (check_refused _ _ _ (short) c.if-plan-gt-MOST_STEPS.false (c.number.ensures.number ∙ c.in-Err.ensures.number) (omega (arith, c.number.ensures.number, number_positive c.in-Err.refusal))) c.refused_plan-in-Err.ensures

pub returns : goal.returns
returns c =
    let a = c.args in
    told_same _ (check_long_model _ _ (leb-false (length a.model.now) most_model_bytes (sym c.length_fits.ensures ∙ c.if-length_fits.false))) c.refused_plan-2.ensures
