-- `steps::conditions::status` meets its contract. The invariant: the base cases passed do not hold.
use Prim.Native.Nat.{◌<◌}
use native.Mathlib.Omega.{arith}
use lib.ListN.{length}
use Rattle.outline.specs.Outline.{model_of}
use Rattle.steps.proofs.Trials.{CaseAt, case_at, seeking_more, seeking_base, seeking_troubles, seeking_last}
use Rattle.steps.proofs.conditions.status.Goals as goal

pub returns-in-All : goal.returns-in-All
returns-in-All c =
    let more : c.loop-k.k < length (model_of c.args.model.now).base_cases = omega (arith, c.loop-k-test.true, c.word_at-count.ensures, c.requires.outlines.base_case_count) in
    let item : CaseAt c.args.model.now c.loop-k.k c.word_at-at.result = case_at c.requires (more) c.word_at-at.ensures in
    seeking_base _ _ _ c.loop-k.invariant (item) _ c.conditions_hold.ensures c.in-All.is

pub loop-k-preserved : goal.loop-k-preserved
loop-k-preserved c =
    let more : c.loop-k.k < length (model_of c.args.model.now).base_cases = omega (arith, c.loop-k-test.true, c.word_at-count.ensures, c.requires.outlines.base_case_count) in
    let item : CaseAt c.args.model.now c.loop-k.k c.word_at-at.result = case_at c.requires (more) c.word_at-at.ensures in
    seeking_more _ _ _ c.loop-k.invariant (item) _ c.conditions_hold.ensures c.in-Fails.is

pub returns-in-Trouble : goal.returns-in-Trouble
returns-in-Trouble c =
    let more : c.loop-k.k < length (model_of c.args.model.now).base_cases = omega (arith, c.loop-k-test.true, c.word_at-count.ensures, c.requires.outlines.base_case_count) in
    let item : CaseAt c.args.model.now c.loop-k.k c.word_at-at.result = case_at c.requires (more) c.word_at-at.ensures in
    seeking_troubles _ _ _ c.loop-k.invariant (item) _ c.conditions_hold.ensures c.in-Trouble.is

pub returns : goal.returns
returns c =
    seeking_last _ _ c.loop-k.k c.loop-k.invariant (omega (arith, c.loop-k-test.false, c.word_at-count.ensures, c.requires.outlines.base_case_count))
