-- `steps::conditions::conditions_hold` meets its contract. The invariant: the conditions passed hold.
use mathlib.Core.Path.{◌≡◌, sym, ◌∙◌}
use lib.ListN.{get_or}
use Rattle.steps.proofs.Holding.{trying_first, trying_more, trying_fails, trying_troubles, trying_last}
use Rattle.steps.proofs.conditions.conditions_hold.Goals as goal

pub loop-holds-preserved : goal.loop-holds-preserved
loop-holds-preserved c =
    let here : get_or c.args.model.now c.loop-holds.next 0 ≡ 8 = sym c.byte_at.ensures ∙ c.loop-holds-test.true in
    trying_more _ _ _ _ c.loop-holds.invariant (here) _ c.condition_near.ensures.0 c.in-Holds.is c.if-holds.true

pub returns-else-holds : goal.returns-else-holds
returns-else-holds c =
    let here : get_or c.args.model.now c.loop-holds.next 0 ≡ 8 = sym c.byte_at.ensures ∙ c.loop-holds-test.true in
    trying_fails _ _ _ _ c.loop-holds.invariant (here) _ c.condition_near.ensures.0 c.in-Holds.is c.if-holds.false

pub returns-in-Trouble : goal.returns-in-Trouble
returns-in-Trouble c =
    let here : get_or c.args.model.now c.loop-holds.next 0 ≡ 8 = sym c.byte_at.ensures ∙ c.loop-holds-test.true in
    trying_troubles _ _ _ _ c.loop-holds.invariant (here) _ c.condition_near.ensures.0 c.in-Trouble.is

pub returns : goal.returns
returns c =
    trying_last _ _ _ _ c.loop-holds.invariant (λ e. c.loop-holds-test.false (c.byte_at.ensures ∙ e))

pub loop-holds-init : goal.loop-holds-init
loop-holds-init c = trying_first _ _ _
