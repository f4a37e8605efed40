-- `prepare::guards::guard_of` meets its contract. The invariant: what was joined so far is a guard of the transition.
use mathlib.Core.Path.{sym, ◌∙◌}
use Rattle.model.specs.Sets.{union}
use Rattle.prepare.proofs.Guarding.{guarding_none, guarding_more}
use Rattle.prepare.proofs.guards.guard_of.Goals as goal

pub loop-t-init : goal.loop-t-init
loop-t-init c =
    guarding_none _ _

pub loop-t-preserved : goal.loop-t-preserved
unfolding union
loop-t-preserved c =
    guarding_more _ _ _ _ _ _ _ c.loop-t.invariant (sym c.byte_at.ensures ∙ c.loop-t-test.true) c.in-Some.ensures.says c.in-Some.ensures.within (c.joins.ensures c.if-joins.true)
