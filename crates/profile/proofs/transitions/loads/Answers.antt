-- `profile::transitions::loads` meets its contract.
use native.Mathlib.Omega.{arith}
use Rattle.profile.proofs.Removing.{costs_inside, loads_none, loads_as}
use borrow.Author.Tests.{eq-eqb}
use Rattle.profile.proofs.transitions.loads.Goals as goal

pub behind_costs-effects-requires : goal.behind_costs-effects-requires
behind_costs-effects-requires c =
    omega (arith, costs_inside _ _ _ c.behind_conditions-costs.ensures c.requires.stands)

pub returns-then-object-ne0 : goal.returns-then-object-ne0
returns-then-object-ne0 c =
    loads_as _ _ _ c.behind_conditions-costs.ensures _ _ c.behind_costs-effects.ensures c.removed-object.ensures c.if-object-ne0.true c.requires_object.ensures

pub returns-else-object-ne0 : goal.returns-else-object-ne0
returns-else-object-ne0 c =
    rw (eq-eqb _ _ c.if-object-ne0.false)
    (loads_none _ _ _ c.behind_conditions-costs.ensures _ _ c.behind_costs-effects.ensures c.removed-object.ensures c.if-object-ne0.false)
