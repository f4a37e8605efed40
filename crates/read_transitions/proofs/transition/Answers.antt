-- `transition` meets its contract. Conditions, costs and effects, one behind the other.
use mathlib.Core.Path.{◌∙◌}
use Rattle.read_declarations.proofs.Positions.{passed_on}
use Rattle.read_transitions.proofs.Reading.{transition_conditions_refused, transition_costs_refused, transition_effects}
use Rattle.read_transitions.proofs.transition.Goals as goal

pub returns-in_err-conditioned : goal.returns-in_err-conditioned
returns-in_err-conditioned c =
    passed_on c.from_residual.result c.from_residual.ensures.1 ∙ transition_conditions_refused _ _ c.args.start c.args.model.now c.in_err-conditioned.ensures

pub returns-in_err-costed : goal.returns-in_err-costed
returns-in_err-costed c =
    passed_on c.from_residual-in_err-costed.result c.from_residual-in_err-costed.ensures.1 ∙ transition_costs_refused _ _ c.args.start c.args.model.now c.in_ok-conditioned.ensures c.in_err-costed.ensures

pub returns : goal.returns
returns c =
    c.effects.ensures ∙ transition_effects _ _ c.args.start c.args.model.now c.in_ok-conditioned.ensures c.in_ok-costed.ensures
