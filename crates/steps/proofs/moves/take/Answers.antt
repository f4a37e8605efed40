-- `steps::moves::take` meets its contract.
use Rattle.std.proofs.lemmas.Result.{err_from_is_err_and}
use Rattle.steps.proofs.Moving.{take_stops, effects_begin, take_done, take_troubles}
use Rattle.steps.proofs.moves.take.Goals as goal

pub effects-requires : goal.effects-requires
effects-requires c =
    (c.requires.0, effects_begin _ _ c.args.state.now _ c.costs_at.ensures.0 c.in_ok-cost.was c.requires.1, c.requires.2, c.costs_at.ensures.2)

pub returns : goal.returns
returns c =
    (take_done _ c.args.at _ _ c.costs_at.ensures.0 c.in_ok-cost.was _ _ c.effects.ensures.0 c.in_ok-effects.was, c.effects.ensures.1)

pub returns-in_err-effects : goal.returns-in_err-effects
returns-in_err-effects c =
    let p = err_from_is_err_and c.from_residual-in_err-effects.result c.from_residual-in_err-effects.ensures.1 in
    rw (p.1, p.2) (take_troubles _ c.args.at _ _ c.costs_at.ensures.0 c.in_ok-cost.was _ _ c.effects.ensures.0 c.in_err-effects.was, c.effects.ensures.1)

pub returns-in_err-cost : goal.returns-in_err-cost
returns-in_err-cost c =
    let p = err_from_is_err_and c.from_residual.result c.from_residual.ensures.1 in
    rw (p.1, p.2) (take_stops _ c.args.at _ _ c.costs_at.ensures.0 _ c.in_err-cost.was, c.costs_at.ensures.2)
