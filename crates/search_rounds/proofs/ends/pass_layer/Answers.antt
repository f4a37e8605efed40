-- `search_rounds::ends::pass_layer` meets its contract.
use Rattle.beam.proofs.Moves.{layer_of, width_positive}
use Rattle.search_rounds.proofs.Passing.{passes_over, passes_on}
use Rattle.search_rounds.proofs.ends.pass_layer.Goals as goal

pub layer_end-end-requires : goal.layer_end-end-requires
layer_end-end-requires c =
    let held = c.layer-x.ensures.held in
    (layer_of held, (width_positive held, c.requires.0.narrow))

pub returns-in-Ok : goal.returns-in-Ok
returns-in-Ok c =
    let pre = c.requires in
    passes_on _ pre.0 c.layer-x.ensures c.in-Ok.is c.layer_end-end.ensures pre.1.0
    c.layer-x.auto.plan c.enter_next-follows.ensures

pub returns-in-Err : goal.returns-in-Err
returns-in-Err c =
    passes_over _ c.requires.0 c.layer-x.ensures _ c.in-Err.is
