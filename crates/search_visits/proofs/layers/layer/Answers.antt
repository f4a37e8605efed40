-- `search_visits::layers::layer` meets its contract. The invariant: what the definition makes of all the nodes is what it makes of those from `i` on.
use native.Mathlib.Omega.{arith}
use mathlib.Core.Path.{sym, ◌∙◌}
use Rattle.search_visits.proofs.Visiting.{met_at}
use Rattle.search_visits.proofs.Layering.{halfway_more, layer_over, layer_done}
use Rattle.search_visits.proofs.layers.layer.Goals as goal

pub visit-x-requires : goal.visit-x-requires
visit-x-requires c =
    let ready = c.loop-i.invariant.ready in
    (met_at ready c.loop-i.i c.loop-i-test.true, ready.plan_room)

pub loop-i-preserved : goal.loop-i-preserved
loop-i-preserved c =
    halfway_more c.loop-i.invariant c.loop-i-test.true _ _ c.visit-x.result c.visit-x.ensures c.visit-x.auto.words
    c.visit-x.auto.plan (sym c.is_err.ensures.value ∙ c.if-is_err.false)

pub returns-then-is_err : goal.returns-then-is_err
returns-then-is_err c =
    layer_over c.loop-i.invariant c.loop-i-test.true _ _ c.visit-x.result c.visit-x.ensures c.visit-x.auto.words
    c.visit-x.auto.plan (sym c.is_err.ensures.value ∙ c.if-is_err.true)

pub returns : goal.returns
returns c =
    layer_done c.loop-i.invariant (omega (arith, c.loop-i-test.false))
