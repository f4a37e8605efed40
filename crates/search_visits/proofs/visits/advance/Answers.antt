-- `search_visits::visits::advance` meets its contract.
use native.Mathlib.Omega.{arith}
use Rattle.search_visits.proofs.Visiting.{limit_leaves, expanded_leaves, spent_leaves}
use Rattle.search_visits.proofs.visits.advance.Goals as goal

pub returns-then-spot-limits : goal.returns-then-spot-limits
returns-then-spot-limits c =
    let a = c.args in
    limit_leaves a.model.now a.outline.now a.words.now a.node.now a.limits.width a.limits.length a.spot.layer a.spot.slot
    a.round c.requires.0 a.limits.budget c.at_limit.result c.f_in-f.ensures c.if-spot-limits.true c.at_limit.ensures

pub returns-then-round-limits : goal.returns-then-round-limits
returns-then-round-limits c =
    let a = c.args in
    expanded_leaves a.model.now a.outline.now a.words.now a.node.now a.limits.width a.limits.length a.spot.layer a.spot.slot
    a.round c.requires.0 a.limits.budget _ c.expand_node.result (omega (arith, c.if-spot-limits.false, c.requires.0.depth)) (omega (arith, c.if-round-limits.true)) c.expand_node.ensures

pub returns : goal.returns
returns c =
    let a = c.args in
    spent_leaves a.model.now a.outline.now a.words.now a.node.now a.limits.width a.limits.length a.spot.layer a.spot.slot
    a.round c.requires.0 a.limits.budget (omega arith) (omega arith)
