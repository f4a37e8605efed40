-- `search_visits::visits::expand_node` meets its contract.
use Rattle.search_visits.proofs.Visiting.{grown_leaves}
use Rattle.search_visits.proofs.visits.expand_node.Goals as goal

pub returns : goal.returns
returns c =
    let a = c.args in
    grown_leaves a.model.now a.outline.now a.words.now a.node.now a.limits.width a.limits.length a.spot.layer a.spot.slot
    a.round c.requires.0 c.g_in-g.ensures a.state.now c.expand-x.new.layer c.requires.1.copied c.requires.1.before_limit c.expand-x.auto.layer c.expand-x.result c.expand-x.ensures c.count_one.result c.count_one.ensures
    c.told.result c.told.ensures
