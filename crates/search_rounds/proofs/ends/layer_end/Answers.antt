-- `search_rounds::ends::layer_end` meets its contract.
use Rattle.search_rounds.proofs.Ending.{layer_ends}
use Rattle.search_rounds.proofs.ends.layer_end.Goals as goal

pub returns : goal.returns
returns c =
    layer_ends _ _ c.args.round _ _ c.remaining-count.ensures c.raised-low.ensures
