-- `search_visits::visits::count_one` meets its contract.
use Rattle.search_visits.proofs.Visiting.{counted_one}
use Rattle.search_visits.proofs.visits.count_one.Goals as goal

pub returns : goal.returns
returns c =
    counted_one c.args.round _ c.counted-tally.ensures
