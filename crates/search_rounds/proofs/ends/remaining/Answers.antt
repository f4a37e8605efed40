-- `search_rounds::ends::remaining` meets its contract.
use Rattle.search_rounds.proofs.Ending.{remains_below, remains_all}
use Rattle.search_rounds.proofs.ends.remaining.Goals as goal

pub returns-in-Some : goal.returns-in-Some
returns-in-Some c =
    remains_below _ c.in-Some.is c.keep_below.ensures

pub returns-in-None : goal.returns-in-None
returns-in-None c =
    remains_all c.in-None.is c.requires
