-- `search_expansion::children::below_best` meets its contract.
use Rattle.search_expansion.specs.Expansion.{below_cost}
use Rattle.search_expansion.proofs.children.below_best.Goals as goal

pub returns-in-Some : goal.returns-in-Some
unfolding below_cost
returns-in-Some c =
    rw c.in-Some.is c.less.ensures

pub returns-in-None : goal.returns-in-None
unfolding below_cost
returns-in-None c =
    rw c.in-None.is
