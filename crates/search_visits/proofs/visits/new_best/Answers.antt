-- `search_visits::visits::new_best` meets its contract.
use mathlib.Core.Path.{sym, ◌∙◌}
use Rattle.search_visits.proofs.Visiting.{best_cheapest, best_contradicted, best_on}
use Rattle.search_visits.proofs.visits.new_best.Goals as goal

pub returns-then-at_most-2 : goal.returns-then-at_most-2
returns-then-at_most-2 c =
    best_cheapest c.args.k c.args.g c.args.round (sym c.if-at_most.true ∙ c.at_most.ensures) (sym c.if-at_most-2.true ∙ c.at_most-then-at_most.ensures)

pub returns-then-at_most : goal.returns-then-at_most
returns-then-at_most c =
    best_contradicted c.args.k c.args.g c.args.round (sym c.if-at_most.true ∙ c.at_most.ensures) (sym c.if-at_most-2.false ∙ c.at_most-then-at_most.ensures)

pub returns : goal.returns
returns c =
    best_on c.args.k c.args.g c.args.round (sym c.if-at_most.false ∙ c.at_most.ensures)
