-- `search_visits::visits::reached` meets its contract.
use mathlib.Core.Path.{sym, ◌∙◌}
use Rattle.search_visits.proofs.Visiting.{traced, reached_best, reached_worse}
use Rattle.search_visits.proofs.visits.reached.Goals as goal

pub returns-then-below_best : goal.returns-then-below_best
returns-then-below_best c =
    let a = c.args in
    reached_best a.words.now a.plan.now a.w a.spot.layer a.spot.slot a.g a.round _ c.new_best.result
    (sym c.if-below_best.true ∙ c.below_best.ensures)
    (traced a.words.now a.plan.now _ a.w a.spot.layer a.spot.slot c.trace.ensures) c.new_best.ensures

pub returns : goal.returns
returns c =
    let a = c.args in
    reached_worse a.words.now a.plan.now a.w a.spot.layer a.spot.slot a.g a.round (sym c.if-below_best.false ∙ c.below_best.ensures)
