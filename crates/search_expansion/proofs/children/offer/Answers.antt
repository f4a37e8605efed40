-- `search_expansion::children::offer` meets its contract.
use mathlib.Core.Path.{◌≡◌, sym, ap, ◌∙◌}
use mathlib.Core.List.{◌++◌}
use Rattle.beam_order.specs.Slots.{f_of}
use Rattle.beam_order.proofs.Words.{f_front}
use Rattle.search_expansion.specs.Expansion.{below_cost}
use Rattle.search_expansion.proofs.TrialSteps.{offered_below, offered_not}
use Rattle.search_expansion.proofs.children.offer.Goals as goal

pub returns-then-below_best : goal.returns-then-below_best
returns-then-below_best c =
    let tested : (let a = c.args in below_cost a.parent.best (f_of (a.header.now ++ a.state.now)) ≡ c.below_best.result) = let a = c.args in
    ap (below_cost a.parent.best) (f_front a.header.now a.state.now c.requires.1.1 ∙ sym c.f_in-f.ensures) ∙ sym c.below_best.ensures in
    offered_below c.insert.result (tested ∙ c.if-below_best.true) c.insert.ensures

pub returns-else-below_best : goal.returns-else-below_best
returns-else-below_best c =
    let tested : (let a = c.args in below_cost a.parent.best (f_of (a.header.now ++ a.state.now)) ≡ c.below_best.result) = let a = c.args in
    ap (below_cost a.parent.best) (f_front a.header.now a.state.now c.requires.1.1 ∙ sym c.f_in-f.ensures) ∙ sym c.below_best.ensures in
    offered_not (tested ∙ c.if-below_best.false) c.requires.0
