-- `search_visits::visits::at_limit` meets its contract.
use mathlib.Core.Bool.{Bool, ◌||◌}
use mathlib.Core.Path.{◌≡◌, refl, ap, ◌∙◌}
use Rattle.search_visits.proofs.Visiting.{limited}
use Rattle.search_visits.proofs.visits.at_limit.Goals as goal
use Rattle.search_visits.proofs.visits.at_limit.Goals.{then-round, else-round}

pub returns : goal.returns
returns c =
    let joined : c.if-round.length ≡ (c.args.round.marks.length || c.below_best-below.result) = elim c.if-round.branch [ then-round w ↦ rw (w.length-is, w.if-round.true) refl | else-round w ↦ rw (w.length-is, w.if-round.false) refl ] in
    limited c.args.f c.args.round c.if-round.length
    (joined ∙ ap (λ (b : Bool). c.args.round.marks.length || b) c.below_best-below.ensures)
