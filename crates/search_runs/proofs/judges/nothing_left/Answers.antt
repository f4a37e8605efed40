-- `search_runs::judges::nothing_left` meets its contract.
use mathlib.Core.Path.{◌≡◌, refl, sym, ◌∙◌}
use mathlib.Core.Bool.{not, ◌&&◌}
use Rattle.search_runs.specs.Widths.{nothing_left}
use Rattle.search_runs.proofs.judges.nothing_left.Goals as goal
use Rattle.search_runs.proofs.judges.nothing_left.Goals.{then-not-round, else-not-round}

pub returns-then-not-round-2 : goal.returns-then-not-round-2
unfolding nothing_left
returns-then-not-round-2 c =
    let unmarked : c.if-not-round.value ≡ (not c.args.round.marks.width && not c.args.round.marks.length) = elim c.if-not-round.branch [ then-not-round w ↦ rw (w.value-is, w.if-not-round.true) refl | else-not-round w ↦ rw (w.value-is, w.if-not-round.false) refl ] in
    rw (sym unmarked ∙ c.if-not-round-2.true) refl

pub returns-else-not-round-2 : goal.returns-else-not-round-2
unfolding nothing_left
returns-else-not-round-2 c =
    let unmarked : c.if-not-round.value ≡ (not c.args.round.marks.width && not c.args.round.marks.length) = elim c.if-not-round.branch [ then-not-round w ↦ rw (w.value-is, w.if-not-round.true) refl | else-not-round w ↦ rw (w.value-is, w.if-not-round.false) refl ] in
    rw (c.if-not-round-2.false, sym unmarked ∙ c.if-not-round-2.false) refl
