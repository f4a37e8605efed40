-- `search_visits::visits::told` meets its contract.
use mathlib.Core.Bool.{◌||◌}
use mathlib.Core.Path.{◌≡◌, refl, ap, ◌∙◌}
use Rattle.std.specs.Prelude.{Err}
use Rattle.search_expansion.specs.declared.trials.Halt.{Halt}
use Rattle.search_expansion.specs.declared.trials.Halt.TheVariants as H
use Rattle.search_visits.proofs.Visiting.{told_on, told_before, told_at}
use Rattle.search_visits.proofs.visits.told.Goals as goal
use Rattle.search_visits.proofs.visits.told.Goals.{then-round, else-round}

pub returns-in-Ok : goal.returns-in-Ok
returns-in-Ok c =
    let marked : c.if-round.width ≡ (c.args.round.marks.width || c.args.x.cut) = elim c.if-round.branch [ then-round w ↦ rw (w.width-is, w.if-round.true) refl | else-round w ↦ rw (w.width-is, w.if-round.false) refl ] in
    told_on c.args.g c.args.i c.args.x c.args.round c.if-round.width marked c.in-Ok.is

pub returns-in-Err-Before : goal.returns-in-Err-Before
returns-in-Err-Before c =
    let marked : c.if-round.width ≡ (c.args.round.marks.width || c.args.x.cut) = elim c.if-round.branch [ then-round w ↦ rw (w.width-is, w.if-round.true) refl | else-round w ↦ rw (w.width-is, w.if-round.false) refl ] in
    let is : c.in-Err-Before.field-0 ≡ H.Before c.in-Err-Before.e = rw c.in-Err-Before.is at c.in-Err-Before.field-0-is in
    told_before c.args.g c.args.i c.args.x c.args.round c.if-round.width marked (c.in-Err-Before.is ∙ ap (λ (h : Halt). Err h) is)

pub returns-in-Err-At : goal.returns-in-Err-At
returns-in-Err-At c =
    let marked : c.if-round.width ≡ (c.args.round.marks.width || c.args.x.cut) = elim c.if-round.branch [ then-round w ↦ rw (w.width-is, w.if-round.true) refl | else-round w ↦ rw (w.width-is, w.if-round.false) refl ] in
    let is : c.in-Err-At.field-0 ≡ H.At c.in-Err-At.e c.in-Err-At.c c.in-Err-At.t = rw c.in-Err-At.is at c.in-Err-At.field-0-is in
    told_at c.args.g c.args.i c.args.x c.args.round c.if-round.width marked (c.in-Err-At.is ∙ ap (λ (h : Halt). Err h) is)
