-- `solver::entry::search_model` meets its contract: the target, then the rounds and their report.
use Prim.Native.Nat.{ℕ}
use mathlib.Core.Path.{◌≡◌, refl, subst, sym, ap, ◌∙◌}
use mathlib.Core.List.{List, ◌++◌}
use Rattle.std.specs.Prelude as P
use Rattle.std.specs.Prelude.{Some, None, Ok}
use Rattle.model.specs.Costs.{free, hours}
use Rattle.steps.specs.InBytes.{origin_in}
use Rattle.beam.specs.Nodes.{header_of}
use Rattle.search_paths.specs.Routes.{RootIs}
use Rattle.search_visits.specs.Work.{verdict_of}
use Rattle.search_report.specs.Answers.{outcome_of, refusal_of}
use Rattle.solver.proofs.Entering.{target_root, says_run, says_broken, says_troubled}
use Rattle.solver.proofs.entry.search_model.Goals as goal

pub returns-in-Ok-Some : goal.returns-in-Ok-Some
returns-in-Ok-Some c =
    let bounded : c.in-Ok-Some.field-0 ≡ Some c.in-Ok-Some.h = c.in-Ok-Some.field-0-is in
    let target : List ℕ = c.start.new.state in
    let at-root : (h : ℕ) → c.write_root.new.root ≡ header_of free h (hours h) 0 ++ target → RootIs c.args.model.now c.write_root.new.root (origin_in c.args.model.now) (hours h) = λ h. λ e. let a = c.args in
    let bytes = a.model.now in
    subst (λ (l : List ℕ). RootIs bytes l (origin_in bytes) (hours h)) (sym e) (target_root bytes a.widths.now a.limit a.budget (target) h c.start.ensures) in
    says_run _ _ _ _ _ _ _ _ c.enter.ensures _ (c.in-Ok-Some.is ∙ ap (λ (o : P.Option ℕ). Ok o) bounded) _ _ _ _ (at-root _ c.write_root.ensures) c.rounds-stop.ensures c.report.ensures

pub returns-in-Ok-None : goal.returns-in-Ok-None
unfolding outcome_of verdict_of
returns-in-Ok-None c =
    let broken : c.in-Ok-None.field-0 ≡ None = c.in-Ok-None.field-0-is in
    says_broken _ _ _ _ _ _ _ _ c.enter.ensures _ c.width_at.ensures (c.in-Ok-None.is ∙ ap (λ (o : P.Option ℕ). Ok o) broken) refl c.ended_at_target.ensures

pub returns-in-Err : goal.returns-in-Err
unfolding outcome_of refusal_of
returns-in-Err c =
    says_troubled _ _ _ _ _ _ _ _ c.enter.ensures _ _ c.width_at-in-Err.ensures c.in-Err.is refl c.ended_at_target-in-Err.ensures
