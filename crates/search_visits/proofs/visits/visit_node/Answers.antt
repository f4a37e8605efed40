-- `search_visits::visits::visit_node` meets its contract.
use Prim.Native.Nat.{ℕ}
use mathlib.Core.Path.{◌≡◌, sym, ap, ◌∙◌}
use mathlib.Core.List.{List}
use Rattle.steps.specs.Answers.{status_answer}
use Rattle.steps.specs.InBytes.{system_in, state_in}
use Rattle.beam.specs.Nodes.{state_words}
use Rattle.search_visits.proofs.Visiting.{state_copied, base_leaves, advance_leaves, trouble_leaves}
use Rattle.search_visits.proofs.visits.visit_node.Goals as goal

pub returns-in-Ok-Base : goal.returns-in-Ok-Base
returns-in-Ok-Base c =
    let copied : c.copy_words.new.to ≡ state_words c.args.node.now = state_copied c.args.node.now c.copy_words.new.to c.requires.0.long c.copy_words.ensures in
    let asked : (c.status.result ≡ status_answer ((system_in c.args.model.now).status (state_in c.args.model.now (state_words c.args.node.now)))) = c.status.ensures
    ∙ ap (λ (s : List ℕ). status_answer ((system_in c.args.model.now).status (state_in c.args.model.now s))) (copied) in
    let a = c.args in
    base_leaves a.model.now a.outline.now a.words.now a.node.now a.limits.width a.limits.length a.spot.layer a.spot.slot
    a.round c.requires.0 a.limits.budget a.plan.now _ c.reached.result c.g_in-g.ensures (rw c.in-Ok-Base.field-0-is at (sym c.in-Ok-Base.is ∙ asked)) c.reached.ensures

pub returns-in-Ok-Unfinished : goal.returns-in-Ok-Unfinished
returns-in-Ok-Unfinished c =
    let copied : c.copy_words.new.to ≡ state_words c.args.node.now = state_copied c.args.node.now c.copy_words.new.to c.requires.0.long c.copy_words.ensures in
    let asked : (c.status.result ≡ status_answer ((system_in c.args.model.now).status (state_in c.args.model.now (state_words c.args.node.now)))) = c.status.ensures
    ∙ ap (λ (s : List ℕ). status_answer ((system_in c.args.model.now).status (state_in c.args.model.now s))) (copied) in
    let a = c.args in
    advance_leaves a.model.now a.outline.now a.words.now a.node.now a.limits.width a.limits.length a.spot.layer a.spot.slot
    a.round c.requires.0 a.limits.budget _ a.plan.now c.advance.result (rw c.in-Ok-Unfinished.field-0-is at (sym c.in-Ok-Unfinished.is ∙ asked)) c.advance.ensures

pub returns-in-Err : goal.returns-in-Err
returns-in-Err c =
    let copied : c.copy_words.new.to ≡ state_words c.args.node.now = state_copied c.args.node.now c.copy_words.new.to c.requires.0.long c.copy_words.ensures in
    let asked : (c.status.result ≡ status_answer ((system_in c.args.model.now).status (state_in c.args.model.now (state_words c.args.node.now)))) = c.status.ensures
    ∙ ap (λ (s : List ℕ). status_answer ((system_in c.args.model.now).status (state_in c.args.model.now s))) (copied) in
    let a = c.args in
    trouble_leaves a.model.now a.outline.now a.words.now a.node.now a.limits.width a.limits.length a.spot.layer a.spot.slot
    a.round c.requires.0 a.limits.budget a.plan.now c.g_in-g.ensures (sym c.in-Err.is ∙ asked) c.number.ensures.kept
