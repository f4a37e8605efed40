-- `prepare::conjuncts::part` meets its contract. The invariant: what is put, what stands in a row and what is left decide as the constraints do.
use Prim.Native.Nat.{ℕ, ◌+◌, ◌-◌, ◌≤◌, ◌<◌}
use mathlib.Core.Path.{◌≡◌, sym, ap, ◌∙◌}
use mathlib.Core.List.{List}
use native.Mathlib.Omega.{arith}
use borrow.Author.Tests.{eqb-true, ltb-true}
use lib.ListN.{length, drop, length-drop}
use Rattle.laws.proofs.Bools.{and_both}
use Rattle.model.specs.Syntax.{Condition}
use Rattle.outline.specs.Outline.{model_of}
use Rattle.eval_sets.specs.Forms.{span}
use Rattle.eval_sets.proofs.Spans.{span_within}
use Rattle.prepare.specs.Layout.{conjuncts_from, most_conjuncts}
use Rattle.prepare.specs.Promised.{Room}
use Rattle.prepare.proofs.Dividing.{begin, divided, put_first, due_inside}
use Rattle.prepare.proofs.Kept.{room_kept}
use Rattle.prepare.proofs.conjuncts.part.Goals as goal

pub loop-due-init : goal.loop-due-init
loop-due-init c =
    begin _ _ c.requires.0 c.requires.1.0 c.requires.1.1 c.word_at-at.ensures

pub loop-due-preserved-then-divides : goal.loop-due-preserved-then-divides
loop-due-preserved-then-divides c =
    let later : List Condition = drop (c.args.k + 1) (model_of c.args.model.now).constraints in
    let counted : c.word_at.result ≡ c.args.k + 1 + length (later) = let all : c.word_at.result ≡ length (model_of c.args.model.now).constraints = c.word_at.ensures ∙ c.requires.0.outlines.constraint_count in
    omega (arith, all, c.requires.1.1, length-drop (c.args.k + 1) (model_of c.args.model.now).constraints) in
    let both = and_both _ _ (sym c.divides.ensures ∙ c.if-divides.true) in
    let taken : c.loop-due.n + c.loop-due.due + (c.word_at.result - c.args.k - 1) < most_conjuncts = ltb-true _ _ both.1 in
    divided _ c.loop-due.invariant c.loop-due-test.true (eqb-true _ _ both.0) (omega (arith, taken, counted))

pub put_conjunct-requires : goal.put_conjunct-requires
put_conjunct-requires c =
    let room : Room c.args.model.now c.loop-due.outline = room_kept {end = conjuncts_from} (omega arith) c.loop-due.invariant.kept c.requires.0 in
    let later : List Condition = drop (c.args.k + 1) (model_of c.args.model.now).constraints in
    let fits : c.loop-due.n + c.loop-due.due + length (later) ≤ most_conjuncts = c.loop-due.invariant.fits in
    (room, omega (arith, fits, c.loop-due-test.true))

pub overflow_add-at-else-divides : goal.overflow_add-at-else-divides
overflow_add-at-else-divides c =
    let here : c.loop-due.at ≤ length c.args.model.now = due_inside _ c.loop-due.invariant c.loop-due-test.true in
    let spanned : c.loop-due.at + c.skip-at.result ≤ length c.args.model.now = let bytes = c.args.model.now in
    let at = c.loop-due.at in
    let is : c.skip-at.result ≡ span (drop at bytes) 0 1 = c.skip-at.ensures ∙ ap (λ (e : List ℕ). span e 0 1) c.after.ensures in
    omega (arith, is, span_within (drop at bytes) 0 1, length-drop at bytes, here) in
    record { fits = omega (arith, spanned) }

pub loop-due-preserved : goal.loop-due-preserved
loop-due-preserved c =
    let room : Room c.args.model.now c.loop-due.outline = room_kept {end = conjuncts_from} (omega arith) c.loop-due.invariant.kept c.requires.0 in
    rw (c.skip-at.ensures, c.after.ensures) (put_first _ c.loop-due.invariant c.loop-due-test.true (room).outlines c.put_conjunct.ensures)
