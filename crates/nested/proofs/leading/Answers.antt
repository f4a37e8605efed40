-- `nested::leading` meets its contract. The invariant: what waits, and the part that comes next.
use mathlib.Core.Path.{refl, sym, ◌∙◌}
use native.Mathlib.Omega.{arith}
use borrow.Author.Rules.{rules}
use mir.Syntax.{w64}
use mir.Val.{SFits}
use Rattle.words.proofs.Integers.{back}
use Rattle.cursor.specs.Places.{Begins}
use Rattle.cursor.proofs.NumberLaws.{operation_some}
use Rattle.nested.proofs.Waiting.{operation_low, reads_start, reads_led}
use Rattle.nested.proofs.leading.Goals as goal

pub loop-n-init : goal.loop-n-init
loop-n-init c =
    reads_start _ _ _ _ c.requires.0 c.requires.1

pub overflow_add-q : goal.overflow_add-q
overflow_add-q c =
    let begins : (Begins c.args.m.now.now c.loop-n.at c.first_byte-b.result) = c.first_byte-b.ensures.begins (operation_some c.first_byte-b.result (sym c.is_operation.ensures ∙ c.if-is_operation.true)) in
    omega (arith, (begins).there.near)

pub overflow_add-waiting : goal.overflow_add-waiting
overflow_add-waiting c =
    record { fits = omega (arith, operation_low _ (sym c.is_operation.ensures ∙ c.if-is_operation.true)) }

pub loop-n-preserved : goal.loop-n-preserved
loop-n-preserved c =
    let begins : (Begins c.args.m.now.now c.loop-n.at c.first_byte-b.result) = c.first_byte-b.ensures.begins (operation_some c.first_byte-b.result (sym c.is_operation.ensures ∙ c.if-is_operation.true)) in
    let f : SFits w64 c.in-Some.x = search rules in
    reads_led _ _ _ _ _ _ _ _ _ c.loop-n.invariant refl (begins) (sym c.is_operation.ensures ∙ c.if-is_operation.true) c.if-n-eq-MOST_WAITING.false c.in-Some.ensures (rw (back f) at c.biased.ensures.0) c.biased.ensures.1
