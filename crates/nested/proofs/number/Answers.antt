-- `nested::number` meets its contract.
use mathlib.Core.Path.{sym, ◌∙◌}
use native.Mathlib.Omega.{arith}
use borrow.Author.Rules.{rules}
use mir.Syntax.{w64}
use mir.Val.{SFits}
use Rattle.words.proofs.Integers.{back}
use Rattle.cursor.specs.Places.{Begins}
use Rattle.cursor.proofs.NumberLaws.{operation_some}
use Rattle.nested.proofs.Waiting.{some_used, reads_first, reads_second, reads_operation}
use Rattle.nested.proofs.number.Goals as goal

pub loop-told-preserved-then-o-lt128 : goal.loop-told-preserved-then-o-lt128
loop-told-preserved-then-o-lt128 c =
    (reads_first _ _ _ _ _ _ c.loop-told.invariant.0 c.if-told.true c.if-n-eq0.false c.if-o-lt128.true c.biased.ensures.0 c.biased.ensures.1, c.loop-told.invariant.1)

pub loop-told-preserved-else-o-lt128 : goal.loop-told-preserved-else-o-lt128
loop-told-preserved-else-o-lt128 c =
    let f : SFits w64 c.signed_word.result = record { sfits = omega (arith, c.signed_word.ensures.1) } in
    let g : SFits w64 c.in_ok-z.z = search rules in
    rw (back g) (reads_second _ _ _ _ _ _ c.loop-told.invariant.0 c.if-told.true c.if-n-eq0.false (λ l. absurd (omega (arith, l, c.if-o-lt128.false))) c.signed_word.ensures.0 (rw (back f, c.in_ok-z.was) at c.operation.ensures), c.loop-told.invariant.1)

pub overflow_add-q : goal.overflow_add-q
overflow_add-q c =
    let begins : (Begins c.args.m.now.now c.loop-told.q c.first_byte-b.result) = c.first_byte-b.ensures.begins (operation_some c.first_byte-b.result (sym c.is_operation.ensures ∙ c.if-is_operation.true)) in
    omega (arith, (begins).there.near)

pub loop-told-smaller-then-is_operation : goal.loop-told-smaller-then-is_operation
loop-told-smaller-then-is_operation c =
    let begins : (Begins c.args.m.now.now c.loop-told.q c.first_byte-b.result) = c.first_byte-b.ensures.begins (operation_some c.first_byte-b.result (sym c.is_operation.ensures ∙ c.if-is_operation.true)) in
    omega (arith, (begins).there.inside)

pub loop-told-preserved-then-is_operation : goal.loop-told-preserved-then-is_operation
loop-told-preserved-then-is_operation c =
    let begins : (Begins c.args.m.now.now c.loop-told.q c.first_byte-b.result) = c.first_byte-b.ensures.begins (operation_some c.first_byte-b.result (sym c.is_operation.ensures ∙ c.if-is_operation.true)) in
    (reads_operation _ _ _ _ _ _ c.loop-told.invariant.0 c.if-told.false (begins) (sym c.is_operation.ensures ∙ c.if-is_operation.true) c.if-n-eq-MOST_WAITING.false, c.loop-told.invariant.1)

pub loop-told-smaller : goal.loop-told-smaller
loop-told-smaller c =
    let number = c.in_ok-z-2.ensures.0 in
    omega (arith, number.ends, number.is.there.inside, some_used _ _ _ _ _ _ number.is)
