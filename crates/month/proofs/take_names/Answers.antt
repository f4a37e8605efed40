-- `month::take_names`: the list is over, or cannot be read, or a line more of it is answered.
use Rattle.std.proofs.Common.{◌≡◌, false, sym, ◌∙◌, ◌<◌, arith, rules, eqb, ltb-true}
use borrow.Author.Tests.{eqb-false}
use Rattle.month_names.specs.Names.{most_names}
use Rattle.month.proofs.Taken.{so_far_none, so_far_addable, so_far_more, one_name_more, month_over, month_full, month_last}
use Rattle.month.proofs.take_names.Goals as goal
use Rattle.month.proofs.take_names.Goals.{else-is_last-via-then-is_last+else-is_empty, else-is_last-via-else-is_last}

pub loop-line-init : goal.loop-line-init
loop-line-init g c = so_far_none _ c.none_yet-figures.ensures

pub returns-in_default : goal.returns-in_default
returns-in_default g c = month_over _ _ c.loop-line.invariant (λ e. cc)

pub returns-then-is_empty : goal.returns-then-is_empty
returns-then-is_empty g c = month_over _ _ c.loop-line.invariant (λ e. cc)

pub added-figures-requires : goal.added-figures-requires
added-figures-requires g c = so_far_addable _ c.loop-line.invariant _ _ c.read_line.ensures c.in_ok-answer.ensures

pub returns-then-is_last-2 : goal.returns-then-is_last-2
returns-then-is_last-2 g c =
    let some : eqb c.read_line.new.line.length 0 ≡ false =
    elim c.else-is_last.branch [
      | else-is_last-via-then-is_last+else-is_empty w ↦ sym w.is_empty.ensures ∙ w.if-is_empty.false
      | else-is_last-via-else-is_last w ↦ cc (c.if-is_last-2.true, w.if-is_last.false)
    ] in
    month_last _ _ c.loop-line.invariant _ _ c.read_line.ensures c.in_ok-answer.ensures (eqb-false _ _ some)
    (sym c.takes_more.ensures ∙ c.loop-line-test.true) c.added-figures.ensures

pub loop-line-smaller : goal.loop-line-smaller
loop-line-smaller g c =
    let fewer : c.loop-line.figures.names < most_names = ltb-true _ _ (sym c.takes_more.ensures ∙ c.loop-line-test.true) in
    omega (arith, one_name_more _ c.loop-line.invariant _ _ c.read_line.ensures c.in_ok-answer.ensures _ c.added-figures.ensures)

pub loop-line-preserved : goal.loop-line-preserved
loop-line-preserved g c =
    so_far_more _ c.loop-line.invariant _ _ c.read_line.ensures c.in_ok-answer.ensures _
    (sym c.takes_more.ensures ∙ c.loop-line-test.true) c.added-figures.ensures

pub returns : goal.returns
returns g c = month_full _ c.loop-line.invariant (sym c.takes_more.ensures ∙ c.loop-line-test.false)
