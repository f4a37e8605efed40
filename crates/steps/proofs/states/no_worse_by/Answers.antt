-- `steps::states::no_worse_by` meets its contract.
use Rattle.steps.specs.Order.{no_worse_by}
use borrow.Author.Tests.{eq-eqb, ne_eqb}
use Rattle.steps.proofs.states.no_worse_by.Goals as goal

pub returns-then-preference-eq0 : goal.returns-then-preference-eq0
unfolding no_worse_by
returns-then-preference-eq0 c =
    rw (eq-eqb _ 0 c.if-preference-eq0.true)

pub returns-then-preference-eq1 : goal.returns-then-preference-eq1
unfolding no_worse_by
returns-then-preference-eq1 c =
    rw (ne_eqb _ 0 c.if-preference-eq0.false, eq-eqb _ 1 c.if-preference-eq1.true)

pub returns : goal.returns
unfolding no_worse_by
returns c =
    rw (ne_eqb _ 0 c.if-preference-eq0.false, ne_eqb _ 1 c.if-preference-eq1.false)
