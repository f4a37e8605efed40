-- `prepare::guards::joins` meets its contract.
use mathlib.Core.Logic.{inr}
use borrow.Author.Tests.{eqb-true}
use Rattle.model.specs.Sets.{intersection}
use Rattle.prepare.proofs.guards.joins.Goals as goal

pub returns-then-variable-t : goal.returns-then-variable-t
unfolding intersection
returns-then-variable-t c e =
    record { apart = inr (c.if-variable-t.true, eqb-true _ _ e) }
