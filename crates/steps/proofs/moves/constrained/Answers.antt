-- `steps::moves::constrained` meets its contract.
use Rattle.steps.proofs.Moving.{constraints_met, constraint_fails, constraint_troubles}
use mathlib.Core.Path.{sym, ◌∙◌}
use Rattle.steps.proofs.moves.constrained.Goals as goal

pub returns-then-holds : goal.returns-then-holds
returns-then-holds c =
    constraints_met _ _ _ _ _ (sym c.in-Ok.is ∙ c.child_holds.ensures) c.if-holds.true

pub returns-else-holds : goal.returns-else-holds
returns-else-holds c =
    constraint_fails _ _ _ _ _ (sym c.in-Ok.is ∙ c.child_holds.ensures) c.if-holds.false

pub returns-in-Err : goal.returns-in-Err
returns-in-Err c =
    constraint_troubles _ _ _ _ _ (sym c.in-Err.is ∙ c.child_holds.ensures)
