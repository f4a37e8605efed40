-- `steps::conditions::rest_holds` meets its contract.
use mathlib.Core.Path.{◌∙◌}
use Rattle.steps.proofs.Holding.{trying_first, trying_last}
use Rattle.steps.proofs.conditions.rest_holds.Goals as goal

pub returns : goal.returns
returns c =
    trying_last _ _ _ _ (trying_first _ _ _) (λ e. c.if-byte_at-eq8.false (c.byte_at.ensures ∙ e))
