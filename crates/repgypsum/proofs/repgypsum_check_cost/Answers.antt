-- `repgypsum::repgypsum_check_cost` gives the high figure of the cost.
use mathlib.Core.Path.{ap}
use Rattle.model.specs.declared.Cost.{Cost}
use Rattle.model.specs.Check.{answer_cost}
use Rattle.repgypsum.proofs.repgypsum_check_cost.Goals as goal

pub returns : goal.returns
unfolding answer_cost
returns c =
    ap (λ (x : Cost). x.high) c.check-checked.ensures.cost
