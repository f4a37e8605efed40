-- `repgypsum::repgypsum_check_low` gives the low figure of the cost.
use mathlib.Core.Path.{ap}
use Rattle.model.specs.declared.Cost.{Cost}
use Rattle.model.specs.Check.{answer_low}
use Rattle.repgypsum.proofs.repgypsum_check_low.Goals as goal

pub returns : goal.returns
unfolding answer_low
returns c =
    ap (λ (x : Cost). x.low) c.check-checked.ensures.cost
