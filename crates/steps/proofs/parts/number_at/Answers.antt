-- `steps::parts::number_at` meets its contract.
use Rattle.steps.proofs.Evaluated.{number_promised}
use Rattle.steps.proofs.parts.number_at.Goals as goal

pub returns : goal.returns
returns c =
    number_promised _ _ c.requires.0 _ _ _ c.number.ensures.run
