-- `steps::parts::element_at` meets its contract.
use Rattle.steps.proofs.Evaluated.{element_promised}
use Rattle.steps.proofs.parts.element_at.Goals as goal

pub returns : goal.returns
returns c =
    element_promised _ _ c.requires.0 _ _ _ c.element.ensures.run
