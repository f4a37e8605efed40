-- `steps::parts::condition_at` meets its contract.
use Rattle.steps.proofs.Evaluated.{condition_promised}
use Rattle.steps.proofs.parts.condition_at.Goals as goal

pub returns : goal.returns
returns c =
    condition_promised _ _ c.requires.0 _ _ _ c.test.ensures.run
