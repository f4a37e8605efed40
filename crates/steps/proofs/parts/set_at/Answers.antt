-- `steps::parts::set_at` meets its contract.
use Rattle.steps.proofs.Evaluated.{set_promised, set_told}
use Rattle.steps.proofs.parts.set_at.Goals as goal

pub returns-then-end-at : goal.returns-then-end-at
returns-then-end-at c =
    set_promised _ _ c.requires.0 _ _ _ c.set.ensures.run

pub returns : goal.returns
returns c =
    set_told _ _ c.requires.0 _ _ _ (c.set-members.ensures c.if-end-at.false) 0
