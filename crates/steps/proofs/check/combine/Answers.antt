-- `steps::check::combine` meets its contract.
use mathlib.Core.Path.{◌∙◌}
use Rattle.steps.proofs.Following.{rule_is}
use Rattle.steps.proofs.check.combine.Goals as goal

pub returns : goal.returns
returns c =
    c.combine.ensures ∙ rule_is _ _ c.requires.0 _ _ _ c.word_at.ensures
