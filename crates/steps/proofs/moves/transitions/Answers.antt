-- `steps::moves::transitions` meets its contract.
use mathlib.Core.Path.{◌∙◌}
use Rattle.model.specs.Steps.{system_of}
use Rattle.steps.proofs.moves.transitions.Goals as goal

pub returns : goal.returns
unfolding system_of
returns c =
    c.word_at.ensures ∙ c.requires.outlines.transition_count
