-- `steps::states::no_worse_at` meets its contract.
use mathlib.Core.Path.{◌∙◌}
use Rattle.steps.proofs.Masks.{no_worse_under}
use Rattle.steps.proofs.states.no_worse_at.Goals as goal

pub returns : goal.returns
returns c =
    c.no_worse_by.ensures ∙ no_worse_under c.requires.1 c.word_at-mask.ensures c.word_at-preference.ensures _ _ c.word_at.type_inv c.word_at-2.type_inv c.word_at.ensures c.word_at-2.ensures
