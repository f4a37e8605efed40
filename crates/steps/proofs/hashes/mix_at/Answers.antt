-- `steps::hashes::mix_at` meets its contract.
use mathlib.Core.Path.{◌∙◌}
use Rattle.steps.proofs.Masks.{mixed_under}
use Rattle.steps.proofs.hashes.mix_at.Goals as goal

pub returns : goal.returns
returns c =
    c.mix_word.ensures ∙ mixed_under c.requires.1 _ _ c.word_at.type_inv c.word_at.ensures c.word_at-2.ensures
