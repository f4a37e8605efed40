-- `steps::hashes::mix_word` meets its contract.
use Rattle.steps.specs.Hashes.{mix_word}
use Rattle.steps.proofs.hashes.mix_word.Goals as goal

pub returns : goal.returns
unfolding mix_word
returns c =
    rw (c.mix-2.ensures, c.mix.ensures)
