-- `steps::hashes::mix` meets its contract.
use borrow.Author.Rules.{rules}
use Rattle.steps.specs.Hashes.{mix}
use Rattle.steps.proofs.hashes.mix.Goals as goal

pub returns : goal.returns
unfolding mix
returns c =
    search rules
