-- `steps::parts::number_with` meets its contract.
use borrow.Author.Rules.{rules}
use Rattle.steps.proofs.Evaluated.{kept_number_told}
use Rattle.steps.proofs.parts.number_with.Goals as goal

pub returns-in-Some : goal.returns-in-Some
returns-in-Some c =
    kept_number_told _ _ c.requires.0 c.args.at _ _ (search rules) c.in-Some.ensures.0 c.in-Some.ensures.1
