-- `steps::parts::number_short` meets its contract: what a cursor tells of a literal, or of a shifted variable,
-- is what the number says; else the general one is asked.
use borrow.Author.Rules.{rules}
use Rattle.steps.proofs.Evaluated.{kept_number_told}
use Rattle.steps.proofs.parts.number_short.Goals as goal

pub returns-in-Some : goal.returns-in-Some
returns-in-Some c =
    kept_number_told _ _ c.requires.0 c.args.at _ _ (search rules) c.in-Some.ensures c.requires.2

pub returns-in-Some-shifted : goal.returns-in-Some-shifted
returns-in-Some-shifted c =
    kept_number_told _ _ c.requires.0 c.args.at _ _ (search rules) c.in-Some-shifted.ensures c.requires.2
