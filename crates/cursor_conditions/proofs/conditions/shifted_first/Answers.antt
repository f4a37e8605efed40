-- `cursor_conditions::conditions::shifted_first` meets its contract: a number variable with a literal added or taken off,
-- and a literal behind it, then the relation of both.
use borrow.Author.Rules.{rules}
use Rattle.cursor_conditions.proofs.ConditionLaws.{bits_told_related}
use Rattle.cursor_conditions.proofs.conditions.shifted_first.Goals as goal

pub returns : goal.returns
returns c =
    bits_told_related _ _ _ (search rules) (search rules) c.requires.0 c.requires.1 c.in_ok-x.ensures c.in_ok-y.ensures c.related.ensures
