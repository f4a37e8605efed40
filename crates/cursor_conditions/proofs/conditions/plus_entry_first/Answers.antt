-- `cursor_conditions::conditions::plus_entry_first` meets its contract: a number variable with a table's entry added,
-- and a literal behind it, then the relation of both.
use borrow.Author.Rules.{rules}
use Rattle.cursor_conditions.proofs.ConditionLaws.{bits_told_related}
use Rattle.cursor_conditions.proofs.conditions.plus_entry_first.Goals as goal

pub returns : goal.returns
returns c =
    bits_told_related _ _ _ (search rules) (search rules) c.requires.0 c.requires.1 c.in_ok-x.ensures c.in_ok-y.ensures c.related.ensures
