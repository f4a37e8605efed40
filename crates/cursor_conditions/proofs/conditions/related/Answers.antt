-- `cursor_conditions::conditions::related` meets its contract.
use mathlib.Core.Path.{refl}
use Rattle.words.proofs.Integers.{back}
use Rattle.cursor_conditions.proofs.ConditionLaws.{at_most_told, less_told, equal_told, same_bits}
use Rattle.cursor_conditions.proofs.conditions.related.Goals as goal

pub returns-then-b-eq82 : goal.returns-then-b-eq82
returns-then-b-eq82 c =
    rw (back c.ranges.x, back c.ranges.y) (at_most_told _ _ _ _ c.if-b-eq82.true refl)

pub returns-then-b-eq81 : goal.returns-then-b-eq81
returns-then-b-eq81 c =
    rw (back c.ranges.x, back c.ranges.y) (less_told _ _ _ _ c.if-b-eq81.true refl)

pub returns : goal.returns
returns c =
    equal_told _ _ _ _ c.if-b-eq82.false c.if-b-eq81.false (same_bits c.ranges.x c.ranges.y)
