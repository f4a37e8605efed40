-- `month_figures::remainder` is 0 where nothing is counted.
use Rattle.month_figures.proofs.Seen.{remainder_none, remainder_some}
use Rattle.month_figures.proofs.remainder.Goals as goal

pub returns-then-count-eq0 : goal.returns-then-count-eq0
returns-then-count-eq0 c =
    remainder_none _ _ c.if-count-eq0.true

pub returns-else-count-eq0 : goal.returns-else-count-eq0
returns-else-count-eq0 c =
    remainder_some _ _ c.if-count-eq0.false
