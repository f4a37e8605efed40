-- `month_figures::whole` is 0 where nothing is counted.
use Rattle.month_figures.proofs.Seen.{whole_none, whole_some}
use Rattle.month_figures.proofs.whole.Goals as goal

pub returns-then-count-eq0 : goal.returns-then-count-eq0
returns-then-count-eq0 c =
    whole_none _ _ c.if-count-eq0.true

pub returns-else-count-eq0 : goal.returns-else-count-eq0
returns-else-count-eq0 c =
    whole_some _ _ c.if-count-eq0.false
