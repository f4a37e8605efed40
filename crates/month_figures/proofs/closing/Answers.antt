-- `month_figures::closing` has the figures in the order of the closing line.
use Rattle.month_figures.proofs.Adding.{closes}
use Rattle.month_figures.proofs.closing.Goals as goal

pub returns : goal.returns
returns c =
    closes _ _ _ c.whole-whole_part.ensures c.remainder-rest.ensures
