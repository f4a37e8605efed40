-- `month_figures::none_yet` is the figures of no answers.
use Rattle.month_figures.proofs.Adding.{begins_with_none}
use Rattle.month_figures.proofs.none_yet.Goals as goal

pub returns : goal.returns
returns c =
    begins_with_none
