-- `month_figures::added` adds an answer's share to each figure; no sum leaves its word.
use native.Mathlib.Omega.{arith}
use Rattle.month_figures.proofs.Adding.{added_figures}
use Rattle.month_figures.proofs.added.Goals as goal

pub overflow_add-result-9 : goal.overflow_add-result-9
overflow_add-result-9 c =
    omega (arith, c.requires.roomy.sum, c.share_of-one.ensures.cost.within _ c.requires.cost)

pub returns : goal.returns
returns c =
    added_figures _ _ _ _ c.share_of-one.ensures c.max.ensures
