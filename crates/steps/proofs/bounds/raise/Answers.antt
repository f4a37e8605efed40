-- `steps::bounds::raise` meets its contract.
use mathlib.Core.Path.{◌∙◌}
use Rattle.words.proofs.Integers.{back}
use Rattle.steps.proofs.Signs.{raise_low, raise_greater}
use Rattle.steps.proofs.bounds.raise.Goals as goal

pub returns-then-z-lt0 : goal.returns-then-z-lt0
returns-then-z-lt0 c =
    raise_low _ _ (rw (back c.ranges.z) at c.if-z-lt0.true)

pub returns : goal.returns
returns c =
    c.max.ensures ∙ raise_greater _ c.ranges.z (rw (back c.ranges.z) at c.if-z-lt0.false) _
