-- `month::take_names`: the figures are those of the names taken; what is left of the thousand falls.
use Rattle.std.proofs.Common.{◌-◌}
use Rattle.month_names.specs.Names.{most_names}
use Rattle.month.specs.Taking.{SoFar}
use Rattle.month.proofs.take_names.Given as goal

abbrev pub invariant-loop-line : goal.invariant-loop-line
invariant-loop-line g l = SoFar l.figures

abbrev pub decreases-loop-line : goal.decreases-loop-line
decreases-loop-line g l = most_names - l.figures.names
