-- `month_names::Line::clear`: a line before its first byte.
use Rattle.month_names.proofs.Pushing.{line_started}
use Rattle.month_names.proofs.Line.clear.Goals as goal

pub returns : goal.returns
returns c =
    line_started _
