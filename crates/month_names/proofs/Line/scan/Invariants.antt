-- `month_names::Line::scan` takes the bytes up to a line feed, or all that the part has.
use Rattle.month_names.proofs.Scanning.{Scans}
use Rattle.month_names.proofs.Line.scan.Given as goal

abbrev pub invariant-loop-i : goal.invariant-loop-i
invariant-loop-i l = Scans l.part l.initial.self l.self l.i
