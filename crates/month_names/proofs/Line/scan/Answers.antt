-- `month_names::Line::scan` takes the bytes up to a line feed, or all that the part has.
use Rattle.month_names.proofs.Scanning.{scan_begins, scan_goes_on}
use Rattle.month_names.proofs.Line.scan.Goals as goal

pub loop-i-init : goal.loop-i-init
loop-i-init c = scan_begins _ _

pub loop-i-preserved : goal.loop-i-preserved
loop-i-preserved c = scan_goes_on _ _ _ _ c.loop-i.invariant _ c.loop-i-test.true c.if-byte-eq10.false c.push.ensures
