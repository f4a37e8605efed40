-- `words::sets::count` meets its contract.
use mathlib.Core.Path.{sym}
use lib.Count.{ones-le}
use Rattle.words.proofs.Members.{members_count}
use Rattle.words.proofs.sets.count.Goals as goal

pub returns : goal.returns
returns c =
    (sym (members_count 64 c.args.s c.ranges.s.fits), ones-le 64 c.args.s c.ranges.s.fits)
