-- `bench_parts::insertions::layer_fits` meets its contract.
use mathlib.Core.Path.{sym}
use native.Mathlib.Omega.{arith}
use Rattle.bench_parts.proofs.Offering.{no_width, too_wide, by_room}
use Rattle.bench_parts.proofs.insertions.layer_fits.Goals as goal

pub returns-then-w-eq0 : goal.returns-then-w-eq0
returns-then-w-eq0 c =
    sym (no_width c.args.w c.args.words (omega (arith, c.if-w-eq0.true)))

pub returns-then-w-gt4096 : goal.returns-then-w-gt4096
returns-then-w-gt4096 c =
    sym (too_wide c.args.w c.args.words (omega (arith, c.if-w-eq0.false)) c.if-w-gt4096.true)

pub returns : goal.returns
returns c =
    sym (by_room c.args.w c.args.words (omega (arith, c.if-w-eq0.false)) c.if-w-gt4096.false)
