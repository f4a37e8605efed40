-- `words::arithmetic::floor_by` meets its contract.
use mathlib.Core.Path.{◌≡◌, ◌∙◌}
use Rattle.words.specs.Signs.{mirrored}
use Rattle.words.proofs.Integers.{back, mirror_fits, quotient_fits, quotient_is, mirror_quotient}
use Rattle.words.proofs.arithmetic.floor_by.Goals as goal

pub returns-then-a-lt0 : goal.returns-then-a-lt0
returns-then-a-lt0 c =
    let mirror : c.mirror.result ≡ mirrored c.args.a = rw (back c.ranges.a) at c.mirror.ensures in
    let f = mirror_fits c.ranges.a in
    let q = quotient_fits (mirrored c.args.a) c.args.m c.requires f in
    rw (back (record { sfits = c.mirror-then-a-lt0.type_inv }))
    ((rw (mirror, back f, back c.ranges.m, back q) at c.mirror-then-a-lt0.ensures) ∙ mirror_quotient c.args.a c.args.m (rw (back c.ranges.a) at c.if-a-lt0.true) c.requires)

pub returns : goal.returns
returns c =
    let q = quotient_fits c.args.a c.args.m c.requires c.ranges.a in
    rw (back c.ranges.a, back c.ranges.m, back q) (quotient_is c.args.a c.args.m (rw (back c.ranges.a) at c.if-a-lt0.false) c.requires)
