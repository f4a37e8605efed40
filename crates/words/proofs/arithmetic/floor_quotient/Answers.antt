-- `words::arithmetic::floor_quotient` meets its contract.
use Rattle.words.proofs.Integers.{back, negated, negated_fits, is_positive, by_positive, by_negative}
use Rattle.words.proofs.arithmetic.floor_quotient.Goals as goal

pub returns-then-b-lt0 : goal.returns-then-b-lt0
returns-then-b-lt0 c =
    let a = c.args.a in
    let b = c.args.b in
    let fa = negated_fits a c.requires.0 in
    let fb = negated_fits b c.requires.1 in
    let e = rw (back c.ranges.a, back c.ranges.b, negated a, negated b, back fa, back fb) at c.floor_by.ensures in
    rw (back (record { sfits = c.floor_by.type_inv }), e) (by_negative a b c.requires.0 (rw (back c.ranges.b) at c.if-b-lt0.true))

pub returns : goal.returns
returns c =
    let b = c.args.b in
    let e = rw (back c.ranges.a, back c.ranges.b) at c.floor_by-2.ensures in
    rw (back (record { sfits = c.floor_by-2.type_inv }), e)
    (by_positive c.args.a b c.requires.0 (is_positive b c.requires.2 (rw (back c.ranges.b) at c.if-b-lt0.false)))
