-- `beam_order::slots::earlier` meets its contract. By the hours of the two f, then by their moves.
use native.Mathlib.Omega.{arith}
use Rattle.std.proofs.lemmas.Bool.Decides.{nat_tests}
use Rattle.beam_order.proofs.Arrays.{earlier_there}
use Rattle.beam_order.proofs.slots.earlier.Goals as goal

pub returns-then-f-other : goal.returns-then-f-other
returns-then-f-other c =
    rw (earlier_there c.args.header.now c.args.slots.now c.args.s) (grind (arith, nat_tests))

pub returns-then-other-f : goal.returns-then-other-f
returns-then-other-f c =
    rw (earlier_there c.args.header.now c.args.slots.now c.args.s) (grind (arith, nat_tests))

pub returns-then-moves-others : goal.returns-then-moves-others
returns-then-moves-others c =
    rw (earlier_there c.args.header.now c.args.slots.now c.args.s) (grind (arith, nat_tests))

pub returns-then-others-moves : goal.returns-then-others-moves
returns-then-others-moves c =
    rw (earlier_there c.args.header.now c.args.slots.now c.args.s) (grind (arith, nat_tests))

pub returns : goal.returns
returns c =
    rw (earlier_there c.args.header.now c.args.slots.now c.args.s) (grind (arith, nat_tests))
