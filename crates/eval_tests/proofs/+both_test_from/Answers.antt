-- A conjunction and the conditions in it, which call each other, meet their contracts.
use Rattle.std.proofs.Common.{arith}
use Rattle.eval_tests.proofs.Conjunction.{no_depth_lem, no_byte, conjunction_tested, conjunction_room, first_used, second_tested, second_room, first_fails, first_troubles}
use Rattle.eval_tests.proofs.+both_test_from.Goals as goal

-- ---- a conjunction

pub both-overflow_add-at : goal.both-overflow_add-at
both-overflow_add-at t c = omega (arith, first_used _ _ c.args.at c.args.e.now c.test_from.ensures c.in-Holds.is)

pub both-past-requires : goal.both-past-requires
both-past-requires t c =
    rw c.test_from-then-holds.ensures
    (second_room _ _ c.args.at c.args.e.now c.test_from.ensures c.in-Holds.is (omega arith))

pub both-returns-then-holds : goal.both-returns-then-holds
both-returns-then-holds t c =
    rw (c.past.ensures, c.test_from-then-holds.ensures)
    (second_tested _ _ c.args.at c.args.e.now c.test_from.ensures c.in-Holds.is c.if-holds.true)

pub both-returns-else-holds : goal.both-returns-else-holds
both-returns-else-holds t c = first_fails _ _ c.args.at c.args.e.now c.test_from.ensures c.in-Holds.is c.if-holds.false

pub both-returns-in-Trouble : goal.both-returns-in-Trouble
both-returns-in-Trouble t c = first_troubles _ _ c.args.at c.args.e.now c.test_from.ensures c.in-Trouble.is

-- ---- a condition from a position on

pub test_from-returns-then-depth-eq0 : goal.test_from-returns-then-depth-eq0
test_from-returns-then-depth-eq0 t c = no_depth_lem _ _ c.args.at c.args.e.now c.if-depth-eq0.true

pub test_from-returns-then-e-at : goal.test_from-returns-then-e-at
test_from-returns-then-e-at t c = no_byte _ _ c.args.at c.args.e.now c.if-e-at.true

pub test_from-past-requires : goal.test_from-past-requires
test_from-past-requires t c = rw c.both.ensures (conjunction_room _ _ c.args.at c.args.e.now (omega arith))

pub test_from-returns-then-e-at-eq88 : goal.test_from-returns-then-e-at-eq88
test_from-returns-then-e-at-eq88 t c =
    rw (c.past.ensures, c.both.ensures)
    (conjunction_tested _ _ c.args.at c.args.e.now c.if-depth-eq0.false c.if-e-at.false c.if-e-at-eq88.true)

pub test_from-returns : goal.test_from-returns
test_from-returns t c = rw (c.stop.ensures, c.condition_from.ensures)
