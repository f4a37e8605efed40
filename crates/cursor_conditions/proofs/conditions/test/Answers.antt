-- `cursor_conditions::conditions::test` meets its contract.
use native.Mathlib.Omega.{arith}
use Rattle.cursor_conditions.proofs.ConditionLaws.{begun, tests_and, tests_fails, tests_on, tests_end}
use Rattle.cursor_conditions.proofs.conditions.test.Goals as goal

pub loop-due-preserved-then-first_byte-eq88 : goal.loop-due-preserved-then-first_byte-eq88
loop-due-preserved-then-first_byte-eq88 c =
    tests_and _ _ _ _ _ _ c.first_byte.ensures.small c.loop-due.invariant c.loop-due-test.true (begun 0x58 c.first_byte.ensures c.if-first_byte-eq88.true (λ z. absurd (omega arith)))

pub returns-then-not-c : goal.returns-then-not-c
returns-then-not-c c =
    tests_fails _ _ _ _ _ _ _ c.loop-due.invariant c.loop-due-test.true (rw c.if-not-c.true at c.in_ok-c.ensures)

pub loop-due-preserved : goal.loop-due-preserved
loop-due-preserved c =
    tests_on _ _ _ _ _ _ _ c.loop-due.invariant c.loop-due-test.true (rw c.if-not-c.false at c.in_ok-c.ensures)

pub returns : goal.returns
returns c =
    tests_end _ _ _ _ _ _ c.loop-due.invariant c.loop-due-test.false
