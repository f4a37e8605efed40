-- `cursor_conditions::conditions::settled` meets its contract.
use Rattle.cursor_conditions.proofs.Waiting.{Settling}
use Rattle.cursor_conditions.proofs.conditions.settled.Given as goal

-- what waits still, and the value before it
abbrev pub invariant-loop-w : goal.invariant-loop-w
invariant-loop-w l = Settling l.m.now l.initial.waiting l.c l.initial.at l.w l.holds l.q

abbrev pub decreases-loop-w : goal.decreases-loop-w
decreases-loop-w l = l.w
