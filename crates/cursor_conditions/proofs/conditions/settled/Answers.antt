-- `cursor_conditions::conditions::settled` meets its contract.
use mathlib.Core.Path.{sym, ◌∙◌}
use native.Mathlib.Omega.{arith}
use Rattle.cursor_conditions.proofs.Waiting.{settling_turn, settling_decided, settled_goes, settled_end}
use Rattle.cursor_conditions.proofs.conditions.settled.Goals as goal

pub loop-w-preserved-then-o-eq0 : goal.loop-w-preserved-then-o-eq0
loop-w-preserved-then-o-eq0 c =
    settling_turn c.loop-w.invariant c.loop-w-test.true c.if-o-eq0.true

pub returns-then-goes_on : goal.returns-then-goes_on
returns-then-goes_on c =
    settled_goes c.loop-w.invariant c.loop-w-test.true c.if-o-eq0.false (sym c.goes_on.ensures ∙ c.if-goes_on.true)

pub loop-w-preserved : goal.loop-w-preserved
loop-w-preserved c =
    settling_decided c.loop-w.invariant c.loop-w-test.true c.if-o-eq0.false (sym c.goes_on.ensures ∙ c.if-goes_on.false) c.behind-q.ensures

pub returns : goal.returns
returns c =
    settled_end c.loop-w.invariant (λ l. absurd (omega (arith, l, c.loop-w-test.false)))
