-- `steps::conditions::child_holds` meets its contract.
use native.Mathlib.Omega.{arith}
use Rattle.steps.proofs.Trials.{meeting_first, meeting_last}
use Rattle.steps.proofs.conditions.child_holds.Goals as goal

pub returns-then-word_at-eq0 : goal.returns-then-word_at-eq0
returns-then-word_at-eq0 c =
    meeting_last (meeting_first c.requires _) (omega (arith, c.if-word_at-eq0.true, c.word_at.ensures))
