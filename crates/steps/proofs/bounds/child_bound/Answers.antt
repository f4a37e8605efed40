-- `steps::bounds::child_bound` meets its contract.
use native.Mathlib.Omega.{arith}
use Rattle.steps.proofs.Trials.{raising_first, raising_last}
use Rattle.steps.proofs.bounds.child_bound.Goals as goal

pub returns-then-word_at-eq0 : goal.returns-then-word_at-eq0
returns-then-word_at-eq0 c =
    (raising_last _ _ 0 _ (raising_first _ _) (omega (arith, c.if-word_at-eq0.true, c.word_at.ensures, c.requires.0.outlines.bound_count)), c.requires.1)
