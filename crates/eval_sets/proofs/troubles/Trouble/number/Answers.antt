-- `eval_sets::troubles::Trouble::number` meets its contract.
use Rattle.std.proofs.Common.{sym, ◌∙◌}
use Rattle.eval_sets.proofs.Kept.{plan_trouble_kept}
use Rattle.eval_sets.proofs.troubles.Trouble.number.Goals as goal

pub returns-in-Nothing-clause-kept : goal.returns-in-Nothing-clause-kept
returns-in-Nothing-clause-kept c = λ t h q. plan_trouble_kept h (sym c.in-Nothing.is ∙ q)

pub returns-in-OutOfRange-clause-kept : goal.returns-in-OutOfRange-clause-kept
returns-in-OutOfRange-clause-kept c = λ t h q. plan_trouble_kept h (sym c.in-OutOfRange.is ∙ q)

pub returns-in-DivisorZero-clause-kept : goal.returns-in-DivisorZero-clause-kept
returns-in-DivisorZero-clause-kept c = λ t h q. plan_trouble_kept h (sym c.in-DivisorZero.is ∙ q)

pub returns-in-NegativeCost-clause-kept : goal.returns-in-NegativeCost-clause-kept
returns-in-NegativeCost-clause-kept c = λ t h q. plan_trouble_kept h (sym c.in-NegativeCost.is ∙ q)

pub returns-in-NotAPlan-clause-kept : goal.returns-in-NotAPlan-clause-kept
returns-in-NotAPlan-clause-kept c = λ t h q. plan_trouble_kept h (sym c.in-NotAPlan.is ∙ q)

pub returns-in-HighBelowLow-clause-kept : goal.returns-in-HighBelowLow-clause-kept
returns-in-HighBelowLow-clause-kept c = λ t h q. plan_trouble_kept h (sym c.in-HighBelowLow.is ∙ q)
