-- `read_forms::refusals::Refusal::number` meets its contract.
use Rattle.std.proofs.Common.{sym, ◌∙◌}
use Rattle.read_forms.proofs.Numbered.{named_kept}
use Rattle.read_forms.proofs.refusals.Refusal.number.Goals as goal

pub returns-in-EndsEarly-clause-kept : goal.returns-in-EndsEarly-clause-kept
returns-in-EndsEarly-clause-kept c = λ t l h q. named_kept l h (sym c.in-EndsEarly.is ∙ q)

pub returns-in-NotDue-clause-kept : goal.returns-in-NotDue-clause-kept
returns-in-NotDue-clause-kept c = λ t l h q. named_kept l h (sym c.in-NotDue.is ∙ q)

pub returns-in-Mismatch-clause-kept : goal.returns-in-Mismatch-clause-kept
returns-in-Mismatch-clause-kept c = λ t l h q. named_kept l h (sym c.in-Mismatch.is ∙ q)

pub returns-in-OffLimits-clause-kept : goal.returns-in-OffLimits-clause-kept
returns-in-OffLimits-clause-kept c = λ t l h q. named_kept l h (sym c.in-OffLimits.is ∙ q)

pub returns-in-TooDeep-clause-kept : goal.returns-in-TooDeep-clause-kept
returns-in-TooDeep-clause-kept c = λ t l h q. named_kept l h (sym c.in-TooDeep.is ∙ q)

pub returns-in-BytesAfterEnd-clause-kept : goal.returns-in-BytesAfterEnd-clause-kept
returns-in-BytesAfterEnd-clause-kept c = λ t l h q. named_kept l h (sym c.in-BytesAfterEnd.is ∙ q)
