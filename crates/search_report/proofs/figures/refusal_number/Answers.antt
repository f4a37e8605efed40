-- `search_report::figures::refusal_number` gives each refusal its number.
use Rattle.search.specs.Answer.{outcome_number}
use Rattle.search_report.specs.Answers.{refusal_of}
use Rattle.search_report.proofs.figures.refusal_number.Goals as goal

pub returns-in-ByState : goal.returns-in-ByState
unfolding outcome_number refusal_of
returns-in-ByState c =
    rw c.in-ByState.is

pub returns-in-ByInput : goal.returns-in-ByInput
unfolding outcome_number refusal_of
returns-in-ByInput c =
    rw c.in-ByInput.is
