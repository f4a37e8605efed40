-- `search_report::figures::outcome_number` gives each outcome its number.
use Rattle.search.specs.Answer.{outcome_number}
use Rattle.search_report.specs.Answers.{outcome_of}
use Rattle.search_report.proofs.figures.outcome_number.Goals as goal

pub returns-in-Ok : goal.returns-in-Ok
unfolding outcome_number outcome_of
returns-in-Ok c =
    rw c.in-Ok.is c.verdict_number.ensures

pub returns-in-Err : goal.returns-in-Err
unfolding outcome_of
returns-in-Err c =
    rw c.in-Err.is c.refusal_number.ensures
