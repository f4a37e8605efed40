-- `search_report::figures::refused_number` tells a refusal.
use Rattle.search.specs.Answer.{is_refusal}
use Rattle.search_report.specs.Answers.{outcome_of}
use Rattle.search_report.proofs.Numbers.{refusal_is}
use Rattle.search_report.proofs.figures.refused_number.Goals as goal

pub returns-in-Ok : goal.returns-in-Ok
unfolding is_refusal outcome_of
returns-in-Ok c =
    rw c.in-Ok.is

pub returns-in-Err : goal.returns-in-Err
unfolding outcome_of
returns-in-Err c =
    rw (c.in-Err.is, refusal_is _)
