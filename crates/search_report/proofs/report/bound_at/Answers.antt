-- `search_report::report::bound_at` meets its contract, verdict by verdict.
use Rattle.search_report.proofs.Reporting.{bound_cost, bound_without}
use Rattle.model.specs.Costs.{costs_of}
use Rattle.search.specs.Search.{bound_at}
use Rattle.search_visits.specs.Work.{verdict_of, progress_of}
use Rattle.search_report.proofs.report.bound_at.Goals as goal

pub returns-in-Some : goal.returns-in-Some
returns-in-Some c =
    bound_cost _ _ c.in-Cheapest.is c.in-Some.is

pub returns-in-None : goal.returns-in-None
returns-in-None c =
    rw c.hours-nothing.ensures (bound_without _ _ c.in-Cheapest.is c.in-None.is)

pub returns-in-NoPlan : goal.returns-in-NoPlan
unfolding verdict_of bound_at progress_of costs_of
returns-in-NoPlan c =
    rw c.hours-nothing.ensures (record { same = λ bytes best. rw c.in-NoPlan.is })

pub returns-in-WidthStop : goal.returns-in-WidthStop
unfolding verdict_of bound_at progress_of costs_of
returns-in-WidthStop c =
    record { same = λ bytes best. rw c.in-WidthStop.is }

pub returns-in-LengthStop : goal.returns-in-LengthStop
unfolding verdict_of bound_at progress_of costs_of
returns-in-LengthStop c =
    record { same = λ bytes best. rw c.in-LengthStop.is }

pub returns-in-BudgetSpent : goal.returns-in-BudgetSpent
unfolding verdict_of bound_at progress_of costs_of
returns-in-BudgetSpent c =
    record { same = λ bytes best. rw c.in-BudgetSpent.is }

pub returns-in-Contradicted : goal.returns-in-Contradicted
unfolding verdict_of bound_at progress_of costs_of
returns-in-Contradicted c =
    record { same = λ bytes best. rw c.in-Contradicted.is }
