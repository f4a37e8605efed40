-- `search_report::figures::verdict_number` gives each verdict its number.
use Rattle.search.specs.Answer.{verdict_number}
use Rattle.search_visits.specs.Work.{verdict_of}
use Rattle.search_report.proofs.figures.verdict_number.Goals as goal

pub returns-in-Cheapest : goal.returns-in-Cheapest
unfolding verdict_number verdict_of
returns-in-Cheapest c =
    rw c.in-Cheapest.is

pub returns-in-NoPlan : goal.returns-in-NoPlan
unfolding verdict_number verdict_of
returns-in-NoPlan c =
    rw c.in-NoPlan.is

pub returns-in-WidthStop : goal.returns-in-WidthStop
unfolding verdict_number verdict_of
returns-in-WidthStop c =
    rw c.in-WidthStop.is

pub returns-in-LengthStop : goal.returns-in-LengthStop
unfolding verdict_number verdict_of
returns-in-LengthStop c =
    rw c.in-LengthStop.is

pub returns-in-BudgetSpent : goal.returns-in-BudgetSpent
unfolding verdict_number verdict_of
returns-in-BudgetSpent c =
    rw c.in-BudgetSpent.is

pub returns-in-Contradicted : goal.returns-in-Contradicted
unfolding verdict_number verdict_of
returns-in-Contradicted c =
    rw c.in-Contradicted.is
