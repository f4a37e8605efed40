-- An answer whose gap counts is a stopped run with a plan.
use mathlib.Core.Path.{◌≡◌}
use mathlib.Core.Bool.{true, ◌||◌, false≢true}
use Rattle.laws.proofs.Bools.{and_both}
use Rattle.model.specs.declared.Cost.{Cost}
use Rattle.search.specs.Answer.{cheapest, no_plan, width_stop, length_stop, budget_spent, contradicted, Outcome, verdict, by_state, by_input, verdict_number, Answer}
use Rattle.search.specs.Guarantee.{Stopped, by_width, by_length, by_budget}
use Rattle.month_figures.specs.Closing.{answered, is_verdict, gives, has_plan, is_open}

stopped_by_number : (o : Outcome) → (is_verdict 2 o || is_verdict 3 o || is_verdict 4 o) ≡ true → Stopped o
unfolding is_verdict verdict_number
stopped_by_number (verdict cheapest) e = absurd (false≢true e)
stopped_by_number (verdict no_plan) e = absurd (false≢true e)
stopped_by_number (verdict width_stop) e = by_width
stopped_by_number (verdict length_stop) e = by_length
stopped_by_number (verdict budget_spent) e = by_budget
stopped_by_number (verdict contradicted) e = absurd (false≢true e)
stopped_by_number (by_state t) e = absurd (false≢true e)
stopped_by_number (by_input t) e = absurd (false≢true e)

pub open_is_stopped : (a : Answer Cost) → is_open (answered a) ≡ true → Stopped a.outcome × (a.flag ≡ true)
unfolding is_open gives has_plan
open_is_stopped a e = let parts = and_both (is_verdict 2 a.outcome || is_verdict 3 a.outcome || is_verdict 4 a.outcome) a.flag e in (stopped_by_number a.outcome parts.0, parts.1)
