-- The outcome of a run is read back from its number and the mark of a refusal.
use mathlib.Core.Path.{◌≡◌, refl, ap}
use mathlib.Core.Bool.{cond}
use native.Mathlib.Omega.{arith}
use borrow.Author.Tests.{le-leb, lt-leb, ne_eqb}
use Rattle.model.specs.Numbers.{high_below_low}
use Rattle.search.specs.Answer.{Verdict, cheapest, no_plan, width_stop, length_stop, budget_spent, contradicted, Outcome, verdict, by_state, by_input, verdict_number, outcome_number, is_refusal, verdict_numbered, outcome_numbered}
use Rattle.search.specs.Demands.{Ends, refused_by_state, refused_high_below_low, refused_for_input, refused_outside_profile, refused_bad_widths}
use Rattle.search.specs.Run.{Settings}

verdict_back : (v : Verdict) → verdict_numbered (verdict_number v) ≡ v
unfolding verdict_numbered verdict_number
verdict_back cheapest = refl
verdict_back no_plan = refl
verdict_back width_stop = refl
verdict_back length_stop = refl
verdict_back budget_spent = refl
verdict_back contradicted = refl

pub outcome_back : {q : Settings} (o : Outcome) → Ends q o → outcome_numbered (cond (is_refusal o) 1 0) (outcome_number o) ≡ o
unfolding outcome_numbered is_refusal outcome_number
outcome_back (verdict v) e = ap verdict (verdict_back v)
outcome_back (by_state t) (refused_by_state a b) = rw (le-leb 11 t a, le-leb t 13 b)
outcome_back (by_state t) refused_high_below_low = refl
outcome_back (by_input t) (refused_for_input a b) = rw (lt-leb 11 t (omega arith), ne_eqb t high_below_low (λ e. omega arith))
outcome_back (by_input t) (refused_outside_profile f) = refl
outcome_back (by_input t) (refused_bad_widths ws b r) = refl
