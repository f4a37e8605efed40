-- Closing lines that were stated by hand, computed from lists of answers.
use Prim.Native.Nat.{ℕ}
use mathlib.Core.Path.{◌≡◌, refl}
use mathlib.Core.Bool.{Bool, true, false}
use mathlib.Core.List.{List, [], ◌∷◌}
use Rattle.model.specs.Costs.{hours, fixed}
use Rattle.search.specs.Answer.{cheapest, no_plan, width_stop, length_stop, budget_spent, contradicted, Outcome, verdict, by_state, by_input, verdict_number, is_refusal}
use Rattle.month_figures.specs.Closing.{Taken, answered, unread, is_verdict, gives, is_refused, cost_of, bound_of, has_plan, is_open, count_in, refused_in, cheapest_in, gap_in, gather, whole_of, remainder_of, closing}

abbrev pub one : Outcome → (plan : Bool) (cost bound : ℕ) → Taken
one o plan cost bound = answered (record { outcome = o; flag = plan; cost = fixed cost; bound = hours bound; steps = []; tally = record { expansions = 0; rounds = 1; width = 1 } })

abbrev pub p1 : Taken
p1 = one (verdict cheapest) true 7 7

unfoldable pub closes : List Taken → List ℕ
unfolding closing gather count_in refused_in cheapest_in gap_in whole_of remainder_of is_open has_plan bound_of cost_of is_refused gives is_verdict verdict_number is_refusal
closes l = closing l

pub of_none : closes [] ≡ 0 ∷ 0 ∷ 0 ∷ 0 ∷ 0 ∷ 0 ∷ 0 ∷ 0 ∷ 0 ∷ 0 ∷ 0 ∷ 0 ∷ []
unfolding closes
of_none = refl

pub of_p1 : closes (p1 ∷ []) ≡ 1 ∷ 1 ∷ 0 ∷ 0 ∷ 0 ∷ 0 ∷ 0 ∷ 0 ∷ 7 ∷ 7 ∷ 0 ∷ 0 ∷ []
unfolding closes
of_p1 = refl

pub of_empty_name_between : closes (p1 ∷ unread ∷ p1 ∷ []) ≡ 3 ∷ 2 ∷ 0 ∷ 0 ∷ 0 ∷ 0 ∷ 0 ∷ 1 ∷ 14 ∷ 7 ∷ 0 ∷ 0 ∷ []
unfolding closes
of_empty_name_between = refl

-- two cheapest, no plan, a length stop at 100 with bound 64, refused 13, contradicted, a missing file
pub of_seven : closes (p1 ∷ one (verdict no_plan) false 0 0 ∷ one (verdict length_stop) true 100 64 ∷ one (by_state 13) false 9 2 ∷ one (verdict contradicted) true 7 8 ∷ unread ∷ one (verdict cheapest) true 3 3 ∷ [])
    ≡ 7 ∷ 2 ∷ 1 ∷ 0 ∷ 1 ∷ 0 ∷ 1 ∷ 2 ∷ 10 ∷ 5 ∷ 0 ∷ 36 ∷ []
unfolding closes
of_seven = refl

-- refusals by the input with the numbers of verdicts; stops without a plan; a mean with a remainder
pub of_others : closes (one (by_input 1) false 0 0 ∷ one (by_input 4) false 0 0 ∷ one (verdict width_stop) false 0 50 ∷ one (verdict budget_spent) true 9 4 ∷ p1 ∷ one (verdict cheapest) true 4 4 ∷ [])
    ≡ 6 ∷ 2 ∷ 0 ∷ 1 ∷ 0 ∷ 1 ∷ 0 ∷ 2 ∷ 11 ∷ 5 ∷ 1 ∷ 5 ∷ []
unfolding closes
of_others = refl
