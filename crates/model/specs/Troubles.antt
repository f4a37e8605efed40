-- The numbers that evaluation, moves and the following of a plan can be refused by. docs/FORMAT.md, "Refusals by the state".
use Rattle.std.specs.Prelude.{ℕ, ◌≤◌, ◌≡◌}
use Rattle.model.specs.Numbers.{not_a_plan, high_below_low}

-- the numbers of the troubles that a state gives: 11 to 13, and 17
pub data StateTrouble (t : ℕ) : Type 0 where
  by_value : 11 ≤ t → t ≤ 13 → StateTrouble t
  by_range : t ≡ high_below_low → StateTrouble t

-- the state's troubles and "not a plan"
pub data PlanTrouble (t : ℕ) : Type 0 where
  is_no_plan : t ≡ not_a_plan → PlanTrouble t
  of_state : StateTrouble t → PlanTrouble t
