-- The answer of a search: its fields, document 01's number for its outcome, and what the plan buffer holds afterwards.
-- docs/FORMAT.md, "Answer" and "Verdicts".
use Rattle.std.specs.Prelude.{ℕ, Bool, true, false, cond, ◌&&◌, ◌||◌, List, [], ◌∷◌, ◌++◌, length, take, drop, get_or, leb, eqb}
use Rattle.model.specs.Numbers.{high_below_low}

pub data Verdict : Type 0 where
  cheapest no_plan width_stop length_stop budget_spent contradicted : Verdict

-- a verdict; or refused by the state, or by the input, with the refusal's number
pub data Outcome : Type 0 where
  verdict : Verdict → Outcome
  by_state : ℕ → Outcome
  by_input : ℕ → Outcome

unfoldable pub verdict_number : Verdict → ℕ
verdict_number cheapest = 0
verdict_number no_plan = 1
verdict_number width_stop = 2
verdict_number length_stop = 3
verdict_number budget_spent = 4
verdict_number contradicted = 5

-- "The verdict field holds the number"
unfoldable pub outcome_number : Outcome → ℕ
outcome_number (verdict v) = verdict_number v
outcome_number (by_state t) = t
outcome_number (by_input t) = t

unfoldable pub is_refusal : Outcome → Bool
is_refusal (verdict v) = false
is_refusal (by_state t) = true
is_refusal (by_input t) = true

-- the verdict of a number, and the outcome that a number stands for, given whether it is a refusal's: 11 to 13 and 17 are by the state, the
-- others by the input
unfoldable pub verdict_numbered : ℕ → Verdict
verdict_numbered n = get_or (cheapest ∷ no_plan ∷ width_stop ∷ length_stop ∷ budget_spent ∷ []) n contradicted

unfoldable pub outcome_numbered : (refused number : ℕ) → Outcome
outcome_numbered r n = cond (eqb r 0) (verdict (verdict_numbered n)) (cond ((leb 11 n && leb n 13) || eqb n high_below_low) (by_state n) (by_input n))

-- "One tally record of expansions, rounds and width"
pub record Tally : Type 0 where
  pub expansions : ℕ
  pub rounds : ℕ
  pub width : ℕ

-- "The answer holds verdict, plan flag, cost, bound, plan length, expansions, rounds begun, last width".
-- steps: the plan, or the path to the state evaluated at a refusal by the state; its length is the plan length
pub record Answer (C : Type 0) : Type 0 where
  pub outcome : Outcome
  pub flag : Bool
  pub cost : C
  pub bound : C
  pub steps : List ℕ
  pub tally : Tally

-- "Plan bytes, one transition number each, are written at the end; the rest of that buffer stays"
unfoldable pub buffer_after : {C : Type 0} → Answer C → (buffer : List ℕ) → List ℕ
buffer_after a buffer = a.steps ++ drop (length a.steps) buffer

-- "The plan is handed back as the first part of the caller's own buffer; a length beyond the buffer gives the empty part"
unfoldable pub handed_back : (n : ℕ) (buffer : List ℕ) → List ℕ
handed_back n buffer = cond (leb n (length buffer)) (take n buffer) []
