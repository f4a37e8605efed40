-- The plan check of the model that stands in bytes, and what one turn of it is promised.
use Rattle.std.specs.Prelude.{ℕ, ◌+◌, ◌≡◌, List, Result, Ok, Err}
use Rattle.model.specs.Numbers.{range_end}
use Rattle.model.specs.Values.{Value, trouble}
use Rattle.model.specs.System.{Costs}
use Rattle.model.specs.Meaning.{State}
use Rattle.model.specs.declared.Cost.{Cost}
use Rattle.model.specs.Costs.{costs_of, CostUpTo}
use Rattle.model.specs.Check.{final, after_move, follow, follow_from, answer_number, cost_given}
use Rattle.outline.specs.Outline.{model_of}
use Rattle.eval_sets.specs.declared.troubles.Trouble.{Trouble}
use Rattle.eval_sets.specs.Troubles.{named}
use Rattle.steps.specs.declared.answers.Checked.{Checked}
use Rattle.steps.specs.InBytes.{state_in, system_in}

abbrev pub costs_in : (bytes : List ℕ) → Costs Cost
costs_in bytes = costs_of (model_of bytes).rule

-- the cost of a plan from a state, g being spent on the way there
abbrev pub follow_in : (bytes plan : List ℕ) (s : State) (g : Cost) → Value Cost
follow_in bytes plan s g = follow (costs_in bytes) (system_in bytes) plan s g

-- the same of a plan from the target s, whose constraints come first
abbrev pub follow_from_in : (bytes plan : List ℕ) (s : State) (g : Cost) → Value Cost
follow_from_in bytes plan s g = follow_from (costs_in bytes) (system_in bytes) plan s g

-- a transition's move, then the rest of the plan
abbrev pub step_tried : (bytes : List ℕ) (s : State) (t : ℕ) (g : Cost) → List ℕ → Value Cost
step_tried bytes s t g plan = after_move (costs_in bytes) (system_in bytes) ((system_in bytes).move s t) (λ c u. follow_in bytes plan u ((costs_in bytes).combine g c))

-- "last the final state"
abbrev pub finished : (bytes : List ℕ) (s : State) (g : Cost) → Value Cost
finished bytes s g = final (costs_in bytes) (system_in bytes) ((system_in bytes).status s) g

-- f plan, whatever plan is left: the check goes on from the child's state, or ends
abbrev pub FollowsOn : (bytes : List ℕ) (f : List ℕ → Value Cost) (child : List ℕ) (g : Cost) → Result Cost Trouble → Type 0
FollowsOn bytes f child g (Ok h) = ((plan : List ℕ) → f plan ≡ follow_in bytes plan (state_in bytes child) h) × ((n : ℕ) → CostUpTo n g → CostUpTo (n + range_end) h)
FollowsOn bytes f child g (Err t) = (n : ℕ) × (t ≡ named n) × ((plan : List ℕ) → f plan ≡ trouble n)

-- the answer number and the cost of the check
pub record CheckedIs (v : Value Cost) (r : Checked) : Type 0 where
  pub number : r.answer ≡ answer_number v
  pub cost : r.cost ≡ cost_given v
