-- The plan check: the target's constraints, then step by step, to the first trouble; then on bytes. docs/FORMAT.md, "Plan check".
use Rattle.std.specs.Prelude.{ℕ, ◌≤◌, ◌≡◌, Bool, true, false, cond, List, [], ◌∷◌, length, ltb}
use Rattle.model.specs.Numbers.{model_too_long, bad_setting, not_a_plan, most_model_bytes, most_steps, range_end}
use Rattle.model.specs.Values.{Value, value, trouble}
use Rattle.model.specs.System.{Costs, System, Status, base, unfinished, no_status, Move, blocked, moved, trouble_before, trouble_after}
use Rattle.model.specs.Plans.{PlanFrom}
use Rattle.model.specs.Readers.{Read, read, refused}
use Rattle.model.specs.Syntax.{Model}
use Rattle.model.specs.Commands.{model}
use Rattle.model.specs.Costs.{free, costs_of}
use Rattle.model.specs.Steps.{target, system_of}
use Rattle.model.specs.declared.Cost.{Cost}

module _ {S C : Type 0} (K : Costs C) (M : System S C) where
  -- "last the final state"
  unfoldable pub final : Status → (g : C) → Value C
  final base g = value g
  final unfinished g = trouble not_a_plan
  final (no_status t) g = trouble t

  -- "conditions, cost, effects, constraints"
  unfoldable pub after_move : Move S C → (C → S → Value C) → Value C
  after_move blocked rest = trouble not_a_plan
  after_move (moved c u) rest = rest c u
  after_move (trouble_before t) rest = trouble t
  after_move (trouble_after c t) rest = trouble t

  -- "base before the end, number too high", then the step
  unfoldable pub after_status : Status → (declared : Bool) → Move S C → (C → S → Value C) → Value C
  after_status base declared move rest = trouble not_a_plan
  after_status unfinished declared move rest = cond declared (after_move move rest) (trouble not_a_plan)
  after_status (no_status t) declared move rest = trouble t

  -- the cost of a plan from s, g being spent on the way there
  unfoldable pub follow : List ℕ → S → (g : C) → Value C
  follow [] s g = final (M.status s) g
  follow (t ∷ ts) s g = after_status (M.status s) (ltb t M.transitions) (M.move s t) (λ c u. follow ts u (K.combine g c))

  -- document 02, §1: the target's constraints "before everything else about states. If one fails, … the plan check gives 14"
  unfoldable pub after_constraints : Value Bool → (rest : Value C) → Value C
  after_constraints (value true) rest = rest
  after_constraints (value false) rest = trouble not_a_plan
  after_constraints (trouble t) rest = trouble t

  -- the cost of a plan from the target s, g being spent before
  unfoldable pub follow_from : List ℕ → (s : S) (g : C) → Value C
  follow_from p s g = after_constraints (M.admits s) (follow p s g)

unfoldable pub check_model : Read Model → List ℕ → Value Cost
check_model (read m n) plan = follow_from (costs_of m.rule) (system_of range_end m) plan (target m) free
check_model (refused t) plan = trouble t

-- "takes a model and up to 256 plan bytes"; a trouble is the number of the refusal
unfoldable pub check : (bytes plan : List ℕ) → Value Cost
check bytes plan = cond (ltb most_model_bytes (length bytes)) (trouble model_too_long) (cond (ltb most_steps (length plan)) (trouble bad_setting) (check_model (model bytes) plan))

-- the answer number; the cost, nothing at a refusal; and of that the high and the low figure: "The plan check gives both sums, or both
-- largest values: its cost call the high one, a third call the low one"
unfoldable pub answer_number : Value Cost → ℕ
answer_number (value c) = 0
answer_number (trouble t) = t

unfoldable pub cost_given : Value Cost → Cost
cost_given (value c) = c
cost_given (trouble t) = free

unfoldable pub answer_cost : Value Cost → ℕ
answer_cost x = (cost_given x).high

unfoldable pub answer_low : Value Cost → ℕ
answer_low x = (cost_given x).low

-- the bytes are a model, and the plan, of at most 256 steps, is one of its plans from the target, which meets all constraints, at cost c
pub record CheckedPlan (bytes plan : List ℕ) (c : Cost) : Type 0 where
  pub model_fits : length bytes ≤ most_model_bytes
  pub plan_fits : length plan ≤ most_steps
  pub described : Model
  pub used : ℕ
  pub reads : model bytes ≡ read described used
  pub plans : PlanFrom (costs_of described.rule) (system_of range_end described) (target described) plan c

-- the bytes are a model and the plan is one of its plans, at some cost
abbrev pub IsPlan : (bytes plan : List ℕ) → Type 0
IsPlan bytes plan = (c : Cost) × CheckedPlan bytes plan c
