-- The mission's demands as a record of one answer, a field for each sentence. docs/FORMAT.md, "Verdicts"; docs/AUDIT.md walks through them.
use Rattle.std.specs.Prelude.{ℕ, ◌≤◌, ◌≡◌, true, false, List, length}
use Rattle.model.specs.Numbers.{outside_profile, bad_widths, high_below_low, range_end}
use Rattle.model.specs.Plans.{PlanFrom, TrueDeclarations}
use Rattle.model.specs.Readers.{read}
use Rattle.model.specs.Syntax.{Model}
use Rattle.model.specs.Commands.{model}
use Rattle.model.specs.Costs.{costs_of}
use Rattle.model.specs.Steps.{target, system_of, origin_of}
use Rattle.model.specs.Real.{RealHours}
use Rattle.model.specs.declared.Cost.{Cost}
use Rattle.search.specs.Answer.{Verdict, cheapest, no_plan, width_stop, length_stop, budget_spent, contradicted, Outcome, verdict, by_state, by_input, Answer}
use Rattle.search.specs.Guarantee.{Stopped, TroubleAt, Fits}
use Rattle.search.specs.Run.{listed, plain, loading, Settings, rising, widest_of, limit_of}

-- how a run with these settings may end: a verdict, or one of document 01's refusals; or document 02's 15 in the loading profile, its 16 with a
-- list of widths that does not rise, and its 17 at a state
pub data Ends (q : Settings) : Outcome → Type 0 where
  with_verdict : {v : Verdict} → Ends q (verdict v)
  refused_by_state : {t : ℕ} → 11 ≤ t → t ≤ 13 → Ends q (by_state t)
  refused_high_below_low : Ends q (by_state high_below_low)
  refused_for_input : {t : ℕ} → 1 ≤ t → t ≤ 9 → Ends q (by_input t)
  refused_outside_profile : q.form ≡ loading → Ends q (by_input outside_profile)
  refused_bad_widths : (ws : List ℕ) → q.beam ≡ listed ws → rising ws ≡ false → Ends q (by_input bad_widths)

-- a plan of the model, from its target, which meets the constraints, at this cost
abbrev pub PlanAt : Model → List ℕ → Cost → Type 0
PlanAt m p c = PlanFrom (costs_of m.rule) (system_of range_end m) (target m) p c

-- "the model's declared bounds and preferences are true": of the high costs. Document 02, §5 asks for bounds that are "true of the low costs", which
-- is more: TrueOfRanges
abbrev pub DeclarationsTrue : Model → Type 0
DeclarationsTrue m = TrueDeclarations (costs_of m.rule) (system_of range_end m) (target m)

-- "every layer of the model up to the length limit has at most as many different states as the widest beam, and no unfinished state
-- lies at the limit"
abbrev pub LayersFit : Model → Settings → Type 0
LayersFit m q = Fits (costs_of m.rule) (system_of range_end m) (origin_of m) (widest_of q.beam) (limit_of q.form m)

-- what the answer to a run of the model m says of that model: demand 3, the length limit, the hours that a plan really takes, and the path
-- at a refusal by the state
pub record Marked (m : Model) (q : Settings) (a : Answer Cost) : Type 0 where
  -- the steps never outnumber the length limit, given or chosen
  pub within_limit : length a.steps ≤ limit_of q.form m
  -- "under every verdict a plan given is a plan of the model, at the cost stated"
  pub plan_given : a.flag ≡ true → PlanAt m a.steps a.cost
  -- "For every choice of step costs inside the ranges, the plan's real cost lies between the two figures"
  pub real_between : a.flag ≡ true → (r : ℕ) → RealHours m (target m) a.steps r → (a.cost.low ≤ r) × (r ≤ a.cost.high)
  -- "a plan marked cheapest costs no more than every other plan of the model, of every length, those beyond the limit included";
  -- "no plan has a smaller high cost"
  pub cheapest_given : a.outcome ≡ verdict cheapest → a.flag ≡ true
  pub cheapest_least : a.outcome ≡ verdict cheapest → DeclarationsTrue m → (p : List ℕ) (c : Cost) → PlanAt m p c → a.cost.high ≤ c.high
  -- "'no plan' then means that none exists, of whatever length"
  pub no_plan_exists : a.outcome ≡ verdict no_plan → DeclarationsTrue m → (p : List ℕ) (c : Cost) → PlanAt m p c → ⊥
  -- "a stopped run's bound is then at most the cost of every plan"; "The bound in a stopped answer is for high costs"
  pub bound_below : Stopped a.outcome → DeclarationsTrue m → (p : List ℕ) (c : Cost) → PlanAt m p c → a.bound.high ≤ c.high
  -- "'Contradicted' is given only if a declaration is false"
  pub declaration_false : a.outcome ≡ verdict contradicted → DeclarationsTrue m → ⊥
  -- "neither the width stop nor the length stop is given"
  pub no_width_stop : LayersFit m q → a.outcome ≡ verdict width_stop → ⊥
  pub no_length_stop : LayersFit m q → a.outcome ≡ verdict length_stop → ⊥
  -- "the plan buffer, length and cost give the path to the state evaluated"
  pub trouble_there : (t : ℕ) → a.outcome ≡ by_state t → TroubleAt (costs_of m.rule) (system_of range_end m) (origin_of m) t a.steps a.cost

-- the demands on the answer to a run of these bytes with these settings
pub record Demands (bytes : List ℕ) (q : Settings) (a : Answer Cost) : Type 0 where
  -- "ends with a verdict or one of the refusals in document 01"
  pub ends : Ends q a.outcome
  -- "counts included": "the count … never passes the budget"
  pub within_budget : a.tally.expansions ≤ q.budget
  -- "expanded, unless the budget is used up: verdict 4"
  pub budget_used : a.outcome ≡ verdict budget_spent → a.tally.expansions ≡ q.budget
  -- the steps never outnumber a length limit that is given
  pub within_given : (limit : ℕ) → q.form ≡ plain limit → length a.steps ≤ limit
  -- document 02, §2: "No model in the profile ends in a length stop"
  pub no_length_stop_loading : q.form ≡ loading → a.outcome ≡ verdict length_stop → ⊥
  -- of the model that the bytes are read as
  pub marked : (m : Model) (n : ℕ) → model bytes ≡ read m n → Marked m q a
