-- What an answer is worth: demand 3 of the mission, of plans from a target that meets the constraints, and the path at a refusal by the state.
-- docs/FORMAT.md, "Verdicts" and "Refusals by the state".
use Rattle.std.specs.Prelude.{ℕ, ◌≤◌, ◌<◌, ◌≡◌, true, List, [], ◌∷◌, ◌++◌, length}
use Rattle.laws.specs.Lists.{All, Different}
use Rattle.model.specs.Values.{trouble}
use Rattle.model.specs.System.{Costs, System, Origin, unfinished, no_status, trouble_before, trouble_after}
use Rattle.model.specs.Plans.{PlanFrom, Leads, InLayer, TrueDeclarations, Overfull, OpenAt}
use Rattle.search.specs.Answer.{cheapest, no_plan, width_stop, length_stop, budget_spent, contradicted, Outcome, verdict, Answer}

-- "Runs with 2, 3 or 4 are stopped"
pub data Stopped : Outcome → Type 0 where
  by_width : Stopped (verdict width_stop)
  by_length : Stopped (verdict length_stop)
  by_budget : Stopped (verdict budget_spent)

-- the last of the widths
abbrev pub widest : ℕ → List ℕ → ℕ
widest w [] = w
widest w (v ∷ vs) = widest v vs

module _ {S C : Type 0} (K : Costs C) (M : System S C) (o : Origin S C) where
  -- where the declarations are true, P holds of the cost of every plan, of every length, what was spent before included;
  -- a plan needs a start that meets the constraints
  abbrev pub OfEveryPlan : (C → Type 0) → Type 0
  OfEveryPlan P = TrueDeclarations K M o.start → (p : List ℕ) (c : C) → PlanFrom K M o.start p c → P (K.combine o.spent c)

  -- allowed steps from the start to s, at cost g, what was spent before included
  abbrev pub PathTo : List ℕ → (s : S) (g : C) → Type 0
  PathTo p s g = Leads K M o.start o.spent p s g

  -- at a refusal by the state "the plan buffer, length and cost give the path to the state evaluated (for a child's constraints and h,
  -- the child's path)": trouble t is met where these steps lead, at this cost
  pub data TroubleAt (t : ℕ) : (steps : List ℕ) (cost : C) → Type 0 where
    -- in the constraints of the start
    in_start : M.admits o.start ≡ trouble t → TroubleAt t [] o.spent
    in_base_cases : {p : List ℕ} {s : S} {g : C} → PathTo p s g → M.status s ≡ no_status t → TroubleAt t p g
    -- in the conditions, the cost or the effects of transition i
    in_transition : {p : List ℕ} {s : S} {g : C} {i : ℕ} → PathTo p s g → M.status s ≡ unfinished → i < M.transitions → M.move s i ≡ trouble_before t → TroubleAt t p g
    -- in the constraints of the child by transition i
    in_constraints : {p : List ℕ} {s : S} {g c : C} {i : ℕ} → PathTo p s g → M.status s ≡ unfinished → i < M.transitions → M.move s i ≡ trouble_after c t → TroubleAt t (p ++ (i ∷ [])) (K.combine g c)
    -- in h of the start or of a child
    in_bound : {p : List ℕ} {s : S} {g : C} → PathTo p s g → M.bound s ≡ trouble t → TroubleAt t p g

  -- W the widest beam, limit the length limit
  module _ (W limit : ℕ) where
    pub record Guarantee (a : Answer C) : Type 0 where
      -- "under every verdict a plan given is a plan of the model, at the cost stated"
      pub plan_given : a.flag ≡ true → (c : C) × PlanFrom K M o.start a.steps c × (a.cost ≡ K.combine o.spent c)
      -- "a plan marked cheapest costs no more than every other plan of the model, of every length"
      pub cheapest_given : a.outcome ≡ verdict cheapest → a.flag ≡ true
      pub cheapest_least : a.outcome ≡ verdict cheapest → OfEveryPlan (λ c. K.at_most a.cost c ≡ true)
      -- "'no plan' then means that none exists, of whatever length"
      pub no_plan_exists : a.outcome ≡ verdict no_plan → OfEveryPlan (λ c. ⊥)
      -- "a stopped run's bound is then at most the cost of every plan"
      pub bound_below : Stopped a.outcome → OfEveryPlan (λ c. K.at_most a.bound c ≡ true)
      -- "'Contradicted' is given only if a declaration is false"
      pub declaration_false : a.outcome ≡ verdict contradicted → TrueDeclarations K M o.start → ⊥
      -- behind a width stop, a layer with more different states than the widest beam; behind a length stop, an unfinished state at the limit
      pub width_witness : a.outcome ≡ verdict width_stop → Overfull M o.start W limit
      pub length_witness : a.outcome ≡ verdict length_stop → OpenAt M o.start limit

    -- "every layer of the model up to the length limit has at most as many different states as the widest beam, and no unfinished state lies at the limit"
    pub record Fits : Type 0 where
      pub layers_fit : (k : ℕ) (l : List S) → k ≤ limit → Different l → All (InLayer M o.start k) l → length l ≤ W
      pub none_open : (s : S) → InLayer M o.start limit s → M.status s ≡ unfinished → ⊥
