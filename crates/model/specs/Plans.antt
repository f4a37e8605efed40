-- Steps, layers, plans and true declarations, as document 01's "States and plans" has them; document 02, §1: the target of a plan.
-- docs/FORMAT.md, "States and steps", "Plans" and "Bounds and preferences".
use Rattle.std.specs.Prelude.{ℕ, suc, ◌≤◌, ◌<◌, ◌≡◌, true, List, [], ◌∷◌, length}
use Rattle.laws.specs.Lists.{All, Different}
use Rattle.model.specs.Values.{value}
use Rattle.model.specs.System.{Costs, System, base, unfinished, moved}

module _ {S C : Type 0} (M : System S C) where
  -- an allowed step from s to u by transition t at cost c:
  -- "Base states, and states whose base cases have no value, are not stepped from"
  pub record Step (s : S) (t : ℕ) (c : C) (u : S) : Type 0 where
    pub open_state : M.status s ≡ unfinished
    pub declared : t < M.transitions
    pub allowed : M.move s t ≡ moved c u

  module _ (start : S) where
    -- "Layer k of the model is the set of all states … that exactly k allowed steps reach from the state where the rounds start"
    pub data InLayer : ℕ → S → Type 0 where
      first : InLayer 0 start
      next : {k t : ℕ} {s u : S} {c : C} → InLayer k s → Step s t c u → InLayer (suc k) u

    -- some layer up to the limit has more different states than the width
    abbrev pub Overfull : (width limit : ℕ) → Type 0
    Overfull width limit = (k : ℕ) × (l : List S) × (k ≤ limit) × Different l × All (InLayer k) l × (width < length l)

    -- an unfinished state lies at the limit
    abbrev pub OpenAt : (limit : ℕ) → Type 0
    OpenAt limit = (s : S) × InLayer limit s × (M.status s ≡ unfinished)

module _ {S C : Type 0} (K : Costs C) (M : System S C) where
  -- "A plan is a sequence of such steps … whose last state is a base state and no earlier one is;
  -- its cost is the sum or largest of the step costs, 0 when empty"
  pub data Plan : S → List ℕ → C → Type 0 where
    finish : {s : S} → M.status s ≡ base → Plan s [] K.empty
    step : {s u : S} {t : ℕ} {ts : List ℕ} {c r : C} → Step M s t c u → Plan u ts r → Plan s (t ∷ ts) (K.combine c r)

  -- a plan from a target s. "Plans … henceforth need such a target": it meets all constraints, each of which has a value
  pub record PlanFrom (s : S) (p : List ℕ) (c : C) : Type 0 where
    pub admitted : M.admits s ≡ value true
    pub plan : Plan s p c

  -- allowed steps, one after the other, lead from s to u, g being spent on the way to s and d on the way to u
  pub data Leads : (s : S) (g : C) → List ℕ → (u : S) (d : C) → Type 0 where
    arrived : {s : S} {g : C} → Leads s g [] s g
    further : {s u v : S} {t : ℕ} {ts : List ℕ} {c g d : C} → Step M s t c u → Leads u (K.combine g c) ts v d → Leads s g (t ∷ ts) v d

  -- "Declarations are true when, over all states reachable by allowed steps, h (where it has a value) is at most the cost of
  -- every plan from there, and a dominating state has, for each plan of the dominated one, a plan costing no more"
  pub record TrueDeclarations (start : S) : Type 0 where
    pub bounds : {k : ℕ} {s : S} {h r : C} {p : List ℕ} → InLayer M start k s → M.bound s ≡ value h → Plan s p r → K.at_most h r ≡ true
    pub preferences : {j k : ℕ} {s u : S} {p : List ℕ} {r : C} → InLayer M start j s → InLayer M start k u → M.dominates s u ≡ true → Plan u p r
        → (q : List ℕ) × (c : C) × Plan s q c × (K.at_most c r ≡ true)
