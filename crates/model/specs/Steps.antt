-- A model as a system: its start, the status of a state, a transition's move, h, dominance.
-- docs/FORMAT.md, "States and steps" and "Bounds and preferences".
use Rattle.std.specs.Prelude.{ℕ, suc, max, Bool, true, false, cond, not, ◌&&◌, List, [], ◌∷◌, map, length, set, leb, ℤ, pos, negsuc}
use Rattle.std.proofs.Math.Option.{Option}
use Rattle.std.proofs.Math.Option as O
use Rattle.std.proofs.Math.ListN.{get_elem?}
use Rattle.std.specs.Int.Signed.{le_z}
use Rattle.laws.specs.Lists.{any, is_empty}
use Rattle.model.specs.Numbers.{negative_cost, high_below_low}
use Rattle.model.specs.Values.{Value, value, trouble, ◌>>=◌}
use Rattle.model.specs.System.{System, Origin, Status, base, unfinished, no_status, Move, blocked, moved, trouble_before, trouble_after}
use Rattle.model.specs.Syntax.{Number, Preference, none, less, more, Variable, Effect, StepCosts, Transition, Model}
use Rattle.model.specs.declared.Cost.{Cost}
use Rattle.model.specs.Costs.{free, hours, fixed}
use Rattle.model.specs.Meaning.{State, number_at, equal_z, number_value, expression_value, all_hold, some_holds}

unfoldable pub target : Model → State
target m = map (λ x. x.start) m.variables

unfoldable pub status_of : Value Bool → Status
status_of (value true) = base
status_of (value false) = unfinished
status_of (trouble t) = no_status t

unfoldable pub cost_of : ℤ → Value ℕ
cost_of (pos c) = value c
cost_of (negsuc c) = trouble negative_cost

-- "A step whose high cost … is below its low cost is not allowed"
unfoldable pub not_below : (low : ℕ) → ℤ → Value ℕ
not_below low (pos c) = cond (leb low c) (value c) (trouble high_below_low)
not_below low (negsuc c) = trouble high_below_low

-- "no worse by preference on every preferred variable and equal on the rest"
unfoldable pub no_worse : Preference → (t s : ℤ) → Bool
no_worse none t s = equal_z t s
no_worse less t s = le_z t s
no_worse more t s = le_z s t

-- on the variables from number v on
unfoldable pub none_worse : List Variable → (v : ℕ) (t s : State) → Bool
none_worse [] v t s = true
none_worse (x ∷ xs) v t s = no_worse x.preference (number_at t v) (number_at s v) && none_worse xs (suc v) t s

unfoldable pub is_preferred : Preference → Bool
is_preferred none = false
is_preferred less = true
is_preferred more = true

-- no variable has a preference
unfoldable pub prefers_nothing : Model → Bool
prefers_nothing m = not (any (λ x. is_preferred x.preference) m.variables)

-- no variable has a preference, and there is no dual bound
unfoldable pub declares_nothing : Model → Bool
declares_nothing m = prefers_nothing m && is_empty m.bounds

-- the greater of a bound and what came before it; a negative one counts as 0
unfoldable pub raise : ℕ → ℤ → ℕ
raise h (pos a) = max h a
raise h (negsuc a) = h

-- blocked by a condition; or the step's cost and the new state, constraints not yet tried
pub data Attempt : Type 0 where
  not_taken : Attempt
  taken : Cost → State → Attempt

-- end: of the numbers' range
module _ (end : ℕ) (m : Model) where
  -- "meets all constraints": in order, to the first that fails
  unfoldable pub admits : State → Value Bool
  admits s = all_hold end m.tables m.constraints s

  unfoldable pub status : State → Status
  status s = status_of (some_holds end m.tables m.base_cases s)

  -- "Effects all read the old state" s; new is the new state so far
  unfoldable pub effects : List Effect → (s new : State) → Value State
  effects [] s new = value new
  effects (f ∷ fs) s new = do
    z ← expression_value end m.tables f.result s
    effects fs s (set new f.target z)

  -- the cost with both figures: "without it the high cost is the same as the low"
  unfoldable pub with_high : Option Number → (low : ℕ) → State → Value Cost
  with_high O.none low s = value (fixed low)
  with_high (O.some x) low s = do
    z ← number_value end m.tables x s
    high ← not_below low z
    value (record { high = high; low = low; moves = 0 })

  -- "The high cost is evaluated after the low cost has passed 13"
  unfoldable pub step_cost : StepCosts → State → Value Cost
  step_cost k s = do
    z ← number_value end m.tables k.cost s
    low ← cost_of z
    with_high k.high low s

  unfoldable pub attempt : Transition → State → Value Attempt
  attempt t s = do
    holds ← all_hold end m.tables t.conditions s
    cond holds
        (do
          c ← step_cost t.costs s
          new ← effects t.effects s s
          value (taken c new))
        (value not_taken)

  -- "the new state meets all constraints"
  unfoldable pub constrained : Cost → State → Value Bool → Move State Cost
  constrained c new (value true) = moved c new
  constrained c new (value false) = blocked
  constrained c new (trouble t) = trouble_after c t

  unfoldable pub move_of : Value Attempt → Move State Cost
  move_of (value not_taken) = blocked
  move_of (value (taken c new)) = constrained c new (admits new)
  move_of (trouble t) = trouble_before t

  unfoldable pub move_by : Option Transition → State → Move State Cost
  move_by O.none s = blocked
  move_by (O.some t) s = move_of (attempt t s)

  unfoldable pub move : State → ℕ → Move State Cost
  move s t = move_by (get_elem? m.transitions t) s

  -- "h is the greatest of 0 and the bounds", all evaluated in the order written
  unfoldable pub greatest : List Number → State → (h : ℕ) → Value ℕ
  greatest [] s h = value h
  greatest (b ∷ bs) s h = do
    z ← number_value end m.tables b s
    greatest bs s (raise h z)

  unfoldable pub bound_hours : State → Value ℕ
  bound_hours s = greatest m.bounds s 0

  -- h as a cost
  unfoldable pub bound : State → Value Cost
  bound s = do
    h ← bound_hours s
    value (hours h)

  unfoldable pub system_of : System State Cost
  system_of = record { admits = admits; status = status; transitions = length m.transitions; move = move; bound = bound; dominates = none_worse m.variables 0 }

unfoldable pub origin_of : Model → Origin State Cost
origin_of m = record { start = target m; spent = free }
