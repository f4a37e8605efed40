-- Ranges: number values, step costs and h lie below the range's end, so the cost of a path grows by less than that in each step.
-- With an end of at most 2^54 and at most 256 steps, each part of a path's cost is below 2^63, alone and combined with h or with one step more.
use Prim.Native.Nat.{ℕ, ◌-◌, ◌*◌, ◌^◌, ◌≤◌, ◌<◌}
use mathlib.Core.Path.{◌≡◌, subst}
use mathlib.Core.List.{List}
use native.Mathlib.Omega.{arith}
use native.Mathlib.Nat.{suc-mul, mul-le-mul}
use lib.ListN.{length}
use lib.IntN.{ℤ}
use lib.Signed.{mag}
use Rattle.model.specs.Values.{value}
use Rattle.model.specs.System.{moved, trouble_after}
use Rattle.model.specs.Syntax.{Number, Table, Model}
use Rattle.model.specs.Meaning.{State, number_value}
use Rattle.model.specs.Costs.{costs_of, CostUpTo, CostBelow}
use Rattle.model.specs.declared.Cost.{Cost}
use Rattle.model.specs.Steps.{system_of, origin_of, bound_hours}
use Rattle.model.proofs.Reach.{Reach, here, onward}
use Rattle.model.proofs.Costs.{combine_up_to}
use Rattle.model.proofs.Outcomes.{outcome_value, number_outcome, Priced, MoveOutcome, a_move, trouble_after_lem, move_outcome, bound_hours_outcome, bound_outcome}

-- every value of a number expression is in range
pub number_in_range : (end : ℕ) (tables : List Table) (x : Number) (s : State) {z : ℤ} → number_value end tables x s ≡ value z → mag z < end
number_in_range end tables x s e = outcome_value (number_outcome end tables x s) e

moved_priced : {end n : ℕ} {c : Cost} {u : State} → MoveOutcome end n (moved c u) → Priced end c
moved_priced (a_move h e) = h

after_priced : {end n t : ℕ} {c : Cost} → MoveOutcome end n (trouble_after c t) → Priced end c
after_priced (trouble_after_lem h q) = h

-- bounds of costs, part by part
pub up_to_less : {n k : ℕ} {c : Cost} → CostUpTo n c → n ≤ k → CostUpTo k c
up_to_less p h = record { high_within = omega (arith, p.high_within); low_within = omega (arith, p.low_within); moves_within = omega (arith, p.moves_within) }

pub up_to_below : {n k : ℕ} {c : Cost} → CostUpTo n c → n < k → CostBelow k c
up_to_below p h = record { high_below = omega (arith, p.high_within); low_below = omega (arith, p.low_within); moves_below = omega (arith, p.moves_within) }

pub below_up_to : {end : ℕ} {c : Cost} → CostBelow end c → CostUpTo (end - 1) c
below_up_to p = record { high_within = omega (arith, p.high_below); low_within = omega (arith, p.low_below); moves_within = omega (arith, p.moves_below) }

module _ (end : ℕ) (m : Model) where
  pub step_priced : (s : State) (t : ℕ) {c : Cost} {u : State} → (system_of end m).move s t ≡ moved c u → Priced end c
  unfolding system_of
  step_priced s t e = moved_priced (subst (MoveOutcome end (length s)) e (move_outcome end m s t))

  -- the step's cost where the new state's constraints give trouble
  pub trouble_priced : (s : State) (t : ℕ) {c : Cost} {n : ℕ} → (system_of end m).move s t ≡ trouble_after c n → Priced end c
  unfolding system_of
  trouble_priced s t e = after_priced (subst (MoveOutcome end (length s)) e (move_outcome end m s t))

  pub step_cost_below : (s : State) (t : ℕ) {c : Cost} {u : State} → (system_of end m).move s t ≡ moved c u → CostBelow end c
  step_cost_below s t e = (step_priced s t e).below

  pub trouble_cost_below : (s : State) (t : ℕ) {c : Cost} {n : ℕ} → (system_of end m).move s t ≡ trouble_after c n → CostBelow end c
  trouble_cost_below s t e = (trouble_priced s t e).below

  bound_at_most : (s : State) {h : Cost} → (system_of end m).bound s ≡ value h → CostUpTo (end - 1) h
  unfolding system_of
  bound_at_most s e = outcome_value (bound_outcome end m s) e

  pub bound_hours_below : 0 < end → (s : State) {h : ℕ} → bound_hours end m s ≡ value h → h < end
  bound_hours_below p s e = omega (arith, outcome_value (bound_hours_outcome end m s) e)

  -- by either rule, each step adds at most end - 1 to each part
  pub path_cost_below : {p : List ℕ} {s : State} {g : Cost} → Reach (costs_of m.rule) (system_of end m) (origin_of m) p s g → CostUpTo (length p * (end - 1)) g
  unfolding origin_of costs_of
  path_cost_below here = record { high_within = omega arith; low_within = omega arith; moves_within = omega arith }
  path_cost_below (onward {p} {s} {u} {t} {g} {c} r x) = up_to_less (combine_up_to m.rule (path_cost_below r) (below_up_to (step_cost_below s t x.allowed))) (omega (arith, suc-mul (length p) (end - 1)))

  path_cost_limit : {p : List ℕ} {s : State} {g : Cost} → end ≤ 2 ^ 54 → length p ≤ 256 → Reach (costs_of m.rule) (system_of end m) (origin_of m) p s g → CostUpTo (256 * (2 ^ 54 - 1)) g
  path_cost_limit {p} a b r =
      let e : end - 1 ≤ 2 ^ 54 - 1 = omega arith in
      up_to_less (path_cost_below r) (mul-le-mul b e)

  pub path_cost_fits : {p : List ℕ} {s : State} {g : Cost} → end ≤ 2 ^ 54 → length p ≤ 256 → Reach (costs_of m.rule) (system_of end m) (origin_of m) p s g → CostBelow (2 ^ 63) g
  path_cost_fits a b r = up_to_below (path_cost_limit a b r) (omega arith)

  -- f: g combined with h
  pub f_fits : {p : List ℕ} {s : State} {g h : Cost} → end ≤ 2 ^ 54 → length p ≤ 256 → Reach (costs_of m.rule) (system_of end m) (origin_of m) p s g → (system_of end m).bound s ≡ value h
      → CostBelow (2 ^ 63) ((costs_of m.rule).combine g h)
  unfolding costs_of
  f_fits {s = s} a b r e = up_to_below (combine_up_to m.rule (path_cost_limit a b r) (bound_at_most s e)) (omega arith)

  -- g combined with the cost of one step more, also where the new state's constraints give trouble
  pub next_cost_fits : {p : List ℕ} {s : State} {g c : Cost} → end ≤ 2 ^ 54 → length p ≤ 256 → Reach (costs_of m.rule) (system_of end m) (origin_of m) p s g → CostBelow end c
      → CostBelow (2 ^ 63) ((costs_of m.rule).combine g c)
  unfolding costs_of
  next_cost_fits a b r k = up_to_below (combine_up_to m.rule (path_cost_limit a b r) (below_up_to k)) (omega arith)
