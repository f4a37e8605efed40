-- What evaluation comes to: every value of a number expression is in range, every trouble is one of the state's, and a step keeps
-- the number of values. One induction over the expressions says all; Ranges, Troubles and Declared take from it what they state.
use Prim.Native.Nat.{ℕ, zero, suc, ◌-◌, ◌≤◌, ◌<◌}
use mathlib.Core.Path.{◌≡◌, refl, ◌∙◌, subst}
use mathlib.Core.Bool.{Bool, true, false, cond}
use mathlib.Core.List.{List, [], ◌∷◌}
use mathlib.Core.Option.{Option}
use mathlib.Core.Option as O
use native.Mathlib.Omega.{arith}
use lib.ListN.{length, get_elem?, set, length-set}
use lib.Dec.{leb, ltb}
use lib.IntN.{ℤ, pos, negsuc}
use lib.Signed.{mag}
use borrow.Author.Tests.{leb-true, ltb-true}
use Rattle.laws.proofs.Bools.{by_cond}
use Rattle.model.specs.Numbers.{divisor_zero, negative_cost}
use Rattle.model.specs.Troubles.{StateTrouble, by_value, by_range}
use Rattle.model.specs.Values.{Value, value, trouble, ◌>>=◌, in_range, floor_quotient}
use Rattle.model.specs.System.{Status, base, unfinished, no_status, Move, blocked, moved, trouble_before, trouble_after}
use Rattle.model.specs.Syntax.{Number, literal, number_variable, plus, minus, times, quotient, lesser, greater, entry, size, total, choice, Condition, equal, less, at_most, same, member, is_empty, subset, negation, both, either, Expression, of_set, of_element, of_number, Table, Effect, StepCosts, Transition, Model}
use Rattle.model.specs.declared.Cost.{Cost}
use Rattle.model.specs.Costs.{fixed, CostUpTo, CostBelow}
use Rattle.model.specs.Meaning.{State, two, fit, number_value, condition_value, expression_value, all_hold, some_holds}
use Rattle.model.specs.Steps.{status_of, cost_of, not_below, raise, Attempt, not_taken, taken, admits, status, effects, with_high, step_cost, attempt, constrained, move_of, move_by, move, greatest, bound_hours, bound}

-- ---- a value with P, or a trouble whose number has Q

module _ {A : Type 0} (P : A → Type 0) (Q : ℕ → Type 0) where
  pub data Outcome : Value A → Type 0 where
    a_value : {a : A} → P a → Outcome (value a)
    a_trouble : {t : ℕ} → Q t → Outcome (trouble t)

abbrev pub Anything : {A : Type 0} → A → Type 0
Anything a = Unit {0}

module _ {A : Type 0} {P : A → Type 0} {Q : ℕ → Type 0} where
  of_value : {a : A} → Outcome P Q (value a) → P a
  of_value (a_value p) = p

  of_trouble : {t : ℕ} → Outcome P Q (trouble t) → Q t
  of_trouble (a_trouble q) = q

  pub outcome_value : {x : Value A} {a : A} → Outcome P Q x → x ≡ value a → P a
  outcome_value o e = of_value (subst (Outcome P Q) e o)

  pub outcome_trouble : {x : Value A} {t : ℕ} → Outcome P Q x → x ≡ trouble t → Q t
  outcome_trouble o e = of_trouble (subst (Outcome P Q) e o)

  then_outcome : {B : Type 0} {R : B → Type 0} {x : Value A} {next : A → Value B} → Outcome P Q x → ((a : A) → P a → Outcome R Q (next a)) → Outcome R Q (x >>= next)
  unfolding ◌>>=◌
  then_outcome (a_value p) f = f _ p
  then_outcome (a_trouble q) f = a_trouble q

  cond_outcome : (b : Bool) {x y : Value A} → Outcome P Q x → Outcome P Q y → Outcome P Q (cond b x y)
  cond_outcome true p q = p
  cond_outcome false p q = q

  pub trouble_outcome : {R : ℕ → Type 0} {x : Value A} → ((t : ℕ) → Q t → R t) → Outcome P Q x → Outcome P R x
  trouble_outcome f (a_value p) = a_value p
  trouble_outcome f (a_trouble q) = a_trouble (f _ q)

  -- where the value itself does not matter
  any_outcome : {x : Value A} → Outcome P Q x → Outcome Anything Q x
  any_outcome (a_value p) = a_value tt
  any_outcome (a_trouble q) = a_trouble q

-- ---- expressions

module _ (end : ℕ) where
  abbrev pub InRange : ℤ → Type 0
  InRange z = mag z < end

  in_range_outcome : (z : ℤ) → Outcome InRange StateTrouble (in_range end z)
  unfolding in_range
  in_range_outcome z = by_cond (Outcome InRange StateTrouble) (ltb (mag z) end) (λ e. a_value (ltb-true (mag z) end e)) (λ e. a_trouble (by_value (omega arith) (omega arith)))

quotient_outcome : (a b : ℤ) → Outcome Anything StateTrouble (floor_quotient a b)
unfolding floor_quotient
quotient_outcome a (pos zero) = a_trouble {t = divisor_zero} (by_value (omega arith) (omega arith))
quotient_outcome a (pos (suc m)) = a_value tt
quotient_outcome a (negsuc m) = a_value tt

module _ (end : ℕ) (tables : List Table) where
  fit_outcome : (z : ℤ) → Outcome (InRange end) StateTrouble (fit end tables z)
  unfolding fit
  fit_outcome z = in_range_outcome end z

  two_outcome : {B : Type 0} {R : B → Type 0} {x y : Value ℤ} {f : ℤ → ℤ → Value B}
      → Outcome (InRange end) StateTrouble x → Outcome (InRange end) StateTrouble y → ((a b : ℤ) → Outcome R StateTrouble (f a b)) → Outcome R StateTrouble (two x y f)
  unfolding two
  two_outcome p q r = then_outcome p (λ a _. then_outcome q (λ b _. r a b))

  mutual
    unfolding number_value

    pub number_outcome : (x : Number) (s : State) → Outcome (InRange end) StateTrouble (number_value end tables x s)
    number_outcome (literal z) s = fit_outcome _
    number_outcome (number_variable v) s = fit_outcome _
    number_outcome (plus x y) s = two_outcome (number_outcome x s) (number_outcome y s) (λ a b. fit_outcome _)
    number_outcome (minus x y) s = two_outcome (number_outcome x s) (number_outcome y s) (λ a b. fit_outcome _)
    number_outcome (times x y) s = two_outcome (number_outcome x s) (number_outcome y s) (λ a b. fit_outcome _)
    number_outcome (quotient x y) s = two_outcome (number_outcome x s) (number_outcome y s) (λ a b. then_outcome (quotient_outcome a b) (λ q _. fit_outcome q))
    number_outcome (lesser x y) s = two_outcome (number_outcome x s) (number_outcome y s) (λ a b. fit_outcome _)
    number_outcome (greater x y) s = two_outcome (number_outcome x s) (number_outcome y s) (λ a b. fit_outcome _)
    number_outcome (entry t x y) s = fit_outcome _
    number_outcome (size x) s = fit_outcome _
    number_outcome (total t x y) s = fit_outcome _
    number_outcome (choice c x y) s = then_outcome (condition_outcome c s) (λ b _. cond_outcome b (number_outcome x s) (number_outcome y s))

    pub condition_outcome : (c : Condition) (s : State) → Outcome Anything StateTrouble (condition_value end tables c s)
    condition_outcome (equal x y) s = two_outcome (number_outcome x s) (number_outcome y s) (λ a b. a_value tt)
    condition_outcome (less x y) s = two_outcome (number_outcome x s) (number_outcome y s) (λ a b. a_value tt)
    condition_outcome (at_most x y) s = two_outcome (number_outcome x s) (number_outcome y s) (λ a b. a_value tt)
    condition_outcome (same x y) s = a_value tt
    condition_outcome (member x y) s = a_value tt
    condition_outcome (is_empty x) s = a_value tt
    condition_outcome (subset x y) s = a_value tt
    condition_outcome (negation c) s = then_outcome (condition_outcome c s) (λ b _. a_value tt)
    condition_outcome (both c d) s = then_outcome (condition_outcome c s) (λ b _. cond_outcome b (condition_outcome d s) (a_value tt))
    condition_outcome (either c d) s = then_outcome (condition_outcome c s) (λ b _. cond_outcome b (a_value tt) (condition_outcome d s))

  expression_outcome : (x : Expression) (s : State) → Outcome Anything StateTrouble (expression_value end tables x s)
  unfolding expression_value
  expression_outcome (of_set x) s = a_value tt
  expression_outcome (of_element x) s = a_value tt
  expression_outcome (of_number x) s = any_outcome (number_outcome x s)

  pub all_hold_outcome : (cs : List Condition) (s : State) → Outcome Anything StateTrouble (all_hold end tables cs s)
  unfolding all_hold
  all_hold_outcome [] s = a_value tt
  all_hold_outcome (c ∷ cs) s = then_outcome (condition_outcome c s) (λ b _. cond_outcome b (all_hold_outcome cs s) (a_value tt))

  pub some_holds_outcome : (bs : List (List Condition)) (s : State) → Outcome Anything StateTrouble (some_holds end tables bs s)
  unfolding some_holds
  some_holds_outcome [] s = a_value tt
  some_holds_outcome (b ∷ bs) s = then_outcome (all_hold_outcome b s) (λ h _. cond_outcome h (a_value tt) (some_holds_outcome bs s))

-- ---- steps

pub data StatusOutcome : Status → Type 0 where
  is_base : StatusOutcome base
  is_unfinished_lem : StatusOutcome unfinished
  no_status_lem : {t : ℕ} → StateTrouble t → StatusOutcome (no_status t)

-- what a step costs: each part is below the range's end, the low figure is at most the high one, and there are no moves
pub record Priced (end : ℕ) (c : Cost) : Type 0 where
  pub below : CostBelow end c
  pub low_first : c.low ≤ c.high
  pub no_moves : c.moves ≡ 0

-- from a state of n values, the new state has n values
pub data MoveOutcome (end n : ℕ) : Move State Cost → Type 0 where
  no_move : MoveOutcome end n blocked
  a_move : {c : Cost} {u : State} → Priced end c → length u ≡ n → MoveOutcome end n (moved c u)
  trouble_before_lem : {t : ℕ} → StateTrouble t → MoveOutcome end n (trouble_before t)
  trouble_after_lem : {c : Cost} {t : ℕ} → Priced end c → StateTrouble t → MoveOutcome end n (trouble_after c t)

data AttemptOutcome (end n : ℕ) : Attempt → Type 0 where
  not_taken_lem : AttemptOutcome end n not_taken
  is_taken : {c : Cost} {new : State} → Priced end c → length new ≡ n → AttemptOutcome end n (taken c new)

status_of_outcome : {x : Value Bool} → Outcome Anything StateTrouble x → StatusOutcome (status_of x)
unfolding status_of
status_of_outcome (a_value {a = true} p) = is_base
status_of_outcome (a_value {a = false} p) = is_unfinished_lem
status_of_outcome (a_trouble q) = no_status_lem q

module _ (end : ℕ) where
  cost_outcome : (z : ℤ) → mag z < end → Outcome (λ c. c < end) StateTrouble (cost_of z)
  unfolding cost_of
  cost_outcome (pos c) h = a_value h
  cost_outcome (negsuc c) h = a_trouble {t = negative_cost} (by_value (omega arith) (omega arith))

  not_below_outcome : (low : ℕ) (z : ℤ) → mag z < end → Outcome (λ c. (low ≤ c) × (c < end)) StateTrouble (not_below low z)
  unfolding not_below
  not_below_outcome low (pos c) h = by_cond (Outcome (λ k. (low ≤ k) × (k < end)) StateTrouble) (leb low c) (λ e. a_value (leb-true low c e, h)) (λ e. a_trouble (by_range refl))
  not_below_outcome low (negsuc c) h = a_trouble (by_range refl)

  raise_below : (h : ℕ) (z : ℤ) → h ≤ end - 1 → mag z < end → raise h z ≤ end - 1
  unfolding raise
  raise_below h (pos a) p q = omega arith
  raise_below h (negsuc a) p q = p

module _ (end : ℕ) (m : Model) where
  pub admits_outcome : (s : State) → Outcome Anything StateTrouble (admits end m s)
  unfolding admits
  admits_outcome s = all_hold_outcome end m.tables m.constraints s

  pub status_outcome : (s : State) → StatusOutcome (status end m s)
  unfolding status
  status_outcome s = status_of_outcome (some_holds_outcome end m.tables m.base_cases s)

  effects_outcome : (fs : List Effect) (s new : State) {n : ℕ} → length new ≡ n → Outcome (λ u. length u ≡ n) StateTrouble (effects end m fs s new)
  unfolding effects
  effects_outcome [] s new e = a_value e
  effects_outcome (f ∷ fs) s new e = then_outcome (expression_outcome end m.tables f.result s) (λ z _. effects_outcome fs s (set new f.target z) (length-set new f.target z ∙ e))

  with_high_outcome : (o : Option Number) (low : ℕ) (s : State) → low < end → Outcome (Priced end) StateTrouble (with_high end m o low s)
  unfolding with_high
  with_high_outcome O.none low s p = a_value {a = fixed low} (record { below = record { high_below = p; low_below = p; moves_below = omega arith }; low_first = omega arith; no_moves = refl })
  with_high_outcome (O.some x) low s p =
      then_outcome (number_outcome end m.tables x s) (λ z h. then_outcome (not_below_outcome end low z h)
      (λ high q. a_value (record { below = record { high_below = q.1; low_below = p; moves_below = omega arith }; low_first = q.0; no_moves = refl })))

  step_cost_outcome : (k : StepCosts) (s : State) → Outcome (Priced end) StateTrouble (step_cost end m k s)
  unfolding step_cost
  step_cost_outcome k s = then_outcome (number_outcome end m.tables k.cost s) (λ z h. then_outcome (cost_outcome end z h) (λ low p. with_high_outcome k.high low s p))

  attempt_outcome : (t : Transition) (s : State) → Outcome (AttemptOutcome end (length s)) StateTrouble (attempt end m t s)
  unfolding attempt
  attempt_outcome t s = then_outcome (all_hold_outcome end m.tables t.conditions s) (λ b _. cond_outcome b
      (then_outcome (step_cost_outcome t.costs s) (λ c k. then_outcome (effects_outcome t.effects s s refl) (λ new e. a_value (is_taken k e))))
      (a_value not_taken_lem))

  constrained_outcome : (c : Cost) (new : State) {n : ℕ} {x : Value Bool} → Priced end c → length new ≡ n → Outcome Anything StateTrouble x → MoveOutcome end n (constrained end m c new x)
  unfolding constrained
  constrained_outcome c new h e (a_value {a = true} p) = a_move h e
  constrained_outcome c new h e (a_value {a = false} p) = no_move
  constrained_outcome c new h e (a_trouble q) = trouble_after_lem h q

  move_of_outcome : {n : ℕ} {x : Value Attempt} → Outcome (AttemptOutcome end n) StateTrouble x → MoveOutcome end n (move_of end m x)
  unfolding move_of
  move_of_outcome (a_value not_taken_lem) = no_move
  move_of_outcome (a_value (is_taken {c} {new} h e)) = constrained_outcome c new h e (admits_outcome new)
  move_of_outcome (a_trouble q) = trouble_before_lem q

  move_by_outcome : (o : Option Transition) (s : State) → MoveOutcome end (length s) (move_by end m o s)
  unfolding move_by
  move_by_outcome O.none s = no_move
  move_by_outcome (O.some t) s = move_of_outcome (attempt_outcome t s)

  pub move_outcome : (s : State) (t : ℕ) → MoveOutcome end (length s) (move end m s t)
  unfolding move
  move_outcome s t = move_by_outcome (get_elem? m.transitions t) s

  greatest_outcome : (bs : List Number) (s : State) (h : ℕ) → h ≤ end - 1 → Outcome (λ h. h ≤ end - 1) StateTrouble (greatest end m bs s h)
  unfolding greatest
  greatest_outcome [] s h p = a_value p
  greatest_outcome (b ∷ bs) s h p = then_outcome (number_outcome end m.tables b s) (λ z q. greatest_outcome bs s (raise h z) (raise_below end h z p q))

  pub bound_hours_outcome : (s : State) → Outcome (λ h. h ≤ end - 1) StateTrouble (bound_hours end m s)
  unfolding bound_hours
  bound_hours_outcome s = greatest_outcome m.bounds s 0 (omega arith)

  pub bound_outcome : (s : State) → Outcome (CostUpTo (end - 1)) StateTrouble (bound end m s)
  unfolding bound
  bound_outcome s = then_outcome (bound_hours_outcome s) (λ h p. a_value (record { high_within = p; low_within = omega arith; moves_within = omega arith }))
