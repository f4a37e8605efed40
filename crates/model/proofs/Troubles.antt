-- The numbers of troubles: evaluation, constraints, status and h give 11 to 13, moves 17 besides, following a plan 14 as well.
-- So the plan check refuses by 1, 2, 4 to 9, 11 to 14 and 17 only.
use Prim.Native.Nat.{ℕ, ◌≤◌, ◌<◌}
use mathlib.Core.Path.{◌≡◌, refl, subst}
use mathlib.Core.Bool.{Bool, true, false}
use mathlib.Core.List.{List, [], ◌∷◌}
use native.Mathlib.Omega.{arith}
use lib.ListN.{length}
use lib.Dec.{ltb}
use Rattle.laws.proofs.Bools.{by_cond}
use Rattle.model.specs.Numbers.{model_too_long, bad_setting, not_a_plan, most_model_bytes, most_steps, range_end}
use Rattle.model.specs.Troubles.{StateTrouble, by_value, by_range, PlanTrouble, is_no_plan, of_state}
use Rattle.model.specs.Values.{Value, trouble}
use Rattle.model.specs.System.{Costs, Status, no_status, Move, trouble_before, trouble_after}
use Rattle.model.specs.Syntax.{Number, Condition, Table, Model}
use Rattle.model.specs.Readers.{Read}
use Rattle.model.specs.Meaning.{State, number_value, condition_value}
use Rattle.model.specs.Costs.{free, costs_of}
use Rattle.model.specs.declared.Cost.{Cost}
use Rattle.model.specs.Steps.{target, system_of}
use Rattle.model.specs.Check.{final, after_move, after_status, follow, after_constraints, follow_from, check_model, check}
use Rattle.model.proofs.Outcomes.{Outcome, a_value, a_trouble, Anything, outcome_trouble, trouble_outcome, number_outcome, condition_outcome, StatusOutcome, is_base, is_unfinished_lem, no_status_lem, status_outcome, admits_outcome, MoveOutcome, no_move, a_move, trouble_before_lem, trouble_after_lem, move_outcome, bound_outcome}
use Rattle.model.proofs.Fair.{ReadBy, reads, refuses}
use Rattle.model.proofs.Reading.{model_full}

-- ---- evaluation

module _ (end : ℕ) (tables : List Table) where
  pub number_trouble : (x : Number) (s : State) {t : ℕ} → number_value end tables x s ≡ trouble t → StateTrouble t
  number_trouble x s e = outcome_trouble (number_outcome end tables x s) e

  pub condition_trouble : (c : Condition) (s : State) {t : ℕ} → condition_value end tables c s ≡ trouble t → StateTrouble t
  condition_trouble c s e = outcome_trouble (condition_outcome end tables c s) e

-- ---- the system

of_no_status : {t : ℕ} → StatusOutcome (no_status t) → StateTrouble t
of_no_status (no_status_lem q) = q

of_trouble_before : {end n t : ℕ} → MoveOutcome end n (trouble_before t) → StateTrouble t
of_trouble_before (trouble_before_lem q) = q

of_trouble_after : {end n t : ℕ} {c : Cost} → MoveOutcome end n (trouble_after c t) → StateTrouble t
of_trouble_after (trouble_after_lem h q) = q

module _ (end : ℕ) (m : Model) where
  pub admits_trouble : (s : State) {t : ℕ} → (system_of end m).admits s ≡ trouble t → StateTrouble t
  unfolding system_of
  admits_trouble s e = outcome_trouble (admits_outcome end m s) e

  pub status_trouble : (s : State) {t : ℕ} → (system_of end m).status s ≡ no_status t → StateTrouble t
  unfolding system_of
  status_trouble s e = of_no_status (subst StatusOutcome e (status_outcome end m s))

  pub move_trouble_before : (s : State) (i : ℕ) {t : ℕ} → (system_of end m).move s i ≡ trouble_before t → StateTrouble t
  unfolding system_of
  move_trouble_before s i e = of_trouble_before (subst (MoveOutcome end (length s)) e (move_outcome end m s i))

  pub move_trouble_after : (s : State) (i : ℕ) {c : Cost} {t : ℕ} → (system_of end m).move s i ≡ trouble_after c t → StateTrouble t
  unfolding system_of
  move_trouble_after s i e = of_trouble_after (subst (MoveOutcome end (length s)) e (move_outcome end m s i))

  pub bound_trouble : (s : State) {t : ℕ} → (system_of end m).bound s ≡ trouble t → StateTrouble t
  unfolding system_of
  bound_trouble s e = outcome_trouble (bound_outcome end m s) e

-- ---- following a plan

abbrev PlanOutcome : Value Cost → Type 0
PlanOutcome = Outcome Anything PlanTrouble

not_a_plan_lem : PlanOutcome (trouble not_a_plan)
not_a_plan_lem = a_trouble {t = not_a_plan} (is_no_plan refl)

refused_by_state : {t : ℕ} → StateTrouble t → PlanOutcome (trouble t)
refused_by_state q = a_trouble (of_state q)

module _ (end : ℕ) (K : Costs Cost) (m : Model) where
  final_outcome : {x : Status} (g : Cost) → StatusOutcome x → PlanOutcome (final K (system_of end m) x g)
  unfolding final
  final_outcome g is_base = a_value tt
  final_outcome g is_unfinished_lem = not_a_plan_lem
  final_outcome g (no_status_lem q) = refused_by_state q

  after_move_outcome : {n : ℕ} {x : Move State Cost} {rest : Cost → State → Value Cost} → MoveOutcome end n x → ((c : Cost) (u : State) → PlanOutcome (rest c u)) → PlanOutcome (after_move K (system_of end m) x rest)
  unfolding after_move
  after_move_outcome no_move f = not_a_plan_lem
  after_move_outcome (a_move {c} {u} h e) f = f c u
  after_move_outcome (trouble_before_lem q) f = refused_by_state q
  after_move_outcome (trouble_after_lem h q) f = refused_by_state q

  after_status_outcome : {n : ℕ} {x : Status} (declared : Bool) {y : Move State Cost} {rest : Cost → State → Value Cost} → StatusOutcome x → MoveOutcome end n y → ((c : Cost) (u : State) → PlanOutcome (rest c u)) → PlanOutcome (after_status K (system_of end m) x declared y rest)
  unfolding after_status
  after_status_outcome declared is_base p f = not_a_plan_lem
  after_status_outcome true is_unfinished_lem p f = after_move_outcome p f
  after_status_outcome false is_unfinished_lem p f = not_a_plan_lem
  after_status_outcome declared (no_status_lem q) p f = refused_by_state q

  follow_outcome : (p : List ℕ) (s : State) (g : Cost) → PlanOutcome (follow K (system_of end m) p s g)
  unfolding follow system_of
  follow_outcome [] s g = final_outcome g (status_outcome end m s)
  follow_outcome (t ∷ ts) s g = after_status_outcome (ltb t (length m.transitions)) (status_outcome end m s) (move_outcome end m s t) (λ c u. follow_outcome ts u (K.combine g c))

  after_constraints_outcome : {x : Value Bool} {rest : Value Cost} → Outcome Anything StateTrouble x → PlanOutcome rest → PlanOutcome (after_constraints K (system_of end m) x rest)
  unfolding after_constraints
  after_constraints_outcome (a_value {a = true} p) r = r
  after_constraints_outcome (a_value {a = false} p) r = not_a_plan_lem
  after_constraints_outcome (a_trouble q) r = refused_by_state q

  follow_from_outcome : (p : List ℕ) (s : State) (g : Cost) → PlanOutcome (follow_from K (system_of end m) p s g)
  unfolding follow_from system_of
  follow_from_outcome p s g = after_constraints_outcome (admits_outcome end m s) (follow_outcome p s g)

  pub follow_from_trouble : (p : List ℕ) (s : State) (g : Cost) {t : ℕ} → follow_from K (system_of end m) p s g ≡ trouble t → PlanTrouble t
  follow_from_trouble p s g e = outcome_trouble (follow_from_outcome p s g) e

-- ---- the plan check on bytes

pub data CheckRefusal (t : ℕ) : Type 0 where
  model_too_long_lem : t ≡ model_too_long → CheckRefusal t
  plan_too_long : t ≡ bad_setting → CheckRefusal t
  by_reading : (4 ≤ t) × (t ≤ 9) → CheckRefusal t
  by_following : PlanTrouble t → CheckRefusal t

check_model_outcome : {bytes : List ℕ} {x : Read Model} (plan : List ℕ) → ReadBy ◌≡◌ bytes x → Outcome Anything CheckRefusal (check_model x plan)
unfolding check_model
check_model_outcome plan (reads {a} h) = trouble_outcome (λ t q. by_following q) (follow_from_outcome range_end (costs_of a.rule) a plan (target a) free)
check_model_outcome plan (refuses h) = a_trouble (by_reading h)

check_outcome : (bytes plan : List ℕ) → Outcome Anything CheckRefusal (check bytes plan)
unfolding check
check_outcome bytes plan = by_cond (Outcome Anything CheckRefusal) (ltb most_model_bytes (length bytes)) (λ e. a_trouble (model_too_long_lem refl))
    (λ e. by_cond (Outcome Anything CheckRefusal) (ltb most_steps (length plan)) (λ e. a_trouble (plan_too_long refl)) (λ e. check_model_outcome plan (model_full bytes)))

pub check_numbers : (bytes plan : List ℕ) {t : ℕ} → check bytes plan ≡ trouble t → CheckRefusal t
check_numbers bytes plan e = outcome_trouble (check_outcome bytes plan) e

pub check_refusal_positive : {t : ℕ} → CheckRefusal t → 0 < t
check_refusal_positive (model_too_long_lem e) = omega arith
check_refusal_positive (plan_too_long e) = omega arith
check_refusal_positive (by_reading h) = omega arith
check_refusal_positive (by_following (is_no_plan e)) = omega arith
check_refusal_positive (by_following (of_state (by_value h k))) = omega arith
check_refusal_positive (by_following (of_state (by_range e))) = omega arith
