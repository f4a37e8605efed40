-- The plan check passes exactly the plans, at their costs: over any system, then on the bytes of a model and a plan.
-- A target that breaks a constraint has no plan, and no sequence of steps passes.
-- Its answer is 0 exactly where the bytes are a model and the plan is one of its plans, at whatever cost.
use Prim.Native.Nat.{ℕ, ◌≤◌}
use mathlib.Core.Path.{◌≡◌, refl, sym, ◌∙◌, ap, subst}
use mathlib.Core.Logic.{◌↔◌}
use mathlib.Core.Bool.{Bool, true, false, cond}
use mathlib.Core.List.{List, [], ◌∷◌}
use native.Mathlib.Omega.{arith}
use lib.ListN.{length}
use lib.Dec.{ltb}
use borrow.Author.Tests.{ltb-true, ltb-false, lt-ltb, le-ltb}
use Rattle.model.specs.Numbers.{model_too_long, bad_setting, not_a_plan, most_model_bytes, most_steps, range_end}
use Rattle.model.specs.Values.{Value, value, trouble}
use Rattle.model.specs.System.{Costs, CostLaws, System, Status, base, unfinished, no_status, Move, blocked, moved, trouble_before, trouble_after}
use Rattle.model.specs.Plans.{Step, Plan, finish, step, PlanFrom}
use Rattle.model.specs.Syntax.{Model}
use Rattle.model.specs.Readers.{Read, read, refused}
use Rattle.model.specs.Commands.{model}
use Rattle.model.specs.Costs.{free, costs_of}
use Rattle.model.specs.declared.Cost.{Cost}
use Rattle.model.specs.Steps.{target, system_of}
use Rattle.model.specs.Check.{final, after_move, after_status, follow, after_constraints, follow_from, check_model, check, answer_number, CheckedPlan, IsPlan}
use Rattle.model.proofs.Costs.{cost_laws}
use Rattle.model.proofs.Troubles.{check_numbers, check_refusal_positive}

-- ---- over any system

no_value : {A C : Type 0} {t : ℕ} {c : C} → trouble t ≡ value c → A
no_value e = let z : ◌≡◌ {A = ℕ} 0 1 = cc in absurd (omega arith)

module _ {S C : Type 0} (K : Costs C) (L : CostLaws K) (M : System S C) where
  -- a plan passes, at g combined with its cost
  pub plan_passes : {s : S} {p : List ℕ} {c : C} (g : C) → Plan K M s p c → follow K M p s g ≡ value (K.combine g c)
  unfolding follow final after_status after_move
  plan_passes g (finish e) = rw e (ap value (sym (L.right_unit g)))
  plan_passes g (step {t = t} {c = c} {r = r} x p) = rw (x.open_state, lt-ltb t M.transitions x.declared, x.allowed) (plan_passes (K.combine g c) p ∙ ap value (L.associative g c r))

  -- a plan from s whose cost, combined with g, is c; whatever s itself meets
  abbrev pub PlanBehind : S → List ℕ → (g c : C) → Type 0
  PlanBehind s p g c = (r : C) × Plan K M s p r × (c ≡ K.combine g r)

  final_is_plan : (s : S) (g c : C) (x : Status) → M.status s ≡ x → final K M x g ≡ value c → PlanBehind s [] g c
  unfolding final
  final_is_plan s g c base p e = (K.empty, finish p, (let q : g ≡ c = cc in sym q ∙ sym (L.right_unit g)))
  final_is_plan s g c unfinished p e = no_value e
  final_is_plan s g c (no_status t) p e = no_value e

  step_is_plan : (s : S) (t : ℕ) (ts : List ℕ) (g c : C) (x : Status) (declared : Bool) (y : Move S C)
      → ((u : S) (h : C) → follow K M ts u h ≡ value c → PlanBehind u ts h c)
      → M.status s ≡ x → ltb t M.transitions ≡ declared → M.move s t ≡ y
      → after_status K M x declared y (λ d u. follow K M ts u (K.combine g d)) ≡ value c → PlanBehind s (t ∷ ts) g c
  unfolding after_status after_move
  step_is_plan s t ts g c base declared y f p q r e = no_value e
  step_is_plan s t ts g c (no_status n) declared y f p q r e = no_value e
  step_is_plan s t ts g c unfinished false y f p q r e = no_value e
  step_is_plan s t ts g c unfinished true blocked f p q r e = no_value e
  step_is_plan s t ts g c unfinished true (trouble_before n) f p q r e = no_value e
  step_is_plan s t ts g c unfinished true (trouble_after d n) f p q r e = no_value e
  step_is_plan s t ts g c unfinished true (moved d u) f p q r e =
      let (k, plan, h) = f u (K.combine g d) e in
      let x : Step M s t d u = record { open_state = p; declared = ltb-true t M.transitions q; allowed = r } in
      (K.combine d k, step x plan, h ∙ L.associative g d k)

  -- what passes is a plan
  pub passing_is_plan : (p : List ℕ) (s : S) (g c : C) → follow K M p s g ≡ value c → PlanBehind s p g c
  unfolding follow
  passing_is_plan [] s g c e = final_is_plan s g c (M.status s) refl e
  passing_is_plan (t ∷ ts) s g c e = step_is_plan s t ts g c (M.status s) (ltb t M.transitions) (M.move s t) (λ u h. passing_is_plan ts u h c) refl refl refl e

  -- the same of a plan from the target s, which meets the constraints
  pub plan_from_passes : {s : S} {p : List ℕ} {c : C} (g : C) → PlanFrom K M s p c → follow_from K M p s g ≡ value (K.combine g c)
  unfolding follow_from after_constraints
  plan_from_passes g h = rw h.admitted (plan_passes g h.plan)

  admitted_is_plan : (p : List ℕ) (s : S) (g c : C) (x : Value Bool) → M.admits s ≡ x → after_constraints K M x (follow K M p s g) ≡ value c → (r : C) × PlanFrom K M s p r × (c ≡ K.combine g r)
  unfolding after_constraints
  admitted_is_plan p s g c (value true) a e = let (r, plan, h) = passing_is_plan p s g c e in (r, record { admitted = a; plan = plan }, h)
  admitted_is_plan p s g c (value false) a e = no_value e
  admitted_is_plan p s g c (trouble t) a e = no_value e

  pub passing_from_is_plan : (p : List ℕ) (s : S) (g c : C) → follow_from K M p s g ≡ value c → (r : C) × PlanFrom K M s p r × (c ≡ K.combine g r)
  unfolding follow_from
  passing_from_is_plan p s g c e = admitted_is_plan p s g c (M.admits s) refl e

-- no plan begins at a state that breaks a constraint, or whose constraints have no value
pub broken_has_no_plan : {S C : Type 0} (K : Costs C) (M : System S C) {s : S} {p : List ℕ} {c : C} → M.admits s ≡ value false → PlanFrom K M s p c → ⊥
broken_has_no_plan K M e h = let a = h.admitted in let z : ◌≡◌ {A = ℕ} 0 1 = cc in omega arith

pub troubled_has_no_plan : {S C : Type 0} (K : Costs C) (M : System S C) {s : S} {p : List ℕ} {c : C} {t : ℕ} → M.admits s ≡ trouble t → PlanFrom K M s p c → ⊥
troubled_has_no_plan K M e h = let a = h.admitted in let z : ◌≡◌ {A = ℕ} 0 1 = cc in omega arith

-- ---- on bytes

pub check_complete : (bytes plan : List ℕ) (c : Cost) → CheckedPlan bytes plan c → check bytes plan ≡ value c
unfolding check check_model costs_of
check_complete bytes plan c h =
    let rule = h.described.rule in
    rw (le-ltb most_model_bytes (length bytes) h.model_fits, le-ltb most_steps (length plan) h.plan_fits, h.reads)
    (plan_from_passes (costs_of rule) (cost_laws rule) (system_of range_end h.described) free h.plans ∙ ap value ((cost_laws rule).left_unit c))

check_model_sound : (bytes plan : List ℕ) (c : Cost) (x : Read Model) → length bytes ≤ 65536 → length plan ≤ 256 → model bytes ≡ x → check_model x plan ≡ value c → CheckedPlan bytes plan c
unfolding check_model costs_of
check_model_sound bytes plan c (refused t) a b p e = no_value e
check_model_sound bytes plan c (read m n) a b p e =
    let K = costs_of m.rule in
    let (r, q, h) = passing_from_is_plan K (cost_laws m.rule) (system_of range_end m) plan (target m) free c e in
    let same : r ≡ c = sym (h ∙ (cost_laws m.rule).left_unit r) in
    record { model_fits = a; plan_fits = b; described = m; used = n; reads = p; plans = subst (PlanFrom K (system_of range_end m) (target m) plan) same q }

check_within : (bytes plan : List ℕ) (c : Cost) (long_model long_plan : Bool) → ltb most_model_bytes (length bytes) ≡ long_model → ltb most_steps (length plan) ≡ long_plan
    → cond long_model (trouble model_too_long) (cond long_plan (trouble bad_setting) (check_model (model bytes) plan)) ≡ value c → CheckedPlan bytes plan c
check_within bytes plan c true long_plan p q e = no_value e
check_within bytes plan c false true p q e = no_value e
check_within bytes plan c false false p q e = check_model_sound bytes plan c (model bytes) (ltb-false most_model_bytes (length bytes) p) (ltb-false most_steps (length plan) q) refl e

pub check_sound : (bytes plan : List ℕ) (c : Cost) → check bytes plan ≡ value c → CheckedPlan bytes plan c
unfolding check
check_sound bytes plan c e = check_within bytes plan c (ltb most_model_bytes (length bytes)) (ltb most_steps (length plan)) refl refl e

-- the plan check gives cost c exactly where the bytes are a model and the plan is one of its plans at cost c
pub check_exact : (bytes plan : List ℕ) (c : Cost) → (check bytes plan ≡ value c) ↔ CheckedPlan bytes plan c
check_exact bytes plan c = (check_sound bytes plan c, check_complete bytes plan c)

-- the target's constraints decide before anything else about states
module _ (bytes plan : List ℕ) (m : Model) (n : ℕ) (reads : model bytes ≡ read m n) (model_fits : length bytes ≤ most_model_bytes) (plan_fits : length plan ≤ most_steps) where
  -- "If one fails, … the plan check gives 14", for every plan
  pub check_of_broken_target : (system_of range_end m).admits (target m) ≡ value false → check bytes plan ≡ trouble not_a_plan
  unfolding check check_model follow_from after_constraints
  check_of_broken_target e = rw (le-ltb most_model_bytes (length bytes) model_fits, le-ltb most_steps (length plan) plan_fits, reads, e)

  -- trouble keeps its number
  pub check_of_target_trouble : {t : ℕ} → (system_of range_end m).admits (target m) ≡ trouble t → check bytes plan ≡ trouble t
  unfolding check check_model follow_from after_constraints
  check_of_target_trouble e = rw (le-ltb most_model_bytes (length bytes) model_fits, le-ltb most_steps (length plan) plan_fits, reads, e)

-- no refusal has number 0, so answer 0 says that there is a cost
answer_zero_sound : (bytes plan : List ℕ) (x : Value Cost) → check bytes plan ≡ x → answer_number x ≡ 0 → IsPlan bytes plan
unfolding answer_number
answer_zero_sound bytes plan (value c) p e = (c, check_sound bytes plan c p)
answer_zero_sound bytes plan (trouble t) p e = absurd (omega (arith, check_refusal_positive (check_numbers bytes plan p)))

answer_zero_complete : (bytes plan : List ℕ) (c : Cost) → CheckedPlan bytes plan c → answer_number (check bytes plan) ≡ 0
unfolding answer_number
answer_zero_complete bytes plan c h = rw (check_complete bytes plan c h)

pub answer_zero_exact : (bytes plan : List ℕ) → (answer_number (check bytes plan) ≡ 0) ↔ IsPlan bytes plan
answer_zero_exact bytes plan = (answer_zero_sound bytes plan (check bytes plan) refl, λ h. answer_zero_complete bytes plan h.0 h.1)
