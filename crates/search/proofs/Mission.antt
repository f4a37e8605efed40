-- The mission's three demands, sentence by sentence, of every run from bytes and settings; then document 02's sentences.
-- Each sentence is a theorem with its own name; docs/AUDIT.md walks through them.
use Prim.Native.Nat.{ℕ, ◌≤◌, ◌<◌}
use mathlib.Core.Path.{◌≡◌, refl, sym, ◌∙◌, ap, subst}
use mathlib.Core.Logic.{◌↔◌}
use mathlib.Core.Bool.{Bool, true, false, cond, not, ◌&&◌, false≢true}
use mathlib.Core.List.{List, [], ◌∷◌, ◌++◌}
use native.Mathlib.Omega.{arith}
use lib.ListN.{length, drop, length-append}
use lib.Dec.{ltb}
use lib.Seq.{take_at}
use borrow.Author.Tests.{leb-true, le-leb}
use Rattle.laws.proofs.Bools.{and_both}
use Rattle.model.specs.declared.Cost.{Cost}
use Rattle.model.specs.Numbers.{range_end, most_model_bytes, most_steps, model_too_long, bad_setting, bad_widths, too_little_lent, not_a_plan}
use Rattle.model.specs.Troubles.{StateTrouble, by_value, by_range}
use Rattle.model.specs.Values.{Value, value, trouble}
use Rattle.model.specs.Readers.{Read, read, refused}
use Rattle.model.specs.Syntax.{Model}
use Rattle.model.specs.Commands.{model}
use Rattle.model.specs.Costs.{free, at_most, combine, costs_of}
use Rattle.model.specs.Steps.{target, system_of, origin_of}
use Rattle.model.proofs.Costs.{cost_laws, at_most_hours}
use Rattle.model.specs.Check.{check, cost_given, answer_cost, answer_low, CheckedPlan}
use Rattle.model.proofs.Dominance.{dominates_self}
use Rattle.model.proofs.Ranges.{trouble_priced}
use Rattle.model.specs.Real.{RealHours, TrueOfRanges, NoRanges}
use Rattle.model.proofs.Real.{joined_no_moves, plan_no_moves, path_no_moves, no_ranges_one_figure, real_cost_between, declared_true}
use Rattle.model.specs.Profile.{in_profile, loading_length}
use Rattle.model.proofs.Profile.{loading_length_some, loading_length_within, none_open_in_profile}
use Rattle.model.proofs.Troubles.{admits_trouble, status_trouble, move_trouble_before, move_trouble_after, bound_trouble, CheckRefusal, check_numbers}
use Rattle.model.proofs.PlanCheck.{check_exact, broken_has_no_plan, check_of_broken_target, check_of_target_trouble}
use Rattle.search.specs.Answer.{Verdict, cheapest, no_plan, width_stop, length_stop, contradicted, Outcome, verdict, by_state, by_input, Answer, buffer_after, handed_back}
use Rattle.search.specs.Guarantee.{Stopped, TroubleAt, in_start, in_base_cases, in_transition, in_constraints, in_bound, Guarantee}
use Rattle.search.specs.Demands.{Ends, with_verdict, refused_by_state, refused_high_below_low, PlanAt, DeclarationsTrue, LayersFit, Marked, Demands}
use Rattle.search.specs.Search.{search_within}
use Rattle.search.specs.Run.{Beam, up_to, listed, Form, plain, loading, Settings, Lent, wider_up_to, is_width, rising, first_width, wider_than, widest_of, limit_of, beam_fits, list_fits, form_fits, settings_fit, lent_fits, refused_by_input, search_model, run_read, run_set, run, shown}
use Rattle.search.proofs.Settings.{beam_fits_lem, widest_is_last, built_in_last, built_in_rises}
use Rattle.search.proofs.Source.{Accepted, Source, input_refused, searched, run_source, run_holds, run_bad_widths, run_accepted}
use Rattle.search.proofs.Targets.{broken_start, troubled_start}
use Rattle.search.proofs.Sound.{search_guarantee, steps_within, no_stop_where_fits}
use Rattle.search.proofs.Refusals.{run_refusal_path}
use Rattle.search.proofs.Budget.{any_bound_of_run, run_budget_spent_means_used}
use Rattle.search.proofs.Counts.{Troubles, expansions_within_budget, refusals_from_system, never_by_input}

-- ---- demand 1

ends_at_state : {q : Settings} {t : ℕ} → StateTrouble t → Ends q (by_state t)
ends_at_state (by_value h k) = refused_by_state h k
ends_at_state (by_range e) = rw e refused_high_below_low

search_ends : (m : Model) (q : Settings) (x : Outcome) → (search_model m q).outcome ≡ x → Ends q x
unfolding search_model
search_ends m q (verdict v) e = with_verdict
search_ends m q (by_state t) e =
    let known : Troubles (system_of range_end m) StateTrouble =
    record {
      of_admits = λ s n e. admits_trouble range_end m s e;
      of_status = λ s n e. status_trouble range_end m s e;
      of_move_before = λ s t n lt e. move_trouble_before range_end m s t e;
      of_move_after = λ s t n c lt e. move_trouble_after range_end m s t e;
      of_bound = λ s n e. bound_trouble range_end m s e;
    } in
    ends_at_state (refusals_from_system (costs_of m.rule) (system_of range_end m) (origin_of m) q.budget (limit_of q.form m) (first_width q.beam) (wider_than q.beam) StateTrouble known t e)
search_ends m q (by_input t) e = absurd (never_by_input (costs_of m.rule) (system_of range_end m) (origin_of m) q.budget (limit_of q.form m) (first_width q.beam) (wider_than q.beam) t e)

source_ends : {bytes : List ℕ} {q : Settings} {l : Lent} {a : Answer Cost} → Source bytes q l a → Ends q a.outcome
unfolding refused_by_input
source_ends (input_refused t r) = r
source_ends {q = q} (searched m x) = search_ends m q (search_model m q).outcome refl

-- "The program as a whole takes every model, setting and plan, well made or damaged, and ends with a verdict or one of the refusals"
pub every_run_ends : (most : ℕ) (bytes : List ℕ) (q : Settings) (l : Lent) → Ends q (run most bytes q l).outcome
every_run_ends most bytes q l = source_ends (run_source bytes q l most)

-- the same of the plan check: 0 and the cost, or one of 1, 2, 4 to 9, 11 to 14 and 17
pub every_plan_check_ends : (bytes plan : List ℕ) {t : ℕ} → check bytes plan ≡ trouble t → CheckRefusal t
every_plan_check_ends bytes plan e = check_numbers bytes plan e

-- "Refusing a model or a setting changes no lent buffer"
source_keeps_buffer : {bytes : List ℕ} {q : Settings} {l : Lent} {a : Answer Cost} (buffer : List ℕ) {t : ℕ} → Source bytes q l a → a.outcome ≡ by_input t → buffer_after a buffer ≡ buffer
unfolding refused_by_input buffer_after search_model
source_keeps_buffer buffer (input_refused t r) e = refl
source_keeps_buffer {q = q} buffer {t} (searched m x) e =
    absurd (never_by_input (costs_of m.rule) (system_of range_end m) (origin_of m) q.budget (limit_of q.form m) (first_width q.beam) (wider_than q.beam) t e)

pub refusal_changes_no_buffer : (most : ℕ) (bytes : List ℕ) (q : Settings) (l : Lent) (buffer : List ℕ) {t : ℕ} → (run most bytes q l).outcome ≡ by_input t → buffer_after (run most bytes q l) buffer ≡ buffer
refusal_changes_no_buffer most bytes q l buffer e = source_keeps_buffer buffer (run_source bytes q l most) e

-- ---- demand 2

-- "A sequence of at most 256 steps passes the plan check exactly if it is a plan by that definition, and with its cost"
pub plan_check_exact : (bytes plan : List ℕ) (c : Cost) → (check bytes plan ≡ value c) ↔ CheckedPlan bytes plan c
plan_check_exact bytes plan c = check_exact bytes plan c

-- document 02, §5: "The plan check gives both sums, or both largest values"
pub plan_check_gives_both : (bytes plan : List ℕ) {c : Cost} → CheckedPlan bytes plan c → (answer_cost (check bytes plan) ≡ c.high) × (answer_low (check bytes plan) ≡ c.low)
unfolding cost_given answer_cost answer_low
plan_check_gives_both bytes plan {c} h = let passes = (check_exact bytes plan c).1 h in (rw passes, rw passes)

-- the definition's count of expansions never passes the budget; that the code counts as the definition does is a field of its contract, `Searched`
source_within_budget : {bytes : List ℕ} {q : Settings} {l : Lent} {a : Answer Cost} → Source bytes q l a → a.tally.expansions ≤ q.budget
unfolding refused_by_input search_model
source_within_budget {q = q} (input_refused t r) = omega arith
source_within_budget {q = q} (searched m x) = expansions_within_budget (costs_of m.rule) (system_of range_end m) (origin_of m) q.budget (limit_of q.form m) (first_width q.beam) (wider_than q.beam)

pub expansions_never_pass_budget : (most : ℕ) (bytes : List ℕ) (q : Settings) (l : Lent) → (run most bytes q l).tally.expansions ≤ q.budget
expansions_never_pass_budget most bytes q l = source_within_budget (run_source bytes q l most)

-- "The search follows document 01's rules step for step": these set no bound on the rounds. The definition's own is never met, since every one
-- above the budget gives the same run
pub rounds_end_by_rules : (most : ℕ) (bytes : List ℕ) (q : Settings) (l : Lent) {m : Model} → length bytes ≤ most → Accepted bytes q l m → (most-rounds : ℕ) → q.budget < most-rounds
    → run most bytes q l ≡ search_within (costs_of m.rule) (system_of range_end m) most-rounds q.budget (limit_of q.form m) (first_width q.beam) (wider_than q.beam) (origin_of m)
rounds_end_by_rules most bytes q l few x = any_bound_of_run most bytes q l few x

plan_lent : (widest limit : ℕ) (l : Lent) → lent_fits widest limit l ≡ true → limit ≤ l.plan_bytes
unfolding lent_fits
plan_lent widest limit l e = leb-true limit l.plan_bytes (and_both _ _ e).0

search_steps_within : (m : Model) (q : Settings) → length (search_model m q).steps ≤ limit_of q.form m
unfolding search_model
search_steps_within m q =
    steps_within (costs_of m.rule) (cost_laws m.rule) (system_of range_end m) (dominates_self range_end m) (origin_of m) q.budget (limit_of q.form m) (first_width q.beam) (wider_than q.beam)

-- the steps in an answer never outnumber the length limit, given or chosen, so L plan bytes are enough
pub steps_never_pass_limit : (most : ℕ) (bytes : List ℕ) (q : Settings) (l : Lent) (m : Model) (n : ℕ) → model bytes ≡ read m n → length (run most bytes q l).steps ≤ limit_of q.form m
unfolding refused_by_input
steps_never_pass_limit most bytes q l m n reads =
    run_holds bytes q l m n reads (λ (a : Answer Cost). length a.steps ≤ limit_of q.form m) (λ t. omega arith) (λ _. search_steps_within m q) most

-- a length that is given bounds them whatever the bytes are
source_within_given : {bytes : List ℕ} {q : Settings} {l : Lent} {a : Answer Cost} (limit : ℕ) → q.form ≡ plain limit → Source bytes q l a → length a.steps ≤ limit
unfolding refused_by_input
source_within_given limit f (input_refused t r) = omega arith
source_within_given {q = q} limit f (searched m x) = subst (λ k. length (search_model m q).steps ≤ k) (ap (λ (g : Form). limit_of g m) f) (search_steps_within m q)

-- nor do they outnumber the plan bytes lent
source_fits_buffer : {bytes : List ℕ} {q : Settings} {l : Lent} {a : Answer Cost} → Source bytes q l a → length a.steps ≤ l.plan_bytes
unfolding refused_by_input
source_fits_buffer {l = l} (input_refused t r) = omega arith
source_fits_buffer {q = q} {l = l} (searched m x) = omega (arith, plan_lent (widest_of q.beam) (limit_of q.form m) l x.enough, search_steps_within m q)

pub steps_fit_buffer : (most : ℕ) (bytes : List ℕ) (q : Settings) (l : Lent) → length (run most bytes q l).steps ≤ l.plan_bytes
steps_fit_buffer most bytes q l = source_fits_buffer (run_source bytes q l most)

-- what is handed back of the buffer afterwards is the plan
pub plan_handed_back : (a : Answer Cost) (buffer : List ℕ) → length a.steps ≤ length buffer → handed_back (length a.steps) (buffer_after a buffer) ≡ a.steps
unfolding handed_back buffer_after
plan_handed_back a buffer h =
    let fits : length a.steps ≤ length (a.steps ++ drop (length a.steps) buffer) = omega (arith, length-append a.steps (drop (length a.steps) buffer)) in
    rw (le-leb (length a.steps) (length (a.steps ++ drop (length a.steps) buffer)) fits) (take_at a.steps (drop (length a.steps) buffer) (length a.steps) refl)

-- ---- the guarantee, from bytes

abbrev GuaranteeOf : Model → Settings → Answer Cost → Type 0
GuaranteeOf m q a = Guarantee (costs_of m.rule) (system_of range_end m) (origin_of m) (widest_of q.beam) (limit_of q.form m) a

no_verdict : {t : ℕ} {v : Verdict} {X : Type 0} → by_input t ≡ verdict v → X
no_verdict e = let z : ◌≡◌ {A = ℕ} 0 1 = cc in absurd (omega arith)

not_stopped : {t : ℕ} → Stopped (by_input t) → ⊥
not_stopped s = elim s [ ]

refusal_guarantee : (m : Model) (q : Settings) (t : ℕ) → GuaranteeOf m q (refused_by_input t)
unfolding refused_by_input
refusal_guarantee m q t =
    record {
      plan_given = λ e. absurd (false≢true e);
      cheapest_given = no_verdict;
      cheapest_least = no_verdict;
      no_plan_exists = no_verdict;
      bound_below = λ s. absurd (not_stopped s);
      declaration_false = no_verdict;
      width_witness = no_verdict;
      length_witness = no_verdict;
    }

search_model_guarantee : (m : Model) (q : Settings) → settings_fit q ≡ true → GuaranteeOf m q (search_model m q)
unfolding search_model
search_model_guarantee m q e =
    subst (λ w. Guarantee (costs_of m.rule) (system_of range_end m) (origin_of m) w (limit_of q.form m) (search_model m q)) (widest_is_last q.beam (beam_fits_lem q e))
    (search_guarantee (costs_of m.rule) (cost_laws m.rule) (system_of range_end m) (dominates_self range_end m) (origin_of m) q.budget (limit_of q.form m) (first_width q.beam) (wider_than q.beam))

-- a cost without moves is its two figures
no_more_than_figures : (high low : ℕ) {moves : ℕ} → moves ≡ 0 → ◌≡◌ {A = Cost} (record { high = high; low = low; moves = 0 }) (record { high = high; low = low; moves = moves })
no_more_than_figures high low e = rw e

figures_are : (c : Cost) → c.moves ≡ 0 → record { high = c.high; low = c.low; moves = 0 } ≡ c
figures_are c e = no_more_than_figures c.high c.low e

-- where trouble is met, the path there has no moves
trouble_no_moves : (m : Model) {t : ℕ} {steps : List ℕ} {g : Cost} → TroubleAt (costs_of m.rule) (system_of range_end m) (origin_of m) t steps g → g.moves ≡ 0
unfolding origin_of costs_of combine
trouble_no_moves m (in_start e) = refl
trouble_no_moves m (in_base_cases path e) = path_no_moves range_end m path refl
trouble_no_moves m (in_transition path open_state lt e) = path_no_moves range_end m path refl
trouble_no_moves m (in_constraints {s = s} {g = g} {c = c} {i = i} path open_state lt e) = joined_no_moves m.rule g c (path_no_moves range_end m path refl) (trouble_priced range_end m s i e).no_moves
trouble_no_moves m (in_bound path e) = path_no_moves range_end m path refl

module _ (most : ℕ) (bytes : List ℕ) (q : Settings) (l : Lent) (m : Model) (n : ℕ) (reads : model bytes ≡ read m n) where
  pub run_guarantee : GuaranteeOf m q (run most bytes q l)
  run_guarantee = run_holds bytes q l m n reads (GuaranteeOf m q) (refusal_guarantee m q) (λ x. search_model_guarantee m q x.fit) most

  -- nothing is spent before the target
  nothing_spent : (c : Cost) → (costs_of m.rule).combine (origin_of m).spent c ≡ c
  unfolding costs_of origin_of
  nothing_spent c = (cost_laws m.rule).left_unit c

  is_at_most : (a c : Cost) → (costs_of m.rule).at_most a ((costs_of m.rule).combine (origin_of m).spent c) ≡ true → at_most a c ≡ true
  unfolding costs_of
  is_at_most a c e = rw (nothing_spent c) at e

  -- ---- demand 3

  -- "under every verdict a plan given is a plan of the model, at the cost stated"
  pub a_plan_given_is_a_plan : (run most bytes q l).flag ≡ true → PlanAt m (run most bytes q l).steps (run most bytes q l).cost
  unfolding origin_of
  a_plan_given_is_a_plan e =
      let (c, plan, same) = run_guarantee.plan_given e in
      subst (λ x. PlanAt m (run most bytes q l).steps x) (sym (same ∙ nothing_spent c)) plan

  -- "If the model's declared bounds and preferences are true, a plan marked cheapest costs no more than every other plan of the model, of every length"
  pub cheapest_costs_no_more : (run most bytes q l).outcome ≡ verdict cheapest
      → ((run most bytes q l).flag ≡ true) × (DeclarationsTrue m → (p : List ℕ) (c : Cost) → PlanAt m p c → at_most (run most bytes q l).cost c ≡ true)
  unfolding origin_of
  cheapest_costs_no_more e = (run_guarantee.cheapest_given e, λ t p c plan. is_at_most (run most bytes q l).cost c (run_guarantee.cheapest_least e t p c plan))

  -- "'no plan' then means that none exists, of whatever length"
  pub no_plan_means_none : (run most bytes q l).outcome ≡ verdict no_plan → DeclarationsTrue m → (p : List ℕ) (c : Cost) → PlanAt m p c → ⊥
  unfolding origin_of
  no_plan_means_none e t p c plan = run_guarantee.no_plan_exists e t p c plan

  -- "a stopped run's bound is then at most the cost of every plan"
  pub stopped_bound_below_every_plan : Stopped (run most bytes q l).outcome → DeclarationsTrue m → (p : List ℕ) (c : Cost) → PlanAt m p c → at_most (run most bytes q l).bound c ≡ true
  unfolding origin_of
  stopped_bound_below_every_plan s t p c plan = is_at_most (run most bytes q l).bound c (run_guarantee.bound_below s t p c plan)

  -- "'Contradicted' is given only if a declaration is false"
  pub contradicted_only_if_false : (run most bytes q l).outcome ≡ verdict contradicted → DeclarationsTrue m → ⊥
  unfolding origin_of
  contradicted_only_if_false e t = run_guarantee.declaration_false e t

  -- "if every layer of the model up to the length limit has at most as many different states as the widest beam, and no unfinished state
  -- lies at the limit, neither the width stop nor the length stop is given"
  pub no_stop_where_layers_fit : LayersFit m q → ((run most bytes q l).outcome ≡ verdict width_stop → ⊥) × ((run most bytes q l).outcome ≡ verdict length_stop → ⊥)
  no_stop_where_layers_fit f = no_stop_where_fits (costs_of m.rule) (system_of range_end m) (origin_of m) (widest_of q.beam) (limit_of q.form m) (run most bytes q l) run_guarantee f

  -- ---- document 02, §5: hours known only within a range

  -- "For every choice of step costs inside the ranges, the plan's real cost lies between the two figures"
  pub real_cost_between_the_figures : (run most bytes q l).flag ≡ true → (r : ℕ) → RealHours m (target m) (run most bytes q l).steps r → ((run most bytes q l).cost.low ≤ r) × (r ≤ (run most bytes q l).cost.high)
  real_cost_between_the_figures e r real = real_cost_between m (a_plan_given_is_a_plan e).plan real

  -- host/repgypsum.h: "where no step has a range they are the same"
  pub one_figure_without_ranges : (run most bytes q l).flag ≡ true → NoRanges m → (run most bytes q l).cost.low ≡ (run most bytes q l).cost.high
  one_figure_without_ranges e fixed-costs = no_ranges_one_figure m fixed-costs (a_plan_given_is_a_plan e).plan

  -- "no plan has a smaller high cost, if bounds are true of the low costs and preferences of the high ones"
  pub cheapest_hours_least_in_ranges : (run most bytes q l).outcome ≡ verdict cheapest → TrueOfRanges m → (p : List ℕ) (c : Cost) → PlanAt m p c → (run most bytes q l).cost.high ≤ c.high
  cheapest_hours_least_in_ranges e t p c plan = at_most_hours (run most bytes q l).cost c ((cheapest_costs_no_more e).1 (declared_true m t) p c plan)

  pub no_plan_means_none_in_ranges : (run most bytes q l).outcome ≡ verdict no_plan → TrueOfRanges m → (p : List ℕ) (c : Cost) → PlanAt m p c → ⊥
  no_plan_means_none_in_ranges e t = no_plan_means_none e (declared_true m t)

  -- "The bound in a stopped answer is for high costs"
  pub stopped_bound_is_for_high_costs : Stopped (run most bytes q l).outcome → TrueOfRanges m → (p : List ℕ) (c : Cost) → PlanAt m p c → (run most bytes q l).bound.high ≤ c.high
  stopped_bound_is_for_high_costs s t p c plan = at_most_hours (run most bytes q l).bound c (stopped_bound_below_every_plan s (declared_true m t) p c plan)

  pub contradicted_only_if_false_of_ranges : (run most bytes q l).outcome ≡ verdict contradicted → TrueOfRanges m → ⊥
  contradicted_only_if_false_of_ranges e t = contradicted_only_if_false e (declared_true m t)

  -- ---- all that is said of the model

  plan_shown : (run most bytes q l).flag ≡ true → PlanAt m (run most bytes q l).steps (shown (run most bytes q l)).cost
  unfolding shown
  plan_shown e =
      let given = a_plan_given_is_a_plan e in
      subst (λ c. PlanAt m (run most bytes q l).steps c) (sym (figures_are (run most bytes q l).cost (plan_no_moves range_end m given.plan))) given

  trouble_shown : (t : ℕ) → (run most bytes q l).outcome ≡ by_state t → TroubleAt (costs_of m.rule) (system_of range_end m) (origin_of m) t (run most bytes q l).steps (shown (run most bytes q l)).cost
  unfolding shown
  trouble_shown t e =
      let there = run_refusal_path most bytes q l m n reads e in
      subst (λ c. TroubleAt (costs_of m.rule) (system_of range_end m) (origin_of m) t (run most bytes q l).steps c) (sym (figures_are (run most bytes q l).cost (trouble_no_moves m there))) there

  run_marked : Marked m q (shown (run most bytes q l))
  unfolding shown
  run_marked =
      let answer = run most bytes q l in
      record {
        within_limit = steps_never_pass_limit most bytes q l m n reads;
        plan_given = plan_shown;
        real_between = real_cost_between_the_figures;
        cheapest_given = λ e. (cheapest_costs_no_more e).0;
        cheapest_least = λ e d p c plan. at_most_hours answer.cost c ((cheapest_costs_no_more e).1 d p c plan);
        no_plan_exists = no_plan_means_none;
        bound_below = λ s d p c plan. at_most_hours answer.bound c (stopped_bound_below_every_plan s d p c plan);
        declaration_false = contradicted_only_if_false;
        no_width_stop = λ f. (no_stop_where_layers_fit f).0;
        no_length_stop = λ f. (no_stop_where_layers_fit f).1;
        trouble_there = trouble_shown;
      }

-- ---- document 02, §1: the target must meet the constraints too

-- whether the target meets the constraints
abbrev pub target_admitted : Model → Value Bool
target_admitted m = (system_of range_end m).admits (target m)

-- "Plans … henceforth need such a target": a model whose target breaks a constraint has none, whatever it declares
pub no_plan_from_broken_target : (m : Model) → target_admitted m ≡ value false → (p : List ℕ) (c : Cost) → PlanAt m p c → ⊥
no_plan_from_broken_target m e p c plan = broken_has_no_plan (costs_of m.rule) (system_of range_end m) e plan

-- of bytes, settings and lent buffers that pass every test before the search
module _ (most : ℕ) (bytes : List ℕ) (q : Settings) (l : Lent) (m : Model) (few : length bytes ≤ most) (x : Accepted bytes q l m) where
  -- "If one fails, the verdict is 1 with no expansion, one round begun, width 1 and bound 0": the width of round 1
  pub broken_target_has_no_plan : target_admitted m ≡ value false
      → run most bytes q l ≡ record { outcome = verdict no_plan; flag = false; cost = free; bound = free; steps = []; tally = record { expansions = 0; rounds = 1; width = first_width q.beam } }
  unfolding search_model origin_of costs_of
  broken_target_has_no_plan e = run_accepted most bytes q l few x ∙ broken_start (costs_of m.rule) (system_of range_end m) (origin_of m) q.budget (limit_of q.form m) (first_width q.beam) (wider_than q.beam) e

  -- trouble in one: a refusal by the state at the target, its fields the same but for the number
  pub target_trouble_refused : {t : ℕ} → target_admitted m ≡ trouble t
      → run most bytes q l ≡ record { outcome = by_state t; flag = false; cost = free; bound = free; steps = []; tally = record { expansions = 0; rounds = 1; width = first_width q.beam } }
  unfolding search_model origin_of costs_of
  target_trouble_refused e = run_accepted most bytes q l few x ∙ troubled_start (costs_of m.rule) (system_of range_end m) (origin_of m) q.budget (limit_of q.form m) (first_width q.beam) (wider_than q.beam) e

  -- the plan buffer stays as it is, with either
  pub broken_target_changes_no_buffer : (buffer : List ℕ) → target_admitted m ≡ value false → buffer_after (run most bytes q l) buffer ≡ buffer
  unfolding buffer_after
  broken_target_changes_no_buffer buffer e = ap (λ a. buffer_after a buffer) (broken_target_has_no_plan e)

  pub target_trouble_changes_no_buffer : {t : ℕ} (buffer : List ℕ) → target_admitted m ≡ trouble t → buffer_after (run most bytes q l) buffer ≡ buffer
  unfolding buffer_after
  target_trouble_changes_no_buffer buffer e = ap (λ a. buffer_after a buffer) (target_trouble_refused e)

module _ (bytes plan : List ℕ) (m : Model) (n : ℕ) (reads : model bytes ≡ read m n) (few : length bytes ≤ most_model_bytes) (short : length plan ≤ most_steps) where
  -- "the plan check gives 14", for every plan; trouble keeps its number
  pub plan_check_broken : target_admitted m ≡ value false → check bytes plan ≡ trouble not_a_plan
  plan_check_broken e = check_of_broken_target bytes plan m n reads few short e

  pub plan_check_target_trouble : {t : ℕ} → target_admitted m ≡ trouble t → check bytes plan ≡ trouble t
  plan_check_target_trouble e = check_of_target_trouble bytes plan m n reads few short e

-- ---- document 02, §2: a profile for pure loading orders

source_loading_ends : {bytes : List ℕ} {q : Settings} {l : Lent} {a : Answer Cost} → q.form ≡ loading → Source bytes q l a → a.outcome ≡ verdict length_stop → ⊥
unfolding refused_by_input
source_loading_ends f (input_refused t r) e = no_verdict e
source_loading_ends {q = q} f (searched m x) e =
    none_open_in_profile range_end m (rw f at x.in_form) (unfold origin_of in (rw f at ((search_model_guarantee m q x.fit).length_witness e)))

-- "No model in the profile ends in a length stop", whatever the widths and the budget are
pub no_length_stop_in_profile : (most : ℕ) (bytes : List ℕ) (q : Settings) (l : Lent) → q.form ≡ loading → (run most bytes q l).outcome ≡ verdict length_stop → ⊥
no_length_stop_in_profile most bytes q l f = source_loading_ends f (run_source bytes q l most)

abbrev pub with_form : Settings → Form → Settings
with_form q f = record { beam = q.beam; form = f; budget = q.budget }

asked_twice : {A : Type 0} (b : Bool) (x y : A) → cond b x y ≡ cond b x (cond b x y)
asked_twice true x y = refl
asked_twice false x y = refl

-- the run of a model in the profile is the plain run with the length that the profile chooses, in every field, whatever is lent
pub loading_is_plain : (most : ℕ) (bytes : List ℕ) (q : Settings) (l : Lent) (m : Model) (n : ℕ) → model bytes ≡ read m n → in_profile m ≡ true
    → run most bytes (with_form q loading) l ≡ run most bytes (with_form q (plain (loading_length m))) l
unfolding run run_set run_read settings_fit search_model
loading_is_plain most bytes q l m n reads p =
    let short : loading_length m ≤ most_steps = omega (arith, loading_length_within bytes reads p) in
    rw (le-leb 1 (loading_length m) (loading_length_some m), le-leb (loading_length m) most_steps short, reads, p)
    (ap (λ (a : Answer Cost). cond (ltb most (length bytes)) (refused_by_input model_too_long) (cond (not (beam_fits q.beam && true)) (refused_by_input bad_setting) (cond (not (list_fits q.beam)) (refused_by_input bad_widths) a)))
    (asked_twice (not (lent_fits (widest_of q.beam) (loading_length m) l)) (refused_by_input too_little_lent) (search_model m (with_form q loading))))

-- ---- document 02, §4: our own list of beam widths

abbrev pub with_beam : Settings → Beam → Settings
with_beam q b = record { beam = b; form = q.form; budget = q.budget }

-- "The cheapest guarantee is shown for all rising lists together": demand 3 whole, W being the last entry. A list that does not rise is refused
pub rising_list_guarantee : (most : ℕ) (bytes : List ℕ) (q : Settings) (l : Lent) (m : Model) (n : ℕ) → model bytes ≡ read m n → (ws : List ℕ)
    → Guarantee (costs_of m.rule) (system_of range_end m) (origin_of m) (widest_of (listed ws)) (limit_of q.form m) (run most bytes (with_beam q (listed ws)) l)
rising_list_guarantee most bytes q l m n reads ws = run_guarantee most bytes (with_beam q (listed ws)) l m n reads

-- "16, list empty, too long, not rising or out of range, comes right after 2": whatever is lent and whatever the bytes say
pub list_that_does_not_rise : (most : ℕ) (bytes : List ℕ) (q : Settings) (l : Lent) (ws : List ℕ) → length bytes ≤ most → form_fits q.form ≡ true → rising ws ≡ false
    → run most bytes (with_beam q (listed ws)) l ≡ refused_by_input bad_widths
unfolding settings_fit
list_that_does_not_rise most bytes q l ws few fit falls = run_bad_widths most bytes (with_beam q (listed ws)) l few fit falls

-- "the built-in one being a case"
module _ (bytes : List ℕ) (q : Settings) (l : Lent) (w : ℕ) (width : is_width w ≡ true) where
  abbrev as_built_in : Settings
  as_built_in = with_beam q (up_to w)

  abbrev as_list : Settings
  as_list = with_beam q (listed (1 ∷ wider_up_to w))

  same_read : (x : Read Model) → run_read x as_list l ≡ run_read x as_built_in l
  unfolding run_read search_model
  same_read (read m n) = rw (built_in_last w width)
  same_read (refused t) = refl

  pub built_in_set : run_set bytes as_list l ≡ run_set bytes as_built_in l
  unfolding run_set
  built_in_set = rw (built_in_last w width, same_read (model bytes))

  -- the run with W is the run with the list 1, 2, 4 … W, in every field
  pub built_in_is_a_list : (most : ℕ) → run most bytes as_list l ≡ run most bytes as_built_in l
  unfolding run settings_fit
  built_in_is_a_list most = rw (built_in_rises w width, width, built_in_set)

-- ---- all of them

-- every demand, of every run
pub run_meets_demands : (most : ℕ) (bytes : List ℕ) (q : Settings) (l : Lent) → Demands bytes q (shown (run most bytes q l))
unfolding shown
run_meets_demands most bytes q l =
    record {
      ends = every_run_ends most bytes q l;
      within_budget = expansions_never_pass_budget most bytes q l;
      budget_used = run_budget_spent_means_used most bytes q l;
      within_given = λ limit f. source_within_given limit f (run_source bytes q l most);
      no_length_stop_loading = no_length_stop_in_profile most bytes q l;
      marked = λ m n reads. run_marked most bytes q l m n reads;
    }
