-- The plan check turn by turn: what one transition comes to, and what is left of the plan.
use Prim.Native.Nat.{ℕ, ◌+◌, ◌*◌, ◌≤◌, ◌<◌, ◌^◌}
use mathlib.Core.Path.{◌≡◌, refl, sym, ap, ◌∙◌}
use mathlib.Core.Bool.{Bool, true, false, cond}
use mathlib.Core.List.{List, ◌∷◌}
use native.Mathlib.Omega.{arith}
use native.Mathlib.Numerals.{add-one}
use lib.ListN.{length, get_or, drop, drop_of_length-le}
use lib.Seq.{drop-cons}
use lib.Dec.{ltb}
use borrow.Author.Tests.{ltb-false}
use Rattle.model.specs.Numbers.{range_end, not_a_plan}
use Rattle.model.specs.Values.{Value, trouble}
use Rattle.model.specs.System.{Status, base, unfinished, no_status, Move, blocked, moved, trouble_before, trouble_after}
use Rattle.model.specs.Syntax.{Rule, sum, largest}
use Rattle.model.specs.Meaning.{State}
use Rattle.model.specs.Commands.{rule_of}
use Rattle.model.specs.declared.Cost.{Cost}
use Rattle.model.specs.Costs.{free, combine, costs_of, CostUpTo, CostBelow}
use Rattle.model.specs.Steps.{system_of, move, move_by}
use Rattle.model.proofs.Ranges.{up_to_less, up_to_below, below_up_to}
use Rattle.costs.specs.Costs.{Joinable}
use Rattle.model.specs.Check.{final, after_move, after_status, follow, after_constraints, follow_from, answer_number, cost_given}
use Rattle.outline.specs.Outline.{model_of, rule_number}
use Rattle.std.specs.Prelude.{Result, Ok, Err}
use Rattle.model.specs.Troubles.{PlanTrouble}
use Rattle.model.proofs.Troubles.{follow_from_trouble}
use Rattle.eval_sets.specs.declared.troubles.Trouble.{Trouble}
use Rattle.eval_sets.specs.declared.troubles.Trouble.TheVariants.{NotAPlan}
use Rattle.eval_sets.specs.Troubles.{named}
use Rattle.steps.specs.declared.answers.Status.TheVariants as S
use Rattle.steps.specs.declared.answers.MoveAnswer.{MoveAnswer}
use Rattle.steps.specs.declared.answers.MoveAnswer.TheVariants as M
use Rattle.steps.specs.declared.answers.Checked.{Checked}
use Rattle.steps.specs.InBytes.{Outlined, state_in, system_in, target_in}
use Rattle.steps.specs.Answers.{result_of, status_answer, move_answer}
use Rattle.steps.specs.Says.{MoveSays}
use Rattle.steps.specs.Follow.{costs_in, follow_in, follow_from_in, step_tried, finished, FollowsOn, CheckedIs}
use Rattle.prepare.proofs.Items.{none_beyond}
use Rattle.steps.proofs.Trials.{is_result, result_troubles}
use Rattle.steps.proofs.Promises.{combined_up_to, step_cost_below}

-- ---- answers taken apart

pub is_base : (x : Status) → status_answer x ≡ Ok S.Base → x ≡ base
unfolding status_answer
is_base base e = refl
is_base unfinished e = let z : ◌≡◌ {A = ℕ} 0 1 = cc in absurd (omega arith)
is_base (no_status t) e = let z : ◌≡◌ {A = ℕ} 0 1 = cc in absurd (omega arith)

pub is_unfinished_lem : (x : Status) → status_answer x ≡ Ok S.Unfinished → x ≡ unfinished
unfolding status_answer
is_unfinished_lem base e = let z : ◌≡◌ {A = ℕ} 0 1 = cc in absurd (omega arith)
is_unfinished_lem unfinished e = refl
is_unfinished_lem (no_status t) e = let z : ◌≡◌ {A = ℕ} 0 1 = cc in absurd (omega arith)

pub no_status_lem : (x : Status) {t : Trouble} → status_answer x ≡ Err t → (s : ℕ) × (x ≡ no_status s) × (t ≡ named s)
unfolding status_answer
no_status_lem base e = let z : ◌≡◌ {A = ℕ} 0 1 = cc in absurd (omega arith)
no_status_lem unfinished e = let z : ◌≡◌ {A = ℕ} 0 1 = cc in absurd (omega arith)
no_status_lem (no_status t) e = (t, refl, cc)

pub is_blocked : (x : Move State Cost) → move_answer x ≡ M.Blocked → x ≡ blocked
unfolding move_answer
is_blocked blocked e = refl
is_blocked (moved c u) e = let z : ◌≡◌ {A = ℕ} 0 1 = cc in absurd (omega arith)
is_blocked (trouble_before t) e = let z : ◌≡◌ {A = ℕ} 0 1 = cc in absurd (omega arith)
is_blocked (trouble_after c t) e = let z : ◌≡◌ {A = ℕ} 0 1 = cc in absurd (omega arith)

pub is_moved : (x : Move State Cost) {c : Cost} → move_answer x ≡ M.Moved c → (u : State) × (x ≡ moved c u)
unfolding move_answer
is_moved blocked e = let z : ◌≡◌ {A = ℕ} 0 1 = cc in absurd (omega arith)
is_moved (moved c u) e = (u, cc)
is_moved (trouble_before t) e = let z : ◌≡◌ {A = ℕ} 0 1 = cc in absurd (omega arith)
is_moved (trouble_after c t) e = let z : ◌≡◌ {A = ℕ} 0 1 = cc in absurd (omega arith)

pub is_before : (x : Move State Cost) {t : Trouble} → move_answer x ≡ M.Before t → (s : ℕ) × (x ≡ trouble_before s) × (t ≡ named s)
unfolding move_answer
is_before blocked e = let z : ◌≡◌ {A = ℕ} 0 1 = cc in absurd (omega arith)
is_before (moved c u) e = let z : ◌≡◌ {A = ℕ} 0 1 = cc in absurd (omega arith)
is_before (trouble_before t) e = (t, refl, cc)
is_before (trouble_after c t) e = let z : ◌≡◌ {A = ℕ} 0 1 = cc in absurd (omega arith)

pub is_after : (x : Move State Cost) {c : Cost} {t : Trouble} → move_answer x ≡ M.After c t → (s : ℕ) × (x ≡ trouble_after c s) × (t ≡ named s)
unfolding move_answer
is_after blocked e = let z : ◌≡◌ {A = ℕ} 0 1 = cc in absurd (omega arith)
is_after (moved c u) e = let z : ◌≡◌ {A = ℕ} 0 1 = cc in absurd (omega arith)
is_after (trouble_before t) e = let z : ◌≡◌ {A = ℕ} 0 1 = cc in absurd (omega arith)
is_after (trouble_after d t) e = (t, cc, cc)

-- ---- costs

rule_back : (r : Rule) → rule_of (rule_number r) ≡ r
unfolding rule_number rule_of
rule_back sum = refl
rule_back largest = refl

-- the rule by the outline's word
pub rule_is : (bytes words : List ℕ) → Outlined bytes words → (g c : Cost) (w : ℕ) → w ≡ get_or words 0 0 → combine (rule_of w) g c ≡ (costs_in bytes).combine g c
unfolding costs_of
rule_is bytes words o g c w k = let same : w ≡ rule_number (model_of bytes).rule = k ∙ o.outlines.rule in rw (same, rule_back (model_of bytes).rule)

-- a path and a step have room together
pub joinable : {g c : Cost} → CostBelow (2 ^ 63) g → CostBelow range_end c → Joinable g c
joinable p q = record {
  high_fits = omega (arith, p.high_below, q.high_below);
  low_fits = omega (arith, p.low_below, q.low_below);
  moves_fit = omega (arith, p.moves_below, q.moves_below);
}

-- ---- one transition

module _ (bytes : List ℕ) (rest : Cost → State → Value Cost) where
  before_ends : {x : Move State Cost} {n : ℕ} → x ≡ trouble_before n → after_move (costs_in bytes) (system_in bytes) x rest ≡ trouble n
  unfolding after_move
  before_ends e = rw e

  after_ends : {x : Move State Cost} {c : Cost} {n : ℕ} → x ≡ trouble_after c n → after_move (costs_in bytes) (system_in bytes) x rest ≡ trouble n
  unfolding after_move
  after_ends e = rw e

module _ (bytes state : List ℕ) (t : ℕ) (g : Cost) (child : List ℕ) (q : MoveAnswer) (says : MoveSays bytes state t child q) where
  abbrev here : State
  here = state_in bytes state

  pub checked_blocked : q ≡ M.Blocked → FollowsOn bytes (step_tried bytes here t g) child g (Err NotAPlan)
  unfolding after_move named
  checked_blocked e = let m = is_blocked _ (sym says.answer ∙ e) in (not_a_plan, refl, λ plan. rw m)

  pub checked_before : {n : Trouble} → q ≡ M.Before n → FollowsOn bytes (step_tried bytes here t g) child g (Err n)
  unfolding after_move
  checked_before e = let m = is_before _ (sym says.answer ∙ e) in (m.0, m.2, λ plan. before_ends bytes (λ c u. follow_in bytes plan u ((costs_in bytes).combine g c)) m.1)

  pub checked_after : {c : Cost} {n : Trouble} → q ≡ M.After c n → FollowsOn bytes (step_tried bytes here t g) child g (Err n)
  unfolding after_move
  checked_after e = let m = is_after _ (sym says.answer ∙ e) in (m.0, m.2, λ plan. after_ends bytes (λ c u. follow_in bytes plan u ((costs_in bytes).combine g c)) m.1)

  -- each part of a step's cost is below the range's end
  pub step_small : {c : Cost} → q ≡ M.Moved c → CostBelow range_end c
  step_small e = let m = is_moved _ (sym says.answer ∙ e) in step_cost_below bytes here t m.1

  pub checked_moved : {c h : Cost} → q ≡ M.Moved c → h ≡ (costs_in bytes).combine g c → FollowsOn bytes (step_tried bytes here t g) child g (Ok h)
  unfolding after_move
  checked_moved {c} {h} e f =
      let m = is_moved _ (sym says.answer ∙ e) in
      let w : state_in bytes child ≡ m.0 = says.arrives c m.0 m.1 in
      (λ plan. rw (m.1, f, w), λ n p. rw f (combined_up_to bytes p (up_to_less (below_up_to (step_small e)) (omega arith))))

-- ---- one turn: the status of the state, then the transition

checked_same : (bytes : List ℕ) (f k : List ℕ → Value Cost) (child : List ℕ) (g : Cost) (r : Result Cost Trouble) → ((plan : List ℕ) → k plan ≡ f plan) → FollowsOn bytes f child g r → FollowsOn bytes k child g r
checked_same bytes f k child g (Ok h) e t = (λ plan. e plan ∙ t.0 plan, t.1)
checked_same bytes f k child g (Err n) e t = (t.0, t.1, λ plan. e plan ∙ t.2 plan)

module _ (bytes : List ℕ) (s : State) (t : ℕ) (g : Cost) where
  -- a number that is not declared is blocked
  undeclared : (rest : Cost → State → Value Cost) → cond (ltb t (system_in bytes).transitions) (after_move (costs_in bytes) (system_in bytes) ((system_in bytes).move s t) rest) (trouble not_a_plan) ≡ after_move (costs_in bytes) (system_in bytes) ((system_in bytes).move s t) rest
  unfolding system_of move move_by after_move
  undeclared rest = by_test (ltb t (length (model_of bytes).transitions)) (ltb-false t (length (model_of bytes).transitions))
    where
      by_test : (b : Bool) → (b ≡ false → length (model_of bytes).transitions ≤ t)
          → cond b (after_move (costs_in bytes) (system_in bytes) ((system_in bytes).move s t) rest) (trouble not_a_plan) ≡ after_move (costs_in bytes) (system_in bytes) ((system_in bytes).move s t) rest
      by_test true h = refl
      by_test false h = rw (none_beyond (model_of bytes).transitions t (h refl))

  follow_unfinished : (plan : List ℕ) → (system_in bytes).status s ≡ unfinished → follow_in bytes (t ∷ plan) s g ≡ step_tried bytes s t g plan
  unfolding follow after_status
  follow_unfinished plan e = rw e (undeclared (λ c u. follow_in bytes plan u ((costs_in bytes).combine g c)))

  no_status_ends : {n : ℕ} (plan : List ℕ) → (system_in bytes).status s ≡ no_status n → follow_in bytes (t ∷ plan) s g ≡ trouble n
  unfolding follow after_status
  no_status_ends plan e = rw e

  module _ (child : List ℕ) where
    abbrev whole : List ℕ → Value Cost
    whole plan = follow_in bytes (t ∷ plan) s g

    pub checked_base : Ok S.Base ≡ status_answer ((system_in bytes).status s) → FollowsOn bytes whole child g (Err NotAPlan)
    unfolding follow after_status named
    checked_base e = (not_a_plan, refl, λ plan. rw (is_base _ (sym e)))

    pub checked_troubles : {n : Trouble} → Err n ≡ status_answer ((system_in bytes).status s) → FollowsOn bytes whole child g (Err n)
    unfolding follow after_status
    checked_troubles e = let p = no_status_lem _ (sym e) in (p.0, p.2, λ plan. no_status_ends plan p.1)

    pub checked_on : Ok S.Unfinished ≡ status_answer ((system_in bytes).status s) → (r : Result Cost Trouble) → FollowsOn bytes (step_tried bytes s t g) child g r → FollowsOn bytes whole child g r
    checked_on e r h = checked_same bytes (step_tried bytes s t g) whole child g r (λ plan. follow_unfinished plan (is_unfinished_lem _ (sym e))) h

-- ---- the final state

module _ (bytes : List ℕ) (s : State) (g : Cost) where
  pub finish_base : Ok S.Base ≡ status_answer ((system_in bytes).status s) → Ok g ≡ result_of (finished bytes s g)
  unfolding final result_of
  finish_base e = rw (is_base _ (sym e))

  pub finish_unfinished : Ok S.Unfinished ≡ status_answer ((system_in bytes).status s) → Err NotAPlan ≡ result_of (finished bytes s g)
  unfolding final result_of named
  finish_unfinished e = rw (is_unfinished_lem _ (sym e))

  pub finish_troubles : {n : Trouble} → Err n ≡ status_answer ((system_in bytes).status s) → Err n ≡ result_of (finished bytes s g)
  unfolding final result_of
  finish_troubles e = let p = no_status_lem _ (sym e) in rw p.1 (ap Err p.2)

-- ---- the whole plan

-- i steps of the plan are taken from s, at the cost g, to the state
pub record Followed (bytes plan : List ℕ) (s : State) (state : List ℕ) (g : Cost) (i : ℕ) : Type 0 where
  pub within : i ≤ length plan
  pub small : CostUpTo (i * range_end) g
  pub left : follow_in bytes plan s free ≡ follow_in bytes (drop i plan) (state_in bytes state) g

pub followed_first : (bytes plan state : List ℕ) → Followed bytes plan (state_in bytes state) state free 0
followed_first bytes plan state = record { within = omega arith; small = record { high_within = omega arith; low_within = omega arith; moves_within = omega arith }; left = refl }

module _ (bytes plan : List ℕ) (s : State) (state : List ℕ) (g : Cost) (i : ℕ) (so_far : Followed bytes plan s state g i) where
  pub cost_small : length plan ≤ 256 → CostBelow (2 ^ 63) g
  cost_small h = up_to_below so_far.small (omega (arith, so_far.within))

  pub followed_last : length plan ≤ i → {r : Result Cost Trouble} → r ≡ result_of (finished bytes (state_in bytes state) g) → r ≡ result_of (follow_in bytes plan s free)
  unfolding follow
  followed_last h e = rw (so_far.left, drop_of_length-le plan h) e

  module _ (h : i < length plan) (after : List ℕ) (r : Result Cost Trouble) (turned : FollowsOn bytes (λ rest. follow_in bytes (get_or plan i 0 ∷ rest) (state_in bytes state) g) after g r) where
    next_step : follow_in bytes plan s free ≡ follow_in bytes (get_or plan i 0 ∷ drop (i + 1) plan) (state_in bytes state) g
    next_step = so_far.left ∙ ap (λ (l : List ℕ). follow_in bytes l (state_in bytes state) g) (drop-cons plan i 0 h ∙ ap (λ (k : ℕ). get_or plan i 0 ∷ drop k plan) (sym (add-one i)))

    pub followed_more : {k : Cost} → r ≡ Ok k → Followed bytes plan s after k (i + 1)
    followed_more {k} e =
        let t = rw e at turned in
        let m : (i + 1) * range_end ≡ i * range_end + range_end = omega arith in
        record { within = omega arith; small = up_to_less (t.1 (i * range_end) so_far.small) (omega arith); left = next_step ∙ t.0 (drop (i + 1) plan) }

    pub followed_ended : {n : Trouble} → r ≡ Err n → Err n ≡ result_of (follow_in bytes plan s free)
    unfolding result_of
    followed_ended e = let t = rw e at turned in rw (next_step ∙ t.2 (drop (i + 1) plan)) (ap Err t.1)

-- ---- the target's constraints, then the plan

module _ (bytes plan state : List ℕ) (at_Target : state_in bytes state ≡ target_in bytes) (g : Cost) (q : Result Bool Trouble) (says : q ≡ result_of ((system_in bytes).admits (state_in bytes state))) where
  abbrev from_target : Result Cost Trouble
  from_target = result_of (follow_from_in bytes plan (target_in bytes) g)

  held : result_of ((system_in bytes).admits (target_in bytes)) ≡ q
  held = ap (λ s. result_of ((system_in bytes).admits s)) (sym at_Target) ∙ sym says

  pub target_meets : {b : Bool} → q ≡ Ok b → b ≡ true → {r : Result Cost Trouble} → r ≡ result_of (follow_in bytes plan (state_in bytes state) g) → r ≡ from_target
  unfolding follow_from after_constraints
  target_meets e y h = rw (is_result ((system_in bytes).admits (target_in bytes)) (held ∙ e), y, sym at_Target) h

  pub target_breaks : {b : Bool} → q ≡ Ok b → b ≡ false → Err NotAPlan ≡ from_target
  unfolding follow_from after_constraints result_of named
  target_breaks e y = rw (is_result ((system_in bytes).admits (target_in bytes)) (held ∙ e), y)

  pub target_troubles : {n : Trouble} → q ≡ Err n → Err n ≡ from_target
  unfolding follow_from after_constraints result_of
  target_troubles e = let p = result_troubles ((system_in bytes).admits (target_in bytes)) (held ∙ e) in rw p.1 (ap Err p.2)

-- ---- the answer in numbers

module _ (bytes plan : List ℕ) (g : Cost) where
  pub plan_passes : {c : Cost} → Ok c ≡ result_of (follow_from_in bytes plan (target_in bytes) g) → CheckedIs (follow_from_in bytes plan (target_in bytes) g) (record { answer = 0; cost = c })
  unfolding answer_number cost_given
  plan_passes e = let p = is_result _ (sym e) in record { number = rw p; cost = rw p }

  -- a trouble has the number of the definitions
  pub plan_refused : {t : Trouble} {n : ℕ} → Err t ≡ result_of (follow_from_in bytes plan (target_in bytes) g) → ((k : ℕ) → PlanTrouble k → t ≡ named k → n ≡ k)
      → {r : Checked} → CheckedIs (trouble n) r → CheckedIs (follow_from_in bytes plan (target_in bytes) g) r
  plan_refused e kept c =
      let p = result_troubles _ (sym e) in
      let same = kept p.0 (follow_from_trouble range_end (costs_in bytes) (model_of bytes) plan (target_in bytes) g p.1) p.2 in
      rw p.1 (rw same at c)
