-- Troubles by their numbers: where the code tells the number of a trouble, it is the number of the definitions.
use Prim.Native.Nat.{ℕ}
use mathlib.Core.Path.{◌≡◌, sym, ap, ◌∙◌}
use mathlib.Core.List.{List}
use Rattle.std.specs.Prelude.{Err}
use Rattle.model.specs.Numbers.{range_end}
use Rattle.model.specs.Troubles.{PlanTrouble, of_state}
use Rattle.model.specs.Values.{trouble}
use Rattle.model.specs.System.{no_status, trouble_before, trouble_after}
use Rattle.model.specs.Syntax.{Condition}
use Rattle.model.specs.Meaning.{State, all_hold}
use Rattle.model.specs.declared.Cost.{Cost}
use Rattle.model.proofs.Outcomes.{outcome_trouble, all_hold_outcome}
use Rattle.model.proofs.Troubles.{admits_trouble, status_trouble, move_trouble_before, move_trouble_after, bound_trouble}
use Rattle.outline.specs.Outline.{model_of}
use Rattle.eval_sets.specs.declared.troubles.Trouble.{Trouble}
use Rattle.eval_sets.specs.Troubles.{named}
use Rattle.steps.specs.declared.answers.HeldAnswer.TheVariants as H
use Rattle.steps.specs.declared.answers.MoveAnswer.TheVariants as M
use Rattle.steps.specs.InBytes.{system_in, bound_in}
use Rattle.steps.specs.Answers.{result_of, held_answer, status_answer, move_answer}
use Rattle.steps.proofs.Promises.{bound_troubles}
use Rattle.steps.proofs.Trials.{one_troubles, result_troubles}
use Rattle.steps.proofs.Following.{no_status_lem, is_before, is_after}

-- n is the number of the trouble
abbrev pub Numbers : Trouble → ℕ → Type 0
Numbers t n = (k : ℕ) → PlanTrouble k → t ≡ named k → n ≡ k

module _ (bytes : List ℕ) (s : State) {t : Trouble} {n : ℕ} where
  -- of one number and of one condition eval_sets' number_trouble_kept and eval_tests' test_trouble_kept say it
  pub held_numbered : (cs : List Condition) (next : ℕ) → held_answer (all_hold range_end (model_of bytes).tables cs s) next ≡ H.Trouble t → Numbers t n
      → all_hold range_end (model_of bytes).tables cs s ≡ trouble n
  held_numbered cs next e numbers =
      let p = one_troubles (all_hold range_end (model_of bytes).tables cs s) next e in
      p.1 ∙ ap (λ (k : ℕ). trouble k) (sym (numbers p.0 (of_state (outcome_trouble (all_hold_outcome range_end (model_of bytes).tables cs s) p.1)) p.2))

  pub bound_numbered : result_of (bound_in bytes s) ≡ Err t → Numbers t n → bound_in bytes s ≡ trouble n
  bound_numbered e numbers =
      let p = result_troubles (bound_in bytes s) e in
      p.1 ∙ ap (λ (k : ℕ). trouble k) (sym (numbers p.0 (of_state (bound_trouble range_end (model_of bytes) s (bound_troubles bytes s p.1))) p.2))

  pub admits_numbered : result_of ((system_in bytes).admits s) ≡ Err t → Numbers t n → (system_in bytes).admits s ≡ trouble n
  admits_numbered e numbers =
      let p = result_troubles ((system_in bytes).admits s) e in
      p.1 ∙ ap (λ (k : ℕ). trouble k) (sym (numbers p.0 (of_state (admits_trouble range_end (model_of bytes) s p.1)) p.2))

  pub status_numbered : status_answer ((system_in bytes).status s) ≡ Err t → Numbers t n → (system_in bytes).status s ≡ no_status n
  status_numbered e numbers =
      let p = no_status_lem _ e in
      p.1 ∙ ap (λ (k : ℕ). no_status k) (sym (numbers p.0 (of_state (status_trouble range_end (model_of bytes) s p.1)) p.2))

  pub before_numbered : (i : ℕ) → move_answer ((system_in bytes).move s i) ≡ M.Before t → Numbers t n → (system_in bytes).move s i ≡ trouble_before n
  before_numbered i e numbers =
      let p = is_before _ e in
      p.1 ∙ ap (λ (k : ℕ). trouble_before k) (sym (numbers p.0 (of_state (move_trouble_before range_end (model_of bytes) s i p.1)) p.2))

  pub after_numbered : (i : ℕ) {c : Cost} → move_answer ((system_in bytes).move s i) ≡ M.After c t → Numbers t n → (system_in bytes).move s i ≡ trouble_after c n
  after_numbered i {c} e numbers =
      let p = is_after _ e in
      p.1 ∙ ap (λ (k : ℕ). trouble_after c k) (sym (numbers p.0 (of_state (move_trouble_after range_end (model_of bytes) s i p.1)) p.2))
