-- What the evaluators promise: the runs of expressions that read well are their values, and an expression is passed over by its first bytes.
use Prim.Native.Nat.{ℕ}
use mathlib.Core.Path.{◌≡◌, ◌∙◌}
use mathlib.Core.List.{List}
use Rattle.eval_sets.specs.declared.answers.ElementValue.{ElementValue}
use Rattle.eval_sets.specs.declared.answers.SetValue.{SetValue}
use Rattle.eval_sets.specs.Answers.{NumberValue}
use Rattle.eval_sets.specs.Runs.{Environment, run_element, run_set, run_number, run_condition}
use Rattle.eval_sets.specs.Promise.{NumberPromise, ConditionPromise, SetPromise, ElementPromise}
use Rattle.eval_sets.proofs.Reading.{of_read}
use Rattle.eval_sets.proofs.Meanings.{kinds_known, element_runs, set_runs, number_runs, condition_runs}

pub run_element_lem : (ws e : List ℕ) → ElementPromise ws e (run_element ws e)
run_element_lem ws e vs ts d x n q = of_read q (element_runs vs ts ws d e)

pub run_set_lem : (d : ℕ) (ws os e : List ℕ) → SetPromise d ws os e (run_set d ws os e)
run_set_lem d ws os e vs ts x n h q = of_read q (set_runs vs ts ws os (kinds_known vs os h) d e)

pub run_number_lem : (d : ℕ) (p : Environment) (e : List ℕ) → NumberPromise d p e (run_number d p e)
run_number_lem d p e vs ts x n h q = of_read q (number_runs vs ts p h d e)

pub run_condition_lem : (d : ℕ) (p : Environment) (e : List ℕ) → ConditionPromise d p e (run_condition d p e)
run_condition_lem d p e vs ts x n h q = of_read q (condition_runs vs ts p h d e)

-- an answer that is the run keeps the promise
pub element_kept : (ws e : List ℕ) {r : ElementValue} → r ≡ run_element ws e → (r ≡ run_element ws e) × ElementPromise ws e r
element_kept ws e q = (q, λ vs ts d x n h. q ∙ run_element_lem ws e vs ts d x n h)

pub set_kept : (d : ℕ) (ws os e : List ℕ) {r : SetValue} → r ≡ run_set d ws os e → (r ≡ run_set d ws os e) × SetPromise d ws os e r
set_kept d ws os e q = (q, λ vs ts x n f h. q ∙ run_set_lem d ws os e vs ts x n f h)

pub number_kept : (d : ℕ) (p : Environment) (e : List ℕ) {r : NumberValue} → r ≡ run_number d p e → (r ≡ run_number d p e) × NumberPromise d p e r
number_kept d p e q = (q, λ vs ts x n k h. q ∙ run_number_lem d p e vs ts x n k h)
