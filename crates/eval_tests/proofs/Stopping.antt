-- Stopped answers: behind more bytes, no more bytes than there are, what is promised of them, and the value where they are trouble.
use Prim.Native.Nat.{ℕ, ◌+◌, ◌^◌, ◌<◌}
use mathlib.Core.Path.{◌≡◌, refl, ap, ◌∙◌}
use mathlib.Core.Bool.{true, false}
use mathlib.Core.List.{List}
use native.Mathlib.Omega.{arith}
use Rattle.model.specs.Numbers.{range_end}
use Rattle.model.specs.Values.{trouble}
use Rattle.model.specs.Syntax.{Condition, Table}
use Rattle.model.specs.Meaning.{State, condition_value}
use Rattle.eval_sets.specs.declared.answers.ConditionValue.{ConditionValue}
use Rattle.eval_sets.specs.declared.answers.ConditionValue.TheVariants as C
use Rattle.eval_sets.specs.declared.troubles.Trouble.{Trouble}
use Rattle.eval_sets.specs.Answers.{condition_answer, past_condition}
use Rattle.eval_sets.specs.Bounds.{ConditionWithin, ConditionRoom}
use Rattle.eval_sets.specs.Runs.{Environment, run_condition}
use Rattle.eval_sets.specs.Troubles.{number_of}
use Rattle.eval_sets.proofs.Kept.{condition_trouble_kept}
use Rattle.eval_sets.proofs.Within.{condition_room}
use Rattle.eval_sets.proofs.Promises.{run_condition_lem}
use Rattle.eval_tests.specs.Stopped.{stopped, TestPromise}

-- a part may be stopped where the whole is
pub stopped_past : (k : ℕ) (v : ConditionValue) → stopped (past_condition k (stopped v)) ≡ stopped (past_condition k v)
unfolding stopped past_condition
stopped_past k (C.Holds true n) = refl
stopped_past k (C.Holds false n) = refl
stopped_past k (C.Trouble t) = refl

pub stopped_within : (l : ℕ) (v : ConditionValue) → ConditionWithin l v → ConditionWithin l (stopped v)
unfolding stopped
stopped_within l (C.Holds true n) h = h
stopped_within l (C.Holds false n) h = omega arith
stopped_within l (C.Trouble t) h = tt

-- k bytes more can be counted
pub stopped_room : (k l : ℕ) (v : ConditionValue) → ConditionWithin l v → k + l < 2 ^ 64 → ConditionRoom k (stopped v)
stopped_room k l v w h = condition_room k l (stopped v) (stopped_within l v w) h

-- an answer that is the stopped run keeps the promise
pub test_kept : (d : ℕ) (p : Environment) (e : List ℕ) {r : ConditionValue} → r ≡ stopped (run_condition d p e) → (r ≡ stopped (run_condition d p e)) × TestPromise d p e r
test_kept d p e q = (q, λ vs ts x n k h. q ∙ ap stopped (run_condition_lem d p e vs ts x n k h))

stopped_by : (r : ConditionValue) {t : Trouble} → stopped r ≡ C.Trouble t → r ≡ C.Trouble t
unfolding stopped
stopped_by (C.Holds true n) e = e
stopped_by (C.Holds false n) e = let z : ◌≡◌ {A = ℕ} 0 1 = cc in absurd (omega arith)
stopped_by (C.Trouble t) e = e

-- where a test tells a trouble, the condition's value is the trouble of its number
pub test_trouble_kept : (ts : List Table) (s : State) (n : ℕ) {t : Trouble} (x : Condition) → stopped (condition_answer (condition_value range_end ts x s) n) ≡ C.Trouble t
    → condition_value range_end ts x s ≡ trouble (number_of t)
test_trouble_kept ts s n x e = condition_trouble_kept ts s n x (stopped_by (condition_answer (condition_value range_end ts x s) n) e)
