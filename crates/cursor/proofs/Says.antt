-- What is told of an expression, of the one that is read there.
use Prim.Native.Nat.{ℕ, ◌+◌, ◌-◌}
use mathlib.Core.Path.{◌≡◌, sym, ap, ◌∙◌}
use mathlib.Core.Bool.{Bool, false}
use mathlib.Core.List.{List}
use native.Mathlib.Omega.{arith}
use lib.ListN.{drop}
use lib.IntN.{ℤ}
use Rattle.model.specs.Numbers.{range_end, most_nesting}
use Rattle.model.specs.Values.{value}
use Rattle.model.specs.Readers.{read}
use Rattle.model.specs.Syntax.{Set, Number, Condition, Variable, Table}
use Rattle.model.specs.Expressions as reading
use Rattle.model.specs.Meaning.{State, set_value, number_value, condition_value}
use Rattle.words.specs.States.{state_of}
use Rattle.outline.specs.Outline.{model_of, Outlines}
use Rattle.eval_sets.specs.declared.answers.ConditionValue.TheVariants as C
use Rattle.eval_sets.specs.declared.answers.SetValue.{SetValue}
use Rattle.eval_sets.specs.Answers.{told as told_number, number_answer, condition_answer}
use Rattle.eval_sets.proofs.Promises.{run_set_lem, run_number_lem, run_condition_lem}
use Rattle.prepare.proofs.Deeper.{set_with_depth, number_with_depth, condition_with_depth}
use Rattle.prepare.proofs.Tested.{holds_value, outline_describes}
use Rattle.cursor.specs.Told.{here, NumberTo, ConditionTo, SetTo, FailsAt, ConditionIs}

module _ (bytes words state : List ℕ) (outlined : Outlines bytes words (model_of bytes)) (p : ℕ) where
  abbrev variables : List Variable
  variables = (model_of bytes).variables

  abbrev tables : List Table
  tables = (model_of bytes).tables

  abbrev meant : State
  meant = state_of variables state

  pub number_says : {z : ℤ} {q : ℕ} → NumberTo bytes words state p z q → (x : Number) (n : ℕ) → reading.number variables tables most_nesting (drop p bytes) ≡ read x n
      → told_number z (q - p) ≡ number_answer (number_value range_end tables x meant) n
  number_says {z} {q} told x n reads =
      let top = most_nesting + told.used in
      let took : q - p ≡ told.used = omega (arith, told.ends) in
      ap (λ (k : ℕ). told_number z k) took
      ∙ sym (told.is.runs top (omega arith))
      ∙ run_number_lem top (here bytes words state) (drop p bytes) _ _ x n (outline_describes state outlined) (number_with_depth variables tables most_nesting top (omega arith) (drop p bytes) reads)

  run_says : {b : Bool} {k : ℕ} → ConditionIs bytes words state p b k → (x : Condition) (n : ℕ) → reading.condition variables tables most_nesting (drop p bytes) ≡ read x n
      → C.Holds b k ≡ condition_answer (condition_value range_end tables x meant) n
  run_says {k = k} told x n reads =
      let top = most_nesting + k in
      sym (told.runs top (omega arith))
      ∙ run_condition_lem top (here bytes words state) (drop p bytes) _ _ x n (outline_describes state outlined) (condition_with_depth variables tables most_nesting top (omega arith) (drop p bytes) reads)

  pub condition_says : {b : Bool} {q : ℕ} → ConditionTo bytes words state p b q → (x : Condition) (n : ℕ) → reading.condition variables tables most_nesting (drop p bytes) ≡ read x n
      → C.Holds b (q - p) ≡ condition_answer (condition_value range_end tables x meant) n
  condition_says {b} {q} told x n reads =
      let took : q - p ≡ told.used = omega (arith, told.ends) in
      ap (λ (k : ℕ). C.Holds b k) took ∙ run_says told.is x n reads

  pub fails_says : FailsAt bytes words state p → (x : Condition) (n : ℕ) → reading.condition variables tables most_nesting (drop p bytes) ≡ read x n
      → condition_value range_end tables x meant ≡ value false
  unfolding condition_answer
  fails_says told x n reads = (holds_value _ n (sym (run_says told.is x n reads))).0

  pub set_says_lem : {s q : ℕ} → SetTo bytes words state p s q → (x : Set) (n : ℕ) → reading.set variables tables most_nesting (drop p bytes) ≡ read x n
      → (s ≡ set_value x meant) × (q - p ≡ n)
  set_says_lem {s} {q} told x n reads =
      let top = most_nesting + told.used in
      let took : q - p ≡ told.used = omega (arith, told.ends) in
      let answer = sym (told.is.runs top (omega arith)) ∙ run_set_lem top state words (drop p bytes) _ _ x n (outline_describes state outlined).sets (set_with_depth variables tables most_nesting top (omega arith) (drop p bytes) reads) in
      (ap (λ (r : SetValue). r.members) answer, took ∙ ap (λ (r : SetValue). r.used) answer)
