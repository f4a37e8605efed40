-- What a test of a condition tells: the truth, and the bytes only where it holds.
use Rattle.std.specs.Prelude.{ℕ, ◌≡◌, true, false, List}
use Rattle.model.specs.Numbers.{range_end}
use Rattle.model.specs.Readers.{read}
use Rattle.model.specs.Syntax.{Condition, Variable, Table}
use Rattle.model.specs.Expressions as reading
use Rattle.model.specs.Meaning.{condition_value}
use Rattle.words.specs.States.{state_of}
use Rattle.eval_sets.specs.declared.answers.ConditionValue.{ConditionValue}
use Rattle.eval_sets.specs.declared.answers.ConditionValue.TheVariants as C
use Rattle.eval_sets.specs.Answers.{condition_answer}
use Rattle.eval_sets.specs.Runs.{Environment}
use Rattle.eval_sets.specs.Promise.{Describes}

unfoldable pub stopped : ConditionValue → ConditionValue
stopped (C.Holds true n) = C.Holds true n
stopped (C.Holds false n) = C.Holds false 0
stopped (C.Trouble t) = C.Trouble t

-- of a condition that reads well: its truth in the state that the words stand for; e are the bytes from it on, d is the depth that is left
abbrev pub TestPromise : (d : ℕ) (p : Environment) (e : List ℕ) → ConditionValue → Type 0
TestPromise d p e r = (vs : List Variable) (ts : List Table) (x : Condition) (n : ℕ) → Describes vs ts p
    → reading.condition vs ts d e ≡ read x n → r ≡ stopped (condition_answer (condition_value range_end ts x (state_of vs p.state)) n)
