-- The answers in enums and results, from the definitions' own.
use Rattle.std.specs.Prelude.{ℕ, ◌≡◌, Bool, true, false, Result, Ok, Err}
use Rattle.model.specs.Values.{Value, value, trouble}
use Rattle.model.specs.System as System
use Rattle.model.specs.System.{base, unfinished, no_status, Move, blocked, moved, trouble_before, trouble_after}
use Rattle.model.specs.Meaning.{State}
use Rattle.model.specs.declared.Cost.{Cost}
use Rattle.model.specs.Steps.{Attempt, not_taken, taken}
use Rattle.eval_sets.specs.declared.answers.Told.{Told}
use Rattle.eval_sets.specs.declared.troubles.Trouble.{Trouble}
use Rattle.eval_sets.specs.Answers.{told}
use Rattle.eval_sets.specs.Troubles.{named}
use Rattle.steps.specs.declared.answers.Status.{Status}
use Rattle.steps.specs.declared.answers.Status.TheVariants as S
use Rattle.steps.specs.declared.answers.HeldAnswer.{HeldAnswer}
use Rattle.steps.specs.declared.answers.HeldAnswer.TheVariants as H
use Rattle.steps.specs.declared.answers.AttemptAnswer.{AttemptAnswer}
use Rattle.steps.specs.declared.answers.AttemptAnswer.TheVariants as A
use Rattle.steps.specs.declared.answers.MoveAnswer.{MoveAnswer}
use Rattle.steps.specs.declared.answers.MoveAnswer.TheVariants as M

-- the value, or the trouble of its number
unfoldable pub result_of : {A : Type 0} → Value A → Result A Trouble
result_of (value a) = Ok a
result_of (trouble t) = Err (named t)

-- the value is trouble, of this name
abbrev pub IsTrouble : {A : Type 0} → Value A → Trouble → Type 0
IsTrouble v t = (s : ℕ) × (v ≡ trouble s) × (t ≡ named s)

unfoldable pub status_answer : System.Status → Result Status Trouble
status_answer base = Ok S.Base
status_answer unfinished = Ok S.Unfinished
status_answer (no_status t) = Err (named t)

-- next: the position behind the conditions
unfoldable pub held_answer : Value Bool → (next : ℕ) → HeldAnswer
held_answer (value true) next = H.All next
held_answer (value false) next = H.Fails
held_answer (trouble t) next = H.Trouble (named t)

-- what a step costs, and a word, with the bytes that they take
abbrev pub CostAnswer : Type 0
CostAnswer = Result (Told Cost) Trouble

abbrev pub WordAnswer : Type 0
WordAnswer = Result (Told ℕ) Trouble

unfoldable pub cost_answer : Value Cost → (used : ℕ) → CostAnswer
cost_answer (value c) n = told c n
cost_answer (trouble t) n = Err (named t)

-- whether all effects have values
abbrev pub EffectsAnswer : Type 0
EffectsAnswer = Result (Unit {0}) Trouble

unfoldable pub effects_answer : Value State → EffectsAnswer
effects_answer (value u) = Ok tt
effects_answer (trouble t) = Err (named t)

unfoldable pub attempt_answer : Value Attempt → AttemptAnswer
attempt_answer (value not_taken) = A.NotTaken
attempt_answer (value (taken c u)) = A.Taken c
attempt_answer (trouble t) = A.Trouble (named t)

-- an attempt that was taken, if nothing was trouble
abbrev pub taken_answer : Result Cost Trouble → AttemptAnswer
taken_answer (Ok c) = A.Taken c
taken_answer (Err t) = A.Trouble t

unfoldable pub move_answer : Move State Cost → MoveAnswer
move_answer blocked = M.Blocked
move_answer (moved c u) = M.Moved c
move_answer (trouble_before t) = M.Before (named t)
move_answer (trouble_after c t) = M.After c (named t)
