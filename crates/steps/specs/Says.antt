-- What is promised of the parts of a model where they stand in its bytes: values in the state that the words stand for.
use Rattle.std.specs.Prelude.{Bool, Result, Err, IfOk, ℕ, ◌+◌, ◌-◌, ◌≤◌, ◌<◌, ◌≡◌, List, [], length, drop, eqb, ℤ}
use Rattle.std.proofs.Math.Option.{some}
use Rattle.std.proofs.Math.ListN.{get_elem?}
use Rattle.std.specs.Int.Signed.{mag}
use Rattle.model.specs.Numbers.{range_end, most_nesting, most_variables}
use Rattle.model.specs.Values.{Value, value, trouble, ◌>>=◌}
use Rattle.model.specs.System.{moved}
use Rattle.model.specs.Readers.{Reader, read, many}
use Rattle.model.specs.Syntax.{Element, Set, Number, Condition, Kind, a_number, Variable, Expression, Effect, StepCosts, Transition, Table}
use Rattle.model.specs.declared.Cost.{Cost}
use Rattle.model.specs.Expressions as reading
use Rattle.model.specs.Commands.{conditions, costs, effect_target, effect_on, expression_for, transition}
use Rattle.model.specs.Meaning.{State, element_value, set_value, number_value, condition_value, expression_value, all_hold}
use Rattle.model.specs.Steps.{with_high, step_cost, effects, Attempt, taken, attempt}
use Rattle.words.specs.States.{value_of}
use Rattle.eval_sets.specs.declared.answers.ConditionValue.{ConditionValue}
use Rattle.eval_sets.specs.declared.answers.ElementValue.{ElementValue}
use Rattle.eval_sets.specs.declared.answers.SetValue.{SetValue}
use Rattle.eval_sets.specs.declared.troubles.Trouble.{Trouble}
use Rattle.eval_sets.specs.Answers.{NumberValue, told, number_answer, condition_answer}
use Rattle.eval_sets.specs.Bounds.{NumberWithin}
use Rattle.eval_sets.specs.Troubles.{named}
use Rattle.eval_tests.specs.Stopped.{stopped}
use Rattle.outline.specs.Outline.{model_of}
use Rattle.prepare.specs.Prepared.{ConjunctAt}
use Rattle.quick.specs.Sums.{bound_place}
use Rattle.steps.specs.declared.answers.HeldAnswer.{HeldAnswer}
use Rattle.steps.specs.declared.answers.AttemptAnswer.{AttemptAnswer}
use Rattle.steps.specs.declared.answers.MoveAnswer.{MoveAnswer}
use Rattle.steps.specs.Answers.{result_of, held_answer, CostAnswer, WordAnswer, EffectsAnswer, cost_answer, effects_answer, attempt_answer, taken_answer, move_answer}
use Rattle.steps.specs.InBytes.{state_in, system_in}

-- 0A from the first on, as a transition has them
abbrev pub effect_list : List Variable → List Table → Reader (List Effect)
effect_list vs ts = many (λ b. eqb b 0x0a) (effect_target vs ts) (effect_on vs ts) most_variables []

-- what the reader reads at a place
pub record ReadsAt {A : Type 0} (r : Reader A) (bytes : List ℕ) (at : ℕ) : Type 0 where
  pub item : A
  pub used : ℕ
  pub reads : r (drop at bytes) ≡ read item used

-- no more bytes used than there are
abbrev pub CostWithin : (bytes : ℕ) → CostAnswer → Type 0
CostWithin l r = IfOk r (λ c. c.used ≤ l)

-- no more bytes used than there are
abbrev pub WordWithin : (bytes : ℕ) → WordAnswer → Type 0
WordWithin l r = IfOk r (λ w. w.used ≤ l)

-- the word stands for the value
abbrev pub WordIs : Kind → Value ℤ → (used : ℕ) → WordAnswer → Type 0
WordIs k (value z) n r = (w : ℕ) × (r ≡ told w n) × (value_of k w ≡ z)
WordIs k (trouble t) n r = r ≡ Err (named t)

module _ (bytes : List ℕ) where
  abbrev variables_in : List Variable
  variables_in = (model_of bytes).variables

  abbrev tables_in : List Table
  tables_in = (model_of bytes).tables

  abbrev pub EffectsRead : (at : ℕ) → Type 0
  EffectsRead at = ReadsAt (effect_list variables_in tables_in) bytes at

  abbrev pub TransitionRead : (at : ℕ) → Type 0
  TransitionRead at = ReadsAt (transition variables_in tables_in) bytes at

  -- the answer, and the new state's words where the step is taken
  pub record AttemptSay (child : List ℕ) (r : AttemptAnswer) (v : Value Attempt) : Type 0 where
    pub answer : r ≡ attempt_answer v
    pub written : (c : Cost) (u : State) → v ≡ value (taken c u) → state_in bytes child ≡ u

  module _ (at : ℕ) (state : List ℕ) where
    abbrev pub ConditionSays : ConditionValue → Type 0
    ConditionSays r = (x : Condition) (n : ℕ) → reading.condition variables_in tables_in most_nesting (drop at bytes) ≡ read x n
        → r ≡ stopped (condition_answer (condition_value range_end tables_in x (state_in bytes state)) n)

    abbrev pub NumberSays : NumberValue → Type 0
    NumberSays r = (x : Number) (n : ℕ) → reading.number variables_in tables_in most_nesting (drop at bytes) ≡ read x n
        → r ≡ number_answer (number_value range_end tables_in x (state_in bytes state)) n

    abbrev pub ElementSays : ElementValue → Type 0
    ElementSays r = (x : Element) (n : ℕ) → reading.element variables_in tables_in most_nesting (drop at bytes) ≡ read x n
        → (r.object ≡ element_value x (state_in bytes state)) × (r.used ≡ n)

    abbrev pub SetSays : SetValue → Type 0
    SetSays r = (x : Set) (n : ℕ) → reading.set variables_in tables_in most_nesting (drop at bytes) ≡ read x n
        → (r.members ≡ set_value x (state_in bytes state)) × (r.used ≡ n)

    -- conditions 08, one behind the other
    abbrev pub HeldSays : HeldAnswer → Type 0
    HeldSays r = (l : List Condition) (n : ℕ) → conditions variables_in tables_in (drop at bytes) ≡ read l n
        → r ≡ held_answer (all_hold range_end tables_in l (state_in bytes state)) (at + n)

    -- what a step of this low cost costs, 10 and its number
    abbrev pub RangeSays : (low : ℕ) → CostAnswer → Type 0
    RangeSays low r = (x : Number) (n : ℕ) → reading.number variables_in tables_in most_nesting (drop (at + 1) bytes) ≡ read x n
        → r ≡ cost_answer (with_high range_end (model_of bytes) (some x) low (state_in bytes state)) (n + 1)

    -- what a step costs, 09 and its number, and 10 and its number where they are written
    abbrev pub CostsSay : CostAnswer → Type 0
    CostsSay r = (k : StepCosts) (n : ℕ) → costs variables_in tables_in (drop at bytes) ≡ read k n → r ≡ cost_answer (step_cost range_end (model_of bytes) k (state_in bytes state)) n

    -- the word of a number variable
    abbrev pub NumberWordSays : WordAnswer → Type 0
    NumberWordSays r = (x : Number) (n : ℕ) → reading.number variables_in tables_in most_nesting (drop at bytes) ≡ read x n
        → WordIs a_number (number_value range_end tables_in x (state_in bytes state)) n r

    -- the word of variable v
    abbrev pub WordSays : (v : ℕ) → WordAnswer → Type 0
    WordSays v r = (x : Variable) (e : Expression) (n : ℕ) → get_elem? variables_in v ≡ some x → expression_for variables_in tables_in x.kind x.objects (drop at bytes) ≡ read e n
        → WordIs x.kind (expression_value range_end tables_in e (state_in bytes state)) n r

    -- effects 0A, one behind the other, on the words `before`
    pub record EffectsSay (before after : List ℕ) (r : EffectsAnswer) (l : List Effect) : Type 0 where
      pub answer : r ≡ effects_answer (effects range_end (model_of bytes) l (state_in bytes state) (state_in bytes before))
      pub written : (u : State) → effects range_end (model_of bytes) l (state_in bytes state) (state_in bytes before) ≡ value u → state_in bytes after ≡ u

    abbrev pub EffectsSays : (before after : List ℕ) → EffectsAnswer → Type 0
    EffectsSays before after r = (l : List Effect) (n : ℕ) → effect_list variables_in tables_in (drop at bytes) ≡ read l n → EffectsSay before after r l

    -- costs and the effects behind them
    abbrev pub taken_in : StepCosts → List Effect → Value Attempt
    taken_in x l = step_cost range_end (model_of bytes) x (state_in bytes state) >>= λ c. effects range_end (model_of bytes) l (state_in bytes state) (state_in bytes state) >>= λ new. value (taken c new)

    abbrev pub TakenSays : (child : List ℕ) → Result Cost Trouble → Type 0
    TakenSays child r = (x : StepCosts) (n : ℕ) (l : List Effect) (k : ℕ) → costs variables_in tables_in (drop at bytes) ≡ read x n
        → effect_list variables_in tables_in (drop (at + n) bytes) ≡ read l k → AttemptSay child (taken_answer r) (taken_in x l)

    abbrev pub AttemptSays : (child : List ℕ) → AttemptAnswer → Type 0
    AttemptSays child r = (x : Transition) (n : ℕ) → transition variables_in tables_in (drop at bytes) ≡ read x n → AttemptSay child r (attempt range_end (model_of bytes) x (state_in bytes state))

  -- the condition at a place, without its bytes
  abbrev pub TestedSays : (at : ℕ) (state : List ℕ) → Result Bool Trouble → Type 0
  TestedSays at state r = (x : Condition) (n : ℕ) → reading.condition variables_in tables_in most_nesting (drop at bytes) ≡ read x n → r ≡ result_of (condition_value range_end tables_in x (state_in bytes state))

  -- conjunct k of the constraints, tried in a state
  abbrev pub ConjunctSays : (words : List ℕ) (k : ℕ) (state : List ℕ) → Result Bool Trouble → Type 0
  ConjunctSays words k state r = (x : Condition) → ConjunctAt bytes words (model_of bytes) k x → r ≡ result_of (condition_value range_end tables_in x (state_in bytes state))

  -- costs, then effects
  pub record TakenRead (at : ℕ) : Type 0 where
    pub costs_read : ReadsAt (costs variables_in tables_in) bytes at
    pub inside : at < length bytes
    pub effects_read : EffectsRead (at + costs_read.used)

  -- transition t was tried in the state
  pub record Tried (state : List ℕ) (t : ℕ) (child : List ℕ) (r : AttemptAnswer) : Type 0 where
    pub transition_tried : Transition
    pub declared : get_elem? (model_of bytes).transitions t ≡ some transition_tried
    pub says : AttemptSay child r (attempt range_end (model_of bytes) transition_tried (state_in bytes state))

  -- the answer of a move, and the new state's words where it is one
  pub record MoveSays (state : List ℕ) (t : ℕ) (child : List ℕ) (r : MoveAnswer) : Type 0 where
    pub answer : r ≡ move_answer ((system_in bytes).move (state_in bytes state) t)
    pub arrives : (c : Cost) (u : State) → (system_in bytes).move (state_in bytes state) t ≡ moved c u → state_in bytes child ≡ u

-- bound k's number, whatever bytes are told to be used
pub record BoundSays (bytes words state : List ℕ) (k : ℕ) (r : NumberValue) : Type 0 where
  pub told : (x : Number) (n : ℕ) → reading.number (model_of bytes).variables (model_of bytes).tables most_nesting (drop (bound_place words k) bytes) ≡ read x n
      → (used : ℕ) × (r ≡ number_answer (number_value range_end (model_of bytes).tables x (state_in bytes state)) used)
  pub within : NumberWithin (length bytes - bound_place words k) r

-- the place of the sum inside the bound at `at`, where it is told; no other lies in the bytes
abbrev pub InnerPlace : (bytes : List ℕ) (at : ℕ) (inner : ℤ) (p : ℕ) → Type 0
InnerPlace bytes at inner p = p < length bytes → (p ≡ at + 14) × (mag inner < range_end)
