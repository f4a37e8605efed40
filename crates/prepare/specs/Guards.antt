-- Guards: a test of one word of a state that decides, without evaluating anything, whether conditions are tried at all.
use Rattle.std.specs.Prelude.{ℕ, ◌+◌, ◌≤◌, ◌≡◌, Bool, true, false, cond, List, length, get_or, drop, eqb}
use Rattle.model.specs.Numbers.{range_end, most_nesting}
use Rattle.model.specs.Values.{value}
use Rattle.model.specs.Readers.{read}
use Rattle.model.specs.Sets.{intersection}
use Rattle.model.specs.Syntax.{Condition, Transition, Model}
use Rattle.model.specs.Expressions.{condition}
use Rattle.model.specs.Commands.{transition}
use Rattle.model.specs.Meaning.{condition_value, all_hold}
use Rattle.words.specs.States.{state_of}
use Rattle.prepare.specs.declared.guards.Guard.{Guard}

-- under the mask the word of the guard's variable is as needed
unfoldable pub passes : Guard → (state : List ℕ) → Bool
passes g state = eqb (intersection (get_or state g.variable 0) g.mask) g.need

-- the guard in the four words from `at` on
unfoldable pub guard_in : (words : List ℕ) (at : ℕ) → Guard
guard_in words at = record { variable = get_or words at 0; mask = get_or words (at + 1) 0; need = get_or words (at + 2) 0; behind = get_or words (at + 3) 0 }

module _ (bytes : List ℕ) (m : Model) (g : Guard) where
  -- transition x: where the guard fails, so does one of its conditions, and none before it has trouble; where it passes, those that stand
  -- behind it decide. The transition that is read there has x's costs and effects
  pub record GuardedTransition (x : Transition) : Type 0 where
    pub rest : List Condition
    pub used : ℕ
    pub inside : g.behind ≤ length bytes
    pub reads : transition m.variables m.tables (drop g.behind bytes) ≡ read (record { conditions = rest; costs = x.costs; effects = x.effects }) used
    pub decides : (state : List ℕ) → all_hold range_end m.tables x.conditions (state_of m.variables state)
        ≡ cond (passes g state) (all_hold range_end m.tables rest (state_of m.variables state)) (value false)

  -- condition x: where the guard fails it holds; where it passes, the condition that is read behind it decides
  pub record GuardedCondition (x : Condition) : Type 0 where
    pub part : Condition
    pub used : ℕ
    pub inside : g.behind ≤ length bytes
    pub reads : condition m.variables m.tables most_nesting (drop g.behind bytes) ≡ read part used
    pub decides : (state : List ℕ) → condition_value range_end m.tables x (state_of m.variables state)
        ≡ cond (passes g state) (condition_value range_end m.tables part (state_of m.variables state)) (value true)
