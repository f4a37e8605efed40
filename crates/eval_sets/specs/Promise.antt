-- What the evaluators promise of an expression that reads well: its value in the state that the words stand for.
use Rattle.std.specs.Prelude.{ℕ, ◌+◌, ◌≤◌, ◌<◌, ◌≡◌, List, length, get_or}
use Rattle.std.proofs.Math.Option as O
use Rattle.std.proofs.Math.ListN.{get_elem?}
use Rattle.model.specs.Numbers.{range_end, most_objects}
use Rattle.model.specs.Readers.{read}
use Rattle.model.specs.Syntax.{Element, Set, Number, Condition, a_set, Variable, Table, table_at, set_count}
use Rattle.model.specs.Expressions as reading
use Rattle.model.specs.Meaning.{element_value, set_value, number_value, condition_value}
use Rattle.words.specs.Tables.{Tabled}
use Rattle.outline.specs.Outline.{kinds_from}
use Rattle.eval_sets.specs.declared.answers.ConditionValue.{ConditionValue}
use Rattle.eval_sets.specs.declared.answers.ElementValue.{ElementValue}
use Rattle.eval_sets.specs.declared.answers.SetValue.{SetValue}
use Rattle.words.specs.States.{state_of}
use Rattle.eval_sets.specs.Answers.{NumberValue, number_answer, condition_answer, set_answer, element_answer}
use Rattle.eval_sets.specs.Runs.{Environment, table_in}

-- each set variable's kind word tells its objects, at most 64
abbrev pub SetKinds : List Variable → (outline : List ℕ) → Type 0
SetKinds vs os = (v : ℕ) (x : Variable) → get_elem? vs v ≡ O.some x → x.kind ≡ a_set → (get_or os (kinds_from + v) 0 ≡ most_objects + x.objects) × (x.objects ≤ most_objects)

-- kind words and table words are those of the declared variables and tables
pub record Describes (variables : List Variable) (tables : List Table) (p : Environment) : Type 0 where
  pub sets : SetKinds variables p.outline
  pub tabled : (t : ℕ) → t < length tables → Tabled p.model (table_in p.outline t) (table_at tables t)

-- ---- the promises; e are the bytes from the expression on, d is the depth that is left

abbrev pub ElementPromise : (state e : List ℕ) → ElementValue → Type 0
ElementPromise ws e r = (vs : List Variable) (ts : List Table) (d : ℕ) (x : Element) (n : ℕ)
    → reading.element vs ts d e ≡ read x n → r ≡ element_answer (element_value x (state_of vs ws)) n

abbrev pub SetPromise : (d : ℕ) (state outline e : List ℕ) → SetValue → Type 0
SetPromise d ws os e r = (vs : List Variable) (ts : List Table) (x : Set) (n : ℕ) → SetKinds vs os
    → reading.set vs ts d e ≡ read x n → r ≡ set_answer (set_value x (state_of vs ws)) (set_count x) n

abbrev pub NumberPromise : (d : ℕ) (p : Environment) (e : List ℕ) → NumberValue → Type 0
NumberPromise d p e r = (vs : List Variable) (ts : List Table) (x : Number) (n : ℕ) → Describes vs ts p
    → reading.number vs ts d e ≡ read x n → r ≡ number_answer (number_value range_end ts x (state_of vs p.state)) n

abbrev pub ConditionPromise : (d : ℕ) (p : Environment) (e : List ℕ) → ConditionValue → Type 0
ConditionPromise d p e r = (vs : List Variable) (ts : List Table) (x : Condition) (n : ℕ) → Describes vs ts p
    → reading.condition vs ts d e ≡ read x n → r ≡ condition_answer (condition_value range_end ts x (state_of vs p.state)) n
