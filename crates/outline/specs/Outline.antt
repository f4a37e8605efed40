-- The outline of a model: words that say where its parts stand in the bytes. The reader of commands writes it, steps read it.
use Rattle.std.specs.Prelude.{ℕ, ◌+◌, ◌≤◌, ◌<◌, ◌≡◌, List, [], length, get_or, drop}
use Rattle.std.proofs.Math.Option.{some}
use Rattle.std.proofs.Math.ListN.{get_elem?}
use Rattle.model.specs.Numbers.{most_nesting, most_variables, most_tables, most_transitions, most_base_cases, most_constraints, most_bounds}
use Rattle.model.specs.Readers.{Read, read, refused, Reader}
use Rattle.model.specs.Syntax.{Preference, none, less, more, Rule, sum, largest, Variable, Model, table_at}
use Rattle.model.specs.Expressions.{number, condition}
use Rattle.model.specs.Commands.{conditions, transition, model}
use Rattle.words.specs.States.{value_of}
use Rattle.words.specs.Signature.{kind_byte, WellFormed}
use Rattle.words.specs.Tables.{Tabled}

-- ---- which word holds what

abbrev pub outline_words : ℕ
outline_words = 424

abbrev pub rule_at : ℕ
rule_at = 0

-- how many variables, tables, transitions, base cases, constraints and bounds there are
abbrev pub variable_count_at : ℕ
variable_count_at = 1

abbrev pub table_count_at : ℕ
table_count_at = 2

abbrev pub transition_count_at : ℕ
transition_count_at = 3

abbrev pub base_case_count_at : ℕ
base_case_count_at = 4

abbrev pub constraint_count_at : ℕ
constraint_count_at = 5

abbrev pub bound_count_at : ℕ
bound_count_at = 6

-- a word for each variable: its kind and objects, its preference, its start; words 64 to 79 are free
abbrev pub kinds_from : ℕ
kinds_from = 16

abbrev pub preferences_from : ℕ
preferences_from = 32

abbrev pub starts_from : ℕ
starts_from = 48

-- a word for each table
abbrev pub tables_from : ℕ
tables_from = 80

-- an offset for each transition, base case, constraint and bound: where what follows its command byte begins
abbrev pub transitions_from : ℕ
transitions_from = 112

abbrev pub base_cases_from : ℕ
base_cases_from = 368

abbrev pub constraints_from : ℕ
constraints_from = 384

abbrev pub bounds_from : ℕ
bounds_from = 416

-- ---- the model that stands in bytes

unfoldable pub read_model : Read Model → Model
read_model (read m n) = m
read_model (refused t) = record { rule = sum; variables = []; tables = []; transitions = []; base_cases = []; constraints = []; bounds = [] }

-- the model that the bytes are read as; one without parts where they are refused
unfoldable pub model_of : (bytes : List ℕ) → Model
model_of bytes = read_model (model bytes)

-- the refusal of the bytes, or 0
unfoldable pub refusal_of : Read Model → ℕ
refusal_of (read m n) = 0
refusal_of (refused t) = t

-- ---- what the words say

unfoldable pub rule_number : Rule → ℕ
rule_number sum = 0
rule_number largest = 1

unfoldable pub preference_number : Preference → ℕ
preference_number none = 0
preference_number less = 1
preference_number more = 2

pub record VariableAt (words : List ℕ) (v : ℕ) (x : Variable) : Type 0 where
  pub kind : get_or words (kinds_from + v) 0 ≡ kind_byte x
  pub preference : get_or words (preferences_from + v) 0 ≡ preference_number x.preference
  pub start : value_of x.kind (get_or words (starts_from + v) 0) ≡ x.start
  pub well_formed : WellFormed x

module _ {A : Type 0} (r : Reader A) (bytes words : List ℕ) (from : ℕ) where
  -- item k is what r reads at the offset in word from + k
  pub record ItemAt (k : ℕ) (x : A) : Type 0 where
    pub inside : get_or words (from + k) 0 ≤ length bytes
    pub used : ℕ
    pub reads : r (drop (get_or words (from + k) 0) bytes) ≡ read x used

  abbrev pub Items : List A → Type 0
  Items l = (k : ℕ) (x : A) → get_elem? l k ≡ some x → ItemAt k x

-- the words outline the model m, which stands in the bytes
pub record Outlines (bytes words : List ℕ) (m : Model) : Type 0 where
  pub rule : get_or words rule_at 0 ≡ rule_number m.rule
  pub variable_count : get_or words variable_count_at 0 ≡ length m.variables
  pub table_count : get_or words table_count_at 0 ≡ length m.tables
  pub transition_count : get_or words transition_count_at 0 ≡ length m.transitions
  pub base_case_count : get_or words base_case_count_at 0 ≡ length m.base_cases
  pub constraint_count : get_or words constraint_count_at 0 ≡ length m.constraints
  pub bound_count : get_or words bound_count_at 0 ≡ length m.bounds
  pub few_variables : length m.variables ≤ most_variables
  pub few_tables : length m.tables ≤ most_tables
  pub few_transitions : length m.transitions ≤ most_transitions
  pub few_base_cases : length m.base_cases ≤ most_base_cases
  pub few_constraints : length m.constraints ≤ most_constraints
  pub few_bounds : length m.bounds ≤ most_bounds
  pub variables : (v : ℕ) (x : Variable) → get_elem? m.variables v ≡ some x → VariableAt words v x
  pub tables : (t : ℕ) → t < length m.tables → Tabled bytes (get_or words (tables_from + t) 0) (table_at m.tables t)
  pub transitions : Items (transition m.variables m.tables) bytes words transitions_from m.transitions
  pub base_cases_placed : Items (conditions m.variables m.tables) bytes words base_cases_from m.base_cases
  pub constraints : Items (condition m.variables m.tables most_nesting) bytes words constraints_from m.constraints
  pub bounds : Items (number m.variables m.tables most_nesting) bytes words bounds_from m.bounds
