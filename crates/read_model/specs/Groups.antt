-- The four groups behind the tables, transitions, base cases, constraints and bounds, and what the outline says of them.
use Rattle.std.specs.Prelude.{Result, Ok, Err, ℕ, ◌+◌, ◌≤◌, ◌<◌, ◌≡◌, ◌⊎◌, List, map, length, get_or, drop}
use Rattle.laws.specs.Lists.{All}
use Rattle.model.specs.Numbers.{most_variables, most_tables, most_transitions, most_base_cases, most_constraints, most_bounds, most_nesting}
use Rattle.model.specs.Readers.{Read, read, refused, Reader, ◌>>=◌, ◌>>◌, give, command, up_to}
use Rattle.model.specs.Syntax.{Number, Condition, Rule, Variable, Table, Transition, Model, table_at}
use Rattle.model.specs.Expressions.{number, condition}
use Rattle.model.specs.Commands.{variables, tables, conditions, transition, nothing_more}
use Rattle.words.specs.Signature.{kind_byte, WellFormed}
use Rattle.words.specs.Tables.{Tabled}
use Rattle.outline.specs.Outline.{variable_count_at, table_count_at, transition_count_at, base_case_count_at, constraint_count_at, bound_count_at, tables_from, transitions_from, base_cases_from, constraints_from, bounds_from, VariableAt, Items}
use Rattle.read_model.specs.declared.Group.{Group}
use Rattle.read_model.specs.declared.Group.TheVariants as G
use Rattle.read_declarations.specs.declared.Listed.{Listed}
use Rattle.read_forms.specs.Refusals.{number_of}
use Rattle.read_forms.specs.declared.refusals.Refusal.{Refusal}
use Rattle.read_declarations.specs.Positions.{read_at, Each}

-- ---- the groups

abbrev pub Item : Group → Type 0
Item G.Transitions = Transition
Item G.BaseCases = List Condition
Item G.Constraints = Condition
Item G.Bounds = Number

-- the command byte of each item
abbrev pub code_of : Group → ℕ
code_of G.Transitions = 0x07
code_of G.BaseCases = 0x0b
code_of G.Constraints = 0x0c
code_of G.Bounds = 0x0d

abbrev pub most_of : Group → ℕ
most_of G.Transitions = most_transitions
most_of G.BaseCases = most_base_cases
most_of G.Constraints = most_constraints
most_of G.Bounds = most_bounds

-- the words of the outline that hold a group's count and its offsets
abbrev pub count_at : Group → ℕ
count_at G.Transitions = transition_count_at
count_at G.BaseCases = base_case_count_at
count_at G.Constraints = constraint_count_at
count_at G.Bounds = bound_count_at

abbrev pub offsets_from : Group → ℕ
offsets_from G.Transitions = transitions_from
offsets_from G.BaseCases = base_cases_from
offsets_from G.Constraints = constraints_from
offsets_from G.Bounds = bounds_from

unfoldable pub item_of : List Variable → List Table → (g : Group) → Reader (Item g)
item_of vs ts G.Transitions = transition vs ts
item_of vs ts G.BaseCases = conditions vs ts
item_of vs ts G.Constraints = condition vs ts most_nesting
item_of vs ts G.Bounds = number vs ts most_nesting

-- ---- a group's items, with their offsets

module _ {A : Type 0} (r : Reader A) (bytes offsets : List ℕ) where
  -- item k is what r reads at offset k
  pub record ItemIn (k : ℕ) (x : A) : Type 0 where
    pub inside : get_or offsets k 0 ≤ length bytes
    pub used : ℕ
    pub reads : r (drop (get_or offsets k 0) bytes) ≡ read x used

  pub record ItemsRead (x : Read (List A)) (end n : ℕ) : Type 0 where
    pub items : List A
    pub reads : x ≡ read items end
    pub count : length items ≡ n
    pub few : n ≤ length offsets
    pub placed : Each ItemIn items

  abbrev pub ItemsTold : Read (List A) → Result Listed Refusal → Type 0
  ItemsTold x (Ok l) = ItemsRead x l.end l.count
  ItemsTold x (Err r) = x ≡ refused (number_of r)

-- word i belongs to another group
abbrev pub Outside : Group → (i : ℕ) → Type 0
Outside g i = (i ≡ count_at g → ⊥) × ((i < offsets_from g) ⊎ (offsets_from g + most_of g ≤ i))

-- the words outline a group's items
pub record GroupAt {A : Type 0} (r : Reader A) (g : Group) (bytes words : List ℕ) (items : List A) : Type 0 where
  pub count : get_or words (count_at g) 0 ≡ length items
  pub few : length items ≤ most_of g
  pub placed : Items r bytes words (offsets_from g) items

pub record GroupRead (vs : List Variable) (ts : List Table) (g : Group) (bytes : List ℕ) (start : ℕ) (before words : List ℕ) (end : ℕ) : Type 0 where
  pub items : List (Item g)
  pub reads : read_at (up_to (most_of g) (code_of g) (item_of vs ts g)) start bytes ≡ read items end
  pub outlined : GroupAt (item_of vs ts g) g bytes words items
  pub kept : (i : ℕ) → Outside g i → get_or words i 0 ≡ get_or before i 0

abbrev pub GroupTold : List Variable → List Table → Group → (bytes : List ℕ) (start : ℕ) (before words : List ℕ) → Result ℕ Refusal → Type 0
GroupTold vs ts g bytes start before words (Ok end) = GroupRead vs ts g bytes start before words end
GroupTold vs ts g bytes start before words (Err r) = read_at (up_to (most_of g) (code_of g) (item_of vs ts g)) start bytes ≡ refused (number_of r)

abbrev pub GroupAs : List Variable → List Table → Group → (bytes : List ℕ) (start : ℕ) (before words : List ℕ) → Result ℕ Refusal → Type 0
GroupAs vs ts g bytes start before words r = (length words ≡ length before) × GroupTold vs ts g bytes start before words r

-- ---- the model's reading, from its groups on

abbrev pub the_end : Reader (Unit {0})
the_end = command 0x0e >> nothing_more

module _ (rule : Rule) (vs : List Variable) where
  module _ (ts : List Table) where
    abbrev pub behind_bounds : List Transition → List (List Condition) → List Condition → List Number → Reader Model
    behind_bounds transitions base_cases constraints bounds =
        command 0x0e >> (nothing_more >> give (record { rule = rule; variables = vs; tables = ts; transitions = transitions; base_cases = base_cases; constraints = constraints; bounds = bounds }))

    abbrev pub behind_constraints : List Transition → List (List Condition) → List Condition → Reader Model
    behind_constraints transitions base_cases constraints = up_to most_bounds 0x0d (number vs ts most_nesting) >>= λ bounds. behind_bounds transitions base_cases constraints bounds

    abbrev pub behind_base_cases : List Transition → List (List Condition) → Reader Model
    behind_base_cases transitions base_cases = up_to most_constraints 0x0c (condition vs ts most_nesting) >>= λ constraints. behind_constraints transitions base_cases constraints

    abbrev pub behind_transitions : List Transition → Reader Model
    behind_transitions transitions = up_to most_base_cases 0x0b (conditions vs ts) >>= λ base_cases. behind_base_cases transitions base_cases

    unfoldable pub behind_tables : Reader Model
    behind_tables = up_to most_transitions 0x07 (transition vs ts) >>= λ transitions. behind_transitions transitions

  unfoldable pub behind_variables : Reader Model
  behind_variables = tables >>= λ ts. behind_tables ts

unfoldable pub behind_rule : Rule → Reader Model
behind_rule rule = variables >>= λ vs. behind_variables rule vs

-- ---- what the outline says of a model's groups, and of its tables

-- the bytes declare the variables, the rows and the columns
abbrev pub VariablesDeclared : (kinds : List ℕ) → List Variable → Type 0
VariablesDeclared kinds vs = All WellFormed vs × (map kind_byte vs ≡ kinds)

abbrev pub TablesDeclared : (rows columns : List ℕ) → List Table → Type 0
TablesDeclared rows columns ts = (map (λ t. t.rows) ts ≡ rows) × (map (λ t. t.columns) ts ≡ columns)

pub record GroupsAt (bytes words : List ℕ) (m : Model) : Type 0 where
  pub transitions : GroupAt (transition m.variables m.tables) G.Transitions bytes words m.transitions
  pub base_cases_placed : GroupAt (conditions m.variables m.tables) G.BaseCases bytes words m.base_cases
  pub constraints : GroupAt (condition m.variables m.tables most_nesting) G.Constraints bytes words m.constraints
  pub bounds : GroupAt (number m.variables m.tables most_nesting) G.Bounds bytes words m.bounds

pub record TablesAt (bytes words : List ℕ) (m : Model) : Type 0 where
  pub count : get_or words table_count_at 0 ≡ length m.tables
  pub few : length m.tables ≤ most_tables
  pub tables : (t : ℕ) → t < length m.tables → Tabled bytes (get_or words (tables_from + t) 0) (table_at m.tables t)

-- a model read as x says, and outlined but for its rule, variables and tables
pub record GroupsRead (x : Read Model) (rule : Rule) (vs : List Variable) (ts : List Table) (bytes words : List ℕ) (end : ℕ) : Type 0 where
  pub model : Model
  pub reads : x ≡ read model end
  pub rule_is : model.rule ≡ rule
  pub variables_are : model.variables ≡ vs
  pub tables_are : model.tables ≡ ts
  pub groups : GroupsAt bytes words model

-- the words of the counts of variables and tables, and all before the groups' offsets, stay
abbrev pub GroupsKeep : (before words : List ℕ) → Type 0
GroupsKeep before words = (i : ℕ) → (i < transition_count_at) ⊎ ((16 ≤ i) × (i < transitions_from)) → get_or words i 0 ≡ get_or before i 0

abbrev pub GroupsTold : Read Model → Rule → List Variable → List Table → (bytes before words : List ℕ) → Result ℕ Refusal → Type 0
GroupsTold x rule vs ts bytes before words (Ok end) = GroupsRead x rule vs ts bytes words end × GroupsKeep before words
GroupsTold x rule vs ts bytes before words (Err r) = x ≡ refused (number_of r)

-- whatever the rule is, and whichever variables and tables the bytes declare
abbrev pub GroupsAs : (kinds rows columns bytes : List ℕ) (start : ℕ) (before words : List ℕ) → Result ℕ Refusal → Type 0
GroupsAs kinds rows columns bytes start before words r =
    (rule : Rule) (vs : List Variable) (ts : List Table) → VariablesDeclared kinds vs → TablesDeclared rows columns ts → GroupsTold (read_at (behind_tables rule vs ts) start bytes) rule vs ts bytes before words r

-- a model read as x says, and outlined but for its rule and variables
pub record PartsRead (x : Read Model) (rule : Rule) (vs : List Variable) (bytes words : List ℕ) (end : ℕ) : Type 0 where
  pub model : Model
  pub reads : x ≡ read model end
  pub rule_is : model.rule ≡ rule
  pub variables_are : model.variables ≡ vs
  pub tables : TablesAt bytes words model
  pub groups : GroupsAt bytes words model

abbrev pub PartsKeep : (before words : List ℕ) → Type 0
PartsKeep before words = (i : ℕ) → (i < table_count_at) ⊎ ((16 ≤ i) × (i < tables_from)) → get_or words i 0 ≡ get_or before i 0

abbrev pub PartsTold : Read Model → Rule → List Variable → (bytes before words : List ℕ) → Result ℕ Refusal → Type 0
PartsTold x rule vs bytes before words (Ok end) = PartsRead x rule vs bytes words end × PartsKeep before words
PartsTold x rule vs bytes before words (Err r) = x ≡ refused (number_of r)

abbrev pub PartsAs : (kinds bytes : List ℕ) (start : ℕ) (before words : List ℕ) → Result ℕ Refusal → Type 0
PartsAs kinds bytes start before words r =
    (rule : Rule) (vs : List Variable) → VariablesDeclared kinds vs → PartsTold (read_at (behind_variables rule vs) start bytes) rule vs bytes before words r

-- ---- the whole outline but for the rule

pub record VariablesAt (words : List ℕ) (m : Model) : Type 0 where
  pub count : get_or words variable_count_at 0 ≡ length m.variables
  pub few : length m.variables ≤ most_variables
  pub variables : Each (VariableAt words) m.variables

pub record ModelRead (x : Read Model) (rule : Rule) (bytes words : List ℕ) (end : ℕ) : Type 0 where
  pub model : Model
  pub reads : x ≡ read model end
  pub rule_is : model.rule ≡ rule
  pub variables : VariablesAt words model
  pub tables : TablesAt bytes words model
  pub groups : GroupsAt bytes words model

abbrev pub ModelTold : Read Model → Rule → (bytes words : List ℕ) → Result ℕ Refusal → Type 0
ModelTold x rule bytes words (Ok end) = ModelRead x rule bytes words end
ModelTold x rule bytes words (Err r) = x ≡ refused (number_of r)

abbrev pub ModelAs : (bytes : List ℕ) (start : ℕ) (words : List ℕ) → Result ℕ Refusal → Type 0
ModelAs bytes start words r = (rule : Rule) → ModelTold (read_at (behind_rule rule) start bytes) rule bytes words r
