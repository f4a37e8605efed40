-- What the readers of variables and tables answer, and what they put into bytes and words.
use Rattle.std.specs.Prelude.{Result, Ok, Err, ℕ, ◌≤◌, ◌≡◌, List, map, length, get_or, take, ℤ}
use Rattle.model.specs.Numbers.{most_model_bytes, most_variables, most_tables}
use Rattle.model.specs.Readers.{Read, read, refused, Reader, ◌>>◌, integer, command}
use Rattle.model.specs.Syntax.{Variable, Table}
use Rattle.model.specs.Commands.{variables, tables}
use Rattle.words.specs.States.{value_of}
use Rattle.words.specs.Signature.{kind_byte, WellFormed}
use Rattle.words.specs.Tables.{Tabled}
use Rattle.outline.specs.Outline.{preference_number, VariableAt}
use Rattle.read_forms.specs.Refusals.{number_of, named}
use Rattle.read_forms.specs.declared.refusals.Refusal.{Refusal}
use Rattle.read_declarations.specs.declared.Declaration.{Declaration}
use Rattle.read_declarations.specs.declared.Listed.{Listed}
use Rattle.read_declarations.specs.declared.Sides.{Sides}
use Rattle.read_declarations.specs.Positions.{read_at, Each}

-- ---- 02, 03, 04

pub record Declares (x : Read Variable) (d : Declaration) : Type 0 where
  pub variable : Variable
  pub reads : x ≡ read variable d.used
  pub short : d.used ≤ 9
  pub kind : d.kind ≡ kind_byte variable
  pub preference : d.preference ≡ preference_number variable.preference
  pub start : value_of variable.kind d.start ≡ variable.start
  pub well_formed : WellFormed variable

abbrev pub DeclaredAs : Read Variable → Result Declaration Refusal → Type 0
DeclaredAs x (Ok d) = Declares x d
DeclaredAs x (Err r) = x ≡ refused (number_of r)

-- the variables that are read, a byte and three words for each
pub record VariablesRead (x : Read (List Variable)) (kinds words : List ℕ) (end n : ℕ) : Type 0 where
  pub variables : List Variable
  pub reads : x ≡ read variables end
  pub count : length variables ≡ n
  pub few : n ≤ most_variables
  pub kind_bytes : take n kinds ≡ map kind_byte variables
  pub outlined : Each (VariableAt words) variables

abbrev pub VariablesTold : Read (List Variable) → (kinds words : List ℕ) → Result Listed Refusal → Type 0
VariablesTold x kinds words (Ok l) = VariablesRead x kinds words l.end l.count
VariablesTold x kinds words (Err r) = x ≡ refused (number_of r)

-- with as many bytes and words as there were
abbrev pub VariablesAs : (bytes : List ℕ) (start : ℕ) (kinds words : List ℕ) → Result Listed Refusal → Type 0
VariablesAs bytes start kinds words r = (length kinds ≡ 16) × (length words ≡ 80) × VariablesTold (read_at variables start bytes) kinds words r

-- ---- 05, 06

abbrev pub sides_of : Read (ℕ × ℕ) → Result Sides Refusal
sides_of (read p n) = Ok (record { rows = p.0; columns = p.1 })
sides_of (refused t) = Err (named t)

-- 06 and an integer
abbrev pub one_entry : Reader ℤ
one_entry = command 0x06 >> integer

-- the tables that are read, two bytes and a word for each
pub record TablesRead (bytes : List ℕ) (x : Read (List Table)) (rows columns words : List ℕ) (end n : ℕ) : Type 0 where
  pub tables : List Table
  pub reads : x ≡ read tables end
  pub count : length tables ≡ n
  pub few : n ≤ most_tables
  pub row_bytes : take n rows ≡ map (λ t. t.rows) tables
  pub column_bytes : take n columns ≡ map (λ t. t.columns) tables
  pub outlined : Each (λ k t. Tabled bytes (get_or words k 0) t) tables

abbrev pub TablesTold : List ℕ → Read (List Table) → (rows columns words : List ℕ) → Result Listed Refusal → Type 0
TablesTold bytes x rows columns words (Ok l) = TablesRead bytes x rows columns words l.end l.count
TablesTold bytes x rows columns words (Err r) = x ≡ refused (number_of r)

-- what the reader of tables needs: a model that is not too long, and room for the sides and the word of each table
pub record TablesRoom (bytes rows columns words : List ℕ) : Type 0 where
  pub short : length bytes ≤ most_model_bytes
  pub rows_long : length rows ≡ most_tables
  pub columns_long : length columns ≡ most_tables
  pub words_long : length words ≡ most_tables

abbrev pub TablesAs : (bytes : List ℕ) (start : ℕ) (rows columns words : List ℕ) → Result Listed Refusal → Type 0
TablesAs bytes start rows columns words r = (length rows ≡ 32) × (length columns ≡ 32) × (length words ≡ 32) × TablesTold bytes (read_at tables start bytes) rows columns words r
