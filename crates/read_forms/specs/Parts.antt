-- What reading an expression answers: the bytes used and the object count, 0 of a number and of a condition; or a refusal.
use Rattle.std.specs.Prelude.{ℕ, List, Result, Ok, Err}
use Rattle.model.specs.Syntax.{element_count, set_count, Variable, Table}
use Rattle.model.specs.Readers.{Read, read, refused}
use Rattle.model.specs.Expressions.{element, set, number, condition}
use Rattle.read_forms.specs.declared.Due.{Due}
use Rattle.read_forms.specs.declared.Due.TheVariants as D
use Rattle.words.specs.Signature.{variables_of, tables_of}
use Rattle.read_forms.specs.declared.Names.{Names}
use Rattle.read_forms.specs.declared.Part.{Part}
use Rattle.read_forms.specs.declared.refusals.Refusal.{Refusal}
use Rattle.read_forms.specs.Refusals.{named}

abbrev pub Answer : Type 0
Answer = Result Part Refusal

abbrev pub good : (used count : ℕ) → Answer
good n a = Ok (record { used = n; count = a })

abbrev pub no_count : {A : Type 0} → A → ℕ
no_count a = 0

-- the declared names
abbrev pub variables_in : Names → List Variable
variables_in names = variables_of names.kinds.now

abbrev pub tables_in : Names → List Table
tables_in names = tables_of names.rows.now names.columns.now

-- what was read, told by its bytes and its count
abbrev pub part_of : {A : Type 0} → (A → ℕ) → Read A → Answer
part_of count (read a n) = good n (count a)
part_of count (refused t) = Err (named t)

-- the expression that is due, where these variables and tables are declared and depth d is left
unfoldable pub part_at : Due → List Variable → List Table → (d : ℕ) → List ℕ → Answer
part_at D.Number vs ts d bytes = part_of no_count (number vs ts d bytes)
part_at D.Condition vs ts d bytes = part_of no_count (condition vs ts d bytes)
part_at D.Element vs ts d bytes = part_of element_count (element vs ts d bytes)
part_at D.Set vs ts d bytes = part_of set_count (set vs ts d bytes)
