-- The model that stands in bytes as a system, and the states that words stand for in it.
use Rattle.std.specs.Prelude.{ℕ, ◌≤◌, List, length}
use Rattle.model.specs.Numbers.{range_end, most_variables}
use Rattle.model.specs.System.{System, Origin}
use Rattle.model.specs.Meaning.{State}
use Rattle.model.specs.Commands.{model}
use Rattle.model.specs.declared.Cost.{Cost}
use Rattle.model.specs.Values.{Value}
use Rattle.model.specs.Steps.{system_of, target, origin_of, bound_hours}
use Rattle.words.specs.States.{state_of}
use Rattle.outline.specs.Outline.{model_of, refusal_of, Outlines}
use Rattle.prepare.specs.Layout.{prepared_words}
use Rattle.prepare.specs.Prepared.{Prepared}

-- the number by which the bytes are refused, 0 where they are read
abbrev pub refusal_in : (bytes : List ℕ) → ℕ
refusal_in bytes = refusal_of (model bytes)

-- the words outline the model of the bytes, and hold what is prepared of it
pub record Outlined (bytes words : List ℕ) : Type 0 where
  pub outlines : Outlines bytes words (model_of bytes)
  pub prepared : Prepared bytes words (model_of bytes)
  pub long : prepared_words ≤ length words

abbrev pub system_in : (bytes : List ℕ) → System State Cost
system_in bytes = system_of range_end (model_of bytes)

-- h of a state, in hours
abbrev pub bound_in : (bytes : List ℕ) → State → Value ℕ
bound_in bytes = bound_hours range_end (model_of bytes)

-- a word for each variable that a model may have
abbrev pub StateRoom : (words : List ℕ) → Type 0
StateRoom words = most_variables ≤ length words

abbrev pub state_in : (bytes words : List ℕ) → State
state_in bytes words = state_of (model_of bytes).variables words

-- the target, and the search's start there, with nothing spent
abbrev pub target_in : (bytes : List ℕ) → State
target_in bytes = target (model_of bytes)

abbrev pub origin_in : (bytes : List ℕ) → Origin State Cost
origin_in bytes = origin_of (model_of bytes)
