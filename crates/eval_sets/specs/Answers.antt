-- The evaluators' answers from values and the bytes used, and the answer of a form from those of its parts.
use Rattle.std.specs.Prelude.{ℕ, ◌+◌, Bool, not, ℤ, Result, Ok, Err}
use Rattle.model.specs.Values.{Value, value, trouble}
use Rattle.eval_sets.specs.declared.answers.Told.{Told}
use Rattle.eval_sets.specs.declared.answers.ConditionValue.{ConditionValue}
use Rattle.eval_sets.specs.declared.answers.ConditionValue.TheVariants as C
use Rattle.eval_sets.specs.declared.answers.ElementValue.{ElementValue}
use Rattle.eval_sets.specs.declared.answers.SetValue.{SetValue}
use Rattle.eval_sets.specs.declared.troubles.Trouble.{Trouble}
use Rattle.eval_sets.specs.declared.troubles.Trouble.TheVariants.{Nothing}
use Rattle.eval_sets.specs.Troubles.{named}

-- a number, and two numbers one behind the other: with the bytes that they take, or the trouble
abbrev pub NumberValue : Type 0
NumberValue = Result (Told ℤ) Trouble

abbrev pub PairValue : Type 0
PairValue = Result (Told (ℤ × ℤ)) Trouble

abbrev pub told : {A : Type 0} → A → ℕ → Result (Told A) Trouble
told x n = Ok (record { value = x; used = n })

-- a value with the bytes that its expression takes, or the trouble
unfoldable pub number_answer : Value ℤ → ℕ → NumberValue
number_answer (value x) n = told x n
number_answer (trouble t) n = Err (named t)

unfoldable pub condition_answer : Value Bool → ℕ → ConditionValue
condition_answer (value b) n = C.Holds b n
condition_answer (trouble t) n = C.Trouble (named t)

abbrev pub set_answer : (members objects n : ℕ) → SetValue
set_answer s c n = record { members = s; objects = c; used = n }

abbrev pub element_answer : (object n : ℕ) → ElementValue
element_answer k n = record { object = k; used = n }

-- where the bytes hold no expression of the kind
abbrev pub absent_number : NumberValue
absent_number = Err Nothing

abbrev pub absent_condition : ConditionValue
absent_condition = C.Trouble Nothing

abbrev pub absent_set : SetValue
absent_set = set_answer 0 0 0

abbrev pub absent_element : ElementValue
absent_element = element_answer 0 0

-- behind k bytes
unfoldable pub past_number : ℕ → NumberValue → NumberValue
past_number k (Ok v) = told v.value (k + v.used)
past_number k (Err t) = Err t

unfoldable pub past_condition : ℕ → ConditionValue → ConditionValue
past_condition k (C.Holds b n) = C.Holds b (k + n)
past_condition k (C.Trouble t) = C.Trouble t

abbrev pub past_set : ℕ → SetValue → SetValue
past_set k v = set_answer v.members v.objects (k + v.used)

-- a form of two numbers, by the answer of the two
unfoldable pub number_of_two : (ℤ → ℤ → Value ℤ) → PairValue → NumberValue
number_of_two f (Ok v) = number_answer (f v.value.0 v.value.1) v.used
number_of_two f (Err t) = Err t

unfoldable pub condition_of_two : (ℤ → ℤ → Bool) → PairValue → ConditionValue
condition_of_two f (Ok v) = C.Holds (f v.value.0 v.value.1) v.used
condition_of_two f (Err t) = C.Trouble t

unfoldable pub negated : ConditionValue → ConditionValue
negated (C.Holds b n) = C.Holds (not b) n
negated (C.Trouble t) = C.Trouble t
