-- 2A over a set variable: a table's column summed over a set; and the memory of the last such sum of each bound, and of any other.
use Rattle.std.specs.Prelude.{ℕ, ◌+◌, ◌*◌, ◌/◌, ◌%◌, ◌≤◌, ◌<◌, ◌≡◌, Bool, false, cond, List, length, get_or, drop, eqb, ℤ}
use Rattle.std.specs.Int.Signed.{mag}
use Rattle.model.specs.Numbers.{range_end, most_objects, most_nesting, most_bounds}
use Rattle.model.specs.Values.{value}
use Rattle.model.specs.Readers.{read}
use Rattle.model.specs.Sets.{members}
use Rattle.model.specs.Syntax.{a_number, Number}
use Rattle.model.specs.Expressions.{number}
use Rattle.model.specs.Meaning.{sum_over, number_value}
use Rattle.words.specs.States.{value_of, state_of}
use Rattle.words.specs.Tables.{integer_at}
use Rattle.outline.specs.Outline.{bounds_from, model_of, Outlines}
use Rattle.prepare.specs.Forms.{SameForm}
use Rattle.eval_sets.specs.Runs.{table_in, entry_of}
use Rattle.quick.specs.Sets.{object_in, ChangedForm, changed_in}

module _ (bytes : List ℕ) (at : ℕ) where
  -- ---- a table's column, summed over a set

  -- 2A t 41 v 30 j
  pub record VariableTotal : Type 0 where
    pub inside : at + 6 ≤ length bytes
    pub total : get_or bytes at 0 ≡ 0x2a
    pub variable : get_or bytes (at + 2) 0 ≡ 0x41
    pub column : get_or bytes (at + 4) 0 ≡ 0x30

  -- 2A t 42 e 41 v 30 j, or 43 in the place of 42
  pub record ChangedTotal : Type 0 where
    pub inside : at + 9 ≤ length bytes
    pub total : get_or bytes at 0 ≡ 0x2a
    pub set : ChangedForm bytes (at + 2)
    pub column : get_or bytes (at + 7) 0 ≡ 0x30

  pub data TotalForm : Type 0 where
    of_variable : VariableTotal → TotalForm
    of_changed : ChangedTotal → TotalForm

  -- the set stands behind the table's number, the column behind the set
  unfoldable pub summed_set : (state : List ℕ) → ℕ
  summed_set state = cond (eqb (get_or bytes (at + 2) 0) 0x41) (get_or state (get_or bytes (at + 3) 0) 0) (changed_in bytes (at + 2) state)

  unfoldable pub summed_column : ℕ
  summed_column = cond (eqb (get_or bytes (at + 2) 0) 0x41) (get_or bytes (at + 5) 0) (get_or bytes (at + 8) 0) % most_objects

  -- the column's sum over the members of s
  unfoldable pub sum_of : (words : List ℕ) (s : ℕ) → ℤ
  sum_of words s = sum_over (λ i. entry_of bytes (table_in words (get_or bytes (at + 1) 0)) i summed_column) (members s)

  -- over those of the set that stands there
  abbrev pub total_in : (words state : List ℕ) → ℤ
  total_in words state = sum_of words (summed_set state)

  -- ---- 58 55 41 v 53 31 u 30 k: a set variable has no member, and an element variable is an object

  pub record EndForm : Type 0 where
    pub both : get_or bytes at 0 ≡ 0x58
    pub empty : get_or bytes (at + 1) 0 ≡ 0x55
    pub variable : get_or bytes (at + 2) 0 ≡ 0x41
    pub same : SameForm bytes (at + 4)

  unfoldable pub end_in : (state : List ℕ) → Bool
  end_in state =
      cond (eqb (get_or state (get_or bytes (at + 3) 0) 0) 0) (eqb (object_in 0x31 (get_or bytes (at + 6) 0) state) (object_in 0x30 (get_or bytes (at + 8) 0) state)) false

-- ---- 2B, such a condition, 20 x and a total: the number x at the end, and the total before it

module _ (bytes : List ℕ) (at : ℕ) where
  pub record ClosingForm : Type 0 where
    pub choice : get_or bytes at 0 ≡ 0x2b
    pub ends : EndForm bytes (at + 1)
    pub literal : get_or bytes (at + 10) 0 ≡ 0x20
    pub total : TotalForm bytes (at + 15)
    pub inside : at + 15 ≤ length bytes

  abbrev pub closing_in : (words state : List ℕ) → ℤ
  closing_in words state = cond (end_in bytes (at + 1) state) (integer_at bytes (at + 11)) (total_in bytes (at + 15) words state)

  -- where the total stands: here, at the end of a choice, or inside a difference
  unfoldable pub sum_place : ℕ
  sum_place = cond (eqb (get_or bytes at 0) 0x2b) (at + 15) (cond (eqb (get_or bytes at 0) 0x23) (at + 14) at)

-- ---- the last sums

-- two words a bound: a set, and the sum over it, as a number variable has it; then three: a key, a set and a sum
abbrev pub sum_words : ℕ
sum_words = 19

-- the sum over the members of s of the column that a key names: a table's number, and 256 times a column's byte
unfoldable pub column_over : (bytes words : List ℕ) (key s : ℕ) → ℤ
column_over bytes words key s = sum_over (λ i. entry_of bytes (table_in words (key % 256)) i (key / 256 % most_objects)) (members s)

-- where bound k stands
abbrev pub bound_place : (words : List ℕ) (k : ℕ) → ℕ
bound_place words k = get_or words (bounds_from + k) 0

pub record Remembers (bytes words sums : List ℕ) : Type 0 where
  pub room : length sums ≡ sum_words
  pub sums_are : (k : ℕ) → k < most_bounds → value_of a_number (get_or sums (2 * k + 1) 0) ≡ sum_of bytes (sum_place bytes (bound_place words k)) words (get_or sums (2 * k) 0)
  pub last_is : value_of a_number (get_or sums 18 0) ≡ column_over bytes words (get_or sums 16 0) (get_or sums 17 0)

-- whatever the model
abbrev pub Forgotten : (sums : List ℕ) → Type 0
Forgotten sums = (bytes words : List ℕ) → Remembers bytes words sums

-- bound k has a total at a place, and the sums are remembered
pub record Remembering (bytes : List ℕ) (at : ℕ) (words sums : List ℕ) (k : ℕ) : Type 0 where
  pub bound : k < most_bounds
  pub place : sum_place bytes (bound_place words k) ≡ at
  pub form : TotalForm bytes at
  pub memory : Remembers bytes words sums

-- a number in range is the value of the bound that is read at `at`; any other says nothing
abbrev pub BoundTold : (bytes : List ℕ) (at : ℕ) (words state : List ℕ) → ℤ → Type 0
BoundTold bytes at words state z = (x : Number) (n : ℕ) → Outlines bytes words (model_of bytes) → number (model_of bytes).variables (model_of bytes).tables most_nesting (drop at bytes) ≡ read x n
    → mag z < range_end → number_value range_end (model_of bytes).tables x (state_of (model_of bytes).variables state) ≡ value z

-- a number in range is the total inside the bound that stands at `at`; any other says nothing
pub record InnerIs (bytes : List ℕ) (at : ℕ) (words state : List ℕ) (z : ℤ) : Type 0 where
  pub form : VariableTotal bytes (at + 14)
  pub total : z ≡ total_in bytes (at + 14) words state

abbrev pub InnerTold : (bytes : List ℕ) (at : ℕ) (words state : List ℕ) → ℤ → Type 0
InnerTold bytes at words state z = mag z < range_end → InnerIs bytes at words state z
