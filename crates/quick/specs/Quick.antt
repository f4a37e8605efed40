-- Conditions decided in place, sound or silent: what is answered is the condition's value; no answer says nothing.
use Rattle.std.specs.Prelude.{ℕ, ◌+◌, ◌%◌, ◌≤◌, ◌<◌, ◌≡◌, Bool, cond, List, length, get_or, drop, ltb, ℤ, pos, ◌+ℤ◌, ◌-ℤ◌, Option, Some, None, IfSome}
use Rattle.std.specs.Int.Signed.{mag, le_z}
use Rattle.model.specs.Numbers.{range_end, range_size, most_nesting}
use Rattle.model.specs.Values.{value}
use Rattle.model.specs.Readers.{read}
use Rattle.model.specs.Syntax.{Condition}
use Rattle.model.specs.Expressions.{condition}
use Rattle.model.specs.Meaning.{condition_value}
use Rattle.words.specs.States.{state_of}
use Rattle.outline.specs.Outline.{model_of, Outlines}
use Rattle.eval_sets.specs.Runs.{table_in, entry_of}
use Rattle.quick.specs.Sets.{object_in}

-- of the condition that is read at `at`, in the state that the words stand for
abbrev pub QuickSays : (bytes : List ℕ) (at : ℕ) (words state : List ℕ) → Option Bool → Type 0
QuickSays bytes at words state r = (x : Condition) (n : ℕ) → Outlines bytes words (model_of bytes) → condition (model_of bytes).variables (model_of bytes).tables most_nesting (drop at bytes) ≡ read x n
    → IfSome r (λ b. condition_value range_end (model_of bytes).tables x (state_of (model_of bytes).variables state) ≡ value b)

-- ---- 52 22 21 v 28 t 31 u 30 k 20 c: a number variable and a table's entry together are at most a number

module _ (bytes : List ℕ) (at : ℕ) where
  pub record SumForm : Type 0 where
    pub inside : at + 15 ≤ length bytes
    pub is_at_most : get_or bytes at 0 ≡ 0x52
    pub plus : get_or bytes (at + 1) 0 ≡ 0x22
    pub variable : get_or bytes (at + 2) 0 ≡ 0x21
    pub entry : get_or bytes (at + 4) 0 ≡ 0x28
    pub row : get_or bytes (at + 6) 0 ≡ 0x31
    pub column : get_or bytes (at + 8) 0 ≡ 0x30
    pub literal : get_or bytes (at + 10) 0 ≡ 0x20

  abbrev pub variable_in : (state : List ℕ) → ℤ
  variable_in state = pos (get_or state (get_or bytes (at + 3) 0) 0 % range_size) -ℤ pos range_end

  abbrev pub entry_in : (words state : List ℕ) → ℤ
  entry_in words state = entry_of bytes (table_in words (get_or bytes (at + 5) 0)) (object_in 0x31 (get_or bytes (at + 7) 0) state) (object_in 0x30 (get_or bytes (at + 9) 0) state)

  -- both are in range, and this is their sum
  pub record SumIs (words state : List ℕ) (z : ℤ) : Type 0 where
    pub sum : z ≡ variable_in state +ℤ entry_in words state
    pub variable_fits : mag (variable_in state) < range_end
    pub entry_fits : mag (entry_in words state) < range_end

-- a sum out of range is trouble, of which nothing is said
unfoldable pub decided : (z c : ℤ) → Option Bool
decided z c = cond (ltb (mag z) range_end) (Some (le_z z c)) None
