-- Operations that wait for their numbers, between the first byte of the whole number and the part that comes next.
use Rattle.std.specs.Prelude.{ℕ, zero, suc, ◌+◌, ◌%◌, ◌≤◌, ◌≡◌, Bool, true, false, List, length, get_or, ℤ, pos, ◌-ℤ◌}
use Rattle.model.specs.Numbers.{range_end, range_size}
use Rattle.cursor.specs.Places.{Begins}
use Rattle.cursor.specs.Told.{NumberTo}
use Rattle.cursor.specs.Codes.{is_operation}

-- the number that a word stands for
abbrev pub word_of : ℕ → ℤ
word_of w = pos (w % range_size) -ℤ pos range_end

module _ (bytes words state : List ℕ) (p : ℕ) where
  -- k operations wait before the place a: each for its first number, or for its second behind the first
  pub data Waiting (waiting firsts : List ℕ) : (a k : ℕ) → Type 0 where
    none : {a : ℕ} → a ≡ p → Waiting waiting firsts a zero
    first : {a k b q : ℕ} → Waiting waiting firsts a k → Begins bytes a b → is_operation b ≡ true → get_or waiting k 0 ≡ b → q ≡ a + 1 → Waiting waiting firsts q (suc k)
    second : {a k b q : ℕ} → Waiting waiting firsts a k → Begins bytes a b → is_operation b ≡ true → get_or waiting k 0 ≡ b + 0x60 → NumberTo bytes words state (a + 1) (word_of (get_or firsts k 0)) q
        → Waiting waiting firsts q (suc k)

  -- where nothing is told the part at q comes next, else it is read, and z is its number
  pub record Reads (waiting firsts : List ℕ) (n q : ℕ) (z : ℤ) (told : Bool) : Type 0 where
    pub waiting_room : length waiting ≡ 8
    pub firsts_room : length firsts ≡ 8
    pub few : n ≤ 8
    pub from : ℕ
    pub waits : Waiting waiting firsts from n
    pub due : told ≡ false → q ≡ from
    pub got : told ≡ true → NumberTo bytes words state from z q
