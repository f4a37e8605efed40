-- 28 t e e: a table's entry, by the bytes that stand for it.
use Rattle.std.specs.Prelude.{ℕ, ◌+◌, ◌≤◌, ◌≡◌, true, List, length, get_or, ℤ}
use Rattle.eval_sets.specs.Runs.{table_in, entry_of}
use Rattle.quick.specs.Sets.{begins_element, object_in}

module _ (bytes : List ℕ) (at : ℕ) where
  pub record EntryForm : Type 0 where
    pub inside : at + 6 ≤ length bytes
    pub entry : get_or bytes at 0 ≡ 0x28
    pub row : begins_element (get_or bytes (at + 2) 0) ≡ true
    pub column : begins_element (get_or bytes (at + 4) 0) ≡ true

  abbrev pub entry_at : (words state : List ℕ) → ℤ
  entry_at words state =
      entry_of bytes (table_in words (get_or bytes (at + 1) 0)) (object_in (get_or bytes (at + 2) 0) (get_or bytes (at + 3) 0) state) (object_in (get_or bytes (at + 4) 0) (get_or bytes (at + 5) 0) state)
