-- What the words of a node stand for, g and f, by the place where they are read: in a slot, in a header, behind other words.
use Prim.Native.Nat.{ℕ, ◌+◌, ◌*◌, ◌≤◌}
use mathlib.Core.Path.{◌≡◌}
use mathlib.Core.List.{List, ◌++◌}
use native.Mathlib.Omega.{arith}
use lib.ListN.{length, take, drop, get_or, get_or-append}
use lib.Seq.{get_or-take, get_or-drop}
use Rattle.model.specs.declared.Cost.{Cost}
use Rattle.beam_order.specs.Slots.{g_at, low_at, moves_at, f_at, f_moves_at, header_words, slot_words, g_of, f_of, words_in}

-- three words behind `at`, as code reads them
module _ (words : List ℕ) (at : ℕ) where
  abbrev word : ℕ → ℕ
  word q = get_or words (at + q) 0

  pub g_read : ◌≡◌ {A = Cost} (record { high = word g_at; low = word low_at; moves = word moves_at }) (g_of (drop at words))
  g_read = rw (get_or-drop at words g_at 0, get_or-drop at words low_at 0, get_or-drop at words moves_at 0)

  pub f_read : ◌≡◌ {A = Cost} (record { high = word f_at; low = word low_at; moves = word f_moves_at }) (f_of (drop at words))
  f_read = rw (get_or-drop at words f_at 0, get_or-drop at words low_at 0, get_or-drop at words f_moves_at 0)

-- the first words, the header's among them
module _ (words : List ℕ) (n : ℕ) (long : header_words ≤ n) where
  pub g_take : g_of (take n words) ≡ g_of words
  g_take = rw (get_or-take n words g_at 0 (omega arith), get_or-take n words low_at 0 (omega arith), get_or-take n words moves_at 0 (omega arith))

  pub f_take : f_of (take n words) ≡ f_of words
  f_take = rw (get_or-take n words f_at 0 (omega arith), get_or-take n words low_at 0 (omega arith), get_or-take n words f_moves_at 0 (omega arith))

-- the node in a slot
module _ (slots : List ℕ) (s : ℕ) where
  pub g_in_slot : g_of (words_in slots s) ≡ g_of (drop (s * slot_words) slots)
  unfolding words_in
  g_in_slot = g_take (drop (s * slot_words) slots) slot_words (omega arith)

  pub f_in_slot : f_of (words_in slots s) ≡ f_of (drop (s * slot_words) slots)
  unfolding words_in
  f_in_slot = f_take (drop (s * slot_words) slots) slot_words (omega arith)

-- a header, and the words of a state behind it
module _ (header state : List ℕ) (long : length header ≡ header_words) where
  pub g_front : g_of (header ++ state) ≡ g_of header
  g_front = rw (get_or-append header state 0 g_at (omega arith), get_or-append header state 0 low_at (omega arith), get_or-append header state 0 moves_at (omega arith))

  pub f_front : f_of (header ++ state) ≡ f_of header
  f_front = rw (get_or-append header state 0 f_at (omega arith), get_or-append header state 0 low_at (omega arith), get_or-append header state 0 f_moves_at (omega arith))
