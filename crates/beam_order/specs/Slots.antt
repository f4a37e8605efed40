-- A slot holds one node of a layer: a header of seven words, then the sixteen of its state. The header holds g in three words, h, f in two,
-- and back.
-- The nodes that are kept are ordered by f, then h, then arrival, least first; f by its hours, then its moves.
use Rattle.std.specs.Prelude.{ℕ, ◌+◌, ◌*◌, ◌≡◌, Bool, true, false, cond, List, [], ◌∷◌, ltb, take, drop, get_or}
use Rattle.laws.specs.Lists.{All}
use Rattle.model.specs.Numbers.{most_variables}
use Rattle.model.specs.declared.Cost.{Cost}
use Rattle.model.specs.Costs.{hours}

-- which word of a header holds what: the hours of g, its low figure, its moves; h; the hours of f, its moves
abbrev pub g_at : ℕ
g_at = 0

abbrev pub low_at : ℕ
low_at = 1

abbrev pub moves_at : ℕ
moves_at = 2

abbrev pub h_at : ℕ
h_at = 3

abbrev pub f_at : ℕ
f_at = 4

abbrev pub f_moves_at : ℕ
f_moves_at = 5

-- the parent's slot × 256 + the number of the transition
abbrev pub back_at : ℕ
back_at = 6

abbrev pub header_words : ℕ
header_words = 7

-- what the words of a node, or of its header, stand for. g, in three words
abbrev pub g_of : List ℕ → Cost
g_of ws = record { high = get_or ws g_at 0; low = get_or ws low_at 0; moves = get_or ws moves_at 0 }

-- h, hours alone
abbrev pub h_of : List ℕ → Cost
h_of ws = hours (get_or ws h_at 0)

-- f, in two words: a bound has no low figure, so f has that of g
abbrev pub f_of : List ℕ → Cost
f_of ws = record { high = get_or ws f_at 0; low = get_or ws low_at 0; moves = get_or ws f_moves_at 0 }

-- a slot: the header, then the words of the state
abbrev pub state_at : ℕ
state_at = header_words

abbrev pub slot_words : ℕ
slot_words = state_at + most_variables

-- of a layer in the making, for each place of the width: its slots, then their order, then its index of five words a slot
abbrev pub order_at : ℕ
order_at = slot_words

abbrev pub links_at : ℕ
links_at = order_at + 1

abbrev pub layer_words : ℕ
layer_words = links_at + 5

-- of the working words, for each place of the width: the slots of the current layer, then the layer in the making; then the back pointers
abbrev pub next_at : ℕ
next_at = slot_words

abbrev pub next_order_at : ℕ
next_order_at = next_at + order_at

abbrev pub next_end : ℕ
next_end = next_at + layer_words

abbrev pub backs_at : ℕ
backs_at = 64

-- the words of slot s
unfoldable pub words_in : (slots : List ℕ) (s : ℕ) → List ℕ
words_in slots s = take slot_words (drop (s * slot_words) slots)

-- the node with words n, or with a header n, goes before the one with words m: by the hours of f, then by its moves, then by h
unfoldable pub earlier : (n m : List ℕ) → Bool
earlier n m =
    cond (ltb (get_or n f_at 0) (get_or m f_at 0)) true
    (cond (ltb (get_or m f_at 0) (get_or n f_at 0)) false
    (cond (ltb (get_or n f_moves_at 0) (get_or m f_moves_at 0)) true
    (cond (ltb (get_or m f_moves_at 0) (get_or n f_moves_at 0)) false
    (ltb (get_or n h_at 0) (get_or m h_at 0)))))

-- n behind those of equal f and h
unfoldable pub placed : List ℕ → List (List ℕ) → List (List ℕ)
placed n [] = n ∷ []
placed n (m ∷ ms) = cond (earlier n m) (n ∷ m ∷ ms) (m ∷ placed n ms)

-- none goes before one that stands before it
pub data Sorted : List (List ℕ) → Type 0 where
  none : Sorted []
  more : {m : List ℕ} {ms : List (List ℕ)} → All (λ n. earlier n m ≡ false) ms → Sorted ms → Sorted (m ∷ ms)
