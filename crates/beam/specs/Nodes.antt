-- The nodes of the search's definition that the words of slots stand for.
use Rattle.std.specs.Prelude.{ℕ, ◌/◌, ◌%◌, ◌≡◌, Bool, ◌&&◌, List, [], ◌∷◌, map, length, drop, get_or}
use Rattle.model.specs.Numbers.{most_variables}
use Rattle.model.specs.Meaning.{State}
use Rattle.model.specs.declared.Cost.{Cost}
use Rattle.model.specs.Costs.{at_most}
use Rattle.steps.specs.InBytes.{system_in, state_in}
use Rattle.search.specs.Search.{Node}
use Rattle.beam_order.specs.Slots.{back_at, header_words, state_at, g_of, h_of, f_of, words_in}
use Rattle.beam_order.specs.Order.{kept_in}

-- the words of a node's state
abbrev pub state_words : List ℕ → List ℕ
state_words = drop state_at

-- bytes: the model in whose states the words are read. parent_path: the path to each slot of the layer before
module _ (bytes : List ℕ) (parent_path : ℕ → List ℕ) where
  unfoldable pub node_of : (words : List ℕ) → Node State Cost
  node_of ws = record { state = state_in bytes (state_words ws); g = g_of ws; h = h_of ws; f = f_of ws; path = (get_or ws back_at 0 % 256) ∷ parent_path (get_or ws back_at 0 / 256) }

  abbrev pub node_in : (slots : List ℕ) (s : ℕ) → Node State Cost
  node_in slots s = node_of (words_in slots s)

  -- the kept nodes, in order
  unfoldable pub nodes_in : (slots order : List ℕ) (n : ℕ) → List (Node State Cost)
  nodes_in slots order n = map node_of (kept_in slots order n)

-- a header with these g, h, f and back
abbrev pub header_of : (g : Cost) (h : ℕ) (f : Cost) (back : ℕ) → List ℕ
header_of g h f back = g.high ∷ g.low ∷ g.moves ∷ h ∷ f.high ∷ f.moves ∷ back ∷ []

-- a child in two parts, the words of its header and of its state
pub record ChildWords (header state : List ℕ) : Type 0 where
  pub header_long : length header ≡ header_words
  pub state_long : length state ≡ most_variables

-- a state at this g dominates another at its g, which is no less
abbrev pub dominates_at : (bytes : List ℕ) (g : Cost) (state : List ℕ) (other : Cost) (other_state : List ℕ) → Bool
dominates_at bytes g s other t = (system_in bytes).dominates (state_in bytes s) (state_in bytes t) && at_most g other

-- the node of words a dominates that of b, with g no greater
unfoldable pub beats : (bytes a b : List ℕ) → Bool
beats bytes a b = dominates_at bytes (g_of a) (state_words a) (g_of b) (state_words b)

-- the node in slot i of a layer, by its words; path: the path to each slot of this layer
unfoldable pub node_at : (bytes : List ℕ) (path : ℕ → List ℕ) (i : ℕ) (words : List ℕ) → Node State Cost
node_at bytes path i ws = record { state = state_in bytes (state_words ws); g = g_of ws; h = h_of ws; f = f_of ws; path = path i }
