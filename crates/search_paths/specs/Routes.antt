-- The working words of a round of width w: the nodes of the current layer in slots from 0 on, the layer in the making from next_at * w,
-- and from backs_at * w the back pointers, a row of w words for each layer: the parent's slot × 256 + the number of the transition.
use Rattle.std.specs.Prelude.{ℕ, zero, suc, ◌+◌, ◌*◌, ◌/◌, ◌%◌, ◌≤◌, ◌<◌, ◌≡◌, List, [], ◌∷◌, length, get_or}
use Rattle.model.specs.Numbers.{range_end, most_steps}
use Rattle.model.specs.System.{Origin}
use Rattle.model.specs.Meaning.{State}
use Rattle.model.specs.declared.Cost.{Cost}
use Rattle.model.specs.Costs.{CostUpTo}
use Rattle.search.specs.Search.{Node}
use Rattle.search.specs.Search as S
use Rattle.beam_order.specs.Slots.{g_of, back_at, slot_words, next_at, next_order_at, next_end, backs_at, words_in}
use Rattle.steps.specs.InBytes.{system_in}
use Rattle.steps.specs.Follow.{costs_in}
use Rattle.beam.specs.Nodes.{node_at}
use Rattle.beam.specs.Layers.{part, nodes_of, Indexed, Layer}

-- the back pointer of slot i of layer k, in its row whatever i is
unfoldable pub back_in : (words : List ℕ) (w k i : ℕ) → ℕ
back_in words w k i = get_or words (backs_at * w + (k * w + i % w)) 0

-- the path to slot i of layer k, the last step first
unfoldable pub path_by : (words : List ℕ) (w k i : ℕ) → List ℕ
path_by words w zero i = []
path_by words w (suc k) i = (back_in words w (suc k) i % 256) ∷ path_by words w k (back_in words w (suc k) i / 256)

-- what the path to a slot of layer k needs to be written: room for its steps
pub record Traceable (plan : List ℕ) (w k : ℕ) : Type 0 where
  pub some_width : 0 < w
  pub narrow : w ≤ 4096
  pub depth : k ≤ most_steps
  pub room : k ≤ length plan

-- the layer in the making
abbrev pub next_of : (w : ℕ) (words : List ℕ) → List ℕ
next_of w words = part (next_at * w) (next_end * w) words

-- n nodes from slot i on
unfoldable pub nodes_from : (bytes : List ℕ) (path : ℕ → List ℕ) (words : List ℕ) (n i : ℕ) → List (Node State Cost)
nodes_from bytes path words zero i = []
nodes_from bytes path words (suc n) i = node_at bytes path i (words_in words i) ∷ nodes_from bytes path words n (suc i)

-- the n nodes of the current layer, which is layer k
abbrev pub current_of : (bytes words : List ℕ) (w k n : ℕ) → List (Node State Cost)
current_of bytes words w k n = nodes_from bytes (path_by words w k) words n 0

-- the node that a round starts with, by its words: its path is empty
abbrev pub root_of : (bytes root : List ℕ) → Node State Cost
root_of bytes root = node_at bytes (λ i. []) 0 root

-- it is the definition's root of this origin, h being its bound
pub record RootIs (bytes root : List ℕ) (o : Origin State Cost) (h : Cost) : Type 0 where
  pub node : root_of bytes root ≡ S.root (costs_in bytes) (system_in bytes) o h

-- the steps made before it and the steps to the limit are no more than a plan may have, and each part of its g is what the steps before may
-- have cost
pub record RootFits (root : List ℕ) (limit : ℕ) : Type 0 where
  pub long : length root ≡ slot_words
  pub before : ℕ
  pub few_steps : before + limit ≤ most_steps
  pub cost : CostUpTo (before * range_end) (g_of root)

-- what a round of width w needs to start: the root's words, and room
pub record Startable (root words : List ℕ) (w : ℕ) : Type 0 where
  pub long : length root ≡ slot_words
  pub some_width : 0 < w
  pub narrow : w ≤ 4096
  pub room : backs_at * w ≤ length words

-- rule 1: the root alone
pub record Started (root words' : List ℕ) (w : ℕ) : Type 0 where
  pub held : (outline : List ℕ) → Indexed outline w 0 (next_of w words')
  pub root_alone : (bytes : List ℕ) → current_of bytes words' w 0 1 ≡ root_of bytes root ∷ []

-- what the layer behind layer k needs to become current: the n nodes in the making, and room for their row of back pointers
pub record Takeable (words : List ℕ) (w k n : ℕ) : Type 0 where
  pub layer : Layer w n (next_of w words)
  pub some_width : 0 < w
  pub narrow : w ≤ 4096
  pub depth : k < most_steps
  pub room : backs_at * w + (k + 2) * w ≤ length words

-- what one of them needs, at place i, to become the one of slot i in layer k
pub record NodeTakeable (words : List ℕ) (w k i : ℕ) : Type 0 where
  pub place : i < w
  pub narrow : w ≤ 4096
  pub depth : k ≤ most_steps
  pub room : backs_at * w + (k + 1) * w ≤ length words
  pub slot : get_or words (next_order_at * w + i) 0 < w

-- the n nodes of the layer in the making, the children of layer k, are current
pub record Taken (words words' : List ℕ) (w k n : ℕ) : Type 0 where
  pub held : (outline : List ℕ) → Indexed outline w 0 (next_of w words')
  pub nodes : (bytes : List ℕ) → current_of bytes words' w (suc k) n ≡ nodes_of w (next_of w words) bytes (path_by words w k) n

-- the node at place i of the layer in the making is in slot i of the current layer, which becomes layer k, and its back pointer in that layer's row
pub record NodeTaken (words words' : List ℕ) (w k i : ℕ) : Type 0 where
  pub slot : words_in words' i ≡ words_in words (w + get_or words (next_order_at * w + i) 0)
  pub back : get_or words' (backs_at * w + (k * w + i)) 0 ≡ get_or (words_in words (w + get_or words (next_order_at * w + i) 0)) back_at 0
  pub before : (x : ℕ) → x < i * slot_words → get_or words' x 0 ≡ get_or words x 0
  pub between : (x : ℕ) → i * slot_words + slot_words ≤ x → x < backs_at * w + (k * w + i) → get_or words' x 0 ≡ get_or words x 0
