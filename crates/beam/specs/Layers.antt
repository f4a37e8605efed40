-- How one list of words holds a layer in the making of width w: slots from 0 on, their order from order_at * w, and from links_at * w the index, of
-- 4 * w buckets.
use Rattle.std.specs.Prelude.{ℕ, ◌-◌, ◌*◌, ◌≤◌, ◌<◌, ◌≡◌, Bool, true, false, not, ◌||◌, List, length, take, drop, get_or}
use Rattle.std.proofs.Math.Option.{some}
use Rattle.laws.specs.Lists.{filter}
use Rattle.model.specs.Meaning.{State}
use Rattle.model.specs.declared.Cost.{Cost}
use Rattle.search.specs.Search.{Node, Route, Round, below_best, insert}
use Rattle.steps.specs.InBytes.{system_in}
use Rattle.steps.specs.Follow.{costs_in}
use Rattle.beam_order.specs.Slots.{words_in, layer_words, links_at, order_at}
use Rattle.beam_order.specs.Order.{used, kept_in}
use Rattle.beam_index.specs.Links.{Falling}
use Rattle.beam.specs.Nodes.{node_of, nodes_in, ChildWords, beats}
use Rattle.beam.specs.Buckets.{bucket_of}
use Rattle.beam.specs.Parts as P

-- the words from a to e
abbrev pub part : (a e : ℕ) (words : List ℕ) → List ℕ
part a e words = take (e - a) (drop a words)

module _ (w : ℕ) (layer : List ℕ) where
  abbrev pub slots_of : List ℕ
  slots_of = take (order_at * w) layer

  abbrev pub order_of : List ℕ
  order_of = part (order_at * w) (links_at * w) layer

  abbrev pub links_of : List ℕ
  links_of = part (links_at * w) (layer_words * w) layer

  -- the words of the first n nodes in order, and the nodes
  abbrev pub kept_of : (n : ℕ) → List (List ℕ)
  kept_of n = kept_in slots_of order_of n

  abbrev pub nodes_of : (bytes : List ℕ) (parent_path : ℕ → List ℕ) (n : ℕ) → List (Node State Cost)
  nodes_of bytes parent_path n = nodes_in bytes parent_path slots_of order_of n

-- a layer of n nodes
pub record Indexed (outline : List ℕ) (w n : ℕ) (layer : List ℕ) : Type 0 where
  pub long : layer_words * w ≤ length layer
  pub parts : P.IndexedParts outline w (4 * w) n (slots_of w layer) (order_of w layer) (links_of w layer)

-- a layer of n nodes that have these words, in order
pub record Keeping (outline : List ℕ) (w n : ℕ) (layer : List ℕ) (kept_words : List (List ℕ)) : Type 0 where
  pub held : Indexed outline w n layer
  pub kept : kept_of w layer n ≡ kept_words

-- a layer of n nodes, and a child whose bucket is k
pub record Offering (outline : List ℕ) (w n k : ℕ) (layer header state : List ℕ) : Type 0 where
  pub held : Indexed outline w n layer
  pub child : ChildWords header state
  pub is_in_range : k < 4 * w
  pub own_bucket : bucket_of outline state (4 * w) ≡ k

-- what a walk through bucket k needs
pub record Walkable (w k : ℕ) (layer : List ℕ) : Type 0 where
  pub long : layer_words * w ≤ length layer
  pub is_in_range : k < 4 * w
  pub falling : Falling w (links_of w layer)

-- a layer of n nodes, of which the one at place p is in bucket k
pub record PlaceIn (outline : List ℕ) (w n k p : ℕ) (layer : List ℕ) : Type 0 where
  pub held : Indexed outline w n layer
  pub place : p < n
  pub is_in_range : k < 4 * w
  pub own_bucket : P.bucket_in outline (slots_of w layer) (4 * w) (get_or (order_of w layer) p 0) ≡ k

-- a layer of n nodes, of which the one in slot s is in bucket k
pub record SlotIn (outline : List ℕ) (w n k s : ℕ) (layer : List ℕ) : Type 0 where
  pub held : Indexed outline w n layer
  pub slot : s < w
  pub in_use : used (order_of w layer) n s ≡ true
  pub is_in_range : k < 4 * w
  pub own_bucket : P.bucket_in outline (slots_of w layer) (4 * w) s ≡ k

-- the node in slot s is out: nothing else is missing
pub record SlotRemoved (outline : List ℕ) (w n s : ℕ) (layer layer' : List ℕ) : Type 0 where
  pub held : Indexed outline w (n - 1) layer'
  pub kept : (p : List ℕ → Bool) → p (words_in (slots_of w layer) s) ≡ false → filter p (kept_of w layer' (n - 1)) ≡ filter p (kept_of w layer n)

-- those that the child does not beat
abbrev pub unbeaten : (bytes child : List ℕ) → List (List ℕ) → List (List ℕ)
unbeaten bytes child l = filter (λ m. not (beats bytes child m)) l

-- a round with these nodes kept, and the width mark set if it was cut
unfoldable pub round_with : (kept : List (Node State Cost)) (cut : Bool) → Round State Cost → Round State Cost
round_with kept cut r = record { kept = kept; width_mark = r.width_mark || cut; length_mark = r.length_mark; improved = r.improved; progress = r.progress }

-- rule 5: a round whose kept nodes are those of the layer before goes on with those of the layer after
pub record InsertedInto (bytes outline : List ℕ) (w n count : ℕ) (cut : Bool) (layer layer' child : List ℕ) : Type 0 where
  pub held : Indexed outline w count layer'
  pub inserts : (parent_path : ℕ → List ℕ) (r : Round State Cost) → r.kept ≡ nodes_of w layer bytes parent_path n
      → insert (costs_in bytes) (system_in bytes) w (node_of bytes parent_path child) r ≡ round_with (nodes_of w layer' bytes parent_path count) cut r

-- what is left of a held layer to those that only read it
pub record Layer (w n : ℕ) (layer : List ℕ) : Type 0 where
  pub long : layer_words * w ≤ length layer
  pub parts : P.LayerParts w n (slots_of w layer) (order_of w layer)

-- rule 6: after the layer those with f below the best are left
pub record Below (w n count : ℕ) (best : Cost) (words : List ℕ) : Type 0 where
  pub fewer : count ≤ n
  pub layer : Layer w count words
  pub left : (bytes : List ℕ) (parent_path : ℕ → List ℕ) (b : Route Cost) → b.cost ≡ best
      → nodes_of w words bytes parent_path count ≡ filter (λ m. below_best (costs_in bytes) (system_in bytes) m.f (some b)) (nodes_of w words bytes parent_path n)

-- an empty layer, whatever the slots hold
pub record Emptied (w : ℕ) (layer : List ℕ) : Type 0 where
  pub held : (outline : List ℕ) → Indexed outline w 0 layer
