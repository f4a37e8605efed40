-- A transition tried in a node, or all of them: the answer's meaning, and how the layer in the making goes on by rules 4 and 5.
use Rattle.std.specs.Prelude.{ℕ, ◌+◌, ◌^◌, ◌≤◌, ◌<◌, ◌≡◌, Bool, true, not, List, ◌∷◌, Some, None, Ok, Err, IfErr}
use Rattle.std.specs.Prelude as P
use Rattle.std.proofs.Math.Option.{Option, none, some}
use Rattle.model.specs.Numbers.{range_end}
use Rattle.model.specs.Meaning.{State}
use Rattle.model.specs.declared.Cost.{Cost}
use Rattle.model.specs.Costs.{at_most, CostBelow}
use Rattle.search.specs.Search.{Node, Route, Round, Ending, refused, Result, on, over, offer, bounded, tried, expand}
use Rattle.steps.specs.InBytes.{Outlined, state_in, system_in}
use Rattle.steps.specs.Follow.{costs_in}
use Rattle.beam.specs.Nodes.{node_of}
use Rattle.beam.specs.Layers.{nodes_of, Indexed, round_with}
use Rattle.beam.specs.declared.layer.Inserted.{Inserted}
use Rattle.search_expansion.specs.declared.trials.Found.{Found}
use Rattle.search_expansion.specs.declared.trials.Parent.{Parent}
use Rattle.search_expansion.specs.declared.trials.Arrival.{Arrival}
use Rattle.search_expansion.specs.declared.trials.Halt.{Halt}
use Rattle.search_expansion.specs.declared.trials.Halt.TheVariants as H
use Rattle.search_expansion.specs.declared.trials.Expanded.{Expanded}

-- the best plan of both: there is none, or one of the same cost
abbrev pub BestIs : P.Option Found → Option (Route Cost) → Type 0
BestIs None none = Unit {0}
BestIs (Some x) (some b) = b.cost ≡ x.cost
BestIs None (some b) = ⊥
BestIs (Some x) none = ⊥

-- f is below the best cost; without a plan the best is above every cost
unfoldable pub below_cost : P.Option Found → (f : Cost) → Bool
below_cost None f = true
below_cost (Some x) f = not (at_most x.cost f)

-- the run is refused at the node, or at its child by transition t, whose path costs c
unfoldable pub halted : Halt → Node State Cost → Ending Cost
halted (H.Before e) n = refused e (record { cost = n.g; path = n.path })
halted (H.At e c t) n = refused e (record { cost = c; path = t ∷ n.path })

-- the round goes on, or the run is over
unfoldable pub trial_result : P.Result (Unit {0}) Halt → Node State Cost → Round State Cost → Result (Round State Cost) Cost
trial_result (Ok _) n r = on r
trial_result (Err h) n r = over (record { ending = halted h n; progress = r.progress })

-- a transition's number fits a byte
abbrev pub Numbered : Halt → Type 0
Numbered (H.Before e) = Unit {0}
Numbered (H.At e c t) = t < 256

-- a block of transitions, at most 64 of them, from a number on to its end; it has one if one is left
pub record Block (first all end : ℕ) : Type 0 where
  pub within : end ≤ all
  pub short : end ≤ first + 64
  pub some : first < all → first < end
  pub first_within : first ≤ end

-- a transition's number fits a byte, and each part of its cost is in range
pub record Arrives (a : Arrival) : Type 0 where
  pub transition : a.transition < 256
  pub cost : CostBelow range_end a.cost

-- rule 4 in the model that stands in the bytes: h of the child by transition t at cost c, whose state the words hold; transition t; all
-- transitions in number order
abbrev pub bounded_in : (bytes child : List ℕ) (w t : ℕ) (c : Cost) → Node State Cost → Round State Cost → Result (Round State Cost) Cost
bounded_in bytes child w t c m = bounded (costs_in bytes) (system_in bytes) w m t c (state_in bytes child) ((system_in bytes).bound (state_in bytes child))

abbrev pub tried_in : (bytes : List ℕ) (w t : ℕ) → Node State Cost → Round State Cost → Result (Round State Cost) Cost
tried_in bytes w t m = tried (costs_in bytes) (system_in bytes) w m t ((system_in bytes).move m.state t)

abbrev pub expand_in : (bytes : List ℕ) (w : ℕ) → Node State Cost → Round State Cost → Result (Round State Cost) Cost
expand_in bytes w = expand (costs_in bytes) (system_in bytes) w (system_in bytes).transitions 0

-- rule 4's end: a round whose kept nodes are those of the layer before goes on with those of the layer after
pub record Offered (bytes outline : List ℕ) (n : ℕ) (p : Parent) (child layer layer' : List ℕ) (x : Inserted) : Type 0 where
  pub held : Indexed outline p.width x.count layer'
  pub same : (path : ℕ → List ℕ) (r : Round State Cost) → r.kept ≡ nodes_of p.width layer bytes path n → BestIs p.best r.progress.best
      → offer (costs_in bytes) (system_in bytes) p.width (node_of bytes path child) r ≡ round_with (nodes_of p.width layer' bytes path x.count) x.cut r

-- what an expansion needs, n nodes being in the making
pub record Expandable (bytes outline : List ℕ) (n : ℕ) (p : Parent) (layer : List ℕ) : Type 0 where
  pub outlined : Outlined bytes outline
  pub held : Indexed outline p.width n layer
  pub small : CostBelow (2 ^ 63) p.g
  pub slot : p.slot < 2 ^ 32

-- the node that is expanded, whatever its h and f. path: the path to each slot of its layer
abbrev pub parent_of : (bytes : List ℕ) (path : ℕ → List ℕ) (state : List ℕ) → Parent → (h f : Cost) → Node State Cost
parent_of bytes path state p h f = record { state = state_in bytes state; g = p.g; h = h; f = f; path = path p.slot }

-- rule: what the definition does with the node that is expanded and a round whose kept nodes are the n of the layer before; it goes on with
-- those of the layer after
pub record Grows (bytes outline : List ℕ) (n : ℕ) (p : Parent) (state layer layer' : List ℕ) (x : Expanded) (rule : Node State Cost → Round State Cost → Result (Round State Cost) Cost) : Type 0 where
  pub held : Indexed outline p.width x.count layer'
  pub numbered : IfErr x.trial Numbered
  pub same : (path : ℕ → List ℕ) (h f : Cost) (r : Round State Cost) → r.kept ≡ nodes_of p.width layer bytes path n → BestIs p.best r.progress.best
      → rule (parent_of bytes path state p h f) r
      ≡ trial_result x.trial (parent_of bytes path state p h f) (round_with (nodes_of p.width layer' bytes path x.count) x.cut r)

-- the same whatever the state of that node is
pub record GrowsOfAny (bytes outline : List ℕ) (n : ℕ) (p : Parent) (layer layer' : List ℕ) (x : Expanded) (rule : Node State Cost → Round State Cost → Result (Round State Cost) Cost) : Type 0 where
  pub grows : (state : List ℕ) → Grows bytes outline n p state layer layer' x rule
