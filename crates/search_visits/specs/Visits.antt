-- What the parts of one visit are promised: a new best plan, a base state, a state at the limit, an expansion and its answer.
use Rattle.std.specs.Prelude.{ℕ, ◌+◌, ◌≤◌, ◌<◌, ◌^◌, ◌≡◌, List, reverse, length, take, Some, IfErr}
use Rattle.model.specs.Numbers.{most_steps}
use Rattle.model.specs.Meaning.{State}
use Rattle.model.specs.declared.Cost.{Cost}
use Rattle.model.specs.Costs.{CostBelow}
use Rattle.search.specs.Search.{Node, Result, new_best, reached, at_limit, counted}
use Rattle.search.specs.Search as S
use Rattle.beam_order.specs.Slots.{slot_words, g_of}
use Rattle.steps.specs.InBytes.{Outlined, system_in}
use Rattle.steps.specs.Follow.{costs_in}
use Rattle.beam.specs.Nodes.{state_words}
use Rattle.beam.specs.Layers.{Indexed, round_with}
use Rattle.search_expansion.specs.Expansion.{trial_result, Numbered}
use Rattle.search_paths.specs.Routes.{path_by, next_of}
use Rattle.search_visits.specs.Work.{round_of, round_begun, result_of, BestFits, Inside, Leaves}
use Rattle.search_expansion.specs.declared.trials.Expanded.{Expanded}
use Rattle.search_visits.specs.declared.work.Round.{Round}
use Rattle.search_visits.specs.declared.work.Visited.{Visited}

-- a plan of k steps and cost g becomes best. plan': bytes with that plan in front
pub record NewBest (k : ℕ) (g : Cost) (x : Round) (y : Visited) : Type 0 where
  pub count : y.round.count ≡ x.count
  pub best : y.round.progress.best ≡ Some (record { cost = g; length = k })
  pub round_same : round_begun y.round.progress ≡ round_begun x.progress
  pub inside : (w limit j : ℕ) → Inside w limit j y.next
  pub same : (bytes : List ℕ) (kept : List (Node State Cost)) (plan plan' : List ℕ) (path : ℕ → List ℕ) (n : Node State Cost) → n.g ≡ g → n.path ≡ reverse (take k plan')
      → new_best (costs_in bytes) (system_in bytes) n (round_of kept plan x) ≡ result_of path y.next (round_of kept plan' y.round)

-- the node in slot i of layer k is a base state, and its g is known
pub record Reached (words plan plan' : List ℕ) (w k i : ℕ) (g : Cost) (x : Round) (y : Visited) : Type 0 where
  pub count : y.round.count ≡ x.count
  pub best_fits : (limit : ℕ) → k ≤ limit → BestFits limit x.progress.best → BestFits limit y.round.progress.best
  pub round_same : round_begun y.round.progress ≡ round_begun x.progress
  pub inside : (v limit j : ℕ) → Inside v limit j y.next
  pub same : (bytes : List ℕ) (kept : List (Node State Cost)) (n : Node State Cost) → n.g ≡ g → n.path ≡ path_by words w k i
      → reached (costs_in bytes) (system_in bytes) n (round_of kept plan x) ≡ result_of (path_by words w k) y.next (round_of kept plan' y.round)

-- a node with this f is not expanded
pub record Limited (f : Cost) (x y : Round) : Type 0 where
  pub count : y.count ≡ x.count
  pub best : y.progress.best ≡ x.progress.best
  pub round_same : round_begun y.progress ≡ round_begun x.progress
  pub same : (bytes : List ℕ) (kept : List (Node State Cost)) (plan : List ℕ) (n : Node State Cost) → n.f ≡ f → at_limit (costs_in bytes) (system_in bytes) n (round_of kept plan x) ≡ round_of kept plan y

-- an expansion counts
pub record Counted (x y : Round) : Type 0 where
  pub best : y.progress.best ≡ x.progress.best
  pub round_same : round_begun y.progress ≡ round_begun x.progress
  pub same : (bytes : List ℕ) (kept : List (Node State Cost)) (plan : List ℕ) → counted (costs_in bytes) (system_in bytes) (round_of kept plan x) ≡ round_of kept plan y

-- an expansion of the node in slot i, with its g, has answered z. kept: the nodes of the layer in the making then
pub record Told (g : Cost) (i : ℕ) (z : Expanded) (x : Round) (y : Visited) : Type 0 where
  pub count : y.round.count ≡ z.count
  pub best : y.round.progress.best ≡ x.progress.best
  pub round_same : round_begun y.round.progress ≡ round_begun x.progress
  pub inside : (w limit k : ℕ) → i < w → k < limit → IfErr z.trial Numbered → Inside w limit k y.next
  pub same : (before kept : List (Node State Cost)) (plan : List ℕ) (path : ℕ → List ℕ) (n : Node State Cost) → n.g ≡ g → n.path ≡ path i
      → trial_result z.trial n (round_with kept z.cut (round_of before plan x)) ≡ result_of path y.next (round_of kept plan y.round)

-- what the code needs of the node with these words, in slot i of layer k
pub record Met (bytes outline words node : List ℕ) (w limit k i : ℕ) (x : Round) : Type 0 where
  pub outlined : Outlined bytes outline
  pub held : Indexed outline w x.count (next_of w words)
  pub narrow : w ≤ 4096
  pub depth : k ≤ limit
  pub few_steps : limit ≤ most_steps
  pub best_fits : BestFits limit x.progress.best
  pub slot : i < w
  pub long : length node ≡ slot_words
  pub small : CostBelow (2 ^ 63) (g_of node)

-- and what its expansion needs besides: the words of its state, a layer before the limit, room for one expansion more
pub record Growing (node state : List ℕ) (limit k : ℕ) (x : Round) : Type 0 where
  pub copied : state ≡ state_words node
  pub before_limit : k < limit
  pub countable : x.progress.tally.expansions + 1 < 2 ^ 64

-- the bytes of the best plan stay, whatever they are
pub record Keeps (bytes outline words words' : List ℕ) (w limit k : ℕ) (x : Round) (y : Visited) (rule : S.Round State Cost → Result (S.Round State Cost) Cost) : Type 0 where
  pub leaves : (plan : List ℕ) → Leaves bytes outline words words' plan plan w limit k x y rule
