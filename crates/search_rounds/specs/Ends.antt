-- What is promised of the parts of a turn: what remains at a layer's end, how low rises, and the layer behind it.
use Rattle.std.specs.Prelude.{ℕ, zero, suc, ◌-◌, ◌≤◌, ◌<◌, ◌≡◌, Bool, List, Some, None}
use Rattle.std.specs.Prelude as P
use Rattle.std.proofs.Math.Option.{Option}
use Rattle.laws.specs.Lists.{filter}
use Rattle.model.specs.Meaning.{State}
use Rattle.model.specs.declared.Cost.{Cost}
use Rattle.search.specs.Search as S
use Rattle.steps.specs.InBytes.{system_in}
use Rattle.steps.specs.Follow.{costs_in}
use Rattle.beam.specs.Layers.{nodes_of, Layer}
use Rattle.search_expansion.specs.Expansion.{BestIs}
use Rattle.search_paths.specs.Routes.{next_of, Taken}
use Rattle.search_visits.specs.Work.{round_begun, round_in}
use Rattle.search_rounds.specs.Rounds.{layers_from}
use Rattle.search_expansion.specs.declared.trials.Found.{Found}
use Rattle.search_visits.specs.declared.work.Round.{Round}

-- rule 6: of the first n nodes of a layer count are left, those with f below the best
pub record Remains (layer : List ℕ) (w : ℕ) (best : P.Option Found) (n count : ℕ) : Type 0 where
  pub fewer : count ≤ n
  pub still : Layer w count layer
  pub left : (bytes : List ℕ) (path : ℕ → List ℕ) (b : Option (S.Route Cost)) → BestIs best b
      → nodes_of w layer bytes path count ≡ filter (λ m. S.below_best (costs_in bytes) (system_in bytes) m.f b) (nodes_of w layer bytes path n)

-- rule 6: low rises
pub record Raises (layer : List ℕ) (w : ℕ) (marked : Bool) (n : ℕ) (low r : Cost) : Type 0 where
  pub same : (bytes : List ℕ) (path : ℕ → List ℕ) → S.raised_low (costs_in bytes) (system_in bytes) marked (nodes_of w layer bytes path n) low ≡ r

-- behind a layer's end, `left` layers before the limit: the layers after it, unless the round is at its end
unfoldable pub behind_end : (bytes : List ℕ) (w budget left : ℕ) → S.Round State Cost → S.Result (S.Round State Cost) Cost
behind_end bytes w budget zero r = S.on r
behind_end bytes w budget (suc left) r = S.unless_ended (costs_in bytes) (system_in bytes) r (λ x. S.layers (costs_in bytes) (system_in bytes) budget w left x.kept (S.next_layer (costs_in bytes) (system_in bytes) x))

-- layer k + 1 is current, and has so many nodes. y: the round in it
pub record Onward (words words' : List ℕ) (w limit k : ℕ) (x y : Round) (nodes : ℕ) : Type 0 where
  pub further : k < limit
  pub none_yet : y.count ≡ 0
  pub as_many : nodes ≡ x.count
  pub taken : Taken words words' w k x.count
  pub same : (bytes plan : List ℕ) (budget : ℕ) → behind_end bytes w budget (limit - k) (round_in bytes words plan w k x) ≡ layers_from bytes words' plan w budget limit (suc k) nodes y

-- the round x at the end of layer k goes on as y with layer k + 1, of so many nodes, or it is at its end
pub record EntersNext (words words' : List ℕ) (w limit k : ℕ) (x y : Round) (follows : P.Option ℕ) : Type 0 where
  pub best_same : y.progress.best ≡ x.progress.best
  pub round_same : round_begun y.progress ≡ round_begun x.progress
  pub layer : Layer w y.count (next_of w words')
  pub going_on : (nodes : ℕ) → follows ≡ Some nodes → Onward words words' w limit k x y nodes
  pub ends : follows ≡ None → (bytes plan : List ℕ) (budget : ℕ) → behind_end bytes w budget (limit - k) (round_in bytes words plan w k x) ≡ S.on (round_in bytes words' plan w k y)
