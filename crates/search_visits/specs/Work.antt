-- The definition's records and results that the code's stand for.
use Rattle.std.specs.Prelude.{ℕ, ◌+◌, ◌*◌, ◌≤◌, ◌<◌, ◌≡◌, List, ◌∷◌, reverse, length, take, drop, Some, None, Ok, Err, IfSome, IfErr}
use Rattle.std.specs.Prelude as P
use Rattle.std.proofs.Math.Option.{Option, none, some}
use Rattle.laws.specs.Lists.{All}
use Rattle.model.specs.Numbers.{range_end, most_steps}
use Rattle.model.specs.Meaning.{State}
use Rattle.model.specs.declared.Cost.{Cost}
use Rattle.model.specs.Costs.{CostUpTo}
use Rattle.search.specs.Answer as A
use Rattle.search.specs.Search.{Node, Route, Result, on, over, decided, refused}
use Rattle.search.specs.Search as S
use Rattle.steps.specs.InBytes.{Outlined, system_in}
use Rattle.steps.specs.Follow.{costs_in}
use Rattle.beam.specs.Nodes.{node_at}
use Rattle.beam.specs.Layers.{nodes_of, Indexed}
use Rattle.search_expansion.specs.Expansion.{expand_in}
use Rattle.search_paths.specs.Routes.{path_by, next_of, current_of}
use Rattle.search_visits.specs.declared.work.Verdict.{Verdict}
use Rattle.search_visits.specs.declared.work.Verdict.TheVariants as W
use Rattle.search_expansion.specs.declared.trials.Found.{Found}
use Rattle.search_visits.specs.declared.work.Progress.{Progress}
use Rattle.search_visits.specs.declared.work.Round.{Round}
use Rattle.search_visits.specs.declared.work.Ending.{Ending}
use Rattle.search_visits.specs.declared.work.Ending.TheVariants as E
use Rattle.search_visits.specs.declared.work.Visited.{Visited}
use Rattle.beam_order.specs.Slots.{next_at, next_end}

unfoldable pub verdict_of : Verdict → A.Verdict
verdict_of W.Cheapest = A.cheapest
verdict_of W.NoPlan = A.no_plan
verdict_of W.WidthStop = A.width_stop
verdict_of W.LengthStop = A.length_stop
verdict_of W.BudgetSpent = A.budget_spent
verdict_of W.Contradicted = A.contradicted

-- plan: the bytes whose first ones are the best plan's
unfoldable pub best_of : (plan : List ℕ) → P.Option Found → Option (Route Cost)
best_of plan None = none
best_of plan (Some b) = some (record { cost = b.cost; path = reverse (take b.length plan) })

-- a plan that was found has no more steps than the limit
abbrev pub BestFits : (limit : ℕ) → P.Option Found → Type 0
BestFits limit best = IfSome best (λ b. b.length ≤ limit)

unfoldable pub progress_of : (plan : List ℕ) → Progress → S.Progress Cost
progress_of plan p = record { best = best_of plan p.best; low = p.low; expansions = p.tally.expansions }

unfoldable pub round_of : (kept : List (Node State Cost)) (plan : List ℕ) → Round → S.Round State Cost
round_of kept plan x = record { kept = kept; width_mark = x.marks.width; length_mark = x.marks.length; improved = x.improved; progress = progress_of plan x.progress }

-- path: the path to each slot of the layer
unfoldable pub ending_of : (path : ℕ → List ℕ) → Ending → S.Ending Cost
ending_of path (E.Decided v) = decided (verdict_of v)
ending_of path (E.At e c i) = refused e (record { cost = c; path = path i })
ending_of path (E.Beyond e c i t) = refused e (record { cost = c; path = t ∷ path i })

-- the round goes on, or the run is over
unfoldable pub result_of : (path : ℕ → List ℕ) → P.Result (Unit {0}) Ending → S.Round State Cost → Result (S.Round State Cost) Cost
result_of path (Ok _) r = on r
result_of path (Err e) r = over (record { ending = ending_of path e; progress = r.progress })

-- the round that a run is in: its number and its width
abbrev pub round_begun : Progress → ℕ × ℕ
round_begun p = (p.tally.rounds, p.tally.width)

-- the round that the working words and the code's record stand for, in layer k of a round of width w
abbrev pub round_in : (bytes words plan : List ℕ) (w k : ℕ) → Round → S.Round State Cost
round_in bytes words plan w k x = round_of (nodes_of w (next_of w words) bytes (path_by words w k) x.count) plan x

-- the node with these words, in slot i of layer k
abbrev pub node_in : (bytes words : List ℕ) (w k i : ℕ) (node : List ℕ) → Node State Cost
node_in bytes words w k i node = node_at bytes (path_by words w k) i node

-- rules 2 to 4 in the model that stands in the bytes, `left` being the steps left to the limit: an expansion, which counts from its
-- start; an unfinished state; any state; the nodes of a layer
abbrev pub counted_in : (bytes : List ℕ) (w : ℕ) → Node State Cost → S.Round State Cost → Result (S.Round State Cost) Cost
counted_in bytes w n r = expand_in bytes w n (S.counted (costs_in bytes) (system_in bytes) r)

abbrev pub advance_in : (bytes : List ℕ) (budget w left : ℕ) → Node State Cost → S.Round State Cost → Result (S.Round State Cost) Cost
advance_in bytes budget w left = S.advance (costs_in bytes) (system_in bytes) budget w left

abbrev pub visit_in : (bytes : List ℕ) (budget w left : ℕ) → Node State Cost → S.Round State Cost → Result (S.Round State Cost) Cost
visit_in bytes budget w left n = S.visit (costs_in bytes) (system_in bytes) budget w left ((system_in bytes).status n.state) n

abbrev pub layer_in : (bytes : List ℕ) (budget w left : ℕ) → List (Node State Cost) → S.Round State Cost → Result (S.Round State Cost) Cost
layer_in bytes budget w left = S.layer (costs_in bytes) (system_in bytes) budget w left

-- g of the node: each of k steps, those before the root included, has added less than the end of the numbers' range to each part
abbrev pub Within : (k : ℕ) → Node State Cost → Type 0
Within k m = CostUpTo (k * range_end) m.g

-- what the code needs of a round in layer k, which has n nodes. before: the steps made before the root
pub record Ready (bytes outline words plan : List ℕ) (w limit k n : ℕ) (x : Round) : Type 0 where
  pub outlined : Outlined bytes outline
  pub held : Indexed outline w x.count (next_of w words)
  pub narrow : w ≤ 4096
  pub depth : k ≤ limit
  pub before : ℕ
  pub few_steps : before + limit ≤ most_steps
  pub plan_room : limit ≤ length plan
  pub best_fits : BestFits limit x.progress.best
  pub few_nodes : n ≤ w
  pub costs : All (Within (before + k)) (current_of bytes words w k n)

-- where the route to a refusal ends: in a slot of layer k, or one step further, within the limit
abbrev pub EndsInside : (w limit k : ℕ) → Ending → Type 0
EndsInside w limit k (E.Decided v) = Unit {0}
EndsInside w limit k (E.At e c i) = (i < w) × (k ≤ limit)
EndsInside w limit k (E.Beyond e c i t) = (i < w) × (t < 256) × (k < limit)

abbrev pub Inside : (w limit k : ℕ) → P.Result (Unit {0}) Ending → Type 0
Inside w limit k next = IfErr next (EndsInside w limit k)

-- rule: what the definition does with the round before; it goes on with the one after, or the run is over.
-- The current layer and the back pointers stay
pub record Leaves (bytes outline words words' plan plan' : List ℕ) (w limit k : ℕ) (x : Round) (y : Visited) (rule : S.Round State Cost → Result (S.Round State Cost) Cost) : Type 0 where
  pub held : Indexed outline w y.round.count (next_of w words')
  pub best_fits : BestFits limit y.round.progress.best
  pub round_same : round_begun y.round.progress ≡ round_begun x.progress
  pub inside : Inside w limit k y.next
  pub current : take (next_at * w) words' ≡ take (next_at * w) words
  pub rows : drop (next_end * w) words' ≡ drop (next_end * w) words
  pub same : rule (round_in bytes words plan w k x) ≡ result_of (path_by words w k) y.next (round_in bytes words' plan' w k y.round)
