-- What is promised of a layer's end, a turn and a round in code: equations with the definition's rules 1 and 6.
use Rattle.std.specs.Prelude.{ℕ, suc, ◌+◌, ◌-◌, ◌*◌, ◌≤◌, ◌<◌, ◌≡◌, List, length, Some, None, Ok, Err, IfErr}
use Rattle.model.specs.Numbers.{most_steps}
use Rattle.model.specs.System.{Origin}
use Rattle.model.specs.Meaning.{State}
use Rattle.model.specs.declared.Cost.{Cost}
use Rattle.search.specs.Search as S
use Rattle.steps.specs.InBytes.{Outlined, system_in}
use Rattle.steps.specs.Follow.{costs_in}
use Rattle.beam.specs.Layers.{Layer}
use Rattle.search_paths.specs.Routes.{RootIs, RootFits, path_by, next_of, current_of}
use Rattle.search_visits.specs.declared.work.Progress.{Progress}
use Rattle.search_visits.specs.declared.work.Round.{Round}
use Rattle.search_visits.specs.declared.work.Ending.{Ending}
use Rattle.search_visits.specs.Work.{progress_of, round_begun, result_of, round_in, BestFits, Ready, EndsInside, Inside}
use Rattle.search_rounds.specs.declared.ends.Passed.{Passed}
use Rattle.search_rounds.specs.declared.Ended.{Ended}
use Rattle.beam_order.specs.Slots.{backs_at}

-- what a run of width w and this length limit needs of the words and of the bytes for the best plan
pub record RoomFor (words plan : List ℕ) (w limit : ℕ) : Type 0 where
  pub some_width : 0 < w
  pub narrow : w ≤ 4096
  pub few_steps : limit ≤ most_steps
  pub plan_room : limit ≤ length plan
  pub words_room : backs_at * w + w * (limit + 1) ≤ length words

-- what a round needs: a model that was read, room, the root's words, a best plan within the limit
pub record Roundable (bytes outline root words plan : List ℕ) (w limit : ℕ) (p : Progress) : Type 0 where
  pub outlined : Outlined bytes outline
  pub room : RoomFor words plan w limit
  pub root_fits : RootFits root limit
  pub best_fits : BestFits limit p.best

-- what the end of layer k needs, where count nodes are in the making
pub record Enterable (words : List ℕ) (w limit k count : ℕ) : Type 0 where
  pub layer : Layer w count (next_of w words)
  pub some_width : 0 < w
  pub narrow : w ≤ 4096
  pub depth : k ≤ limit
  pub few_steps : limit ≤ most_steps
  pub words_room : backs_at * w + w * (limit + 1) ≤ length words

-- rule 6, in every layer
pub record LayerEnds (words : List ℕ) (w : ℕ) (x y : Round) : Type 0 where
  pub fewer : y.count ≤ x.count
  pub layer : Layer w y.count (next_of w words)
  pub best_same : y.progress.best ≡ x.progress.best
  pub round_same : round_begun y.progress ≡ round_begun x.progress
  pub same : (bytes plan : List ℕ) (k : ℕ) → S.layer_end (costs_in bytes) (system_in bytes) (round_in bytes words plan w k x) ≡ round_in bytes words plan w k y

-- the layers from k on, in a round
abbrev pub layers_from : (bytes words plan : List ℕ) (w budget limit k n : ℕ) → Round → S.Result (S.Round State Cost) Cost
layers_from bytes words plan w budget limit k n x =
    S.layers (costs_in bytes) (system_in bytes) budget w (limit - k) (current_of bytes words w k n) (round_in bytes words plan w k x)

-- they go on with layer k + 1, or the round is at its end, or the run is over
pub record PassesLayer (bytes outline words words' plan plan' : List ℕ) (w budget limit k n : ℕ) (x : Round) (y : Passed) : Type 0 where
  pub best_fits : BestFits limit y.round.progress.best
  pub round_same : round_begun y.round.progress ≡ round_begun x.progress
  pub inside : IfErr y.next (EndsInside w limit k)
  pub counted : length (round_in bytes words' plan' w k y.round).kept ≡ y.round.count
  pub going_on : (nodes : ℕ) → y.next ≡ Ok (Some nodes)
      → (k < limit) × (y.round.count ≡ 0) × Ready bytes outline words' plan' w limit (suc k) nodes y.round
      × (layers_from bytes words plan w budget limit k n x ≡ layers_from bytes words' plan' w budget limit (suc k) nodes y.round)
  pub ends : y.next ≡ Ok None → layers_from bytes words plan w budget limit k n x ≡ S.on (round_in bytes words' plan' w k y.round)
  pub over : (e : Ending) → y.next ≡ Err e → layers_from bytes words plan w budget limit k n x ≡ result_of (path_by words' w k) (Err e) (round_in bytes words' plan' w k y.round)

-- a round from the root on, begun with p: its layers, then on to rule 7, or the run is over in it
pub record RoundEnds (bytes root words' plan plan' : List ℕ) (w budget limit : ℕ) (p : Progress) (y : Ended) : Type 0 where
  pub best_fits : BestFits limit y.round.progress.best
  pub round_same : round_begun y.round.progress ≡ round_begun p
  pub inside : Inside w limit y.layer y.next
  pub counted : length (round_in bytes words' plan' w y.layer y.round).kept ≡ y.round.count
  pub same : (o : Origin State Cost) (h : Cost) → RootIs bytes root o h → S.round (costs_in bytes) (system_in bytes) budget limit w (S.root (costs_in bytes) (system_in bytes) o h) (progress_of plan p)
      ≡ result_of (path_by words' w y.layer) y.next (round_in bytes words' plan' w y.layer y.round)
