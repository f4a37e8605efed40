-- What the code says of a round's marks, of a round that begins, and of one that is judged: rule 7.
use Rattle.std.specs.Prelude.{ℕ, ◌≡◌, Bool, not, ◌&&◌, List, eqb, Ok, Err}
use Rattle.std.specs.Prelude as P
use Rattle.model.specs.System.{Costs, System, Origin}
use Rattle.model.specs.Meaning.{State}
use Rattle.model.specs.declared.Cost.{Cost}
use Rattle.search.specs.Search.{After, again, ended}
use Rattle.search.specs.Search as S
use Rattle.steps.specs.InBytes.{system_in}
use Rattle.steps.specs.Follow.{costs_in}
use Rattle.search_paths.specs.Routes.{RootIs, path_by}
use Rattle.search_tally.specs.Tally.{begun_at}
use Rattle.search_visits.specs.declared.work.Progress.{Progress}
use Rattle.search_visits.specs.declared.work.Round.{Round}
use Rattle.search_visits.specs.declared.work.Ending.{Ending}
use Rattle.search_runs.specs.declared.Judged.{Judged}
use Rattle.search_visits.specs.Work.{progress_of, round_begun, ending_of, BestFits, Inside}

-- "No mark and none remaining"
unfoldable pub nothing_left : Round → Bool
nothing_left x = not x.marks.width && not x.marks.length && eqb x.count 0

-- what lasts, once a round of this width has begun
abbrev pub begins_at : (width : ℕ) → Progress → Progress
begins_at width p = record { best = p.best; low = p.low; tally = begun_at width p.tally }

-- another round, or the run is over
unfoldable pub after_of : (K : Costs Cost) (M : System State Cost) (path : ℕ → List ℕ) → P.Result (Unit {0}) Ending → S.Progress Cost → After K M
after_of K M path (Ok _) p = again p
after_of K M path (Err e) p = ended (record { ending = ending_of path e; progress = p })

-- a round of this width from the progress p, and what follows it; last: the width is W
pub record RoundJudged (bytes root words' plan plan' : List ℕ) (last : Bool) (budget limit width : ℕ) (p : Progress) (y : Judged) : Type 0 where
  pub best_fits : BestFits limit y.progress.best
  pub round_same : round_begun y.progress ≡ round_begun p
  pub inside : Inside width limit y.layer y.next
  pub same : (o : Origin State Cost) (h : Cost) → RootIs bytes root o h
      → S.after_round (costs_in bytes) (system_in bytes) last (S.round (costs_in bytes) (system_in bytes) budget limit width (S.root (costs_in bytes) (system_in bytes) o h) (progress_of plan p))
      ≡ after_of (costs_in bytes) (system_in bytes) (path_by words' width y.layer) y.next (progress_of plan' y.progress)
