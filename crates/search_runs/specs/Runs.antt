-- What is promised of a judgement and of a run in code: equations with the definition's rules 1 and 7.
use Rattle.std.specs.Prelude.{ℕ, suc, ◌^◌, ◌≤◌, ◌<◌, ◌≡◌, Bool, true, List, length, get_or, drop, Some, None}
use Rattle.std.specs.Prelude as P
use Rattle.std.proofs.Math.Option.{none}
use Rattle.model.specs.System.{Costs, System, Origin}
use Rattle.model.specs.Meaning.{State}
use Rattle.model.specs.declared.Cost.{Cost}
use Rattle.search.specs.Search.{Node, After, again, ended, decided}
use Rattle.search.specs.Search as S
use Rattle.search.specs.Run.{listed, rising, widest_of}
use Rattle.steps.specs.InBytes.{Outlined, system_in}
use Rattle.steps.specs.Follow.{costs_in}
use Rattle.search_paths.specs.Routes.{RootIs, RootFits, path_by}
use Rattle.search_rounds.specs.Rounds.{RoomFor}
use Rattle.search_visits.specs.declared.work.Round.{Round}
use Rattle.search_visits.specs.Work.{verdict_of, progress_of, round_of, ending_of, BestFits, EndsInside}
use Rattle.search_visits.specs.declared.work.Verdict.{Verdict}
use Rattle.search_runs.specs.declared.Stop.{Stop}

-- rule 7: another round, or a verdict
unfoldable pub judgement_of : (K : Costs Cost) (M : System State Cost) → P.Option Verdict → S.Progress Cost → After K M
judgement_of K M None p = again p
judgement_of K M (Some v) p = ended (record { ending = decided (verdict_of v); progress = p })

-- rule 7 of a round that ended, whatever it kept, as the number of nodes kept is all that counts
pub record Judges (the_widest : Bool) (x : Round) (j : P.Option Verdict) : Type 0 where
  pub same : (bytes plan : List ℕ) (kept : List (Node State Cost)) → length kept ≡ x.count
      → S.judge (costs_in bytes) (system_in bytes) the_widest (round_of kept plan x) ≡ judgement_of (costs_in bytes) (system_in bytes) j (progress_of plan x.progress)

-- what a run needs: a model that was read, room for its widest round, the root's words, widths that rise, a budget in its range
pub record Runnable (bytes outline root words plan widths : List ℕ) (limit budget : ℕ) : Type 0 where
  pub outlined : Outlined bytes outline
  pub room : RoomFor words plan (widest_of (listed widths)) limit
  pub root_fits : RootFits root limit
  pub rises : rising widths ≡ true
  pub small_budget : budget < 2 ^ 32

-- the rounds from the first on, at the widths of the list: the tally has their number and the last width
pub record Runs (bytes root words' plan' widths : List ℕ) (budget limit : ℕ) (y : Stop) : Type 0 where
  pub best_fits : BestFits limit y.progress.best
  pub some_width : 0 < y.progress.tally.width
  pub narrow : y.progress.tally.width ≤ widest_of (listed widths)
  pub inside : EndsInside y.progress.tally.width limit y.layer y.ending
  pub same : (o : Origin State Cost) (h : Cost) → RootIs bytes root o h
      → S.rounds (costs_in bytes) (system_in bytes) (suc budget) budget limit (get_or widths 0 0) (drop 1 widths) 1 (S.root (costs_in bytes) (system_in bytes) o h) (record { best = none; low = (costs_in bytes).combine o.spent h; expansions = 0 })
      ≡ S.answer_of (costs_in bytes) (system_in bytes) (ending_of (path_by words' y.progress.tally.width y.layer) y.ending) y.progress.tally.rounds y.progress.tally.width (progress_of plan' y.progress)
