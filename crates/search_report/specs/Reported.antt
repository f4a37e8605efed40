-- What the parts of a report say: the bound by a verdict, the answer at a verdict, the answer at a refusal by the state.
use Rattle.std.specs.Prelude.{ℕ, ◌≡◌, List, length}
use Rattle.model.specs.declared.Cost.{Cost}
use Rattle.search.specs.Answer as A
use Rattle.search.specs.Answer.{buffer_after}
use Rattle.search.specs.Search.{decided, refused, bound_at, answer_of}
use Rattle.steps.specs.InBytes.{system_in}
use Rattle.steps.specs.Follow.{costs_in}
use Rattle.search_visits.specs.Work.{verdict_of, progress_of}
use Rattle.search_report.specs.Answers.{AnswerIs}
use Rattle.search_visits.specs.declared.work.Verdict.{Verdict}
use Rattle.search_visits.specs.declared.work.Progress.{Progress}
use Rattle.search_report.specs.declared.answers.Answer.{Answer}
use Rattle.search_runs.specs.declared.Stop.{Stop}

-- "bound (low; the cost at 0; zero at 1)"
pub record BoundIs (v : Verdict) (p : Progress) (x : Cost) : Type 0 where
  pub same : (bytes best : List ℕ) → x ≡ bound_at (costs_in bytes) (system_in bytes) (verdict_of v) (progress_of best p)

-- the run ended with this verdict
abbrev pub decided_answer : (bytes best : List ℕ) → Verdict → Stop → A.Answer Cost
decided_answer bytes best v x = answer_of (costs_in bytes) (system_in bytes) (decided (verdict_of v)) x.progress.tally.rounds x.progress.tally.width (progress_of best x.progress)

-- the report at a verdict
pub record Decides (best plan plan' : List ℕ) (v : Verdict) (stop : Stop) (x : Answer) : Type 0 where
  pub answer : (bytes : List ℕ) → AnswerIs (decided_answer bytes best v stop) x
  pub plan_after : (bytes : List ℕ) → plan' ≡ buffer_after (decided_answer bytes best v stop) plan

-- the run was refused, with this number, where a path of this cost and of n steps ends
abbrev pub refused_answer : (bytes best : List ℕ) (number : ℕ) (cost : Cost) (path : List ℕ) → Stop → A.Answer Cost
refused_answer bytes best number cost path x =
    answer_of (costs_in bytes) (system_in bytes) (refused number (record { cost = cost; path = path })) x.progress.tally.rounds x.progress.tally.width (progress_of best x.progress)

-- the report at a refusal by the state, whatever the path's steps are: the answer has their number alone
pub record Refuses (number : ℕ) (cost : Cost) (n : ℕ) (stop : Stop) (x : Answer) : Type 0 where
  pub answer : (bytes best path : List ℕ) → length path ≡ n → AnswerIs (refused_answer bytes best number cost path stop) x
