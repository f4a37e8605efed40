-- The code's answer, by the definition's: every field, and the plan buffer.
use Rattle.std.specs.Prelude.{ℕ, ◌≤◌, ◌<◌, ◌≡◌, cond, List, [], ◌∷◌, length, get_or, eqb, Ok, Err}
use Rattle.std.specs.Prelude as P
use Rattle.model.specs.declared.Cost.{Cost}
use Rattle.model.specs.Numbers.{most_steps}
use Rattle.model.specs.Costs.{hours}
use Rattle.search.specs.Answer as A
use Rattle.search.specs.Answer.{verdict, by_state, by_input, outcome_number, is_refusal, outcome_numbered, buffer_after, handed_back}
use Rattle.search.specs.Search.{answer_of}
use Rattle.search.specs.Run.{fields}
use Rattle.steps.specs.InBytes.{system_in}
use Rattle.steps.specs.Follow.{costs_in}
use Rattle.search_paths.specs.Routes.{path_by}
use Rattle.search_visits.specs.Work.{verdict_of, progress_of, ending_of, BestFits, EndsInside}
use Rattle.search_visits.specs.declared.work.Verdict.{Verdict}
use Rattle.search_report.specs.declared.answers.Refusal.{Refusal}
use Rattle.search_report.specs.declared.answers.Refusal.TheVariants as R
use Rattle.search_report.specs.declared.answers.Answer.{Answer}
use Rattle.search_report.specs.declared.answers.Fields.{Fields}
use Rattle.search_runs.specs.declared.Stop.{Stop}

unfoldable pub refusal_of : Refusal → A.Outcome
refusal_of (R.ByState t) = by_state t
refusal_of (R.ByInput t) = by_input t

unfoldable pub outcome_of : P.Result Verdict Refusal → A.Outcome
outcome_of (Ok v) = verdict (verdict_of v)
outcome_of (Err r) = refusal_of r

-- the answer's every field is the definition's
pub record AnswerIs (a : A.Answer Cost) (x : Answer) : Type 0 where
  pub outcome : outcome_of x.outcome ≡ a.outcome
  pub flag : x.flag ≡ a.flag
  pub cost : x.cost ≡ a.cost
  pub bound : x.bound ≡ a.bound
  pub length_is : x.length ≡ length a.steps
  pub expansions : x.tally.expansions ≡ a.tally.expansions
  pub rounds : x.tally.rounds ≡ a.tally.rounds
  pub width : x.tally.width ≡ a.tally.width

-- the same in numbers: the cost at both figures, the bound in hours
pub record FieldsAre (a : A.Answer Cost) (x : Fields) : Type 0 where
  pub refused : x.refused ≡ cond (is_refusal a.outcome) 1 0
  pub verdict_is : x.verdict ≡ outcome_number a.outcome
  pub flag : x.flag ≡ cond a.flag 1 0
  pub cost : x.cost ≡ a.cost.high
  pub bound : x.bound ≡ a.bound.high
  pub length_is : x.length ≡ length a.steps
  pub expansions : x.expansions ≡ a.tally.expansions
  pub rounds : x.rounds ≡ a.tally.rounds
  pub width : x.width ≡ a.tally.width
  pub low : x.low ≡ a.cost.low

-- these numbers are the definition's fields, in their order
pub record LineOf (x : Answer) (numbers : List ℕ) : Type 0 where
  pub same : (a : A.Answer Cost) → AnswerIs a x → numbers ≡ fields a

-- the answer's numbers in their order: the one list that the line and the C struct are made from
abbrev pub in_line : Answer → List ℕ
in_line x =
    outcome_number (outcome_of x.outcome)
    ∷ cond x.flag 1 0
    ∷ x.cost.high
    ∷ x.bound.high
    ∷ x.length
    ∷ x.tally.expansions
    ∷ x.tally.rounds
    ∷ x.tally.width
    ∷ x.cost.low
    ∷ []

-- the C struct: whether it is a refusal, then the list
abbrev pub numbers_of : Answer → Fields
numbers_of x =
    let n = in_line x in
    record {
      refused = cond (is_refusal (outcome_of x.outcome)) 1 0;
      verdict = get_or n 0 0;
      flag = get_or n 1 0;
      cost = get_or n 2 0;
      bound = get_or n 3 0;
      length = get_or n 4 0;
      expansions = get_or n 5 0;
      rounds = get_or n 6 0;
      width = get_or n 7 0;
      low = get_or n 8 0;
    }

-- the answer that stands in the numbers and in the plan buffer
abbrev pub answer_in : Fields → (plan : List ℕ) → A.Answer Cost
answer_in x plan =
    record {
      outcome = outcome_numbered x.refused x.verdict;
      flag = eqb x.flag 1;
      cost = record { high = x.cost; low = x.low; moves = 0 };
      bound = hours x.bound;
      steps = handed_back x.length plan;
      tally = record { expansions = x.expansions; rounds = x.rounds; width = x.width };
    }

-- the answer of a run that is over
abbrev pub stop_answer : (bytes words best : List ℕ) → Stop → A.Answer Cost
stop_answer bytes words best x =
    answer_of (costs_in bytes) (system_in bytes) (ending_of (path_by words x.progress.tally.width x.layer) x.ending) x.progress.tally.rounds x.progress.tally.width (progress_of best x.progress)

-- what the report of a run needs: room for its steps
pub record Reportable (plan best : List ℕ) (limit : ℕ) (x : Stop) : Type 0 where
  pub few_steps : limit ≤ most_steps
  pub plan_room : limit ≤ length plan
  pub best_room : limit ≤ length best
  pub best_fits : BestFits limit x.progress.best
  pub some_width : 0 < x.progress.tally.width
  pub narrow : x.progress.tally.width ≤ 4096
  pub inside : EndsInside x.progress.tally.width limit x.layer x.ending

-- the report of a run that is over: the answer, and the plan buffer
pub record Reports (words best plan plan' : List ℕ) (stop : Stop) (x : Answer) : Type 0 where
  pub answer : (bytes : List ℕ) → AnswerIs (stop_answer bytes words best stop) x
  pub plan_after : (bytes : List ℕ) → plan' ≡ buffer_after (stop_answer bytes words best stop) plan
