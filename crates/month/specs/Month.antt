-- A month: what stands for a name in the list of answers, and the figures of that list. docs/FORMAT.md, "Month".
use Rattle.std.specs.Prelude.{ℕ, ◌≡◌, List, [], ◌∷◌, ◌++◌}
use Rattle.model.specs.declared.Cost.{Cost}
use Rattle.search.specs.Answer.{Answer}
use Rattle.search.specs.Run.{run}
use Rattle.solver.specs.Searches.{settings, lent_of}
use Rattle.month_names.specs.Names.{Name, named, unusable, names_of}
use Rattle.month_figures.specs.Closing.{Taken, answered, unread}
use Rattle.month_figures.specs.Kept.{figures_of}
use Rattle.month.specs.declared.End.TheVariants.{Full}
use Rattle.month.specs.declared.Month.{Month}

-- "with the settings of the one-model program"; 64 plan bytes and 2,064 words are its own
abbrev pub answer_to : (bytes : List ℕ) → Answer Cost
answer_to bytes = run 16384 bytes (settings 16 64 100000) (lent_of 64 2064)

-- what a name comes to. No contract says what a file holds: the bytes are those that came
pub data AnswerFor : Name → Taken → Type 0 where
  no_name : AnswerFor unusable unread
  no_file : {name : List ℕ} → AnswerFor (named name) unread
  planned : {name : List ℕ} (bytes : List ℕ) → AnswerFor (named name) (answered (answer_to bytes))

-- an answer for each name, in their order
pub data AnswersFor : List Name → List Taken → Type 0 where
  none : AnswersFor [] []
  and_one : {n : Name} {d : Taken} {ns : List Name} {ds : List Taken} → AnswerFor n d → AnswersFor ns ds → AnswersFor (n ∷ ns) (d ∷ ds)

-- a month: the bytes of the list that were taken up, an answer for each name in them, and the figures of the answers; what is behind a list that
-- was not taken up to its end names nothing more
pub record MonthOf (x : Month) : Type 0 where
  pub list : List ℕ
  pub answers : List Taken
  pub each : AnswersFor (names_of list) answers
  pub figures : x.figures ≡ figures_of answers
  pub enough : x.end ≡ Full → (rest : List ℕ) → names_of (list ++ rest) ≡ names_of list
