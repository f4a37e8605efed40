-- How a list is taken up: a line, what its name comes to, and where the month stands between two lines.
use Rattle.std.specs.Prelude.{ℕ, ◌≤◌, ◌≡◌, List, map, length}
use Rattle.laws.specs.Lists.{All}
use Rattle.search_report.specs.Answers.{FieldsAre}
use Rattle.search_report.specs.declared.answers.Fields.{Fields}
use Rattle.month_names.specs.Names.{most_names, name_of}
use Rattle.month_names.specs.Lines.{LineOf, Unbroken}
use Rattle.month_names.specs.declared.Line.{Line}
use Rattle.month_figures.specs.Closing.{Taken}
use Rattle.month_figures.specs.Kept.{unread_fields, TakenIs, figures_of}
use Rattle.month_figures.specs.declared.Figures.{Figures}
use Rattle.month.specs.Month.{answer_to, AnswerFor, AnswersFor}

-- the numbers are those of no file, or of the search of some bytes
pub data FileSays (x : Fields) : Type 0 where
  no_file : x ≡ unread_fields → FileSays x
  planned : (bytes : List ℕ) → FieldsAre (answer_to bytes) x → FileSays x

-- the line's bytes as they came, up to a line feed or the end
pub record LineSays (line : Line) : Type 0 where
  pub bytes : List ℕ
  pub unbroken : Unbroken bytes
  pub line_of : LineOf bytes line

-- what a line comes to
pub record LineAnswer (line : Line) (x : Fields) : Type 0 where
  pub answer : (bytes : List ℕ) → LineOf bytes line → (d : Taken) × AnswerFor (name_of bytes) d × TakenIs d x

-- lines that were taken, an answer for each, and the figures
pub record SoFar (figures : Figures) : Type 0 where
  pub lines : List (List ℕ)
  pub answers : List Taken
  pub unbroken : All Unbroken lines
  pub each : AnswersFor (map name_of lines) answers
  pub shown : figures ≡ figures_of answers
  pub few : length lines ≤ most_names
