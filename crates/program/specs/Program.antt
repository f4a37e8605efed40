-- The programs' run, at document 01's settings: docs/FORMAT.md, "Program".
use Rattle.std.specs.Prelude.{ℕ, ◌≡◌, List, length}
use Rattle.search_report.specs.Answers.{numbers_of}
use Rattle.search_report.specs.declared.answers.Answer.{Answer}
use Rattle.solver.specs.Searches.{settings, Searched}

-- "more than 16,384 bytes: refused 1; W 16, L 64, budget 100,000", with working words of its own
pub record Planned (bytes plan plan' : List ℕ) (x : Answer) : Type 0 where
  pub words : List ℕ
  pub words' : List ℕ
  pub lent : length words ≡ 2064
  pub searched : Searched 16384 bytes plan plan' words words' (settings 16 64 100000) (numbers_of x)
