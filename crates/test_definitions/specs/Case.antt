-- A case: what is asked of the definitions, and what the independent implementation answers.
use Rattle.std.specs.Prelude.{ℕ, List}

pub data Case : Type 0 where
  -- a search: model, W, L, budget, plan buffer, working words; then refused (0 or 1) and the fields, and the buffer afterwards
  searched : (model : List ℕ) (widest limit budget : ℕ) (buffer : List ℕ) (words : ℕ) (fields after : List ℕ) → Case
  -- a search in the loading profile: the same without L
  loaded : (model : List ℕ) (widest budget : ℕ) (buffer : List ℕ) (words : ℕ) (fields after : List ℕ) → Case
  -- a search with a list of widths in the place of W
  searched_listed : (model widths : List ℕ) (limit budget : ℕ) (buffer : List ℕ) (words : ℕ) (fields after : List ℕ) → Case
  -- the same in the loading profile
  loaded_listed : (model widths : List ℕ) (budget : ℕ) (buffer : List ℕ) (words : ℕ) (fields after : List ℕ) → Case
  -- a plan check: model, plan; then the answer number, the cost and the low cost
  checked : (model plan : List ℕ) (answer cost low : ℕ) → Case
