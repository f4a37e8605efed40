-- Where the next width stands in a list, and how many of the built-in widths a run up to W has. docs/FORMAT.md, "Settings".
use Rattle.std.specs.Prelude.{ℕ, ◌+◌, ◌≤◌, ◌≡◌, cond, List, [], ◌∷◌, take, ltb}
use Rattle.search.specs.Run.{wider_widths, wider_up_to, is_width}

-- "the next width, W again at W", in a list of so many: "'Next width' … means the next entry"
unfoldable pub place_behind : (count place : ℕ) → ℕ
place_behind count place = cond (ltb (place + 1) count) (place + 1) place

-- "1, 2, 4 up to W", as a list; none where W is none of them
unfoldable pub built_in_up_to : (widest : ℕ) → List ℕ
built_in_up_to widest = cond (is_width widest) (1 ∷ wider_up_to widest) []

-- the first n of the built-in widths are those up to W
pub record BuiltIn (widest n : ℕ) : Type 0 where
  pub inside : n ≤ 13
  pub same : take n (1 ∷ wider_widths) ≡ built_in_up_to widest
