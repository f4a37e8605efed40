-- The names in a list of files: one a line, the first thousand; each names a file, or none can be opened by it.
-- docs/FORMAT.md, "Month".
use Rattle.std.specs.Prelude.{ℕ, Bool, true, false, cond, not, ◌&&◌, List, [], ◌∷◌, map, length, take, leb, eqb}
use Rattle.laws.specs.Lists.{any, is_empty}

abbrev pub line_feed : ℕ
line_feed = 10

-- "Names after the thousandth are passed over"
abbrev pub most_names : ℕ
most_names = 1000

-- "file names of at most 255 bytes"
abbrev pub most_name_bytes : ℕ
most_name_bytes = 255

-- a line feed ends a line of its own; another byte stands in front of the line that follows, or is one
unfoldable pub in_front : (feed : Bool) → ℕ → List (List ℕ) → List (List ℕ)
in_front true b ls = [] ∷ ls
in_front false b [] = (b ∷ []) ∷ []
in_front false b (l ∷ ls) = (b ∷ l) ∷ ls

-- "one a line (the last may lack its line end)"; no line is behind a line feed at the very end
unfoldable pub lines : List ℕ → List (List ℕ)
lines [] = []
lines (b ∷ bs) = in_front (eqb b line_feed) b (lines bs)

-- "a name that is longer, empty or holds a zero byte counts as refused"
unfoldable pub usable : List ℕ → Bool
usable line = not (is_empty line) && leb (length line) most_name_bytes && not (any (λ b. eqb b 0) line)

-- a name that may be opened; or a line that is none
pub data Name : Type 0 where
  named : List ℕ → Name
  unusable : Name

unfoldable pub name_of : (line : List ℕ) → Name
name_of line = cond (usable line) (named line) unusable

-- the names taken of a list
unfoldable pub names_of : List ℕ → List Name
names_of list = map name_of (take most_names (lines list))
