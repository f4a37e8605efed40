-- What steps and plans cost: hours, at high and at low figures, and cable moves. Their order, and how a cost rule joins them.
-- docs/FORMAT.md, "States and steps". The record itself, { high, low, moves }, is the struct of src/lib.rt: the code's costs and these are one.
use Rattle.std.specs.Prelude.{ℕ, ◌+◌, ◌≤◌, ◌<◌, max, Bool, cond, ◌&&◌, ◌||◌, leb, ltb, eqb}
use Rattle.model.specs.System.{Costs}
use Rattle.model.specs.Syntax.{Rule, sum, largest}
use Rattle.model.specs.declared.Cost.{Cost}

-- what the empty plan costs
abbrev pub free : Cost
free = record { high = 0; low = 0; moves = 0 }

-- hours alone, as a bound has them: no moves; and no low figure, since that decides nothing
abbrev pub hours : ℕ → Cost
hours h = record { high = h; low = 0; moves = 0 }

-- the same hours at both figures, and no moves
abbrev pub fixed : ℕ → Cost
fixed c = record { high = c; low = c; moves = 0 }

-- by hours at high figures, then by moves
unfoldable pub at_most : (a b : Cost) → Bool
at_most a b = ltb a.high b.high || (eqb a.high b.high && leb a.moves b.moves)

-- "the sum or largest", of hours
unfoldable pub join : Rule → ℕ → ℕ → ℕ
join sum a b = a + b
join largest a b = max a b

-- the largest cost is one of the two, so its moves are that one's
unfoldable pub join_moves : Rule → (a b : Cost) → ℕ
join_moves sum a b = a.moves + b.moves
join_moves largest a b = cond (at_most a b) b.moves a.moves

unfoldable pub combine : Rule → (a b : Cost) → Cost
combine rule a b = record { high = join rule a.high b.high; low = join rule a.low b.low; moves = join_moves rule a b }

unfoldable pub costs_of : Rule → Costs Cost
costs_of rule = record { empty = free; combine = combine rule; at_most = at_most }

-- hours alone, as numbers
unfoldable pub hours_of : Rule → Costs ℕ
hours_of rule = record { empty = 0; combine = join rule; at_most = leb }

-- each part is at most n
pub record CostUpTo (n : ℕ) (c : Cost) : Type 0 where
  pub high_within : c.high ≤ n
  pub low_within : c.low ≤ n
  pub moves_within : c.moves ≤ n

-- each part is less than n
pub record CostBelow (n : ℕ) (c : Cost) : Type 0 where
  pub high_below : c.high < n
  pub low_below : c.low < n
  pub moves_below : c.moves < n
