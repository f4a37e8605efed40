-- The full sets, as words hold them.
use Rattle.std.specs.Prelude.{ℕ, ◌-◌, ◌^◌, cond, ltb}
use Rattle.model.specs.Numbers.{most_objects}

-- the set of the first n objects; none where there are more than a set may have
unfoldable pub full_of : (n : ℕ) → ℕ
full_of n = cond (ltb most_objects n) 0 (2 ^ n - 1)
