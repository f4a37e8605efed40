-- Values that evaluation may fail to have, the range of numbers, and the quotient rounded down. docs/FORMAT.md, "Values".
use Rattle.std.specs.Prelude.{ℕ, zero, suc, ◌/◌, cond, ltb, ℤ, pos, negsuc, neg_ℤ}
use Rattle.std.specs.Int.Signed.{mag}
use Rattle.model.specs.Numbers.{out_of_range, divisor_zero}

-- a value, or the number of the trouble that ended the evaluation
pub data Value (A : Type 0) : Type 0 where
  value : A → Value A
  trouble : ℕ → Value A

-- "the first trouble ends the evaluation"
infixl 1 ◌>>=◌
unfoldable pub ◌>>=◌ : {A B : Type 0} → Value A → (A → Value B) → Value B
value a >>= next = next a
trouble t >>= next = trouble t

-- −end .. end − 1; the magnitude of −(n + 1) is n
unfoldable pub in_range : (end : ℕ) → ℤ → Value ℤ
in_range end z = cond (ltb (mag z) end) (value z) (trouble out_of_range)

-- by m > 0, rounded down: −(a + 1) by m is −(a / m + 1)
unfoldable pub floor_by : ℤ → ℕ → ℤ
floor_by (pos a) m = pos (a / m)
floor_by (negsuc a) m = negsuc (a / m)

-- "25 quotient rounded down": by a negative divisor both signs are turned
unfoldable pub floor_quotient : ℤ → ℤ → Value ℤ
floor_quotient a (pos zero) = trouble divisor_zero
floor_quotient a (pos (suc m)) = value (floor_by a (suc m))
floor_quotient a (negsuc m) = value (floor_by (neg_ℤ a) (suc m))
