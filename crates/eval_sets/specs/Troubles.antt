-- Troubles by their numbers, and the numbers of troubles.
use Rattle.std.specs.Prelude.{ℕ, cond, eqb}
use Rattle.model.specs.Numbers.{out_of_range, divisor_zero, negative_cost, not_a_plan, high_below_low}
use Rattle.eval_sets.specs.declared.troubles.Trouble.{Trouble}
use Rattle.eval_sets.specs.declared.troubles.Trouble.TheVariants as T

abbrev pub number_of : Trouble → ℕ
number_of T.Nothing = 0
number_of T.OutOfRange = out_of_range
number_of T.DivisorZero = divisor_zero
number_of T.NegativeCost = negative_cost
number_of T.HighBelowLow = high_below_low
number_of T.NotAPlan = not_a_plan

-- the trouble of this number; nothing for any other number
unfoldable pub named : ℕ → Trouble
named t =
    cond (eqb t out_of_range) T.OutOfRange (cond (eqb t divisor_zero) T.DivisorZero (cond (eqb t negative_cost) T.NegativeCost
    (cond (eqb t not_a_plan) T.NotAPlan (cond (eqb t high_below_low) T.HighBelowLow T.Nothing))))
