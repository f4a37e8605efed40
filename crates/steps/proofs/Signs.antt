-- Numbers that are not negative as unsigned words: bounds that raise h, and costs, the high cost beside the low one.
use Prim.Native.Nat.{ℕ, max, ◌≤◌, ◌<◌}
use mathlib.Core.Path.{◌≡◌, refl}
use mathlib.Core.Bool.{true, false, true≢false}
use native.Mathlib.Omega.{arith}
use lib.Dec.{T}
use lib.IntN.{ℤ, pos, negsuc, nat_abs}
use lib.Signed.{mag, lt_z, non_neg}
use borrow.Author.Tests.{ltb-true, le-leb, lt-leb}
use mir.Syntax.{w64}
use mir.Val.{SFits, Fits, to_z, of_z}
use Rattle.model.specs.Numbers.{range_end, negative_cost, high_below_low}
use Rattle.model.specs.Values.{value, trouble}
use Rattle.model.specs.Steps.{raise, cost_of, not_below}
use Rattle.words.proofs.Integers.{back}

-- a number in range fits
pub range_fits : {z : ℤ} → mag z < range_end → SFits w64 z
range_fits h = record { sfits = omega arith }

module _ (z : ℤ) (f : SFits w64 z) where
  unsigned : lt_z z (pos 0) ≡ false → T (non_neg z) × Fits w64 (nat_abs z)
  unsigned e = by_sign z f e
    where
      by_sign : (z : ℤ) → SFits w64 z → lt_z z (pos 0) ≡ false → T (non_neg z) × Fits w64 (nat_abs z)
      by_sign (pos n) f e = (tt, record { fits = omega (arith, f.sfits) })
      by_sign (negsuc n) f e = absurd (true≢false e)

  pub unsigned_cast : lt_z z (pos 0) ≡ false → T (non_neg (to_z w64 (of_z w64 z))) × Fits w64 (nat_abs (to_z w64 (of_z w64 z)))
  unsigned_cast e = rw (back f) (unsigned e)

pub raise_low : (h : ℕ) (z : ℤ) → lt_z z (pos 0) ≡ true → h ≡ raise h z
unfolding raise
raise_low h (pos a) e = let l : a < 0 = ltb-true a 0 e in absurd (omega arith)
raise_low h (negsuc a) e = refl

greater : (h : ℕ) (z : ℤ) → lt_z z (pos 0) ≡ false → max h (nat_abs z) ≡ raise h z
unfolding raise
greater h (pos a) e = refl
greater h (negsuc a) e = absurd (true≢false e)

cost : (z : ℤ) → lt_z z (pos 0) ≡ false → cost_of z ≡ value (nat_abs z)
unfolding cost_of
cost (pos c) e = refl
cost (negsuc c) e = absurd (true≢false e)

above : (low : ℕ) (z : ℤ) → lt_z z (pos 0) ≡ false → low ≤ nat_abs z → not_below low z ≡ value (nat_abs z)
unfolding not_below
above low (pos c) e l = rw (le-leb low c l)
above low (negsuc c) e l = absurd (true≢false e)

under : (low : ℕ) (z : ℤ) → lt_z z (pos 0) ≡ false → nat_abs z < low → not_below low z ≡ trouble high_below_low
unfolding not_below
under low (pos c) e l = rw (lt-leb low c l)
under low (negsuc c) e l = refl

module _ (z : ℤ) (f : SFits w64 z) (e : lt_z z (pos 0) ≡ false) where
  pub raise_greater : (h : ℕ) → max h (nat_abs (to_z w64 (of_z w64 z))) ≡ raise h z
  raise_greater h = rw (back f) (greater h z e)

  pub cost_is : cost_of z ≡ value (nat_abs (to_z w64 (of_z w64 z)))
  cost_is = rw (back f) (cost z e)

  pub high_is : (low : ℕ) → low ≤ nat_abs (to_z w64 (of_z w64 z)) → not_below low z ≡ value (nat_abs (to_z w64 (of_z w64 z)))
  high_is low l = rw (back f) (above low z e (rw (back f) at l))

  pub high_below : (low : ℕ) → nat_abs (to_z w64 (of_z w64 z)) < low → not_below low z ≡ trouble high_below_low
  high_below low l = under low z e (rw (back f) at l)

pub cost_negative : (z : ℤ) → lt_z z (pos 0) ≡ true → cost_of z ≡ trouble negative_cost
unfolding cost_of
cost_negative (pos c) e = let l : c < 0 = ltb-true c 0 e in absurd (omega arith)
cost_negative (negsuc c) e = refl

pub high_negative : (low : ℕ) (z : ℤ) → lt_z z (pos 0) ≡ true → not_below low z ≡ trouble high_below_low
unfolding not_below
high_negative low (pos c) e = let l : c < 0 = ltb-true c 0 e in absurd (omega arith)
high_negative low (negsuc c) e = refl
