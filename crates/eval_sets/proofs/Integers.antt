-- Whole numbers in 64 bits: read back from their bits, and the divisor's test.
use Prim.Native.Nat.{zero, suc}
use mathlib.Core.Path.{◌≡◌, refl}
use mathlib.Core.Bool.{Bool, true, false, not}
use native.Mathlib.Omega.{arith}
use lib.IntN.{ℤ, pos, negsuc}
use mir.Syntax.{w64}
use mir.Val.{SFits, of_z}
use Rattle.words.specs.Signs.{NotZero}
use Rattle.eval_sets.specs.Runs.{agree}

pub zero_bits : (z : ℤ) → SFits w64 z → of_z w64 z ≡ 0 → z ≡ pos 0
zero_bits (pos zero) f h = refl
zero_bits (pos (suc n)) f h = absurd (omega (arith, h))
zero_bits (negsuc n) f h = absurd (omega (arith, h, f.sfits))

pub not_zero : (z : ℤ) → (of_z w64 z ≡ 0 → ⊥) → NotZero z
not_zero (pos zero) h = h refl
not_zero (pos (suc n)) h = tt
not_zero (negsuc n) h = tt

-- two truths, by the first
pub agree_true : (a b : Bool) → a ≡ true → b ≡ agree a b
unfolding agree
agree_true a b h = rw h

pub agree_false : (a b : Bool) → a ≡ false → not b ≡ agree a b
unfolding agree
agree_false a true h = rw h
agree_false a false h = rw h
