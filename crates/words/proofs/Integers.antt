-- Laws of whole numbers in 64 bits: what fits, the range's tests, the quotient rounded down, a number variable's word.
use mathlib.Core.Path.{◌≡◌, refl, sym, ap, ◌∙◌}
use mathlib.Core.Bool.{Bool, true, false, cond, true≢false, false≢true}
use Prim.Native.Nat.{ℕ, zero, suc, ◌+◌, ◌-◌, ◌*◌, ◌/◌, ◌%◌, ◌^◌, ◌<◌, ◌≤◌}
use native.Mathlib.Nat.{zero-add, div-le_self, le_trans, lt_of_le_of_lt, mul-le-mul}
use native.Mathlib.Omega.{arith}
use lib.Dec.{ltb}
use lib.IntN.{ℤ, pos, negsuc, neg_ℤ, nat_abs, ◌+ℤ◌, ◌-ℤ◌, ◌*ℤ◌, +ℤ_idl, +ℤ-neg_ℤ_cancel}
use lib.Signed.{mag, lt_z, quot_z}
use borrow.Author.Tests.{ltb-true, ltb-false, lt-ltb, le-ltb}
use mir.Syntax.{w64}
use mir.Val.{SFits, to_z, of_z}
use mir.Facts.{to_z-of_z, to_z_pos}
use Rattle.model.specs.Numbers.{range_end}
use Rattle.model.specs.Values.{value, floor_by, floor_quotient}
use Rattle.words.specs.Signs.{Positive, NotZero, mirrored}

-- a 64-bit number read back from its bits
pub back : {z : ℤ} → SFits w64 z → to_z w64 (of_z w64 z) ≡ z
back f = to_z-of_z f

-- bits below the sign bit
pub plain : (n : ℕ) → n < 2 ^ 63 → to_z w64 n ≡ pos n
plain n h = to_z_pos w64 {n = n} h

-- ---- sizes

mag_sub : (t : Bool) (a b : ℕ) → mag (cond t (negsuc (b - suc a)) (pos (a - b))) ≤ a + b
mag_sub true a b = omega arith
mag_sub false a b = omega arith

pub mag_sum : (a b : ℤ) → mag (a +ℤ b) ≤ mag a + mag b + 1
mag_sum (pos a) (pos b) = omega arith
mag_sum (pos a) (negsuc b) = omega (arith, mag_sub (ltb a (suc b)) a (suc b))
mag_sum (negsuc a) (pos b) = omega (arith, mag_sub (ltb b (suc a)) b (suc a))
mag_sum (negsuc a) (negsuc b) = omega arith

pub mag_neg : (z : ℤ) → mag (neg_ℤ z) ≤ mag z + 1
mag_neg (pos zero) = omega arith
mag_neg (pos (suc n)) = omega arith
mag_neg (negsuc n) = omega arith

mag_neg_pos : (n : ℕ) → mag (neg_ℤ (pos n)) ≤ n
mag_neg_pos zero = omega arith
mag_neg_pos (suc n) = omega arith

mag_product : (a b : ℤ) → mag (a *ℤ b) ≤ suc (mag a) * suc (mag b)
mag_product (pos a) (pos b) = mul-le-mul (omega arith) (omega arith)
mag_product (pos a) (negsuc b) = le_trans (mag_neg_pos (a * suc b)) (mul-le-mul (omega arith) (omega arith))
mag_product (negsuc a) (pos b) = le_trans (mag_neg_pos (suc a * b)) (mul-le-mul (omega arith) (omega arith))
mag_product (negsuc a) (negsuc b) = omega arith

module _ (a b : ℤ) (ha : mag a < range_end) (hb : mag b < range_end) where
  pub sum_fits : SFits w64 (a +ℤ b)
  sum_fits = record { sfits = omega (arith, mag_sum a b) }

  pub difference_fits : SFits w64 (a -ℤ b)
  difference_fits = record { sfits = omega (arith, mag_sum a (neg_ℤ b), mag_neg b) }

  pub product_fits : SFits w64 (a *ℤ b)
  product_fits =
      let la : suc (mag a) ≤ range_end = omega arith in
      let lb : suc (mag b) ≤ range_end = omega arith in
      let h : suc (mag a) * suc (mag b) ≤ range_end * range_end = mul-le-mul la lb in
      record { sfits = omega (arith, mag_product a b) }

-- ---- the range's two tests

pub below_range : (z : ℤ) → lt_z z (negsuc 2147483647) ≡ true → ltb (mag z) range_end ≡ false
below_range (pos n) h = absurd (false≢true h)
below_range (negsuc n) h = le-ltb n range_end (omega (arith, ltb-true 2147483647 n h))

pub from_range : (z : ℤ) → lt_z z (negsuc 2147483647) ≡ false → lt_z z (pos 2147483648) ≡ ltb (mag z) range_end
from_range (pos n) h = refl
from_range (negsuc n) h = sym (lt-ltb n range_end (omega (arith, ltb-false 2147483647 n h)))

-- ---- the quotient rounded down

ltb_zero : (n : ℕ) → ltb n 0 ≡ false
ltb_zero n = le-ltb n 0 (omega arith)

negative-pos {ℓ} : {X : Type ℓ} (n : ℕ) → lt_z (pos n) (pos 0) ≡ true → X
negative-pos n h = absurd (true≢false (sym h ∙ ltb_zero n))

pub mirror_is : (z : ℤ) → negsuc 0 -ℤ z ≡ mirrored z
mirror_is (pos zero) = refl
mirror_is (pos (suc n)) = ap (λ (k : ℕ). negsuc (suc k)) (zero-add n)
mirror_is (negsuc n) = rw (le-ltb (suc n) 1 (omega arith)) (ap pos (omega arith))

pub mirror_fits : {z : ℤ} → SFits w64 z → SFits w64 (mirrored z)
mirror_fits {z = pos n} f = record { sfits = f.sfits }
mirror_fits {z = negsuc n} f = record { sfits = f.sfits }

pub minus_fits : (z : ℤ) → SFits w64 z → SFits w64 (negsuc 0 -ℤ z)
minus_fits z f = rw (mirror_is z) (mirror_fits f)

pub divisor_bits : (m : ℤ) → Positive m → 0 < of_z w64 m
divisor_bits (pos zero) p = absurd p
divisor_bits (pos (suc m)) p = omega arith
divisor_bits (negsuc m) p = absurd p

neg_mag : (k a : ℕ) → k ≤ suc a → mag (neg_ℤ (pos k)) ≤ a
neg_mag zero a h = omega arith
neg_mag (suc k) a h = omega arith

pub quotient_fits : (a m : ℤ) → Positive m → SFits w64 a → SFits w64 (quot_z a m)
quotient_fits a (pos zero) p f = absurd p
quotient_fits (pos a) (pos (suc m)) p f = record { sfits = lt_of_le_of_lt (div-le_self a (suc m)) f.sfits }
quotient_fits (negsuc a) (pos (suc m)) p f = record { sfits = lt_of_le_of_lt (neg_mag (suc a / suc m) a (div-le_self (suc a) (suc m))) f.sfits }
quotient_fits a (negsuc m) p f = absurd p

-- a dividend that is not negative
pub quotient_is : (a m : ℤ) → lt_z a (pos 0) ≡ false → Positive m → quot_z a m ≡ floor_by a (nat_abs m)
unfolding floor_by
quotient_is a (pos zero) h p = absurd p
quotient_is (pos a) (pos (suc m)) h p = refl
quotient_is (negsuc a) (pos (suc m)) h p = absurd (true≢false h)
quotient_is a (negsuc m) h p = absurd p

-- a negative one, by its mirror image
pub mirror_quotient : (a m : ℤ) → lt_z a (pos 0) ≡ true → Positive m → mirrored (quot_z (mirrored a) m) ≡ floor_by a (nat_abs m)
unfolding floor_by
mirror_quotient a (pos zero) h p = absurd p
mirror_quotient (pos a) (pos (suc m)) h p = negative-pos a h
mirror_quotient (negsuc a) (pos (suc m)) h p = refl
mirror_quotient a (negsuc m) h p = absurd p

floor_mag : (a : ℤ) (m : ℕ) → mag (floor_by a m) ≤ mag a
unfolding floor_by
floor_mag (pos a) m = div-le_self a m
floor_mag (negsuc a) m = div-le_self a m

-- ---- by a divisor of either sign

pub negated : (z : ℤ) → pos 0 -ℤ z ≡ neg_ℤ z
negated z = +ℤ_idl (neg_ℤ z)

pub negated_fits : (z : ℤ) → mag z < range_end → SFits w64 (neg_ℤ z)
negated_fits z h = record { sfits = omega (arith, mag_neg z) }

pub negated_positive : (z : ℤ) → lt_z z (pos 0) ≡ true → Positive (neg_ℤ z)
negated_positive (pos n) h = negative-pos n h
negated_positive (negsuc n) h = tt

pub is_positive : (z : ℤ) → NotZero z → lt_z z (pos 0) ≡ false → Positive z
is_positive (pos zero) n h = absurd n
is_positive (pos (suc m)) n h = tt
is_positive (negsuc m) n h = absurd (true≢false h)

pub by_positive : (a b : ℤ) → mag a < range_end → Positive b → (floor_quotient a b ≡ value (floor_by a (nat_abs b))) × (mag (floor_by a (nat_abs b)) ≤ range_end)
unfolding floor_quotient
by_positive a (pos zero) h p = absurd p
by_positive a (pos (suc m)) h p = (refl, omega (arith, floor_mag a (suc m)))
by_positive a (negsuc m) h p = absurd p

pub by_negative : (a b : ℤ) → mag a < range_end → lt_z b (pos 0) ≡ true → (floor_quotient a b ≡ value (floor_by (neg_ℤ a) (nat_abs (neg_ℤ b)))) × (mag (floor_by (neg_ℤ a) (nat_abs (neg_ℤ b))) ≤ range_end)
unfolding floor_quotient
by_negative a (pos m) h p = negative-pos m p
by_negative a (negsuc m) h p = (refl, omega (arith, floor_mag (neg_ℤ a) (suc m), mag_neg a))

-- ---- a number variable's word

pub lowered : (n : ℕ) → n < 2 ^ 32 → mag (pos n -ℤ pos range_end) < range_end
lowered n h = by_test (ltb n range_end) (ltb-true n range_end) (ltb-false n range_end)
  where
    by_test : (t : Bool) → (t ≡ true → n < range_end) → (t ≡ false → range_end ≤ n) → mag (cond t (negsuc (range_end - suc n)) (pos (n - range_end))) < range_end
    by_test true f g = let k : n < range_end = f refl in omega arith
    by_test false f g = let k : range_end ≤ n = g refl in omega arith

pub lowered_fits : (n : ℕ) → n < 2 ^ 32 → SFits w64 (pos n -ℤ pos range_end)
lowered_fits n h = record { sfits = omega (arith, lowered n h) }

pub raised : (z : ℤ) → mag z < range_end → (n : ℕ) × (z +ℤ pos range_end ≡ pos n) × (n < 2 ^ 32)
raised (pos n) h = (n + range_end, refl, omega arith)
raised (negsuc n) h = (range_end - suc n, rw (le-ltb range_end (suc n) (omega arith)), omega arith)

pub raised_fits : (z : ℤ) → mag z < range_end → SFits w64 (z +ℤ pos range_end)
raised_fits z h = record { sfits = omega (arith, mag_sum z (pos range_end)) }

-- the number of a number's word is the number
pub word_back : (r : ℕ) (z : ℤ) → pos r ≡ z +ℤ pos range_end → r < 2 ^ 32 → pos (r % 2 ^ 32) -ℤ pos range_end ≡ z
word_back r z e h =
    let low : r % 2 ^ 32 ≡ r = omega arith in
    ap (λ (n : ℕ). pos n -ℤ pos range_end) low ∙ ap (λ (x : ℤ). x -ℤ pos range_end) e ∙ +ℤ-neg_ℤ_cancel z (pos range_end)
