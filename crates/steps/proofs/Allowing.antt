-- Laws of the mask of the transitions whose guards pass: it has a bit for each, and the first one's is the lowest.
use Prim.Native.Nat.{ℕ, zero, suc, ◌+◌, ◌-◌, ◌*◌, ◌^◌, ◌<◌}
use mathlib.Core.Path.{◌≡◌}
use mathlib.Core.Bool.{Bool, true, false, cond}
use mathlib.Core.List.{List}
use native.Mathlib.Nat.{pow-suc}
use native.Mathlib.Omega.{arith}
use Rattle.steps.specs.Allowed.{passes_at, allowed_from}

pub digit_below : (b : Bool) → cond {A = ℕ} b 1 0 < 2
digit_below true = omega arith
digit_below false = omega arith

module _ (words state : List ℕ) where
  pub allowed_below : (n t : ℕ) → allowed_from words state n t < 2 ^ n
  unfolding allowed_from
  allowed_below zero t = omega arith
  allowed_below (suc n) t = omega (arith, pow-suc 2 n, digit_below (passes_at words state t), allowed_below n (t + 1))

  -- one transition more, before the others
  pub allowed_more : (t end : ℕ) → t < end → allowed_from words state (end - t) t ≡ cond (passes_at words state t) 1 0 + 2 * allowed_from words state (end - (t + 1)) (t + 1)
  unfolding allowed_from
  allowed_more t end h = let e : end - t ≡ suc (end - (t + 1)) = omega arith in rw e
