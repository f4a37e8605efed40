-- Differences and quotients around a sum that is known, by place.
use Prim.Native.Nat.{ℕ, ◌+◌, ◌<◌}
use mathlib.Core.Path.{◌≡◌, refl}
use mathlib.Core.List.{List}
use native.Mathlib.Omega.{arith}
use lib.ListN.{length, get_or}
use lib.IntN.{ℤ}
use Rattle.std.specs.Prelude.{Option}
use Rattle.eval_sets.specs.declared.first_bytes.Operation.TheVariants as Op
use Rattle.eval_sets.specs.Forms.{number_form}
use Rattle.cursor.specs.Places.{Stands, Begins}
use Rattle.cursor.specs.Told.{NumberTo, NumberTold}
use Rattle.cursor.specs.Codes.{OperationTold, QuotientTold}
use Rattle.cursor.proofs.NumberLaws.{two_told}
use Rattle.nested.specs.Known.{KnownAt, LessForm}

module _ (bytes words state : List ℕ) where
  -- 23 and two numbers
  pub less_told : {p q r : ℕ} {x y : ℤ} → Begins bytes p 0x23 → NumberTo bytes words state (p + 1) x q → NumberTo bytes words state q y r → (a : Option ℤ) → OperationTold 0x23 x y a
      → NumberTold bytes words state p a r
  unfolding number_form
  less_told begins first second = two_told bytes words state {o = Op.Difference} begins refl first second

  -- 25 and two numbers
  pub quotient_told : {p q r : ℕ} {x y : ℤ} → Begins bytes p 0x25 → NumberTo bytes words state (p + 1) x q → NumberTo bytes words state q y r → (a : Option ℤ) → QuotientTold x y a
      → NumberTold bytes words state p a r
  unfolding number_form
  quotient_told begins first second = two_told bytes words state {o = Op.Quotient} begins refl first second

  -- 23 20 and a number, and another behind it
  pub literal_less_told : {p q : ℕ} {z x : ℤ} → LessForm bytes p → NumberTo bytes words state (p + 1) z (p + 1 + 5) → NumberTo bytes words state (p + 6) x q → (a : Option ℤ) → OperationTold 0x23 z x a
      → NumberTold bytes words state p a q
  literal_less_told {p} form first second =
      let on : p + 1 + 5 ≡ p + 6 = omega arith in
      less_told (record { there = record { inside = omega (arith, form.there.inside); near = omega (arith, form.there.near) }; byte = form.less }) (rw on at first) second

  -- the sum that is known, and 23, this sum and a number variable
  pub known_here : {p place : ℕ} {z : ℤ} → KnownAt bytes words state place z → p ≡ place → p < length bytes → NumberTo bytes words state p z (p + 6)
  known_here known e l = rw e (known (rw e at l))

  pub known_first : {p place : ℕ} {z : ℤ} → KnownAt bytes words state place z → p + 1 ≡ place → Stands bytes p 9 → NumberTo bytes words state (p + 1) z (p + 7)
  known_first {p} known e there =
      let on : p + 1 + 6 ≡ p + 7 = omega arith in
      rw on at (known_here {p = p + 1} known e (omega (arith, there.inside)))

  pub known_less_told : {p place : ℕ} {z v : ℤ} → KnownAt bytes words state place z → p + 1 ≡ place → Stands bytes p 9 → get_or bytes p 0 ≡ 0x23 → NumberTo bytes words state (p + 7) v (p + 7 + 2) → (a : Option ℤ) → OperationTold 0x23 z v a
      → NumberTold bytes words state p a (p + 9)
  known_less_told {p} known e there byte second =
      let on : p + 7 + 2 ≡ p + 9 = omega arith in
      less_told (record { there = record { inside = omega (arith, there.inside); near = omega (arith, there.near) }; byte = byte }) (known_first known e there) (rw on at second)
