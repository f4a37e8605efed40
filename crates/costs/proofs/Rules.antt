-- The two cost rules by the code's tests.
use Prim.Native.Nat.{ℕ, zero, suc, ◌+◌, max, ◌<◌}
use mathlib.Core.Path.{◌≡◌, refl, sym}
use mathlib.Core.Bool.{true, false}
use native.Mathlib.Omega.{arith}
use Rattle.model.specs.Commands.{rule_of}
use Rattle.model.specs.declared.Cost.{Cost}
use Rattle.model.specs.Costs.{at_most, join, join_moves, combine}
use Rattle.model.proofs.Costs.{at_most_hours, not_at_most_hours}

-- rule 0: part by part
pub by_sum : (rule : ℕ) (a b : Cost) → rule ≡ 0 → ◌≡◌ {A = Cost} (record { high = a.high + b.high; low = a.low + b.low; moves = a.moves + b.moves }) (combine (rule_of rule) a b)
unfolding combine join join_moves rule_of
by_sum zero a b e = refl
by_sum (suc n) a b e = absurd (omega arith)

-- any other: hours and moves of the larger cost, and the larger low figure
pub by_second : (rule : ℕ) (a b : Cost) (low : ℕ) → 0 < rule → low ≡ max a.low b.low → true ≡ at_most a b → ◌≡◌ {A = Cost} (record { high = b.high; low = low; moves = b.moves }) (combine (rule_of rule) a b)
unfolding combine join join_moves rule_of
by_second zero a b low p q e = absurd (omega arith)
by_second (suc n) a b low p q e =
    let top : b.high ≡ max a.high b.high = omega (arith, at_most_hours a b (sym e)) in
    rw (← e, q, ← top)

pub by_first : (rule : ℕ) (a b : Cost) (low : ℕ) → 0 < rule → low ≡ max a.low b.low → false ≡ at_most a b → ◌≡◌ {A = Cost} (record { high = a.high; low = low; moves = a.moves }) (combine (rule_of rule) a b)
unfolding combine join join_moves rule_of
by_first zero a b low p q e = absurd (omega arith)
by_first (suc n) a b low p q e =
    let top : a.high ≡ max a.high b.high = omega (arith, not_at_most_hours a b (sym e)) in
    rw (← e, q, ← top)
