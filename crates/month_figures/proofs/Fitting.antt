-- Counts never outnumber the answers, and the sum never passes as many times the most that a plan may cost.
use Prim.Native.Nat.{ℕ, ◌+◌, ◌*◌, ◌^◌, ◌≤◌, ◌<◌}
use mathlib.Core.List.{List, [], ◌∷◌}
use native.Mathlib.Omega.{arith}
use native.Mathlib.Nat.{suc-mul, mul-le-mul}
use lib.ListN.{length}
use Rattle.laws.specs.Lists.{All}
use Rattle.laws.proofs.Bools.{by_cond}
use Rattle.month_names.specs.Names.{most_names}
use Rattle.month_figures.specs.Closing.{Taken, gives, is_refused, count_in, refused_in, cheapest_in, gather, costs}
use Rattle.month_figures.specs.Kept.{figures_of, Roomy}

-- where each is at most so much, the sum is at most that many times
sum_below : (f : Taken → ℕ) (most : ℕ) (l : List Taken) → All (λ x. f x ≤ most) l → gather ◌+◌ f l ≤ length l * most
unfolding gather
sum_below f most [] h = omega arith
sum_below f most (x ∷ l) h = omega (arith, h.0, sum_below f most l h.1, suc-mul (length l) most)

all_of : (f : Taken → ℕ) (most : ℕ) → ((x : Taken) → f x ≤ most) → (l : List Taken) → All (λ x. f x ≤ most) l
all_of f most h [] = tt
all_of f most h (x ∷ l) = (h x, all_of f most h l)

count_below : (v : ℕ) (x : Taken) → count_in v x ≤ 1
unfolding count_in
count_below v x = by_cond (λ (n : ℕ). n ≤ 1) (gives v x) (λ _. omega arith) (λ _. omega arith)

refused_below : (x : Taken) → refused_in x ≤ 1
unfolding refused_in
refused_below x = by_cond (λ (n : ℕ). n ≤ 1) (is_refused x) (λ _. omega arith) (λ _. omega arith)

-- the cost of an answer that is marked cheapest is at most so much
abbrev pub CostWithin : (most : ℕ) → Taken → Type 0
CostWithin most x = cheapest_in x ≤ most

pub counts_within : (v : ℕ) (l : List Taken) → gather ◌+◌ (count_in v) l ≤ length l
counts_within v l = omega (arith, sum_below (count_in v) 1 l (all_of (count_in v) 1 (count_below v) l))

pub refusals_within : (l : List Taken) → gather ◌+◌ refused_in l ≤ length l
refusals_within l = omega (arith, sum_below refused_in 1 l (all_of refused_in 1 refused_below l))

pub costs_within : (most : ℕ) (l : List Taken) → All (CostWithin most) l → costs l ≤ length l * most
costs_within most l h = sum_below cheapest_in most l h

-- a thousand costs below 2 ^ 53 each have a sum below 2 ^ 63
pub sum_fits : (most : ℕ) (l : List Taken) → length l ≤ most_names → most < 2 ^ 53 → All (CostWithin most) l → costs l < 2 ^ 63
sum_fits most l few small h =
    let k : length l * most ≤ most_names * most = mul-le-mul few (omega arith) in
    omega (arith, costs_within most l h)

pub figures_roomy : (most : ℕ) (l : List Taken) → length l ≤ most_names → most < 2 ^ 53 → All (CostWithin most) l → Roomy (figures_of l)
unfolding figures_of
figures_roomy most l few small h =
    record {
      names = omega arith;
      cheapest = omega (arith, counts_within 0 l);
      planless = omega (arith, counts_within 1 l);
      width = omega (arith, counts_within 2 l);
      length = omega (arith, counts_within 3 l);
      budget = omega (arith, counts_within 4 l);
      contradicted = omega (arith, counts_within 5 l);
      refused = omega (arith, refusals_within l);
      sum = sum_fits most l few small h;
    }
