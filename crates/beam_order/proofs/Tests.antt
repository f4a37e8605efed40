-- "By f, then h", of costs, is five tests of numbers: the hours of f both ways, its moves both ways, then h.
use Prim.Native.Nat.{ℕ}
use mathlib.Core.Path.{◌≡◌, refl, sym}
use mathlib.Core.Bool.{Bool, true, false, cond, not, ◌&&◌, ◌||◌}
use native.Mathlib.Omega.{arith}
use borrow.Author.Tests.{leb-true, leb-false, ltb-true, ltb-false, lt-ltb, le-ltb, le-leb, lt-leb}
use lib.Dec.{leb, ltb}
use Rattle.model.specs.Syntax.{sum}
use Rattle.model.specs.declared.Cost.{Cost}
use Rattle.model.specs.Costs.{hours, at_most, costs_of}
use Rattle.model.proofs.Costs.{cost_laws, at_most_fewer, at_most_equal, at_most_dearer}

-- a number is not at most another where the other is less
pub not_at_most : (a b : ℕ) → not (leb b a) ≡ ltb a b
not_at_most a b = by_test (leb b a) refl
  where
    by_test : (t : Bool) → leb b a ≡ t → not t ≡ ltb a b
    by_test true e = rw (le-ltb a b (leb-true b a e))
    by_test false e = rw (lt-ltb a b (leb-false b a e))

-- one number by its tests both ways, and then what is left
abbrev pub tests : (a b : ℕ) → Bool → Bool
tests a b rest = cond (ltb a b) true (cond (ltb b a) false rest)

-- "less, or no greater and the rest" is these tests
pub number_by_tests : (a b : ℕ) (rest : Bool) → (not (leb b a) || (leb a b && rest)) ≡ tests a b rest
number_by_tests a b rest = rw (not_at_most a b) (by_tests (ltb a b) (ltb b a) refl)
  where
    by_tests : (t u : Bool) → ltb b a ≡ u → (t || (leb a b && rest)) ≡ cond t true (cond u false rest)
    by_tests true u e = refl
    by_tests false true e = rw (lt-leb a b (ltb-true b a e))
    by_tests false false e = rw (le-leb a b (ltb-false b a e))

-- the same of costs: their hours, then their moves
cost_by_tests : (f e : Cost) (rest : Bool) → (not (at_most e f) || (at_most f e && rest)) ≡ tests f.high e.high (tests f.moves e.moves rest)
cost_by_tests f e rest = by_tests (ltb f.high e.high) (ltb e.high f.high) refl refl
  where
    by_tests : (t u : Bool) → ltb f.high e.high ≡ t → ltb e.high f.high ≡ u
        → (not (at_most e f) || (at_most f e && rest)) ≡ cond t true (cond u false (tests f.moves e.moves rest))
    by_tests true u p q = rw (at_most_dearer e f (ltb-true f.high e.high p))
    by_tests false true p q = rw (at_most_fewer e f (ltb-true e.high f.high q), at_most_dearer f e (ltb-true e.high f.high q))
    by_tests false false p q =
        let same : e.high ≡ f.high = omega (arith, ltb-false f.high e.high p, ltb-false e.high f.high q) in
        rw (at_most_equal e f same, at_most_equal f e (sym same)) (number_by_tests f.moves e.moves rest)

-- bounds are compared by their hours
pub hours_order : (h k : ℕ) → at_most (hours h) (hours k) ≡ leb h k
hours_order h k = by_tests (ltb h k) (ltb k h) refl refl
  where
    by_tests : (t u : Bool) → ltb h k ≡ t → ltb k h ≡ u → at_most (hours h) (hours k) ≡ leb h k
    by_tests true u p q = rw (at_most_fewer (hours h) (hours k) (ltb-true h k p), le-leb h k (omega (arith, ltb-true h k p)))
    by_tests false true p q = rw (at_most_dearer (hours h) (hours k) (ltb-true k h q), lt-leb h k (ltb-true k h q))
    by_tests false false p q =
        let same : h ≡ k = omega (arith, ltb-false h k p, ltb-false k h q) in
        rw (at_most_equal (hours h) (hours k) same, le-leb h k (omega arith), le-leb 0 0 (omega arith))

-- f and h of a node before those of another
pub before_by_tests : (f e : Cost) (h k : ℕ)
    → (not (at_most e f) || (at_most f e && not (at_most (hours k) (hours h)))) ≡ tests f.high e.high (tests f.moves e.moves (ltb h k))
before_by_tests f e h k = rw (hours_order k h, not_at_most h k) (cost_by_tests f e (ltb h k))

pub at_most_through : (a b c : Cost) → at_most a b ≡ true → at_most b c ≡ true → at_most a c ≡ true
unfolding costs_of
at_most_through a b c p q = (cost_laws sum).transitive a b c p q
