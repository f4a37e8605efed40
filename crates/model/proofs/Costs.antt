-- Both cost rules obey the laws that the search asks for, over costs of hours and moves and over hours alone.
-- Joined by the largest rule, two costs are the least that is no less than either; associativity and the units follow from that.
use Prim.Native.Nat.{ℕ, ◌+◌, ◌≤◌, ◌<◌}
use mathlib.Core.Path.{◌≡◌, refl}
use mathlib.Core.Logic.{inl, inr}
use mathlib.Core.Bool.{Bool, true, false, ◌&&◌}
use native.Mathlib.Omega.{arith}
use lib.Dec.{leb, ltb, eqb}
use borrow.Author.Tests.{leb-true, leb-false, le-leb, ltb-true, ltb-false, lt-ltb, le-ltb, eqb-true, eq-eqb, ne_eqb}
use Rattle.laws.proofs.Bools.{and_both, and_second, or_either, or_neither, or_first, or_second}
use Rattle.model.specs.System.{CostLaws}
use Rattle.model.specs.Syntax.{Rule, sum, largest}
use Rattle.model.specs.declared.Cost.{Cost}
use Rattle.model.specs.Costs.{free, hours, at_most, join, join_moves, combine, costs_of, hours_of, CostUpTo}

-- ---- hours alone

join_monotone : (rule : Rule) (a b c d : ℕ) → a ≤ b → c ≤ d → join rule a c ≤ join rule b d
unfolding join
join_monotone sum a b c d p q = omega arith
join_monotone largest a b c d p q = omega arith

join_associative : (rule : Rule) (a b c : ℕ) → join rule (join rule a b) c ≡ join rule a (join rule b c)
unfolding join
join_associative sum a b c = omega arith
join_associative largest a b c = omega arith

join_left_unit : (rule : Rule) (a : ℕ) → join rule 0 a ≡ a
unfolding join
join_left_unit sum a = omega arith
join_left_unit largest a = omega arith

join_right_unit : (rule : Rule) (a : ℕ) → join rule a 0 ≡ a
unfolding join
join_right_unit sum a = omega arith
join_right_unit largest a = omega arith

join_at_most_sum : (rule : Rule) (a b : ℕ) → join rule a b ≤ a + b
unfolding join
join_at_most_sum sum a b = omega arith
join_at_most_sum largest a b = omega arith

pub hours_laws : (rule : Rule) → CostLaws (hours_of rule)
unfolding hours_of
hours_laws rule = record {
  reflexive = λ a. le-leb a a (omega arith);
  transitive = λ a b c p q. le-leb a c (omega (arith, leb-true a b p, leb-true b c q));
  total = λ a b p. le-leb b a (omega (arith, leb-false a b p));
  least = λ a. le-leb 0 a (omega arith);
  monotone = λ a b c d p q. le-leb _ _ (join_monotone rule a b c d (leb-true a b p) (leb-true c d q));
  associative = join_associative rule;
  left_unit = join_left_unit rule;
  right_unit = join_right_unit rule;
}

-- ---- the order of costs, by its two ways

data Ordered (a b : Cost) : Type 0 where
  by_hours : a.high < b.high → Ordered a b
  by_moves : a.high ≡ b.high → a.moves ≤ b.moves → Ordered a b

-- as the definition's test tells it
ordered : (a b : Cost) → at_most a b ≡ true → Ordered a b
unfolding at_most
ordered a b e =
    elim (or_either (ltb a.high b.high) (eqb a.high b.high && leb a.moves b.moves) e) [
      | inl x ↦ by_hours (ltb-true a.high b.high x)
      | inr x ↦ let y = and_both _ _ x in by_moves (eqb-true a.high b.high y.0) (leb-true a.moves b.moves y.1)
    ]

tested : {a b : Cost} → Ordered a b → at_most a b ≡ true
unfolding at_most
tested {a} {b} (by_hours h) = or_first _ _ (lt-ltb a.high b.high h)
tested {a} {b} (by_moves e h) = or_second (ltb a.high b.high) (eqb a.high b.high && leb a.moves b.moves) (rw (eq-eqb a.high b.high e) (le-leb a.moves b.moves h))

-- a cost that is not at most another is no less
turned : (a b : Cost) → at_most a b ≡ false → Ordered b a
unfolding at_most
turned a b e = pick (ltb b.high a.high) refl
  where
    pick : (x : Bool) → ltb b.high a.high ≡ x → Ordered b a
    pick true p = by_hours (ltb-true b.high a.high p)
    pick false p =
        let y = or_neither _ _ e in
        let same : a.high ≡ b.high = omega (arith, ltb-false b.high a.high p, ltb-false a.high b.high y.0) in
        let z = and_second (eqb a.high b.high) (leb a.moves b.moves) y.1 (eq-eqb a.high b.high same) in
        by_moves (omega arith) (omega (arith, leb-false a.moves b.moves z))

ordered_through : {a b c : Cost} → Ordered a b → Ordered b c → Ordered a c
ordered_through (by_hours p) (by_hours q) = by_hours (omega arith)
ordered_through (by_hours p) (by_moves q i) = by_hours (omega arith)
ordered_through (by_moves p h) (by_hours q) = by_hours (omega arith)
ordered_through (by_moves p h) (by_moves q i) = by_moves (omega arith) (omega arith)

itself : {a : Cost} → Ordered a a
itself = by_moves refl (omega arith)

same_moves : {a b : Cost} → Ordered a b → Ordered b a → a.moves ≡ b.moves
same_moves (by_hours p) (by_hours q) = absurd (omega arith)
same_moves (by_hours p) (by_moves q i) = absurd (omega arith)
same_moves (by_moves p h) (by_hours q) = absurd (omega arith)
same_moves (by_moves p h) (by_moves q i) = omega arith

hours_within : {a b : Cost} → Ordered a b → a.high ≤ b.high
hours_within (by_hours p) = omega arith
hours_within (by_moves p h) = omega arith

-- no more hours, and no moves
of_hours : (a b : Cost) → a.high ≤ b.high → a.moves ≡ 0 → Ordered a b
of_hours a b le z = pick (ltb a.high b.high) refl
  where
    pick : (x : Bool) → ltb a.high b.high ≡ x → Ordered a b
    pick true e = by_hours (ltb-true a.high b.high e)
    pick false e = by_moves (omega (arith, ltb-false a.high b.high e)) (omega arith)

free_least : (a : Cost) → Ordered free a
free_least a = of_hours free a (omega arith) refl

-- of the same hours and moves as the second, or as the first
second_as : {a b c : Cost} → Ordered a b → c.high ≡ b.high → c.moves ≡ b.moves → Ordered a c
second_as (by_hours p) e f = by_hours (omega arith)
second_as (by_moves p h) e f = by_moves (omega arith) (omega arith)

first_as : {a b c : Cost} → Ordered a b → c.high ≡ a.high → c.moves ≡ a.moves → Ordered c b
first_as (by_hours p) e f = by_hours (omega arith)
first_as (by_moves p h) e f = by_moves (omega arith) (omega arith)

-- ---- the larger of two costs

-- c has the hours and the moves of the larger one
data Larger (a b c : Cost) : Type 0 where
  the_first : Ordered b a → c.high ≡ a.high → c.moves ≡ a.moves → Larger a b c
  the_second : Ordered a b → c.high ≡ b.high → c.moves ≡ b.moves → Larger a b c

larger : (a b : Cost) → Larger a b (combine largest a b)
unfolding combine join join_moves
larger a b = pick (at_most a b) refl
  where
    pick : (x : Bool) → at_most a b ≡ x → Larger a b (combine largest a b)
    pick true p = let l = ordered a b p in the_second l (omega (arith, hours_within l)) (rw p)
    pick false p = let l = turned a b p in the_first l (omega (arith, hours_within l)) (rw p)

above_first : {a b c : Cost} → Larger a b c → Ordered a c
above_first (the_first l p q) = second_as itself p q
above_first (the_second l p q) = second_as l p q

above_second : {a b c : Cost} → Larger a b c → Ordered b c
above_second (the_first l p q) = second_as l p q
above_second (the_second l p q) = second_as itself p q

least_above : {a b c x : Cost} → Larger a b c → Ordered a x → Ordered b x → Ordered c x
least_above (the_first l p q) f g = first_as f p q
least_above (the_second l p q) f g = first_as g p q

-- ---- the laws

sum_monotone : {a b c d : Cost} → Ordered a b → Ordered c d → Ordered (combine sum a c) (combine sum b d)
unfolding combine join join_moves
sum_monotone (by_hours p) (by_hours q) = by_hours (omega arith)
sum_monotone (by_hours p) (by_moves q i) = by_hours (omega arith)
sum_monotone (by_moves p h) (by_hours q) = by_hours (omega arith)
sum_monotone (by_moves p h) (by_moves q i) = by_moves (omega arith) (omega arith)

combine_monotone : (rule : Rule) {a b c d : Cost} → Ordered a b → Ordered c d → Ordered (combine rule a c) (combine rule b d)
combine_monotone sum p q = sum_monotone p q
combine_monotone largest {a} {b} {c} {d} p q = least_above (larger a c) (ordered_through p (above_first (larger b d))) (ordered_through q (above_second (larger b d)))

moves_associative : (rule : Rule) (a b c : Cost) → (combine rule (combine rule a b) c).moves ≡ (combine rule a (combine rule b c)).moves
unfolding combine join_moves
moves_associative sum a b c = omega arith
moves_associative largest a b c =
    let ab = larger a b in
    let bc = larger b c in
    let left = larger (combine largest a b) c in
    let right = larger a (combine largest b c) in
    same_moves
    (least_above left (least_above ab (above_first right) (ordered_through (above_first bc) (above_second right))) (ordered_through (above_second bc) (above_second right)))
    (least_above right (ordered_through (above_first ab) (above_first left)) (least_above bc (ordered_through (above_second ab) (above_first left)) (above_second left)))

moves_left_unit : (rule : Rule) (a : Cost) → (combine rule free a).moves ≡ a.moves
unfolding combine join_moves
moves_left_unit sum a = omega arith
moves_left_unit largest a = same_moves (least_above (larger free a) (free_least a) itself) (above_second (larger free a))

moves_right_unit : (rule : Rule) (a : Cost) → (combine rule a free).moves ≡ a.moves
unfolding combine join_moves
moves_right_unit sum a = omega arith
moves_right_unit largest a = same_moves (least_above (larger a free) itself (free_least a)) (above_first (larger a free))

same_cost : {h i l k n j : ℕ} → h ≡ i → l ≡ k → n ≡ j → ◌≡◌ {A = Cost} (record { high = h; low = l; moves = n }) (record { high = i; low = k; moves = j })
same_cost p q r = cc

combine_associative : (rule : Rule) (a b c : Cost) → combine rule (combine rule a b) c ≡ combine rule a (combine rule b c)
unfolding combine
combine_associative rule a b c = same_cost (join_associative rule a.high b.high c.high) (join_associative rule a.low b.low c.low) (moves_associative rule a b c)

combine_left_unit : (rule : Rule) (a : Cost) → combine rule free a ≡ a
unfolding combine
combine_left_unit rule a = same_cost (join_left_unit rule a.high) (join_left_unit rule a.low) (moves_left_unit rule a)

combine_right_unit : (rule : Rule) (a : Cost) → combine rule a free ≡ a
unfolding combine
combine_right_unit rule a = same_cost (join_right_unit rule a.high) (join_right_unit rule a.low) (moves_right_unit rule a)

pub cost_laws : (rule : Rule) → CostLaws (costs_of rule)
unfolding costs_of
cost_laws rule = record {
  reflexive = λ a. tested itself;
  transitive = λ a b c p q. tested (ordered_through (ordered a b p) (ordered b c q));
  total = λ a b p. tested (turned a b p);
  least = λ a. tested (free_least a);
  monotone = λ a b c d p q. tested (combine_monotone rule (ordered a b p) (ordered c d q));
  associative = combine_associative rule;
  left_unit = combine_left_unit rule;
  right_unit = combine_right_unit rule;
}

-- ---- each part

moves_at_most_sum : (rule : Rule) (a b : Cost) → join_moves rule a b ≤ a.moves + b.moves
unfolding join_moves
moves_at_most_sum sum a b = omega arith
moves_at_most_sum largest a b = pick (at_most a b) refl
  where
    pick : (x : Bool) → at_most a b ≡ x → join_moves largest a b ≤ a.moves + b.moves
    pick true p = rw p (omega arith)
    pick false p = rw p (omega arith)

-- by either rule each part of two costs comes to no more than its sum
pub combine_up_to : (rule : Rule) {a b : Cost} {n k : ℕ} → CostUpTo n a → CostUpTo k b → CostUpTo (n + k) (combine rule a b)
unfolding combine
combine_up_to rule {a} {b} p q = record {
  high_within = omega (arith, join_at_most_sum rule a.high b.high, p.high_within, q.high_within);
  low_within = omega (arith, join_at_most_sum rule a.low b.low, p.low_within, q.low_within);
  moves_within = omega (arith, moves_at_most_sum rule a b, p.moves_within, q.moves_within);
}

-- a cost at most another has at most its hours
pub at_most_hours : (a b : Cost) → at_most a b ≡ true → a.high ≤ b.high
at_most_hours a b e = hours_within (ordered a b e)

-- and one that is not at most another has at least its hours
pub not_at_most_hours : (a b : Cost) → at_most a b ≡ false → b.high ≤ a.high
not_at_most_hours a b e = hours_within (turned a b e)

-- no more hours, and no moves
pub hours_at_most : (a b : Cost) → a.high ≤ b.high → a.moves ≡ 0 → at_most a b ≡ true
hours_at_most a b le z = tested (of_hours a b le z)

-- f has the low figure of g
pub f_low : (rule : Rule) (g : Cost) (h : ℕ) → (combine rule g (hours h)).low ≡ g.low
unfolding combine
f_low rule g h = join_right_unit rule g.low

-- ---- the order by tests, as code makes them

pub at_most_fewer : (a b : Cost) → a.high < b.high → at_most a b ≡ true
at_most_fewer a b h = tested (by_hours h)

pub at_most_equal : (a b : Cost) → a.high ≡ b.high → at_most a b ≡ leb a.moves b.moves
unfolding at_most
at_most_equal a b e = rw (le-ltb a.high b.high (omega arith), eq-eqb a.high b.high e)

pub at_most_dearer : (a b : Cost) → b.high < a.high → at_most a b ≡ false
unfolding at_most
at_most_dearer a b h = rw (le-ltb a.high b.high (omega arith), ne_eqb a.high b.high (λ e. absurd (omega arith)))
