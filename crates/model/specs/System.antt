-- The promises of the lower layer: all that plans and the search know of a model. Costs are any ordered costs that combine.
-- docs/FORMAT.md, "States and steps" and "Bounds and preferences".
use Rattle.std.specs.Prelude.{ℕ, ◌≡◌, Bool, true, false}
use Rattle.model.specs.Values.{Value}

-- empty: the cost of the empty plan. combine: by the cost rule, sum or largest. at_most: the order
pub record Costs (C : Type 0) : Type 0 where
  pub empty : C
  pub combine : C → C → C
  pub at_most : C → C → Bool

-- what a cost rule has to satisfy; antisymmetry is not asked for
pub record CostLaws {C : Type 0} (K : Costs C) : Type 0 where
  pub reflexive : (a : C) → K.at_most a a ≡ true
  pub transitive : (a b c : C) → K.at_most a b ≡ true → K.at_most b c ≡ true → K.at_most a c ≡ true
  pub total : (a b : C) → K.at_most a b ≡ false → K.at_most b a ≡ true
  pub least : (a : C) → K.at_most K.empty a ≡ true
  pub monotone : (a b c d : C) → K.at_most a b ≡ true → K.at_most c d ≡ true → K.at_most (K.combine a c) (K.combine b d) ≡ true
  pub associative : (a b c : C) → K.combine (K.combine a b) c ≡ K.combine a (K.combine b c)
  pub left_unit : (a : C) → K.combine K.empty a ≡ a
  pub right_unit : (a : C) → K.combine a K.empty ≡ a

-- "In a base state, trying the base cases ends with one that holds; in an unfinished state it ends with none and without trouble"
pub data Status : Type 0 where
  base : Status
  unfinished : Status
  no_status : ℕ → Status

-- what trying a transition in a state comes to: blocked by a condition or a constraint; moved, at a cost, to a new state;
-- trouble in its conditions, cost or effects; trouble in the new state's constraints, at the step's cost
pub data Move (S C : Type 0) : Type 0 where
  blocked : Move S C
  moved : C → S → Move S C
  trouble_before : ℕ → Move S C
  trouble_after : C → ℕ → Move S C

-- admits: whether the state meets all constraints. transitions: how many there are. bound: h. dominates: the first state the second
pub record System (S C : Type 0) : Type 0 where
  pub admits : S → Value Bool
  pub status : S → Status
  pub transitions : ℕ
  pub move : S → ℕ → Move S C
  pub bound : S → Value C
  pub dominates : S → S → Bool

-- the state where the rounds start, and what was spent on the way to it
pub record Origin (S C : Type 0) : Type 0 where
  pub start : S
  pub spent : C
