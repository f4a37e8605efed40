-- The value of an expression in a state. Sets and elements always have one; numbers and conditions may meet trouble.
-- docs/FORMAT.md, "Expressions" and "Values".
use Rattle.std.specs.Prelude.{ℕ, ◌+◌, ◌*◌, ◌^◌, Bool, true, false, cond, not, ◌&&◌, List, [], ◌∷◌, length, get_or, eqb, ℤ, pos, ◌+ℤ◌, ◌-ℤ◌, ◌*ℤ◌}
use Rattle.std.specs.Int.Signed.{lt_z, le_z, mag}
use Rattle.model.specs.Values.{Value, value, ◌>>=◌, in_range, floor_quotient}
use Rattle.model.specs.Sets as S
use Rattle.model.specs.Syntax.{Element, object, element_variable, Set, some_of, set_variable, add, remove, union, intersection, difference, complement, Number, literal, number_variable, plus, minus, times, quotient, lesser, greater, entry, size, total, choice, Condition, equal, less, at_most, same, member, is_empty, subset, negation, both, either, set_count, Expression, of_set, of_element, of_number, Table, table_at}

-- the values of the variables: a number as it is, an element by its object, a set by the number of its members' bits
abbrev pub State : Type 0
State = List ℤ

unfoldable pub number_at : State → ℕ → ℤ
number_at s v = get_or s v (pos 0)

unfoldable pub natural_at : State → ℕ → ℕ
natural_at s v = mag (number_at s v)

unfoldable pub element_value : Element → State → ℕ
element_value (object k) s = k
element_value (element_variable n v) s = natural_at s v

unfoldable pub set_value : Set → State → ℕ
set_value (some_of n w) s = w
set_value (set_variable n v) s = natural_at s v
set_value (add e x) s = S.union (2 ^ element_value e s) (set_value x s)
set_value (remove e x) s = S.difference (set_value x s) (2 ^ element_value e s)
set_value (union x y) s = S.union (set_value x s) (set_value y s)
set_value (intersection x y) s = S.intersection (set_value x s) (set_value y s)
set_value (difference x y) s = S.difference (set_value x s) (set_value y s)
set_value (complement x) s = S.complement (set_count x) (set_value x s)

unfoldable pub equal_z : ℤ → ℤ → Bool
equal_z a b = le_z a b && le_z b a

-- the entry of a table at row i, column j
unfoldable pub entry_at : Table → (i j : ℕ) → ℤ
entry_at t i j = get_or t.entries (i * t.columns + j) (pos 0)

unfoldable pub sum_over : (ℕ → ℤ) → List ℕ → ℤ
sum_over f [] = pos 0
sum_over f (k ∷ l) = f k +ℤ sum_over f l

-- "an expression's operands from left to right"
unfoldable pub two : {A B C : Type 0} → Value A → Value B → (A → B → Value C) → Value C
two x y f = do
  a ← x
  b ← y
  f a b

-- "Every value of a number expression lies in" the range; "in 2A only the total must".
-- "And/or skip the second part when the first decides; 2B evaluates only the chosen part"
module _ (end : ℕ) (tables : List Table) where
  unfoldable pub fit : ℤ → Value ℤ
  fit z = in_range end z

  unfoldable mutual
    pub number_value : Number → State → Value ℤ
    number_value (literal z) s = fit z
    number_value (number_variable v) s = fit (number_at s v)
    number_value (plus x y) s = two (number_value x s) (number_value y s) (λ a b. fit (a +ℤ b))
    number_value (minus x y) s = two (number_value x s) (number_value y s) (λ a b. fit (a -ℤ b))
    number_value (times x y) s = two (number_value x s) (number_value y s) (λ a b. fit (a *ℤ b))
    number_value (quotient x y) s = two (number_value x s) (number_value y s) (λ a b. floor_quotient a b >>= fit)
    number_value (lesser x y) s = two (number_value x s) (number_value y s) (λ a b. fit (cond (le_z a b) a b))
    number_value (greater x y) s = two (number_value x s) (number_value y s) (λ a b. fit (cond (le_z a b) b a))
    number_value (entry t x y) s = fit (entry_at (table_at tables t) (element_value x s) (element_value y s))
    number_value (size x) s = fit (pos (length (S.members (set_value x s))))
    number_value (total t x y) s = fit (sum_over (λ i. entry_at (table_at tables t) i (element_value y s)) (S.members (set_value x s)))
    number_value (choice c x y) s = condition_value c s >>= λ holds. cond holds (number_value x s) (number_value y s)

    pub condition_value : Condition → State → Value Bool
    condition_value (equal x y) s = two (number_value x s) (number_value y s) (λ a b. value (equal_z a b))
    condition_value (less x y) s = two (number_value x s) (number_value y s) (λ a b. value (lt_z a b))
    condition_value (at_most x y) s = two (number_value x s) (number_value y s) (λ a b. value (le_z a b))
    condition_value (same x y) s = value (eqb (element_value x s) (element_value y s))
    condition_value (member x y) s = value (S.is_member (element_value x s) (set_value y s))
    condition_value (is_empty x) s = value (eqb (set_value x s) 0)
    condition_value (subset x y) s = value (S.is_subset (set_value x s) (set_value y s))
    condition_value (negation c) s = condition_value c s >>= λ holds. value (not holds)
    condition_value (both c d) s = condition_value c s >>= λ holds. cond holds (condition_value d s) (value false)
    condition_value (either c d) s = condition_value c s >>= λ holds. cond holds (value true) (condition_value d s)

  unfoldable pub expression_value : Expression → State → Value ℤ
  expression_value (of_set x) s = value (pos (set_value x s))
  expression_value (of_element x) s = value (pos (element_value x s))
  expression_value (of_number x) s = number_value x s

  -- "Conditions and constraints are tried in order to the first that fails"
  unfoldable pub all_hold : List Condition → State → Value Bool
  all_hold [] s = value true
  all_hold (c ∷ cs) s = condition_value c s >>= λ holds. cond holds (all_hold cs s) (value false)

  -- "base cases to the first that holds"
  unfoldable pub some_holds : List (List Condition) → State → Value Bool
  some_holds [] s = value false
  some_holds (b ∷ bs) s = all_hold b s >>= λ holds. cond holds (value true) (some_holds bs s)
