-- The profile for pure loading orders, document 02, §2: each transition takes one named member out of set variable 0, until none is left.
-- docs/FORMAT.md, "Loading profile".
use Rattle.std.specs.Prelude.{ℕ, max, Bool, false, cond, not, ◌&&◌, List, [], ◌∷◌, length, eqb}
use Rattle.std.proofs.Math.Option.{Option, none, some}
use Rattle.laws.specs.Lists.{any, filter}
use Rattle.model.specs.Sets.{members}
use Rattle.model.specs.Syntax.{Element, object, element_variable, Set, some_of, set_variable, add, remove, union, intersection, difference, complement, Condition, equal, less, at_most, same, member, is_empty, subset, negation, both, either, Expression, of_set, of_element, of_number, a_set, Variable, Effect, Transition, Model}
use Rattle.model.specs.Expressions.{kind_number}
use Rattle.model.specs.Meaning.{natural_at}
use Rattle.model.specs.Steps.{target}

-- f of a list's only member; b of a list without one, or with more
unfoldable pub of_only : {A B : Type 0} → (f : A → B) (b : B) → List A → B
of_only f b [] = b
of_only f b (x ∷ []) = f x
of_only f b (x ∷ y ∷ l) = b

-- 41 00
unfoldable pub is_variable_zero : Set → Bool
is_variable_zero (some_of n s) = false
is_variable_zero (set_variable n v) = eqb v 0
is_variable_zero (add e s) = false
is_variable_zero (remove e s) = false
is_variable_zero (union s t) = false
is_variable_zero (intersection s t) = false
is_variable_zero (difference s t) = false
is_variable_zero (complement s) = false

-- 30 k 41 00: the object k
unfoldable pub object_beside : Element → Set → Option ℕ
object_beside (object k) s = cond (is_variable_zero s) (some k) none
object_beside (element_variable n v) s = none

-- "a condition 54 with a literal object and variable 0": the object
unfoldable pub required_object : Condition → Option ℕ
required_object (equal x y) = none
required_object (less x y) = none
required_object (at_most x y) = none
required_object (same e f) = none
required_object (member e s) = object_beside e s
required_object (is_empty s) = none
required_object (subset s t) = none
required_object (negation c) = none
required_object (both c d) = none
required_object (either c d) = none

-- an expression that "removes that same literal from variable 0", as a whole 43 30 k 41 00: the object
unfoldable pub removed_by : Expression → Option ℕ
removed_by (of_set (some_of n s)) = none
removed_by (of_set (set_variable n v)) = none
removed_by (of_set (add e s)) = none
removed_by (of_set (remove e s)) = object_beside e s
removed_by (of_set (union s t)) = none
removed_by (of_set (intersection s t)) = none
removed_by (of_set (difference s t)) = none
removed_by (of_set (complement s)) = none
removed_by (of_element e) = none
removed_by (of_number x) = none

-- "its effect on variable 0", which is the only one on it: the object that it removes
unfoldable pub removed_object : List Effect → Option ℕ
removed_object fs = of_only (λ f. removed_by f.result) none (filter (λ f. eqb f.target 0) fs)

unfoldable pub same_object : Option ℕ → Option ℕ → Bool
same_object none k = false
same_object (some j) none = false
same_object (some j) (some k) = eqb j k

-- "Each transition has a condition 54 with a literal object and variable 0, and its effect on variable 0 removes that same literal from
-- variable 0": one of its conditions is such; others may stand beside it
unfoldable pub loads : Transition → Bool
loads t = any (λ c. same_object (required_object c) (removed_object t.effects)) t.conditions

-- "variable 0 is a set"
unfoldable pub begins_with_set : List Variable → Bool
begins_with_set [] = false
begins_with_set (x ∷ xs) = eqb (kind_number x.kind) (kind_number a_set)

-- 55 41 00
unfoldable pub asks_for_empty : Condition → Bool
asks_for_empty (equal x y) = false
asks_for_empty (less x y) = false
asks_for_empty (at_most x y) = false
asks_for_empty (same e f) = false
asks_for_empty (member e s) = false
asks_for_empty (is_empty s) = is_variable_zero s
asks_for_empty (subset s t) = false
asks_for_empty (negation c) = false
asks_for_empty (both c d) = false
asks_for_empty (either c d) = false

-- "There is one base case, whose only condition is that variable 0 is empty"
unfoldable pub ends_empty : List (List Condition) → Bool
ends_empty bs = of_only (of_only asks_for_empty false) false bs

unfoldable pub in_profile : Model → Bool
in_profile m = begins_with_set m.variables && not (any (λ t. not (loads t)) m.transitions) && ends_empty m.base_cases

-- "the number of start members, or 1 if there are none"
unfoldable pub loading_length : Model → ℕ
loading_length m = max 1 (length (members (natural_at (target m) 0)))
