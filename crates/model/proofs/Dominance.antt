-- Every state dominates itself, whatever the preferences of the model's variables are:
-- a value is no worse than itself by each of the three preferences.
use Prim.Native.Nat.{ℕ, suc}
use mathlib.Core.Path.{◌≡◌, refl}
use mathlib.Core.Bool.{true}
use mathlib.Core.List.{List, [], ◌∷◌}
use native.Mathlib.Omega.{arith}
use lib.IntN.{ℤ, pos, negsuc}
use lib.Signed.{le_z}
use borrow.Author.Tests.{le-leb}
use Rattle.model.specs.Syntax.{Preference, none, less, more, Variable, Model}
use Rattle.model.specs.Meaning.{State, number_at, equal_z}
use Rattle.model.specs.Steps.{no_worse, none_worse, system_of}

at_most_itself : (z : ℤ) → le_z z z ≡ true
at_most_itself (pos a) = le-leb a a (omega arith)
at_most_itself (negsuc a) = le-leb a a (omega arith)

no_worse_than_itself : (p : Preference) (z : ℤ) → no_worse p z z ≡ true
unfolding no_worse equal_z
no_worse_than_itself none z = rw (at_most_itself z)
no_worse_than_itself less z = at_most_itself z
no_worse_than_itself more z = at_most_itself z

none_worse_than_itself : (xs : List Variable) (v : ℕ) (s : State) → none_worse xs v s s ≡ true
unfolding none_worse
none_worse_than_itself [] v s = refl
none_worse_than_itself (x ∷ xs) v s = rw (no_worse_than_itself x.preference (number_at s v)) (none_worse_than_itself xs (suc v) s)

pub dominates_self : (end : ℕ) (m : Model) (s : State) → (system_of end m).dominates s s ≡ true
unfolding system_of
dominates_self end m s = none_worse_than_itself m.variables 0 s
