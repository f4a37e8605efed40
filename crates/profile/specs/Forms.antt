-- The forms of the loading profile in bytes, by the names of its definition. An object is told by 1 more than its number, none by 0.
use Rattle.std.specs.Prelude.{ℕ, ◌+◌, Bool, true, false, cond, List, [], ◌∷◌, get_or, drop, eqb}
use Rattle.std.proofs.Math.Option.{Option, none, some}
use Rattle.model.specs.Syntax.{Effect}
use Rattle.model.specs.Profile.{removed_by}

unfoldable pub told : Option ℕ → ℕ
told none = 0
told (some k) = k + 1

-- 41 00
unfoldable pub variable_zero_in : (e : List ℕ) → Bool
variable_zero_in e = cond (eqb (get_or e 0 0) 0x41) (eqb (get_or e 1 0) 0) false

-- 30 k 41 00
unfoldable pub beside_in : (e : List ℕ) → ℕ
beside_in e = cond (eqb (get_or e 0 0) 0x30) (cond (variable_zero_in (drop 2 e)) (get_or e 1 0 + 1) 0) 0

-- the byte, then 30 k 41 00
unfoldable pub object_in : (first : ℕ) (e : List ℕ) → ℕ
object_in b e = cond (eqb (get_or e 0 0) b) (beside_in (drop 1 e)) 0

-- 55 41 00
unfoldable pub empty_in : (e : List ℕ) → Bool
empty_in e = cond (eqb (get_or e 0 0) 0x55) (variable_zero_in (drop 1 e)) false

-- effects, one behind the other: the object of the only one on variable 0. `seen` says whether there was one before them, `object` what it removes
unfoldable pub removed_from : (seen : Bool) (object : ℕ) → List Effect → ℕ
removed_from s k [] = k
removed_from s k (f ∷ fs) = cond (eqb f.target 0) (cond s 0 (removed_from true (told (removed_by f.result)) fs)) (removed_from s k fs)
