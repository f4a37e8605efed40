-- The three designs of document 01 as instances of what the theorems assume: their layers fit W 8 and L 3 and not W 4, their
-- declarations are true, and with a bound of twice the designs still to be loaded they are true as well. Computed from bytes.
use Prim.Native.Nat.{ℕ}
use mathlib.Core.Path.{◌≡◌, refl}
use mathlib.Core.Bool.{true}
use mathlib.Core.List.{List, [], ◌∷◌, ◌++◌, drop_last}
use native.Mathlib.Omega.{arith}
use Rattle.laws.specs.Hex.{hex}
use Rattle.model.specs.Numbers.{range_end}
use Rattle.model.specs.Readers.{Read, read, refused}
use Rattle.model.specs.Syntax.{Model, sum}
use Rattle.model.specs.Commands.{model}
use Rattle.model.specs.Plans.{Overfull, TrueDeclarations}
use Rattle.model.specs.Costs.{free, costs_of}
use Rattle.model.specs.Steps.{target, prefers_nothing, declares_nothing, is_preferred, system_of, origin_of}
use Rattle.model.proofs.Costs.{cost_laws}
use Rattle.model.proofs.Dominance.{dominates_self}
use Rattle.model.proofs.Declared.{bounds_alone, nothing_declared_is_true}
use Rattle.model.proofs.Enumerated.{moved_to, reached_by, reached_from, reached_from_all, listed}
use Rattle.model.proofs.Consistent.{below_bound, below_move, below_moves, consistent_at, consistent_all, consistent, consistent_bounds_true}
use Rattle.search.specs.Guarantee.{Fits}
use Rattle.search.proofs.Opened.{opened}
use Rattle.search.proofs.Cases.{three_designs}
use Rattle.search.proofs.Fitting.{is_unfinished, none_wider, listed_fit, none_dominates, listed_over, listed_fit_lem, listed_overfull}

-- with the dual bound 2 × the size of variable 0: each step costs at least 2 and removes one design
abbrev pub twice_the_rest : List ℕ
twice_the_rest = drop_last three_designs ++ hex 11 0x0d_24_20_02_00_00_00_29_41_00_0e

-- the model that bytes are read as; one without anything where they are not read
unfoldable described : Read Model → Model
described (read m n) = m
described (refused t) = record { rule = sum; variables = []; tables = []; transitions = []; base_cases = []; constraints = []; bounds = [] }

abbrev model_in : List ℕ → Model
model_in bytes = described (model bytes)

-- the bytes are read as a model with P
abbrev pub Describe : (bytes : List ℕ) → (Model → Type 0) → Type 0
Describe bytes P = (m : Model) × (n : ℕ) × (model bytes ≡ read m n) × P m

-- ---- the tests

fits_eight : listed_fit (system_of range_end (model_in three_designs)) (target (model_in three_designs)) 8 3 ≡ true
unfolding opened hex described moved_to reached_by reached_from reached_from_all listed is_unfinished none_wider listed_fit
fits_eight = refl

over_four : listed_over (system_of range_end (model_in three_designs)) (target (model_in three_designs)) 4 2 ≡ true
unfolding opened hex described moved_to reached_by reached_from reached_from_all listed none_dominates listed_over
over_four = refl

nothing_declared : declares_nothing (model_in three_designs) ≡ true
unfolding opened hex described is_preferred prefers_nothing declares_nothing
nothing_declared = refl

no_preference : prefers_nothing (model_in twice_the_rest) ≡ true
unfolding opened hex described is_preferred prefers_nothing
no_preference = refl

consistent_bound : consistent (costs_of (model_in twice_the_rest).rule) (system_of range_end (model_in twice_the_rest)) 4 (target (model_in twice_the_rest) ∷ []) ≡ true
unfolding opened hex described moved_to reached_by reached_from reached_from_all below_bound below_move below_moves consistent_at consistent_all consistent
consistent_bound = refl

read_three : model three_designs ≡ read (model_in three_designs) 180
unfolding opened hex described
read_three = refl

read_twice : model twice_the_rest ≡ read (model_in twice_the_rest) 190
unfolding opened hex described
read_twice = refl

-- ---- what follows

-- of the widths 8 is the first that fits: layer 2 has six different states
pub three_designs_fit : Describe three_designs (λ m. Fits (costs_of m.rule) (system_of range_end m) (origin_of m) 8 3)
unfolding origin_of
three_designs_fit = let m : Model = model_in three_designs in (m, 180, read_three, listed_fit_lem (system_of range_end m) (target m) (costs_of m.rule) free 8 3 fits_eight)

pub three_designs_overfull : Describe three_designs (λ m. Overfull (system_of range_end m) (target m) 4 3)
three_designs_overfull = let m : Model = model_in three_designs in (m, 180, read_three, listed_overfull (system_of range_end m) (target m) (dominates_self range_end m) 4 3 2 (omega arith) over_four)

pub three_designs_true : Describe three_designs (λ m. TrueDeclarations (costs_of m.rule) (system_of range_end m) (target m))
three_designs_true = let m : Model = model_in three_designs in (m, 180, read_three, nothing_declared_is_true range_end m nothing_declared)

pub twice_the_rest_true : Describe twice_the_rest (λ m. TrueDeclarations (costs_of m.rule) (system_of range_end m) (target m))
twice_the_rest_true =
    let m : Model = model_in twice_the_rest in
    (m, 190, read_twice, bounds_alone range_end m no_preference (consistent_bounds_true (costs_of m.rule) (system_of range_end m) (target m) (cost_laws m.rule) 4 consistent_bound))
