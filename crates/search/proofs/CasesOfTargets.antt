-- Document 02, §1, from bytes: targets that break a constraint or have trouble in one. One table, one theorem.
use Prim.Native.Nat.{ℕ}
use mathlib.Core.Path.{◌≡◌, refl}
use mathlib.Core.Bool.{true}
use mathlib.Core.List.{List, [], ◌∷◌, ◌++◌, drop_last}
use Rattle.laws.specs.Hex.{hex}
use Rattle.search.proofs.Opened.{Asked, check_of, Told, answer, checked, opened, all_opened}
use Rattle.search.proofs.Cases.{three_designs, empty_start, filled, planned, line}

-- a model with n more bytes in front of its end command
abbrev pub with_more : List ℕ → (n bytes : ℕ) → List ℕ
with_more model n bytes = drop_last model ++ (hex n bytes ++ (0x0e ∷ []))

-- three designs with the constraint "element is not 0", which the target breaks
abbrev pub never_at_zero : List ℕ
never_at_zero = with_more three_designs 7 0x0c_57_53_31_01_30_00

-- with the constraint "1 by 0 is 1"
abbrev quotient_by_zero : List ℕ
quotient_by_zero = with_more three_designs 18 0x0c_50_25_20_01_00_00_00_20_00_00_00_00_20_01_00_00_00

-- "element is not 0", then "1 by 0 is 1"
abbrev broken_first : List ℕ
broken_first = with_more three_designs 25 0x0c_57_53_31_01_30_00_0c_50_25_20_01_00_00_00_20_00_00_00_00_20_01_00_00_00

-- "1 by 0 is 1", then "element is not 0"
abbrev trouble_first : List ℕ
trouble_first = with_more three_designs 25 0x0c_50_25_20_01_00_00_00_20_00_00_00_00_20_01_00_00_00_0c_57_53_31_01_30_00

-- "element is not 0", then the bound 1 by 0
abbrev broken_with_bound : List ℕ
broken_with_bound = with_more three_designs 19 0x0c_57_53_31_01_30_00_0d_25_20_01_00_00_00_20_00_00_00_00

-- the base case "1 by 0 is 1", then "element is not 0"
abbrev broken_with_base_case : List ℕ
broken_with_base_case = with_more three_designs 26 0x0b_08_50_25_20_01_00_00_00_20_00_00_00_00_20_01_00_00_00_0c_57_53_31_01_30_00

-- the target is a base state and breaks "element is not 0"
abbrev broken_base : List ℕ
broken_base = with_more empty_start 7 0x0c_57_53_31_01_30_00

-- "element is not 3 or nothing is left to be loaded": the target meets it
abbrev last_at_three : List ℕ
last_at_three = with_more three_designs 11 0x0c_59_57_53_31_01_30_03_55_41_00

abbrev asked : List Asked
asked =
    planned never_at_zero 16 64 100_000
    ∷ check_of never_at_zero (0 ∷ 1 ∷ 2 ∷ [])
    ∷ check_of never_at_zero []
    ∷ planned quotient_by_zero 16 64 100_000
    ∷ check_of quotient_by_zero (0 ∷ 1 ∷ 2 ∷ [])
    -- a number that is too high
    ∷ check_of quotient_by_zero (9 ∷ [])
    ∷ check_of never_at_zero (9 ∷ [])
    -- the constraints, in order to the first that fails
    ∷ planned broken_first 16 64 100_000
    ∷ check_of broken_first (0 ∷ 1 ∷ 2 ∷ [])
    ∷ planned trouble_first 16 64 100_000
    ∷ check_of trouble_first (0 ∷ 1 ∷ 2 ∷ [])
    -- before the bounds, and before the base cases
    ∷ planned broken_with_bound 16 64 100_000
    ∷ planned broken_with_base_case 16 64 100_000
    ∷ check_of broken_with_base_case []
    -- no budget
    ∷ planned broken_base 16 64 0
    ∷ planned never_at_zero 16 64 0
    ∷ check_of broken_base []
    -- a target that meets them
    ∷ planned last_at_three 16 64 100_000
    ∷ check_of last_at_three (0 ∷ 1 ∷ 2 ∷ [])
    ∷ []

abbrev told : List Told
told =
    line 1 0 0 0 0 0 1 1 0 [] 64
    ∷ checked 14 0 0
    ∷ checked 14 0 0
    ∷ answer true (12 ∷ 0 ∷ 0 ∷ 0 ∷ 0 ∷ 0 ∷ 1 ∷ 1 ∷ 0 ∷ []) (filled 64)
    ∷ checked 12 0 0
    ∷ checked 12 0 0
    ∷ checked 14 0 0
    ∷ line 1 0 0 0 0 0 1 1 0 [] 64
    ∷ checked 14 0 0
    ∷ answer true (12 ∷ 0 ∷ 0 ∷ 0 ∷ 0 ∷ 0 ∷ 1 ∷ 1 ∷ 0 ∷ []) (filled 64)
    ∷ checked 12 0 0
    ∷ line 1 0 0 0 0 0 1 1 0 [] 64
    ∷ line 1 0 0 0 0 0 1 1 0 [] 64
    ∷ checked 14 0 0
    ∷ line 1 0 0 0 0 0 1 1 0 [] 64
    ∷ line 1 0 0 0 0 0 1 1 0 [] 64
    ∷ checked 14 0 0
    ∷ line 0 1 7 7 3 7 2 2 7 (0 ∷ 1 ∷ 2 ∷ []) 61
    ∷ checked 0 7 7
    ∷ []

pub target_cases : all_opened asked ≡ told
unfolding all_opened opened hex filled
target_cases = refl
