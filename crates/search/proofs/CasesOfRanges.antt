-- Document 02, §5, from bytes: hours within a range. Both figures of plans and of paths, the order at a state, 17, and what the low costs never decide.
use Prim.Native.Nat.{ℕ}
use mathlib.Core.Path.{◌≡◌, refl}
use mathlib.Core.Bool.{true}
use mathlib.Core.List.{List, [], ◌∷◌, ◌++◌}
use Rattle.laws.specs.Hex.{hex}
use Rattle.search.proofs.Opened.{Asked, check_of, Told, answer, checked, all_opened, opened}
use Rattle.search.proofs.Cases.{filled, planned, line}

-- three steps from 0 to 3, each at 2 to 5 hours
abbrev two_to_five : List ℕ
two_to_five = hex 42 0x01_00_04_00_00_00_00_00_07_09_20_02_00_00_00_10_20_05_00_00_00_0a_00_22_21_00_20_01_00_00_00_0b_08_50_21_00_20_03_00_00_00_0e

-- largest rule, 4 − x to 5 + x in the state x
abbrev apart : List ℕ
apart = hex 48 0x01_01_04_00_00_00_00_00_07_09_23_20_04_00_00_00_21_00_10_22_20_05_00_00_00_21_00_0a_00_22_21_00_20_01_00_00_00_0b_08_50_21_00_20_03_00_00_00_0e

-- x to 1 in the state x
abbrev crossing : List ℕ
crossing = hex 39 0x01_00_04_00_00_00_00_00_07_09_21_00_10_20_01_00_00_00_0a_00_22_21_00_20_01_00_00_00_0b_08_50_21_00_20_03_00_00_00_0e

-- a path that breaks off: refused by the state, with so many bytes of the buffer behind the path as they were
abbrev broken : (number cost bound length expansions rounds width low : ℕ) (path : List ℕ) (rest : ℕ) → Told
broken number cost bound length expansions rounds width low path rest =
    answer true (number ∷ 0 ∷ cost ∷ bound ∷ length ∷ expansions ∷ rounds ∷ width ∷ low ∷ []) (path ++ filled rest)

abbrev at_program : (bytes : List ℕ) → Asked
at_program bytes = planned bytes 16 64 100_000

abbrev asked : List Asked
asked =
    -- both sums, and the plan check's
    at_program two_to_five
    ∷ check_of two_to_five (0 ∷ 0 ∷ 0 ∷ [])
    -- the largest high and the largest low, of different steps
    ∷ at_program apart
    ∷ check_of apart (0 ∷ 0 ∷ 0 ∷ [])
    -- 17 at the third step, with the path's two figures; the plan check of three steps and of two
    ∷ at_program crossing
    ∷ check_of crossing (0 ∷ 0 ∷ 0 ∷ [])
    ∷ check_of crossing (0 ∷ 0 ∷ [])
    -- −1 to 1 by 0: 13 comes first
    ∷ at_program (hex 48 0x01_00_04_00_00_00_00_00_07_09_20_ff_ff_ff_ff_10_25_20_01_00_00_00_20_00_00_00_00_0a_00_22_21_00_20_01_00_00_00_0b_08_50_21_00_20_03_00_00_00_0e)
    -- 1 to 2^31 − 1 plus 1: the high cost has no value
    ∷ at_program (hex 48 0x01_00_04_00_00_00_00_00_07_09_20_01_00_00_00_10_22_20_ff_ff_ff_7f_20_01_00_00_00_0a_00_22_21_00_20_01_00_00_00_0b_08_50_21_00_20_03_00_00_00_0e)
    -- two ways to a base state, 1 to 9 and 5 to 6: the lesser high cost
    ∷ at_program (hex 48 0x01_00_03_02_00_00_07_09_20_01_00_00_00_10_20_09_00_00_00_0a_00_30_01_07_09_20_05_00_00_00_10_20_06_00_00_00_0a_00_30_01_0b_08_53_31_00_30_01_0e)
    -- 5 to 9 and 1 to 9: equal high costs, so the first that arrives, whatever the low ones are
    ∷ at_program (hex 48 0x01_00_03_02_00_00_07_09_20_05_00_00_00_10_20_09_00_00_00_0a_00_30_01_07_09_20_01_00_00_00_10_20_09_00_00_00_0a_00_30_01_0b_08_53_31_00_30_01_0e)
    -- 5 to 9 and 5 to 8, with a bound of 5 at the target
    ∷ at_program (hex 65 0x01_00_03_02_00_00_07_09_20_05_00_00_00_10_20_09_00_00_00_0a_00_30_01_07_09_20_05_00_00_00_10_20_08_00_00_00_0a_00_30_01_0b_08_53_31_00_30_01_0d_2b_53_31_00_30_00_20_05_00_00_00_20_00_00_00_00_0e)
    -- of 8
    ∷ at_program (hex 65 0x01_00_03_02_00_00_07_09_20_05_00_00_00_10_20_09_00_00_00_0a_00_30_01_07_09_20_05_00_00_00_10_20_08_00_00_00_0a_00_30_01_0b_08_53_31_00_30_01_0d_2b_53_31_00_30_00_20_08_00_00_00_20_00_00_00_00_0e)
    -- of 9, above the high cost of a plan
    ∷ at_program (hex 65 0x01_00_03_02_00_00_07_09_20_05_00_00_00_10_20_09_00_00_00_0a_00_30_01_07_09_20_05_00_00_00_10_20_08_00_00_00_0a_00_30_01_0b_08_53_31_00_30_01_0d_2b_53_31_00_30_00_20_09_00_00_00_20_00_00_00_00_0e)
    -- three designs, each high cost twice the low
    ∷ at_program (hex 219 0x01_00_02_04_0e_00_00_00_00_00_00_00_03_04_00_00_05_04_04_06_00_00_00_00_06_02_00_00_00_06_05_00_00_00_06_04_00_00_00_06_00_00_00_00_06_00_00_00_00_06_03_00_00_00_06_06_00_00_00_06_00_00_00_00_06_03_00_00_00_06_00_00_00_00_06_02_00_00_00_06_00_00_00_00_06_06_00_00_00_06_02_00_00_00_06_00_00_00_00_07_08_54_30_01_41_00_09_28_00_31_01_30_01_10_24_28_00_31_01_30_01_20_02_00_00_00_0a_00_43_30_01_41_00_0a_01_30_01_07_08_54_30_02_41_00_09_28_00_31_01_30_02_10_24_28_00_31_01_30_02_20_02_00_00_00_0a_00_43_30_02_41_00_0a_01_30_02_07_08_54_30_03_41_00_09_28_00_31_01_30_03_10_24_28_00_31_01_30_03_20_02_00_00_00_0a_00_43_30_03_41_00_0a_01_30_03_0b_08_55_41_00_0e)
    -- a second high cost
    ∷ check_of (hex 48 0x01_00_04_00_00_00_00_00_07_09_20_02_00_00_00_10_20_05_00_00_00_10_20_05_00_00_00_0a_00_22_21_00_20_01_00_00_00_0b_08_50_21_00_20_03_00_00_00_0e) (0 ∷ 0 ∷ 0 ∷ [])
    -- bytes that end where a high cost might stand
    ∷ check_of (hex 15 0x01_00_04_00_00_00_00_00_07_09_20_02_00_00_00) []
    -- a negative high cost
    ∷ check_of (hex 42 0x01_00_04_00_00_00_00_00_07_09_20_00_00_00_00_10_20_ff_ff_ff_ff_0a_00_22_21_00_20_01_00_00_00_0b_08_50_21_00_20_03_00_00_00_0e) (0 ∷ 0 ∷ 0 ∷ [])
    ∷ []

abbrev told : List Told
told =
    line 0 1 15 15 3 3 1 1 6 (0 ∷ 0 ∷ 0 ∷ []) 61
    ∷ checked 0 15 6
    ∷ line 0 1 7 7 3 3 1 1 4 (0 ∷ 0 ∷ 0 ∷ []) 61
    ∷ checked 0 7 4
    ∷ broken 17 2 2 2 3 1 1 1 (0 ∷ 0 ∷ []) 62
    ∷ checked 17 0 0
    ∷ checked 14 0 0
    ∷ broken 13 0 0 0 1 1 1 0 [] 64
    ∷ broken 11 0 0 0 1 1 1 0 [] 64
    ∷ line 0 1 6 6 1 1 1 1 5 (1 ∷ []) 63
    ∷ line 0 1 9 9 1 1 1 1 5 (0 ∷ []) 63
    ∷ line 0 1 8 8 1 1 1 1 5 (1 ∷ []) 63
    ∷ line 0 1 8 8 1 1 1 1 5 (1 ∷ []) 63
    ∷ line 5 1 8 9 1 1 1 1 5 (1 ∷ []) 63
    ∷ line 0 1 14 14 3 14 3 4 7 (0 ∷ 1 ∷ 2 ∷ []) 61
    ∷ checked 5 0 0
    ∷ checked 4 0 0
    ∷ checked 17 0 0
    ∷ []

-- every line, every field
pub range_cases : all_opened asked ≡ told
unfolding all_opened opened hex filled
range_cases = refl
