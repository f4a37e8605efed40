-- P1 to P11 of document 01, from the bytes of the models: one table, one theorem, every field of each line.
use Prim.Native.Nat.{ℕ, zero, suc}
use mathlib.Core.Path.{◌≡◌, refl}
use mathlib.Core.Bool.{false}
use mathlib.Core.List.{List, [], ◌∷◌, ◌++◌}
use lib.IntN.{negsuc}
use Rattle.laws.specs.Hex.{hex}
use Rattle.model.specs.Values.{value, trouble}
use Rattle.search.proofs.Opened.{Asked, run_of, number_of, Told, answer, valued, opened, all_opened}

-- document 01's three designs
abbrev pub three_designs : List ℕ
three_designs = hex 180 0x01_00_02_04_0e_00_00_00_00_00_00_00_03_04_00_00_05_04_04_06_00_00_00_00_06_02_00_00_00_06_05_00_00_00_06_04_00_00_00_06_00_00_00_00_06_00_00_00_00_06_03_00_00_00_06_06_00_00_00_06_00_00_00_00_06_03_00_00_00_06_00_00_00_00_06_02_00_00_00_06_00_00_00_00_06_06_00_00_00_06_02_00_00_00_06_00_00_00_00_07_08_54_30_01_41_00_09_28_00_31_01_30_01_0a_00_43_30_01_41_00_0a_01_30_01_07_08_54_30_02_41_00_09_28_00_31_01_30_02_0a_00_43_30_02_41_00_0a_01_30_02_07_08_54_30_03_41_00_09_28_00_31_01_30_03_0a_00_43_30_03_41_00_0a_01_30_03_0b_08_55_41_00_0e

-- start set empty
abbrev pub empty_start : List ℕ
empty_start = hex 180 0x01_00_02_04_00_00_00_00_00_00_00_00_03_04_00_00_05_04_04_06_00_00_00_00_06_02_00_00_00_06_05_00_00_00_06_04_00_00_00_06_00_00_00_00_06_00_00_00_00_06_03_00_00_00_06_06_00_00_00_06_00_00_00_00_06_03_00_00_00_06_00_00_00_00_06_02_00_00_00_06_00_00_00_00_06_06_00_00_00_06_02_00_00_00_06_00_00_00_00_07_08_54_30_01_41_00_09_28_00_31_01_30_01_0a_00_43_30_01_41_00_0a_01_30_01_07_08_54_30_02_41_00_09_28_00_31_01_30_02_0a_00_43_30_02_41_00_0a_01_30_02_07_08_54_30_03_41_00_09_28_00_31_01_30_03_0a_00_43_30_03_41_00_0a_01_30_03_0b_08_55_41_00_0e

-- a bound of literal 8
abbrev bound_of_eight : List ℕ
bound_of_eight = hex 186 0x01_00_02_04_0e_00_00_00_00_00_00_00_03_04_00_00_05_04_04_06_00_00_00_00_06_02_00_00_00_06_05_00_00_00_06_04_00_00_00_06_00_00_00_00_06_00_00_00_00_06_03_00_00_00_06_06_00_00_00_06_00_00_00_00_06_03_00_00_00_06_00_00_00_00_06_02_00_00_00_06_00_00_00_00_06_06_00_00_00_06_02_00_00_00_06_00_00_00_00_07_08_54_30_01_41_00_09_28_00_31_01_30_01_0a_00_43_30_01_41_00_0a_01_30_01_07_08_54_30_02_41_00_09_28_00_31_01_30_02_0a_00_43_30_02_41_00_0a_01_30_02_07_08_54_30_03_41_00_09_28_00_31_01_30_03_0a_00_43_30_03_41_00_0a_01_30_03_0b_08_55_41_00_0d_20_08_00_00_00_0e

-- a constraint "element is not 2"
abbrev never_at_two : List ℕ
never_at_two = hex 187 0x01_00_02_04_0e_00_00_00_00_00_00_00_03_04_00_00_05_04_04_06_00_00_00_00_06_02_00_00_00_06_05_00_00_00_06_04_00_00_00_06_00_00_00_00_06_00_00_00_00_06_03_00_00_00_06_06_00_00_00_06_00_00_00_00_06_03_00_00_00_06_00_00_00_00_06_02_00_00_00_06_00_00_00_00_06_06_00_00_00_06_02_00_00_00_06_00_00_00_00_07_08_54_30_01_41_00_09_28_00_31_01_30_01_0a_00_43_30_01_41_00_0a_01_30_01_07_08_54_30_02_41_00_09_28_00_31_01_30_02_0a_00_43_30_02_41_00_0a_01_30_02_07_08_54_30_03_41_00_09_28_00_31_01_30_03_0a_00_43_30_03_41_00_0a_01_30_03_0b_08_55_41_00_0c_57_53_31_01_30_02_0e

-- largest rule
abbrev largest_rule : List ℕ
largest_rule = hex 180 0x01_01_02_04_0e_00_00_00_00_00_00_00_03_04_00_00_05_04_04_06_00_00_00_00_06_02_00_00_00_06_05_00_00_00_06_04_00_00_00_06_00_00_00_00_06_00_00_00_00_06_03_00_00_00_06_06_00_00_00_06_00_00_00_00_06_03_00_00_00_06_00_00_00_00_06_02_00_00_00_06_00_00_00_00_06_06_00_00_00_06_02_00_00_00_06_00_00_00_00_07_08_54_30_01_41_00_09_28_00_31_01_30_01_0a_00_43_30_01_41_00_0a_01_30_01_07_08_54_30_02_41_00_09_28_00_31_01_30_02_0a_00_43_30_02_41_00_0a_01_30_02_07_08_54_30_03_41_00_09_28_00_31_01_30_03_0a_00_43_30_03_41_00_0a_01_30_03_0b_08_55_41_00_0e

-- n bytes 170, which are no transition's number here
unfoldable pub filled : (n : ℕ) → List ℕ
filled zero = []
filled (suc n) = 170 ∷ filled n

-- a run with a filled plan buffer of L bytes, lent all the words that any setting needs
abbrev pub planned : (bytes : List ℕ) (widest limit budget : ℕ) → Asked
planned bytes widest limit budget = run_of bytes widest limit budget (filled limit) 1_314_816

-- a line, with the plan and so many bytes of the buffer behind it as they were
abbrev pub line : (verdict flag cost bound length expansions rounds width low : ℕ) (plan : List ℕ) (rest : ℕ) → Told
line verdict flag cost bound length expansions rounds width low plan rest =
    answer false (verdict ∷ flag ∷ cost ∷ bound ∷ length ∷ expansions ∷ rounds ∷ width ∷ low ∷ []) (plan ++ filled rest)

abbrev asked : List Asked
asked =
    -- P1
    planned three_designs 16 64 100_000
    -- P2
    ∷ planned three_designs 4 3 100_000
    -- P3
    ∷ planned three_designs 2 3 100_000
    -- P4
    ∷ planned three_designs 1 3 100_000
    -- P5
    ∷ planned three_designs 8 2 100_000
    -- P6
    ∷ planned three_designs 16 64 0
    -- P7
    ∷ planned empty_start 16 64 100_000
    -- P8
    ∷ planned bound_of_eight 16 64 100_000
    -- P9
    ∷ planned never_at_two 16 64 100_000
    -- P10
    ∷ planned largest_rule 16 64 100_000
    -- P11, −7 by 2
    ∷ number_of (hex 11 0x25_20_f9_ff_ff_ff_20_02_00_00_00)
    -- P11, −2^31 by −1
    ∷ number_of (hex 11 0x25_20_00_00_00_80_20_ff_ff_ff_ff)
    ∷ []

abbrev told : List Told
told =
    -- P1
    line 0 1 7 7 3 14 3 4 7 (0 ∷ 1 ∷ 2 ∷ []) 61
    -- P2
    ∷ line 0 1 7 7 3 14 3 4 7 (0 ∷ 1 ∷ 2 ∷ []) 0
    -- P3
    ∷ line 2 1 7 0 3 8 2 2 7 (0 ∷ 1 ∷ 2 ∷ []) 0
    -- P4
    ∷ line 2 1 7 0 3 6 2 1 7 (0 ∷ 1 ∷ 2 ∷ []) 0
    -- P5
    ∷ line 3 0 0 5 0 13 4 8 0 [] 2
    -- P6
    ∷ line 4 0 0 0 0 0 1 1 0 [] 64
    -- P7
    ∷ line 0 1 0 0 0 0 1 1 0 [] 64
    -- P8
    ∷ line 5 1 7 8 3 3 1 1 7 (0 ∷ 1 ∷ 2 ∷ []) 61
    -- P9
    ∷ line 1 0 0 0 0 8 2 2 0 [] 64
    -- P10
    ∷ line 0 1 3 3 3 5 2 2 3 (0 ∷ 1 ∷ 2 ∷ []) 61
    -- P11, −7 by 2
    ∷ valued (value (negsuc 3))
    -- P11, −2^31 by −1
    ∷ valued (trouble 11)
    ∷ []

pub p_table : all_opened asked ≡ told
unfolding all_opened opened hex filled
p_table = refl
