-- Worked cases of the lower layer, computed from bytes: one table, one theorem.
use mathlib.Core.Path.{◌≡◌, refl}
use Prim.Native.Nat.{ℕ, zero, suc}
use mathlib.Core.List.{List, [], ◌∷◌, ◌++◌}
use lib.IntN.{pos, negsuc}
use Rattle.laws.specs.Hex.{hex}
use Rattle.model.specs.Numbers.{ends_early, not_due, mismatch, off_limits, too_deep, bytes_after_end, out_of_range, divisor_zero, negative_cost, not_a_plan}
use Rattle.model.specs.Values.{value, trouble}
use Rattle.model.specs.Costs.{free, fixed}
use Rattle.model.proofs.Opened.{Asked, number_of, check_of, Told, valued, checked, opened, all_opened}

-- n entries 0 of a table
abbrev noughts : (n : ℕ) → List ℕ
noughts zero = []
noughts (suc n) = hex 5 0x06_00_00_00_00 ++ noughts n

-- a step whose cost is the sum over objects 0, 1, 40 and 41; these are the entries of 0 and 1 and those of 40 and 41
abbrev over_halves : (lower upper : ℕ) → List ℕ
over_halves lower upper =
    hex 9 0x01_00_03_02_00_00_05_2a_01 ++ (hex 10 lower ++ (noughts 38 ++ (hex 10 upper
    ++ hex 28 0x07_09_2a_00_40_2a_03_00_00_00_00_03_00_00_30_00_0a_00_30_01_0b_08_53_31_00_30_01_0e)))

abbrev asked : List Asked
asked =
    -- 7 by 2
    number_of (hex 11 0x25_20_07_00_00_00_20_02_00_00_00)
    -- −7 by 2
    ∷ number_of (hex 11 0x25_20_f9_ff_ff_ff_20_02_00_00_00)
    -- 7 by −2
    ∷ number_of (hex 11 0x25_20_07_00_00_00_20_fe_ff_ff_ff)
    -- −7 by −2
    ∷ number_of (hex 11 0x25_20_f9_ff_ff_ff_20_fe_ff_ff_ff)
    -- −2^31 by −1
    ∷ number_of (hex 11 0x25_20_00_00_00_80_20_ff_ff_ff_ff)
    -- −2^31 by 1
    ∷ number_of (hex 11 0x25_20_00_00_00_80_20_01_00_00_00)
    -- 5 by 0
    ∷ number_of (hex 11 0x25_20_05_00_00_00_20_00_00_00_00)
    -- out of range on the left, zero divisor on the right
    ∷ number_of (hex 23 0x22_24_20_00_00_00_40_20_04_00_00_00_25_20_01_00_00_00_20_00_00_00_00)
    -- a choice evaluates only the chosen part
    ∷ number_of (hex 28 0x2b_51_20_01_00_00_00_20_02_00_00_00_20_09_00_00_00_25_20_01_00_00_00_20_00_00_00_00)
    -- "and" skips the second part
    ∷ number_of (hex 40 0x2b_58_51_20_02_00_00_00_20_01_00_00_00_50_25_20_01_00_00_00_20_00_00_00_00_20_00_00_00_00_20_01_00_00_00_20_02_00_00_00)
    -- a sum over members whose partial sums alone leave the range
    ∷ check_of (hex 52 0x01_00_03_02_00_00_05_03_01_06_ff_ff_ff_7f_06_01_00_00_00_06_ff_ff_ff_ff_07_09_2a_00_40_03_07_00_00_00_00_00_00_00_30_00_0a_00_30_01_0b_08_53_31_00_30_01_0e) (hex 1 0x00)
    -- a sum over members whose total leaves the range
    ∷ check_of (hex 52 0x01_00_03_02_00_00_05_03_01_06_ff_ff_ff_7f_06_01_00_00_00_06_ff_ff_ff_ff_07_09_2a_00_40_03_03_00_00_00_00_00_00_00_30_00_0a_00_30_01_0b_08_53_31_00_30_01_0e) (hex 1 0x00)
    -- a sum whose lower half is above the range and whose upper half is below it
    ∷ check_of (over_halves 0x06_ff_ff_ff_7f_06_ff_ff_ff_7f 0x06_01_00_00_80_06_01_00_00_80) (hex 1 0x00)
    -- the other way round
    ∷ check_of (over_halves 0x06_01_00_00_80_06_01_00_00_80 0x06_ff_ff_ff_7f_06_ff_ff_ff_7f) (hex 1 0x00)
    -- halves of which one leaves the range, and a total beyond it by one
    ∷ check_of (over_halves 0x06_ff_ff_ff_7f_06_ff_ff_ff_7f 0x06_01_00_00_80_06_01_00_00_00) (hex 1 0x00)
    -- a negative cost
    ∷ check_of (hex 25 0x01_00_03_02_00_00_07_09_20_ff_ff_ff_ff_0a_00_30_01_0b_08_53_31_00_30_01_0e) (hex 1 0x00)
    -- effects all read the old state: two numbers change places
    ∷ check_of (hex 49 0x01_00_04_00_01_00_00_00_04_00_02_00_00_00_07_09_20_05_00_00_00_0a_00_21_01_0a_01_21_00_0b_08_50_21_00_20_02_00_00_00_08_50_21_01_20_01_00_00_00_0e) (hex 1 0x00)
    -- the last state must be a base state
    ∷ check_of (hex 49 0x01_00_04_00_01_00_00_00_04_00_02_00_00_00_07_09_20_05_00_00_00_0a_00_21_01_0a_01_21_00_0b_08_50_21_00_20_02_00_00_00_08_50_21_01_20_01_00_00_00_0e) (hex 0 0x00)
    -- no earlier state may be one
    ∷ check_of (hex 49 0x01_00_04_00_01_00_00_00_04_00_02_00_00_00_07_09_20_05_00_00_00_0a_00_21_01_0a_01_21_00_0b_08_50_21_00_20_02_00_00_00_08_50_21_01_20_01_00_00_00_0e) (hex 3 0x00_00_00)
    -- a transition that is not declared
    ∷ check_of (hex 49 0x01_00_04_00_01_00_00_00_04_00_02_00_00_00_07_09_20_05_00_00_00_0a_00_21_01_0a_01_21_00_0b_08_50_21_00_20_02_00_00_00_08_50_21_01_20_01_00_00_00_0e) (hex 1 0x01)
    -- the new state must meet the constraints
    ∷ check_of (hex 58 0x01_00_04_00_01_00_00_00_04_00_02_00_00_00_07_09_20_05_00_00_00_0a_00_21_01_0a_01_21_00_0b_08_50_21_00_20_02_00_00_00_08_50_21_01_20_01_00_00_00_0c_51_21_00_20_02_00_00_00_0e) (hex 1 0x00)
    -- the target must meet them too
    ∷ check_of (hex 58 0x01_00_04_00_01_00_00_00_04_00_02_00_00_00_07_09_20_05_00_00_00_0a_00_21_01_0a_01_21_00_0b_08_50_21_00_20_02_00_00_00_08_50_21_01_20_01_00_00_00_0c_51_21_01_20_02_00_00_00_0e) (hex 1 0x00)
    -- a base target too, where the plan is empty
    ∷ check_of (hex 28 0x01_00_04_00_01_00_00_00_0b_08_50_21_00_20_01_00_00_00_0c_51_21_00_20_01_00_00_00_0e) (hex 0 0x00)
    -- both meet them
    ∷ check_of (hex 58 0x01_00_04_00_01_00_00_00_04_00_02_00_00_00_07_09_20_05_00_00_00_0a_00_21_01_0a_01_21_00_0b_08_50_21_00_20_02_00_00_00_08_50_21_01_20_01_00_00_00_0c_51_21_00_20_03_00_00_00_0e) (hex 1 0x00)
    -- trouble in the target's constraints is told before a transition that is not declared
    ∷ check_of (hex 67 0x01_00_04_00_01_00_00_00_04_00_02_00_00_00_07_09_20_05_00_00_00_0a_00_21_01_0a_01_21_00_0b_08_50_21_00_20_02_00_00_00_08_50_21_01_20_01_00_00_00_0c_50_25_20_01_00_00_00_20_00_00_00_00_20_01_00_00_00_0e) (hex 1 0x01)
    -- largest rule
    ∷ check_of (hex 59 0x01_01_04_00_01_00_00_00_04_00_02_00_00_00_07_09_20_05_00_00_00_0a_00_20_03_00_00_00_07_09_20_04_00_00_00_0a_01_20_03_00_00_00_0b_08_50_21_00_21_01_08_50_21_00_20_03_00_00_00_0e) (hex 2 0x00_01)
    -- nesting 32
    ∷ check_of (hex 40 0x01_00_0b_08_57_57_57_57_57_57_57_57_57_57_57_57_57_57_57_57_57_57_57_57_57_57_57_57_57_57_57_57_57_57_53_30_00_30_00_0e) (hex 0 0x00)
    -- nesting 33
    ∷ check_of (hex 41 0x01_00_0b_08_57_57_57_57_57_57_57_57_57_57_57_57_57_57_57_57_57_57_57_57_57_57_57_57_57_57_57_57_57_57_57_53_30_00_30_00_0e) (hex 0 0x00)
    -- bytes after the end
    ∷ check_of (hex 5 0x01_00_0b_0e_00) (hex 0 0x00)
    -- no byte at all
    ∷ check_of (hex 0 0x00) (hex 0 0x00)
    -- an operand cut short is told before its limits
    ∷ check_of (hex 6 0x01_00_0c_55_40_00) (hex 0 0x00)
    -- another kind is told before a cut operand
    ∷ check_of (hex 5 0x01_00_0c_20_01) (hex 0 0x00)
    -- a variable of another kind
    ∷ check_of (hex 22 0x01_00_02_03_00_00_00_00_00_00_00_00_0c_50_21_00_20_00_00_00_00_0e) (hex 0 0x00)
    -- a second effect on a variable
    ∷ check_of (hex 53 0x01_00_04_00_01_00_00_00_04_00_02_00_00_00_07_09_20_05_00_00_00_0a_00_21_01_0a_01_21_00_0a_00_21_00_0b_08_50_21_00_20_02_00_00_00_08_50_21_01_20_01_00_00_00_0e) (hex 1 0x00)
    -- a row count beyond the table is told after the column is read
    ∷ check_of (hex 44 0x01_00_03_02_00_00_05_03_01_06_ff_ff_ff_7f_06_01_00_00_00_06_ff_ff_ff_ff_07_09_28_00_30_03_30_40_0a_00_30_01_0b_08_53_31_00_30_01_0e) (hex 1 0x00)
    -- a row count beyond the table
    ∷ check_of (hex 44 0x01_00_03_02_00_00_05_03_01_06_ff_ff_ff_7f_06_01_00_00_00_06_ff_ff_ff_ff_07_09_28_00_30_03_30_00_0a_00_30_01_0b_08_53_31_00_30_01_0e) (hex 1 0x00)
    -- a byte that begins no command due here
    ∷ check_of (hex 5 0x01_00_01_00_0e) (hex 0 0x00)
    ∷ []

abbrev told : List Told
told =
    valued (value (pos 3))
    ∷ valued (value (negsuc 3))
    ∷ valued (value (negsuc 3))
    ∷ valued (value (pos 3))
    ∷ valued (trouble out_of_range)
    ∷ valued (value (negsuc 0x7fff_ffff))
    ∷ valued (trouble divisor_zero)
    ∷ valued (trouble out_of_range)
    ∷ valued (value (pos 9))
    ∷ valued (value (pos 2))
    ∷ checked (value (fixed 0x7fff_ffff))
    ∷ checked (trouble out_of_range)
    ∷ checked (value free)
    ∷ checked (value free)
    ∷ checked (trouble out_of_range)
    ∷ checked (trouble negative_cost)
    ∷ checked (value (fixed 5))
    ∷ checked (trouble not_a_plan)
    ∷ checked (trouble not_a_plan)
    ∷ checked (trouble not_a_plan)
    ∷ checked (trouble not_a_plan)
    ∷ checked (trouble not_a_plan)
    ∷ checked (trouble not_a_plan)
    ∷ checked (value (fixed 5))
    ∷ checked (trouble divisor_zero)
    ∷ checked (value (fixed 5))
    ∷ checked (value free)
    ∷ checked (trouble too_deep)
    ∷ checked (trouble bytes_after_end)
    ∷ checked (trouble ends_early)
    ∷ checked (trouble ends_early)
    ∷ checked (trouble mismatch)
    ∷ checked (trouble mismatch)
    ∷ checked (trouble off_limits)
    ∷ checked (trouble off_limits)
    ∷ checked (trouble mismatch)
    ∷ checked (trouble not_due)
    ∷ []

pub examples : all_opened asked ≡ told
unfolding all_opened opened hex
examples = refl
