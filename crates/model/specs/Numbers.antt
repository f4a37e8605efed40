-- The numbers that documents 01 and 02 fix: refusals and sizes, each said once.
-- docs/FORMAT.md, "Sizes", "Refusals by the input" and "Refusals by the state".
use Rattle.std.specs.Prelude.{ℕ, ◌*◌, ◌^◌}

-- ---- refused by the input

abbrev pub model_too_long : ℕ
model_too_long = 1

-- a setting out of range, or a plan over 256
abbrev pub bad_setting : ℕ
bad_setting = 2

abbrev pub too_little_lent : ℕ
too_little_lent = 3

abbrev pub ends_early : ℕ
ends_early = 4

-- a byte that begins no command due here, or no expression at all where one is due
abbrev pub not_due : ℕ
not_due = 5

-- an expression or variable of the wrong kind, an undeclared name, counts that do not fit
abbrev pub mismatch : ℕ
mismatch = 6

-- a start value or operand outside its limits, one command too many, a second effect on a variable
abbrev pub off_limits : ℕ
off_limits = 7

abbrev pub too_deep : ℕ
too_deep = 8

abbrev pub bytes_after_end : ℕ
bytes_after_end = 9

-- document 02, §2
abbrev pub outside_profile : ℕ
outside_profile = 15

-- document 02, §4: a list of widths that is empty, too long, not rising or out of range
abbrev pub bad_widths : ℕ
bad_widths = 16

-- ---- refused by the state

abbrev pub out_of_range : ℕ
out_of_range = 11

abbrev pub divisor_zero : ℕ
divisor_zero = 12

abbrev pub negative_cost : ℕ
negative_cost = 13

-- plan check only
abbrev pub not_a_plan : ℕ
not_a_plan = 14

-- document 02, §5
abbrev pub high_below_low : ℕ
high_below_low = 17

-- ---- sizes

abbrev pub most_model_bytes : ℕ
most_model_bytes = 65536

abbrev pub most_variables : ℕ
most_variables = 16

abbrev pub most_tables : ℕ
most_tables = 32

-- rows, columns and object counts
abbrev pub most_objects : ℕ
most_objects = 64

abbrev pub most_transitions : ℕ
most_transitions = 256

abbrev pub most_base_cases : ℕ
most_base_cases = 16

abbrev pub most_constraints : ℕ
most_constraints = 32

abbrev pub most_bounds : ℕ
most_bounds = 8

-- per transition or base case
abbrev pub most_conditions : ℕ
most_conditions = 16

-- the outermost expression counts 1
abbrev pub most_nesting : ℕ
most_nesting = 32

abbrev pub most_steps : ℕ
most_steps = 256

-- document 02, §4: of a beam, and in a list of widths
abbrev pub most_width : ℕ
most_width = 4096

abbrev pub most_widths : ℕ
most_widths = 16

-- "Every value of a number expression lies in −2^31..2^31 − 1": the range's end
abbrev pub range_end : ℕ
range_end = 2 ^ 31

-- how many numbers lie in it: twice the end
abbrev pub range_size : ℕ
range_size = 2 * range_end
