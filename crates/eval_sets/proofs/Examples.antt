-- Worked cases of the runs, computed from bytes: one table, one theorem.
use Prim.Native.Nat.{ℕ, zero, suc, ◌+◌, ◌^◌, ◌<◌}
use mathlib.Core.Path.{◌≡◌, refl, sym, ap, ◌∙◌}
use native.Mathlib.Omega.{arith}
use lib.ListN.{get_or}
use mathlib.Core.Bool.{true, false}
use mathlib.Core.List.{List, [], ◌∷◌, ◌++◌}
use lib.IntN.{pos, negsuc}
use Rattle.laws.specs.Hex.{hex}
use Rattle.model.specs.Numbers.{most_objects}
use Rattle.model.specs.Values as of_values
use Rattle.model.specs.Values.{◌>>=◌ as ◌bind_values◌}
use Rattle.model.specs.Sets as of_sets
use Rattle.model.specs.Syntax.{Kind, a_set, an_element, a_number, none, Variable, Table, table_at}
use Rattle.model.specs.Readers as of_readers
use Rattle.model.specs.Readers.{◌>>=◌ as ◌bind_readers◌, ◌>>◌ as ◌then_readers◌}
use Rattle.model.specs.Meaning as of_meaning
use Rattle.words.specs.FullSets as of_full_sets
use Rattle.words.specs.Tables as of_tables
use Rattle.std.specs.Prelude.{Err}
use Rattle.eval_sets.specs.declared.troubles.Trouble.TheVariants as T
use Rattle.eval_sets.specs.declared.answers.ConditionValue.{ConditionValue}
use Rattle.eval_sets.specs.declared.answers.ConditionValue.TheVariants as C
use Rattle.words.specs.States as of_states
use Rattle.outline.specs.Outline.{kinds_from}
use Rattle.eval_sets.specs.Forms as the_forms
use Rattle.eval_sets.specs.Answers as of_answers
use Rattle.eval_sets.specs.Answers.{NumberValue, told}
use Rattle.eval_sets.specs.Troubles as of_troubles
use Rattle.eval_sets.specs.Runs as of_runs
use Rattle.eval_sets.specs.Promise.{SetKinds, Describes}
use Rattle.eval_sets.specs.Runs.{Environment, environment, run_number, run_condition}

abbrev zeros : ℕ → List ℕ
zeros zero = []
zeros (suc n) = 0 ∷ zeros n

-- a table of 3 rows and 1 column, 2^31 − 1, 1 and −1, from byte 9 on; a number 5, an element 2, and the set {0, 2} of 3 objects
abbrev pub here : Environment
here =
    environment
    (hex 24 0x01_00_03_02_00_00_05_03_01_06_ff_ff_ff_7f_06_01_00_00_00_06_ff_ff_ff_ff)
    ((2 ^ 31 + 5) ∷ 2 ∷ 5 ∷ [])
    (zeros kinds_from ++ (0 ∷ 3 ∷ (most_objects + 3) ∷ zeros 61) ++ (of_tables.table_word 9 1 3 ∷ []))

pub data Asked : Type 0 where
  number_at : (depth : ℕ) (bytes : List ℕ) → Asked
  condition_at : (depth : ℕ) (bytes : List ℕ) → Asked
  span_of : (bytes : List ℕ) → Asked

pub data Tellable : Type 0 where
  number : NumberValue → Tellable
  condition : ConditionValue → Tellable
  bytes : ℕ → Tellable

unfoldable pub opened : Asked → Tellable
unfolding hex ◌bind_values◌ of_values.in_range of_values.floor_by of_values.floor_quotient of_sets.is_member of_sets.union of_sets.intersection of_sets.difference of_full_sets.full_of
    of_sets.is_subset of_sets.cons_if of_sets.members_from of_sets.members of_readers.after of_readers.continue ◌bind_readers◌ ◌then_readers◌ of_readers.give
    of_readers.require of_readers.byte of_readers.word of_readers.signed of_readers.one of_readers.integer of_meaning.equal_z of_meaning.sum_over
    of_tables.or_zero of_tables.cell_at of_tables.entry_in of_states.value_of the_forms.number_form the_forms.set_form the_forms.condition_form the_forms.shape_of
    the_forms.operands the_forms.parts the_forms.span of_troubles.named of_answers.number_answer of_answers.past_number of_answers.past_condition of_answers.number_of_two
    of_answers.condition_of_two of_answers.negated of_runs.element_of of_runs.run_element of_runs.two_elements of_runs.element_then_set of_runs.set_then_element
    of_runs.two_sets of_runs.literal_members of_runs.literal_set of_runs.set_variable_at of_runs.changed of_runs.combined of_runs.complemented of_runs.set_behind
    of_runs.run_set of_runs.literal_value of_runs.literal_number of_runs.number_variable_at of_runs.arithmetic of_runs.entry_of of_runs.entry_number
    of_runs.size_number of_runs.total_number of_runs.compared of_runs.same_elements of_runs.member_of of_runs.empty_set of_runs.subset_of of_runs.pair_second
    of_runs.pair_first of_runs.run_pair of_runs.number_before of_runs.chosen of_runs.choice_first of_runs.run_choice of_runs.agree of_runs.decided
    of_runs.connective_first of_runs.run_connective of_runs.number_behind of_runs.condition_behind of_runs.run_number
opened (number_at d e) = number (run_number d here e)
opened (condition_at d e) = condition (run_condition d here e)
opened (span_of e) = bytes (the_forms.span e 0 1)

abbrev pub asked : List Asked
asked =
    -- −7 by 2
    number_at 32 (hex 11 0x25_20_f9_ff_ff_ff_20_02_00_00_00)
    -- 5 by 0
    ∷ number_at 32 (hex 11 0x25_20_05_00_00_00_20_00_00_00_00)
    -- out of range on the left, zero divisor on the right
    ∷ number_at 32 (hex 23 0x22_24_20_00_00_00_40_20_04_00_00_00_25_20_01_00_00_00_20_00_00_00_00)
    -- a number variable less 7
    ∷ number_at 32 (hex 8 0x23_21_00_20_07_00_00_00)
    -- the entry at an element variable's row
    ∷ number_at 32 (hex 6 0x28_00_31_01_30_00)
    -- the size of a complement
    ∷ number_at 32 (hex 4 0x29_47_41_02)
    -- of the complement of a changed set, of a combined one, of none of 64 objects; of 65 there is no full set
    ∷ number_at 32 (hex 7 0x29_47_43_30_00_41_02)
    ∷ number_at 32 (hex 7 0x29_47_46_41_02_41_02)
    ∷ number_at 32 (hex 12 0x29_47_40_40_00_00_00_00_00_00_00_00)
    ∷ number_at 32 (hex 12 0x29_47_40_41_00_00_00_00_00_00_00_00)
    -- a total whose partial sums alone leave the range, and one that leaves it
    ∷ number_at 32 (hex 14 0x2a_00_40_03_07_00_00_00_00_00_00_00_30_00)
    ∷ number_at 32 (hex 14 0x2a_00_40_03_03_00_00_00_00_00_00_00_30_00)
    -- a choice evaluates only the chosen part, and counts the bytes of both
    ∷ number_at 32 (hex 28 0x2b_51_20_01_00_00_00_20_02_00_00_00_20_09_00_00_00_25_20_01_00_00_00_20_00_00_00_00)
    ∷ number_at 32 (hex 28 0x2b_51_20_02_00_00_00_20_01_00_00_00_25_20_01_00_00_00_20_00_00_00_00_20_09_00_00_00)
    -- "and" and "or" pass over the second part
    ∷ condition_at 32 (hex 23 0x58_57_53_30_00_30_00_51_25_20_01_00_00_00_20_00_00_00_00_20_00_00_00)
    ∷ condition_at 32 (hex 9 0x59_53_30_00_30_00_55_41_02)
    -- with the second part deciding
    ∷ condition_at 32 (hex 9 0x58_53_30_00_30_00_55_41_02)
    -- an element in a set with one more
    ∷ condition_at 32 (hex 8 0x54_30_01_42_30_01_41_02)
    -- no depth, no byte, no number, a literal cut short
    ∷ number_at 0 (hex 2 0x21_00)
    ∷ number_at 32 []
    ∷ number_at 32 (hex 2 0x30_00)
    ∷ number_at 32 (hex 3 0x20_01_00)
    ∷ number_at 1 (hex 11 0x25_20_f9_ff_ff_ff_20_02_00_00_00)
    -- an expression's end by its first bytes
    ∷ span_of (hex 31 0x2b_51_20_01_00_00_00_20_02_00_00_00_20_09_00_00_00_25_20_01_00_00_00_20_00_00_00_00_0a_00_30)
    ∷ span_of (hex 16 0x2a_00_40_03_07_00_00_00_00_00_00_00_30_00_0a_00)
    ∷ []

abbrev pub answers : List Tellable
answers =
    number (told (negsuc 3) 11)
    ∷ number (Err T.DivisorZero)
    ∷ number (Err T.OutOfRange)
    ∷ number (told (negsuc 1) 8)
    ∷ number (told (negsuc 0) 6)
    ∷ number (told (pos 1) 4)
    ∷ number (told (pos 2) 7)
    ∷ number (told (pos 3) 7)
    ∷ number (told (pos 64) 12)
    ∷ number (told (pos 0) 12)
    ∷ number (told (pos 0x7fff_ffff) 14)
    ∷ number (Err T.OutOfRange)
    ∷ number (told (pos 9) 28)
    ∷ number (told (pos 9) 28)
    ∷ condition (C.Holds false 23)
    ∷ condition (C.Holds true 9)
    ∷ condition (C.Holds false 9)
    ∷ condition (C.Holds true 8)
    ∷ number (Err T.Nothing)
    ∷ number (Err T.Nothing)
    ∷ number (Err T.Nothing)
    ∷ number (Err T.Nothing)
    ∷ number (Err T.Nothing)
    ∷ bytes 28
    ∷ bytes 14
    ∷ []

abbrev pub all_of : List Asked → List Tellable
all_of [] = []
all_of (q ∷ qs) = opened q ∷ all_of qs

pub examples : all_of asked ≡ answers
unfolding opened hex
examples = refl

-- ---- the environment of these cases is one that a model describes

abbrev number_variable : Variable
number_variable = record { kind = a_number; objects = 0; preference = none; start = pos 5 }

abbrev element_variable : Variable
element_variable = record { kind = an_element; objects = 3; preference = none; start = pos 2 }

abbrev set_variable : Variable
set_variable = record { kind = a_set; objects = 3; preference = none; start = pos 5 }

abbrev variables : List Variable
variables = number_variable ∷ element_variable ∷ set_variable ∷ []

abbrev tables : List Table
tables = record { rows = 3; columns = 1; entries = pos 0x7fff_ffff ∷ pos 1 ∷ negsuc 0 ∷ [] } ∷ []

pub started : of_states.state_of variables here.state ≡ pos 5 ∷ pos 2 ∷ pos 5 ∷ []
unfolding of_states.state_of of_states.value_of
started = refl

other_kind : {X : Type 0} (k : Kind) (x y : Variable) → x ≡ y → y.kind ≡ a_set → x.kind ≡ k → (a_set ≡ k → ⊥) → X
other_kind k x y q h j n = absurd (n (sym h ∙ sym (ap (λ (v : Variable). v.kind) q) ∙ j))

set_kinds : SetKinds variables here.outline
set_kinds zero x q k = other_kind a_number number_variable x (cc) k refl (λ c. let z : ◌≡◌ {A = ℕ} 0 1 = cc in omega arith)
set_kinds (suc zero) x q k = other_kind an_element element_variable x (cc) k refl (λ c. let z : ◌≡◌ {A = ℕ} 0 1 = cc in omega arith)
set_kinds (suc (suc zero)) x q k = let w : set_variable ≡ x = cc in rw (← w) (refl, omega arith)
set_kinds (suc (suc (suc v))) x q k = let z : ◌≡◌ {A = ℕ} 0 1 = cc in absurd (omega arith)

cells_there : (k : ℕ) → k < 3 → get_or (table_at tables 0).entries k (pos 0) ≡ of_tables.cell_at here.model 9 k
unfolding hex table_at of_tables.cell_at of_tables.or_zero of_readers.after of_readers.continue ◌bind_readers◌ of_readers.give of_readers.byte of_readers.word of_readers.signed of_readers.one of_readers.integer
cells_there zero h = refl
cells_there (suc zero) h = refl
cells_there (suc (suc zero)) h = refl
cells_there (suc (suc (suc k))) h = absurd (omega arith)

pub described : Describes variables tables here
unfolding table_at
described = record {
  sets = set_kinds;
  tabled = λ t h. let q : t ≡ 0 = omega arith in
      rw q (record { at = 9; packed = refl; near = omega arith; narrow = omega arith; few = omega arith; cells = cells_there });
}
