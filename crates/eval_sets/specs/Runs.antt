-- The run of an expression on bytes, in the evaluators' own steps; the first byte tells the form, what stands behind it the parts.
use Rattle.std.specs.Prelude.{Ok, Err, ℕ, zero, suc, ◌+◌, ◌-◌, ◌%◌, ◌^◌, Bool, true, false, cond, List, [], ◌∷◌, length, get_or, drop, eqb, ltb, ℤ, pos, ◌+ℤ◌, ◌-ℤ◌, ◌*ℤ◌}
use Rattle.std.specs.Int.Signed.{lt_z, le_z}
use Rattle.model.specs.Numbers.{range_end, most_objects}
use Rattle.model.specs.Values.{Value, ◌>>=◌, in_range, floor_quotient}
use Rattle.model.specs.Readers.{Read, read, refused, word, integer}
use Rattle.model.specs.Sets as Sets
use Rattle.model.specs.Syntax.{a_number}
use Rattle.model.specs.Meaning.{equal_z, sum_over}
use Rattle.words.specs.FullSets.{full_of}
use Rattle.words.specs.Tables.{entry_in, columns_of, cells_of, at_of}
use Rattle.outline.specs.Outline.{kinds_from, tables_from}
use Rattle.eval_sets.specs.declared.answers.ConditionValue.{ConditionValue}
use Rattle.eval_sets.specs.declared.answers.ConditionValue.TheVariants as C
use Rattle.eval_sets.specs.declared.answers.ElementValue.{ElementValue}
use Rattle.eval_sets.specs.declared.answers.SetValue.{SetValue}
use Rattle.eval_sets.specs.declared.answers.Parts.{Parts}
use Rattle.eval_sets.specs.declared.first_bytes.Operation.{Operation}
use Rattle.eval_sets.specs.declared.first_bytes.Operation.TheVariants as Op
use Rattle.eval_sets.specs.declared.first_bytes.NumberForm.{NumberForm}
use Rattle.eval_sets.specs.declared.first_bytes.NumberForm.TheVariants as NF
use Rattle.eval_sets.specs.declared.first_bytes.Change.{Change}
use Rattle.eval_sets.specs.declared.first_bytes.Change.TheVariants as Ch
use Rattle.eval_sets.specs.declared.first_bytes.Combination.{Combination}
use Rattle.eval_sets.specs.declared.first_bytes.Combination.TheVariants as Co
use Rattle.eval_sets.specs.declared.first_bytes.SetForm.{SetForm}
use Rattle.eval_sets.specs.declared.first_bytes.SetForm.TheVariants as SF
use Rattle.eval_sets.specs.declared.first_bytes.Relation.{Relation}
use Rattle.eval_sets.specs.declared.first_bytes.Relation.TheVariants as Re
use Rattle.eval_sets.specs.declared.first_bytes.ConditionForm.{ConditionForm}
use Rattle.eval_sets.specs.declared.first_bytes.ConditionForm.TheVariants as CF
use Rattle.words.specs.States.{value_of}
use Rattle.eval_sets.specs.Answers.{NumberValue, PairValue, told, number_answer, set_answer, element_answer, absent_number, absent_condition, absent_set, absent_element, past_number, past_condition, past_set, number_of_two, condition_of_two, negated}
use Rattle.eval_sets.specs.Forms.{number_form, set_form, condition_form, span}

-- what an expression is evaluated in: the model's bytes, the state's words, the outline's words
pub record Environment : Type 0 where
  pub model : List ℕ
  pub state : List ℕ
  pub outline : List ℕ

abbrev pub environment : (model state outline : List ℕ) → Environment
environment m ws os = record { model = m; state = ws; outline = os }

-- the objects of the set variable v, by its kind word
abbrev pub objects_in : (outline : List ℕ) (v : ℕ) → ℕ
objects_in os v = get_or os (kinds_from + v) 0 - most_objects

-- the word of table t
abbrev pub table_in : (outline : List ℕ) (t : ℕ) → ℕ
table_in os t = get_or os (tables_from + t) 0

-- ---- elements

-- 30 and 31, with their operand
unfoldable pub element_of : (state : List ℕ) (b k : ℕ) → ElementValue
element_of ws b k =
    cond (eqb b 0x30) (element_answer (k % most_objects) 2) (cond (eqb b 0x31) (element_answer (get_or ws k 0 % most_objects) 2) absent_element)

unfoldable pub run_element : (state : List ℕ) → List ℕ → ElementValue
run_element ws e = cond (ltb (length e) 2) absent_element (element_of ws (get_or e 0 0) (get_or e 1 0))

-- ---- sets

abbrev pub element_parts : ElementValue → ElementValue → Parts
element_parts x y = record { first = x.object; second = y.object; objects = 0; used = x.used + y.used }

abbrev pub element_set_parts : ElementValue → SetValue → Parts
element_set_parts x y = record { first = x.object; second = y.members; objects = y.objects; used = x.used + y.used }

abbrev pub set_element_parts : SetValue → ElementValue → Parts
set_element_parts x y = record { first = x.members; second = y.object; objects = x.objects; used = x.used + y.used }

abbrev pub set_parts : SetValue → SetValue → Parts
set_parts x y = record { first = x.members; second = y.members; objects = x.objects; used = x.used + y.used }

unfoldable pub two_elements : (state : List ℕ) → List ℕ → Parts
two_elements ws e = element_parts (run_element ws e) (run_element ws (drop (run_element ws e).used e))

unfoldable pub element_then_set : (state : List ℕ) → (List ℕ → SetValue) → List ℕ → Parts
element_then_set ws rs e = element_set_parts (run_element ws e) (rs (drop (run_element ws e).used e))

unfoldable pub set_then_element : (state : List ℕ) → (List ℕ → SetValue) → List ℕ → Parts
set_then_element ws rs e = set_element_parts (rs e) (run_element ws (drop (rs e).used e))

unfoldable pub two_sets : (List ℕ → SetValue) → List ℕ → Parts
two_sets rs e = set_parts (rs e) (rs (drop (rs e).used e))

-- u8 object count, u64 members
unfoldable pub literal_members : (objects : ℕ) → Read ℕ → SetValue
literal_members n (read s k) = set_answer s n 9
literal_members n (refused t) = absent_set

unfoldable pub literal_set : List ℕ → SetValue
literal_set e = cond (ltb (length e) 9) absent_set (literal_members (get_or e 0 0) (word 8 (drop 1 e)))

unfoldable pub set_variable_at : (state outline : List ℕ) → List ℕ → SetValue
set_variable_at ws os [] = absent_set
set_variable_at ws os (v ∷ e) = set_answer (get_or ws v 0) (objects_in os v) 1

unfoldable pub changed : Change → Parts → SetValue
changed Ch.Add p = set_answer (Sets.union (2 ^ p.first) p.second) p.objects p.used
changed Ch.Remove p = set_answer (Sets.difference p.second (2 ^ p.first)) p.objects p.used

unfoldable pub combined : Combination → Parts → SetValue
combined Co.Union p = set_answer (Sets.union p.first p.second) p.objects p.used
combined Co.Intersection p = set_answer (Sets.intersection p.first p.second) p.objects p.used
combined Co.Difference p = set_answer (Sets.difference p.first p.second) p.objects p.used

unfoldable pub complemented : SetValue → SetValue
complemented v = set_answer (Sets.difference (full_of v.objects) v.members) v.objects v.used

-- what stands behind a set's first byte; rs runs its parts
unfoldable pub set_behind : (state outline : List ℕ) → (List ℕ → SetValue) → SetForm → List ℕ → SetValue
set_behind ws os rs SF.Literal e = literal_set e
set_behind ws os rs SF.Variable e = set_variable_at ws os e
set_behind ws os rs (SF.Changed h) e = changed h (element_then_set ws rs e)
set_behind ws os rs (SF.Combined c) e = combined c (two_sets rs e)
set_behind ws os rs SF.Complement e = complemented (rs e)
set_behind ws os rs SF.Other e = absent_set

unfoldable pub run_set : (depth : ℕ) (state outline : List ℕ) → List ℕ → SetValue
run_set zero ws os e = absent_set
run_set (suc d) ws os [] = absent_set
run_set (suc d) ws os (b ∷ e) = past_set 1 (set_behind ws os (λ f. run_set d ws os f) (set_form b) e)

-- what stands behind a set's first byte, and two parts one behind the other, their sets run with this depth
abbrev pub set_at : (depth : ℕ) (state outline : List ℕ) → SetForm → List ℕ → SetValue
set_at d ws os form e = set_behind ws os (λ f. run_set d ws os f) form e

abbrev pub element_then_set_at : (depth : ℕ) (state outline : List ℕ) → List ℕ → Parts
element_then_set_at d ws os e = element_then_set ws (λ f. run_set d ws os f) e

abbrev pub set_then_element_at : (depth : ℕ) (state outline : List ℕ) → List ℕ → Parts
set_then_element_at d ws os e = set_then_element ws (λ f. run_set d ws os f) e

abbrev pub two_sets_at : (depth : ℕ) (state outline : List ℕ) → List ℕ → Parts
two_sets_at d ws os e = two_sets (λ f. run_set d ws os f) e

-- ---- leaves of numbers and conditions

abbrev pub fits : ℤ → Value ℤ
fits z = in_range range_end z

unfoldable pub literal_value : Read ℤ → NumberValue
literal_value (read z n) = number_answer (fits z) 4
literal_value (refused t) = absent_number

unfoldable pub literal_number : List ℕ → NumberValue
literal_number e = cond (ltb (length e) 4) absent_number (literal_value (integer e))

unfoldable pub number_variable_at : (state : List ℕ) → List ℕ → NumberValue
number_variable_at ws [] = absent_number
number_variable_at ws (v ∷ e) = number_answer (fits (value_of a_number (get_or ws v 0))) 1

unfoldable pub arithmetic : Operation → ℤ → ℤ → Value ℤ
arithmetic Op.Sum a b = fits (a +ℤ b)
arithmetic Op.Difference a b = fits (a -ℤ b)
arithmetic Op.Product a b = fits (a *ℤ b)
arithmetic Op.Quotient a b = floor_quotient a b >>= fits
arithmetic Op.Lesser a b = fits (cond (le_z a b) a b)
arithmetic Op.Greater a b = fits (cond (le_z a b) b a)

unfoldable pub entry_of : (model : List ℕ) (table i j : ℕ) → ℤ
entry_of bytes w i j = entry_in bytes (at_of w) (columns_of w) (cells_of w) i j

unfoldable pub entry_number : (model state outline : List ℕ) → List ℕ → NumberValue
entry_number model ws os [] = absent_number
entry_number model ws os (t ∷ e) =
    let x = two_elements ws e in
    number_answer (fits (entry_of model (table_in os t) x.first x.second)) (1 + x.used)

unfoldable pub size_number : SetValue → NumberValue
size_number v = number_answer (fits (pos (length (Sets.members v.members)))) v.used

unfoldable pub total_number : (model state outline : List ℕ) → (List ℕ → SetValue) → List ℕ → NumberValue
total_number model ws os rs [] = absent_number
total_number model ws os rs (t ∷ e) =
    let x = set_then_element ws rs e in
    number_answer (fits (sum_over (λ i. entry_of model (table_in os t) i x.second) (Sets.members x.first))) (1 + x.used)

abbrev pub total_at : (depth : ℕ) → Environment → List ℕ → NumberValue
total_at d p e = total_number p.model p.state p.outline (λ f. run_set d p.state p.outline f) e

unfoldable pub compared : Relation → ℤ → ℤ → Bool
compared Re.Equal a b = equal_z a b
compared Re.Less a b = lt_z a b
compared Re.AtMost a b = le_z a b

unfoldable pub same_elements : Parts → ConditionValue
same_elements p = C.Holds (eqb p.first p.second) p.used

unfoldable pub member_of : Parts → ConditionValue
member_of p = C.Holds (Sets.is_member p.first p.second) p.used

unfoldable pub empty_set : SetValue → ConditionValue
empty_set v = C.Holds (eqb v.members 0) v.used

unfoldable pub subset_of : Parts → ConditionValue
subset_of p = C.Holds (Sets.is_subset p.first p.second) p.used

-- ---- two parts, one behind the other

unfoldable pub pair_second : ℤ → ℕ → NumberValue → PairValue
pair_second x n (Ok y) = told (x, y.value) (n + y.used)
pair_second x n (Err t) = Err t

unfoldable pub pair_first : NumberValue → (ℕ → NumberValue) → PairValue
pair_first (Ok x) next = pair_second x.value x.used (next x.used)
pair_first (Err t) next = Err t

unfoldable pub run_pair : (List ℕ → NumberValue) → List ℕ → PairValue
run_pair rn e = pair_first (rn e) (λ n. rn (drop n e))

-- the number behind n bytes, before a part that is passed over
unfoldable pub number_before : ℕ → NumberValue → (ℕ → ℕ) → NumberValue
number_before n (Ok z) skip = told z.value (n + z.used + skip (n + z.used))
number_before n (Err t) skip = Err t

unfoldable pub chosen : Bool → ℕ → (ℕ → NumberValue) → (ℕ → ℕ) → NumberValue
chosen true n next skip = number_before n (next n) skip
chosen false n next skip = past_number (n + skip n) (next (n + skip n))

unfoldable pub choice_first : ConditionValue → (ℕ → NumberValue) → (ℕ → ℕ) → NumberValue
choice_first (C.Holds b n) next skip = chosen b n next skip
choice_first (C.Trouble t) next skip = Err t

-- the bytes of the expression behind n bytes
abbrev pub skip_at : List ℕ → ℕ → ℕ
skip_at e n = span (drop n e) 0 1

unfoldable pub run_choice : (List ℕ → NumberValue) → (List ℕ → ConditionValue) → List ℕ → NumberValue
run_choice rn rc e = choice_first (rc e) (λ n. rn (drop n e)) (skip_at e)

unfoldable pub agree : Bool → Bool → Bool
agree true b = b
agree false true = false
agree false false = true

unfoldable pub decided : Bool → Bool → ℕ → (ℕ → ConditionValue) → (ℕ → ℕ) → ConditionValue
decided true b n next skip = C.Holds b (n + skip n)
decided false b n next skip = past_condition n (next n)

unfoldable pub connective_first : (decides : Bool) → ConditionValue → (ℕ → ConditionValue) → (ℕ → ℕ) → ConditionValue
connective_first a (C.Holds b n) next skip = decided (agree a b) b n next skip
connective_first a (C.Trouble t) next skip = C.Trouble t

unfoldable pub run_connective : (decides : Bool) → (List ℕ → ConditionValue) → List ℕ → ConditionValue
run_connective a rc e = connective_first a (rc e) (λ n. rc (drop n e)) (skip_at e)

-- ---- numbers and conditions

-- what stands behind the first byte; rs, rn and rc run the parts
module _ (p : Environment) (rs : List ℕ → SetValue) (rn : List ℕ → NumberValue) (rc : List ℕ → ConditionValue) where
  unfoldable pub number_behind : NumberForm → List ℕ → NumberValue
  number_behind NF.Literal e = literal_number e
  number_behind NF.Variable e = number_variable_at p.state e
  number_behind (NF.Arithmetic o) e = number_of_two (arithmetic o) (run_pair rn e)
  number_behind NF.Entry e = entry_number p.model p.state p.outline e
  number_behind NF.Size e = size_number (rs e)
  number_behind NF.Total e = total_number p.model p.state p.outline rs e
  number_behind NF.Choice e = run_choice rn rc e
  number_behind NF.Other e = absent_number

  unfoldable pub condition_behind : ConditionForm → List ℕ → ConditionValue
  condition_behind (CF.Comparison r) e = condition_of_two (compared r) (run_pair rn e)
  condition_behind CF.Same e = same_elements (two_elements p.state e)
  condition_behind CF.Member e = member_of (element_then_set p.state rs e)
  condition_behind CF.Empty e = empty_set (rs e)
  condition_behind CF.Subset e = subset_of (two_sets rs e)
  condition_behind CF.Negation e = negated (rc e)
  condition_behind (CF.Connective a) e = run_connective a rc e
  condition_behind CF.Other e = absent_condition

unfoldable mutual
  pub run_number : (depth : ℕ) → Environment → List ℕ → NumberValue
  run_number zero p e = absent_number
  run_number (suc d) p [] = absent_number
  run_number (suc d) p (b ∷ e) =
      past_number 1 (number_behind p (λ f. run_set d p.state p.outline f) (λ f. run_number d p f) (λ f. run_condition d p f) (number_form b) e)

  pub run_condition : (depth : ℕ) → Environment → List ℕ → ConditionValue
  run_condition zero p e = absent_condition
  run_condition (suc d) p [] = absent_condition
  run_condition (suc d) p (b ∷ e) =
      past_condition 1 (condition_behind p (λ f. run_set d p.state p.outline f) (λ f. run_number d p f) (λ f. run_condition d p f) (condition_form b) e)

-- what stands behind the first byte, its parts run with this depth
unfoldable pub number_at : (depth : ℕ) → Environment → NumberForm → List ℕ → NumberValue
number_at d p form e = number_behind p (λ f. run_set d p.state p.outline f) (λ f. run_number d p f) (λ f. run_condition d p f) form e

unfoldable pub condition_at : (depth : ℕ) → Environment → ConditionForm → List ℕ → ConditionValue
condition_at d p form e = condition_behind p (λ f. run_set d p.state p.outline f) (λ f. run_number d p f) (λ f. run_condition d p f) form e

-- forms of two or three parts, run with this depth
abbrev pub pair_at : (depth : ℕ) → Environment → List ℕ → PairValue
pair_at d p e = run_pair (λ f. run_number d p f) e

abbrev pub choice_at : (depth : ℕ) → Environment → List ℕ → NumberValue
choice_at d p e = run_choice (λ f. run_number d p f) (λ f. run_condition d p f) e

abbrev pub connective_at : (decides : Bool) (depth : ℕ) → Environment → List ℕ → ConditionValue
connective_at a d p e = run_connective a (λ f. run_condition d p f) e

-- the number behind n bytes, a part behind it or before it passed over
abbrev pub number_before_at : (n depth : ℕ) → Environment → List ℕ → NumberValue
number_before_at n d p e = number_before n (run_number d p (drop n e)) (skip_at e)

abbrev pub number_beyond_at : (n depth : ℕ) → Environment → List ℕ → NumberValue
number_beyond_at n d p e = chosen false n (λ k. run_number d p (drop k e)) (skip_at e)
