-- 52 22 21 v 28 t 31 u 30 k 20 c: what the evaluators make of its bytes, and so its value.
use Prim.Native.Nat.{ℕ, ◌+◌, ◌-◌, ◌%◌, ◌≤◌, ◌<◌}
use mathlib.Core.Path.{◌≡◌, refl, sym, ap, ◌∙◌}
use mathlib.Core.Bool.{Bool, true, false, cond}
use mathlib.Core.List.{List}
use native.Mathlib.Omega.{arith}
use lib.ListN.{length, get_or, drop, length-drop}
use lib.Seq.{drop-drop}
use lib.Dec.{ltb}
use lib.IntN.{ℤ, pos, ◌+ℤ◌, ◌-ℤ◌}
use lib.Signed.{mag, le_z}
use borrow.Author.Tests.{ltb-true, lt-ltb, le-ltb}
use Rattle.std.specs.Prelude.{Some, None, IfSome}
use Rattle.model.specs.Numbers.{range_end, range_size, most_nesting}
use Rattle.model.specs.Values.{Value, value, in_range}
use Rattle.model.specs.Values.{◌>>=◌ as ◌and_then◌}
use Rattle.model.specs.Readers.{read, integer}
use Rattle.model.specs.Syntax.{Number, Condition}
use Rattle.model.specs.Expressions.{number, condition}
use Rattle.model.specs.Meaning.{two, number_value, condition_value}
use Rattle.words.specs.States.{state_of}
use Rattle.outline.specs.Outline.{model_of, Outlines}
use Rattle.eval_sets.specs.declared.answers.Parts.{Parts}
use Rattle.eval_sets.specs.Answers.{told, number_answer, past_number, condition_answer, past_condition, element_answer, absent_set}
use Rattle.eval_sets.specs.Forms.{number_form, condition_form}
use Rattle.eval_sets.specs.Runs.{Environment, environment, table_in, entry_of, fits, arithmetic, compared, run_element, two_elements, entry_number, literal_number, literal_value, number_behind, number_at, condition_behind, condition_at, run_number, run_condition}
use Rattle.eval_sets.proofs.Opening.{number_variable_some, entry_some, number_opens, condition_opens}
use Rattle.eval_sets.proofs.Parts.{parts, elements_are, number_past, condition_past, pair_is, test_is}
use Rattle.eval_sets.proofs.Promises.{run_number_lem, run_condition_lem}
use Rattle.eval_sets.proofs.Slices.{first_at}
use Rattle.prepare.proofs.Tested.{some_behind, holds_value, outline_describes}
use Rattle.quick.specs.Sets.{begins_element, object_in}
use Rattle.quick.specs.Entries.{EntryForm, entry_at}
use Rattle.quick.proofs.Changes.{element_run}
use Rattle.quick.specs.Quick.{SumForm, variable_in, entry_in, SumIs, decided, QuickSays}

pub fits_value : (z : ℤ) → mag z < range_end → fits z ≡ value z
unfolding in_range
fits_value z l = rw (lt-ltb (mag z) range_end l)

module _ (p : Environment) (bytes : List ℕ) where
  -- 21 v
  pub variable_run : (d at : ℕ) → (d ≡ 0 → ⊥) → at + 2 ≤ length bytes → get_or bytes at 0 ≡ 0x21
      → run_number d p (drop at bytes) ≡ number_answer (fits (pos (get_or p.state (get_or bytes (at + 1) 0) 0 % range_size) -ℤ pos range_end)) 2
  unfolding number_form number_at number_behind
  variable_run d at some l b =
      let there = some_behind bytes at 1 (omega arith) in
      (number_opens p).opened d at bytes some (omega arith) b
      ∙ ap (past_number 1) (number_variable_some p.state (drop (at + 1) bytes) (λ z. absurd (omega arith)))
      ∙ number_past _ 1 1
      ∙ ap (λ (v : ℕ). number_answer (fits (pos (get_or p.state v 0 % range_size) -ℤ pos range_end)) 2) (sym (first_at (at + 1) bytes))

  -- 20 and an i32
  pub literal_run : (d at : ℕ) (c : ℤ) → (d ≡ 0 → ⊥) → at + 5 ≤ length bytes → get_or bytes at 0 ≡ 0x20 → integer (drop (at + 1) bytes) ≡ read c 4 → run_number d p (drop at bytes) ≡ number_answer (fits c) 5
  unfolding number_form number_at number_behind literal_number literal_value
  literal_run d at c some l b h =
      (number_opens p).opened d at bytes some (omega arith) b
      ∙ ap (past_number 1) (rw (le-ltb (length (drop (at + 1) bytes)) 4 (some_behind bytes at 4 (omega arith)), h))
      ∙ number_past (fits c) 1 4

  -- 28 t e e
  pub entry_run : (d at : ℕ) → (d ≡ 0 → ⊥) → EntryForm bytes at
      → run_number d p (drop at bytes)
      ≡ number_answer (fits (entry_of p.model (table_in p.outline (get_or bytes (at + 1) 0)) (object_in (get_or bytes (at + 2) 0) (get_or bytes (at + 3) 0) p.state) (object_in (get_or bytes (at + 4) 0) (get_or bytes (at + 5) 0) p.state))) 6
  unfolding number_form number_at number_behind
  entry_run d at some f =
      let e = drop (at + 1) bytes in
      let i = object_in (get_or bytes (at + 2) 0) (get_or bytes (at + 3) 0) p.state in
      let j = object_in (get_or bytes (at + 4) 0) (get_or bytes (at + 5) 0) p.state in
      let long = length-drop (at + 1) bytes in
      let two-on : drop 1 e ≡ drop (at + 2) bytes = drop-drop 1 (at + 1) bytes ∙ ap (λ (k : ℕ). drop k bytes) (on 1) in
      let four-on : drop 2 (drop (at + 2) bytes) ≡ drop (at + 4) bytes = drop-drop 2 (at + 2) bytes ∙ ap (λ (k : ℕ). drop k bytes) (on_two 2) in
      let row : run_element p.state (drop (at + 2) bytes) ≡ element_answer i 2 =
      element_run p.state bytes (at + 2) (omega (arith, f.inside)) f.row ∙ ap (λ (k : ℕ). element_answer (object_in (get_or bytes (at + 2) 0) (get_or bytes k 0) p.state) 2) (on_two 1) in
      let column : run_element p.state (drop 2 (drop (at + 2) bytes)) ≡ element_answer j 2 =
      ap (run_element p.state) four-on ∙ element_run p.state bytes (at + 4) (omega (arith, f.inside)) f.column ∙ ap (λ (k : ℕ). element_answer (object_in (get_or bytes (at + 4) 0) (get_or bytes k 0) p.state) 2) (on_four 1) in
      let both : two_elements p.state (drop 1 e) ≡ parts i j 0 4 = ap (two_elements p.state) two-on ∙ elements_are p.state (λ g. absent_set) (drop (at + 2) bytes) _ _ _ _ row column in
      let value_of : entry_number p.model p.state p.outline e ≡ number_answer (fits (entry_of p.model (table_in p.outline (get_or bytes (at + 1) 0)) i j)) 5 =
      entry_some p.model p.state p.outline e (λ z. absurd (omega (arith, long, f.inside, z)))
      ∙ ap (λ (q : Parts). number_answer (fits (entry_of p.model (table_in p.outline (get_or e 0 0)) q.first q.second)) (1 + q.used)) both
      ∙ ap (λ (t : ℕ). number_answer (fits (entry_of p.model (table_in p.outline t) i j)) 5) (sym (first_at (at + 1) bytes)) in
      (number_opens p).opened d at bytes some (omega (arith, f.inside)) f.entry ∙ ap (past_number 1) value_of ∙ number_past _ 1 5
    where
      on : (i : ℕ) → at + 1 + i ≡ at + (1 + i)
      on i = omega arith

      on_two : (i : ℕ) → at + 2 + i ≡ at + (2 + i)
      on_two i = omega arith

      on_four : (i : ℕ) → at + 4 + i ≡ at + (4 + i)
      on_four i = omega arith

  -- 22 and both of them
  sum_run : (d at : ℕ) → (d ≡ 0 → ⊥) → at + 9 ≤ length bytes → get_or bytes at 0 ≡ 0x22 → (x y : Value ℤ) → run_number d p (drop (at + 1) bytes) ≡ number_answer x 2 → run_number d p (drop (at + 3) bytes) ≡ number_answer y 6
      → run_number (d + 1) p (drop at bytes) ≡ number_answer (two x y (λ a b. fits (a +ℤ b))) 9
  unfolding number_form number_at number_behind arithmetic
  sum_run d at some l b x y first second =
      let less : d + 1 - 1 ≡ d = omega arith in
      let behind : drop 2 (drop (at + 1) bytes) ≡ drop (at + 3) bytes = drop-drop 2 (at + 1) bytes ∙ ap (λ (i : ℕ). drop i bytes) (on 2) in
      (number_opens p).opened (d + 1) at bytes (λ z. absurd (omega arith)) (omega arith) b
      ∙ ap (past_number 1) (rw less (pair_is (λ f. run_number d p f) (λ f. run_condition d p f) (drop (at + 1) bytes) (λ a b. fits (a +ℤ b)) x y 2 6 first (ap (run_number d p) behind ∙ second)))
      ∙ number_past _ 1 8
    where
      on : (i : ℕ) → at + 1 + i ≡ at + (1 + i)
      on i = omega arith

  -- 52 and the whole
  whole_run : (at : ℕ) (c : ℤ) → SumForm bytes at → integer (drop (at + 11) bytes) ≡ read c 4 → (x y : Value ℤ) → run_number 30 p (drop (at + 2) bytes) ≡ number_answer x 2 → run_number 30 p (drop (at + 4) bytes) ≡ number_answer y 6
      → run_condition most_nesting p (drop at bytes) ≡ condition_answer (two (two x y (λ a b. fits (a +ℤ b))) (fits c) (λ a b. value (le_z a b))) 15
  unfolding condition_form condition_at condition_behind compared
  whole_run at c f h x y first second =
      let sum : run_number 31 p (drop (at + 1) bytes) ≡ number_answer (two x y (λ a b. fits (a +ℤ b))) 9 =
      sum_run 30 (at + 1) (λ z. absurd (omega arith)) (omega (arith, f.inside)) f.plus x y (ap (λ (i : ℕ). run_number 30 p (drop i bytes)) (on 1) ∙ first) (ap (λ (i : ℕ). run_number 30 p (drop i bytes)) (on 3) ∙ second) in
      let behind : drop 9 (drop (at + 1) bytes) ≡ drop (at + 10) bytes = drop-drop 9 (at + 1) bytes ∙ ap (λ (i : ℕ). drop i bytes) (on 9) in
      let literal : run_number 31 p (drop 9 (drop (at + 1) bytes)) ≡ number_answer (fits c) 5 =
      ap (run_number 31 p) behind ∙ literal_run 31 (at + 10) c (λ z. absurd (omega arith)) (omega (arith, f.inside)) f.literal (ap (λ (i : ℕ). integer (drop i bytes)) (last at) ∙ h) in
      (condition_opens p).opened most_nesting at bytes (λ z. absurd (omega arith)) (omega (arith, f.inside)) f.is_at_most
      ∙ ap (past_condition 1) (test_is (λ g. run_number 31 p g) (λ g. run_condition 31 p g) (drop (at + 1) bytes) le_z _ _ 9 5 sum literal)
      ∙ condition_past _ 1 14
    where
      on : (i : ℕ) → at + 1 + i ≡ at + (1 + i)
      on i = omega arith

      last : (at : ℕ) → at + 10 + 1 ≡ at + 11
      last at = omega arith

-- ---- the value

-- the entry of a sum
entry_form : (bytes : List ℕ) (at : ℕ) → SumForm bytes at → EntryForm bytes (at + 4)
unfolding begins_element
entry_form bytes at f = record {
  inside = omega (arith, f.inside);
  entry = f.entry;
  row = rw (on_four 2, f.row);
  column = rw (on_four 4, f.column);
}
  where
    on_four : (i : ℕ) → at + 4 + i ≡ at + (4 + i)
    on_four i = omega arith

pub entry_says : (bytes : List ℕ) (at : ℕ) (words state : List ℕ) → EntryForm bytes at → mag (entry_at bytes at words state) < range_end → (x : Number) (n : ℕ) → Outlines bytes words (model_of bytes)
    → number (model_of bytes).variables (model_of bytes).tables most_nesting (drop at bytes) ≡ read x n
    → told (entry_at bytes at words state) 6 ≡ number_answer (number_value range_end (model_of bytes).tables x (state_of (model_of bytes).variables state)) n
unfolding number_answer
entry_says bytes at words state f l x n o reads =
    let p = environment bytes state words in
    sym (entry_run p bytes most_nesting at (λ e. absurd (omega arith)) f ∙ ap (λ (v : Value ℤ). number_answer v 6) (fits_value (entry_at bytes at words state) l))
    ∙ run_number_lem most_nesting p (drop at bytes) _ _ x n (outline_describes state o) reads

module _ (bytes : List ℕ) (at : ℕ) (words state : List ℕ) (z c : ℤ) where
  -- in range, the sum is compared
  summed_up : SumIs bytes at words state z → mag z < range_end → mag c < range_end
      → two (two (fits (variable_in bytes at state)) (fits (entry_in bytes at words state)) (λ a b. fits (a +ℤ b))) (fits c) (λ a b. value (le_z a b)) ≡ value (le_z z c)
  unfolding two ◌and_then◌
  summed_up s l k =
      rw (fits_value (variable_in bytes at state) s.variable_fits, fits_value (entry_in bytes at words state) s.entry_fits, ← s.sum, fits_value z l, fits_value c k)

  module _ (f : SumForm bytes at) (s : SumIs bytes at words state z) (h : integer (drop (at + 11) bytes) ≡ read c 4) (k : mag c < range_end) where
    value_is : mag z < range_end → (x : Condition) (n : ℕ) → Outlines bytes words (model_of bytes) → condition (model_of bytes).variables (model_of bytes).tables most_nesting (drop at bytes) ≡ read x n
        → condition_value range_end (model_of bytes).tables x (state_of (model_of bytes).variables state) ≡ value (le_z z c)
    unfolding condition_answer
    value_is l x n o reads =
        let p = environment bytes state words in
        let first : run_number 30 p (drop (at + 2) bytes) ≡ number_answer (fits (variable_in bytes at state)) 2 =
        variable_run p bytes 30 (at + 2) (λ e. absurd (omega arith)) (omega (arith, f.inside)) f.variable ∙ ap (λ (i : ℕ). number_answer (fits (pos (get_or state (get_or bytes i 0) 0 % range_size) -ℤ pos range_end)) 2) (on_two 1) in
        let second : run_number 30 p (drop (at + 4) bytes) ≡ number_answer (fits (entry_in bytes at words state)) 6 =
        entry_run p bytes 30 (at + 4) (λ e. absurd (omega arith)) (entry_form bytes at f) ∙ rw (on_four 1, on_four 2, on_four 3, on_four 4, on_four 5, f.row, f.column) in
        (holds_value _ n
        (sym (run_condition_lem most_nesting p (drop at bytes) _ _ x n (outline_describes state o) reads) ∙ whole_run p bytes at c f h _ _ first second ∙ ap (λ (v : Value Bool). condition_answer v 15) (summed_up s l k))
        ).0
      where
        on_two : (i : ℕ) → at + 2 + i ≡ at + (2 + i)
        on_two i = omega arith

        on_four : (i : ℕ) → at + 4 + i ≡ at + (4 + i)
        on_four i = omega arith

    pub sum_says : QuickSays bytes at words state (decided z c)
    unfolding decided
    sum_says x n o reads = go (ltb (mag z) range_end) refl
      where
        go : (t : Bool) → ltb (mag z) range_end ≡ t
            → IfSome (cond (ltb (mag z) range_end) (Some (le_z z c)) None) (λ b. condition_value range_end (model_of bytes).tables x (state_of (model_of bytes).variables state) ≡ value b)
        go true e = rw e (value_is (ltb-true (mag z) range_end e) x n o reads)
        go false e = rw e tt
