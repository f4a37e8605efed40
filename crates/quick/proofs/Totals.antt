-- 2A over a set variable, and 2B with one behind a number: what the evaluators make of their bytes, and so their values.
use Prim.Native.Nat.{ℕ, suc, ◌+◌, ◌-◌, ◌%◌, ◌≤◌, ◌<◌}
use mathlib.Core.Path.{◌≡◌, refl, sym, ap, ◌∙◌}
use mathlib.Core.Bool.{Bool, true, false, cond, false≢true}
use mathlib.Core.List.{List, [], ◌∷◌}
use native.Mathlib.Nat.{zero-add}
use native.Mathlib.Omega.{arith}
use lib.ListN.{length, get_or, drop, length-drop}
use lib.Seq.{get_or-drop, drop-drop}
use lib.Dec.{eqb}
use lib.IntN.{ℤ}
use lib.Signed.{mag}
use borrow.Author.Tests.{ne_eqb}
use Rattle.model.specs.Numbers.{range_end, most_objects, most_nesting}
use Rattle.model.specs.Values.{Value, value, trouble}
use Rattle.model.specs.Values.{◌>>=◌ as ◌and_then◌}
use Rattle.model.specs.Readers.{read, integer}
use Rattle.model.specs.Sets.{members}
use Rattle.model.specs.Meaning.{sum_over}
use Rattle.words.specs.Tables.{integer_at}
use Rattle.words.proofs.Literal.{word_is, integer_is}
use Rattle.words.proofs.Entries.{integer_there}
use Rattle.prepare.specs.Forms.{SameForm}
use Rattle.eval_sets.specs.declared.answers.ConditionValue.{ConditionValue}
use Rattle.eval_sets.specs.declared.answers.SetValue.{SetValue}
use Rattle.eval_sets.specs.declared.answers.Parts.{Parts}
use Rattle.eval_sets.specs.declared.answers.Told.{Told}
use Rattle.eval_sets.specs.Answers.{told as told_number, NumberValue, number_answer, past_number, condition_answer, past_condition, element_answer, set_answer}
use Rattle.eval_sets.specs.Forms.{number_form, condition_form, shape_of, operands, parts as parts_of, span}
use Rattle.eval_sets.specs.Runs.{Environment, environment, objects_in, run_connective, table_in, entry_of, fits, run_element, set_then_element, run_set, total_number, empty_set, number_before, chosen, choice_first, run_choice, number_behind, number_at, condition_behind, condition_at, run_number, run_condition}
use Rattle.eval_sets.proofs.Opening.{total_some, number_opens, condition_opens}
use Rattle.eval_sets.proofs.Parts.{parts, set_element_is, number_past, condition_past, both_is}
use Rattle.eval_sets.proofs.Promises.{run_number_lem}
use Rattle.eval_sets.proofs.Slices.{first_at}
use Rattle.eval_sets.proofs.Spans.{span_operands, span_none}
use Rattle.prepare.proofs.Tested.{element_literal, variable_run, same_run, outline_describes}
use Rattle.quick.specs.Sets.{object_in, changes_set}
use Rattle.quick.specs.Sums.{VariableTotal, ChangedTotal, TotalForm, of_variable, of_changed, summed_set, summed_column, sum_of, total_in, EndForm, end_in, ClosingForm, closing_in, BoundTold}
use Rattle.quick.proofs.Changes.{changed_run}
use Rattle.quick.proofs.Compared.{fits_value, literal_run}

pub number_is : (v : Value ℤ) (n : ℕ) {z : ℤ} {k : ℕ} → number_answer v n ≡ told_number z k → (v ≡ value z) × (n ≡ k)
unfolding number_answer
number_is (value a) n {z} {k} e =
    let q : ◌≡◌ {A = Told ℤ} (record { value = a; used = n }) (record { value = z; used = k }) = cc in
    (ap (λ (v : Told ℤ). value v.value) q, ap (λ (v : Told ℤ). v.used) q)
number_is (trouble t) n e = let z : ◌≡◌ {A = ℕ} 0 1 = cc in absurd (omega arith)

-- a byte that changes a set does not name one
pub names_none : (b : ℕ) → changes_set b ≡ true → eqb b 0x41 ≡ false
unfolding changes_set
names_none b h = ne_eqb b 0x41 (λ e. absurd (false≢true (rw e at h)))

module _ {bytes : List ℕ} {at : ℕ} where
  pub total_inside : TotalForm bytes at → at + 6 ≤ length bytes
  total_inside (of_variable f) = f.inside
  total_inside (of_changed f) = omega (arith, f.inside)

  pub total_first : TotalForm bytes at → get_or bytes at 0 ≡ 0x2a
  total_first (of_variable f) = f.total
  total_first (of_changed f) = f.total

  pub total_changed : TotalForm bytes at → (get_or bytes (at + 2) 0 ≡ 0x41 → ⊥) → ChangedTotal bytes at
  total_changed (of_variable f) h = absurd (h f.variable)
  total_changed (of_changed f) h = f

-- ---- where an expression ends

some_span : (c : ℕ) (e : List ℕ) → (length e ≡ 0 → ⊥) → span e 0 (suc c) ≡ suc (span (drop 1 e) (operands (get_or e 0 0)) (parts_of (get_or e 0 0) + c))
unfolding span
some_span c [] h = absurd (h refl)
some_span c (b ∷ e) h = refl

module _ (bytes : List ℕ) where
  span_opens : (at c : ℕ) {b : ℕ} → at < length bytes → get_or bytes at 0 ≡ b → span (drop at bytes) 0 (suc c) ≡ suc (span (drop (at + 1) bytes) (operands b) (parts_of b + c))
  span_opens at c l e =
      let long = length-drop at bytes in
      rw (← e, first_at at bytes, ← drop-drop 1 at bytes) (some_span c (drop at bytes) (λ z. absurd (omega (arith, long, l, z))))

  -- a name, 30, 31 or 41 with its byte
  name_span : (at c : ℕ) {b : ℕ} → operands b ≡ 1 → parts_of b ≡ 0 → at + 2 ≤ length bytes → get_or bytes at 0 ≡ b → span (drop at bytes) 0 (suc c) ≡ 2 + span (drop (at + 2) bytes) 0 c
  name_span at c one none l e =
      let long = length-drop (at + 1) bytes in
      let rest : span (drop (at + 1) bytes) 1 c ≡ 1 + span (drop 1 (drop (at + 1) bytes)) 0 c = span_operands 1 c (drop (at + 1) bytes) (omega (arith, long, l)) in
      let behind : drop 1 (drop (at + 1) bytes) ≡ drop (at + 2) bytes = drop-drop 1 (at + 1) bytes ∙ ap (λ (i : ℕ). drop i bytes) on in
      let opened : span (drop at bytes) 0 (suc c) ≡ suc (span (drop (at + 1) bytes) 1 c) = span_opens at c (omega arith) e ∙ rw (one, none, zero-add c) in
      opened ∙ ap suc (rest ∙ ap (λ (f : List ℕ). 1 + span f 0 c) behind) ∙ step
    where
      on : at + 1 + 1 ≡ at + 2
      on = omega arith

      step : suc (1 + span (drop (at + 2) bytes) 0 c) ≡ 2 + span (drop (at + 2) bytes) 0 c
      step = omega arith

  same_span : (at : ℕ) → SameForm bytes at → span (drop at bytes) 0 1 ≡ 5
  unfolding operands parts_of shape_of
  same_span at f =
      let first = span_opens at 0 (omega (arith, f.inside)) f.same in
      let second = name_span (at + 1) 1 refl refl (omega (arith, f.inside)) f.variable in
      let third = name_span (at + 3) 0 refl refl (omega (arith, f.inside)) f.object in
      let on : at + 1 + 2 ≡ at + 3 = omega arith in
      first ∙ ap suc (second ∙ rw (on, third, span_none (drop (at + 3 + 2) bytes)))

  literal_span : (at : ℕ) → at + 5 ≤ length bytes → get_or bytes at 0 ≡ 0x20 → span (drop at bytes) 0 1 ≡ 5
  unfolding operands parts_of shape_of
  literal_span at l e =
      let long = length-drop (at + 1) bytes in
      span_opens at 0 (omega arith) e ∙ ap suc (span_operands 4 0 (drop (at + 1) bytes) (omega (arith, long, l)) ∙ rw (span_none (drop 4 (drop (at + 1) bytes))))

-- the number that a condition chooses; the bytes used are not told
choice_value : (rn : List ℕ → NumberValue) (rc : List ℕ → ConditionValue) (e : List ℕ) (b : Bool) (x y : Value ℤ) (z : ℤ) (n m l : ℕ)
    → rc e ≡ condition_answer (value b) n → rn (drop n e) ≡ number_answer x m → span (drop n e) 0 1 ≡ m → rn (drop (n + m) e) ≡ number_answer y l
    → cond b x y ≡ value z → (u : ℕ) × (run_choice rn rc e ≡ told_number z u)
unfolding run_choice choice_first chosen number_before past_number number_answer condition_answer
choice_value rn rc e true x y z n m l c first skip second chosen_is = (n + m + span (drop (n + m) e) 0 1, rw (c, first, chosen_is))
choice_value rn rc e false x y z n m l c first skip second chosen_is = (n + m + l, rw (c, skip, second, chosen_is))

fits_either : (b : Bool) (x y : ℤ) → mag (cond b x y) < range_end → cond b (fits x) (fits y) ≡ value (cond b x y)
fits_either true x y l = fits_value x l
fits_either false x y l = fits_value y l

module _ (bytes words state : List ℕ) where
  abbrev here : Environment
  here = environment bytes state words

  -- ---- 2A

  -- 30 j
  object_run : (at : ℕ) → at + 2 ≤ length bytes → get_or bytes at 0 ≡ 0x30 → run_element state (drop at bytes) ≡ element_answer (get_or bytes (at + 1) 0 % most_objects) 2
  object_run at l b =
      element_literal state (drop at bytes) (rw (length-drop at bytes) (omega arith)) (sym (first_at at bytes) ∙ b) ∙ ap (λ (i : ℕ). element_answer (i % most_objects) 2) (get_or-drop at bytes 1 0)

  -- behind 2A t: the set s, which uses m bytes, and the column j
  pub total_of : (d at s objects m j : ℕ) → at + 2 ≤ length bytes → get_or bytes at 0 ≡ 0x2a → run_set (d + 1) state words (drop (at + 2) bytes) ≡ set_answer s objects m → run_element state (drop (at + 2 + m) bytes) ≡ element_answer j 2
      → run_number (d + 2) here (drop at bytes) ≡ number_answer (fits (sum_over (λ i. entry_of bytes (table_in words (get_or bytes (at + 1) 0)) i j) (members s))) (1 + (1 + (m + 2)))
  unfolding number_form number_at number_behind
  total_of d at s objects m j l b set column =
      let e = drop (at + 1) bytes in
      let run : List ℕ → SetValue = λ g. run_set (d + 1) state words g in
      let less : d + 2 - 1 ≡ d + 1 = omega arith in
      let long = length-drop (at + 1) bytes in
      let behind : drop 1 e ≡ drop (at + 2) bytes = drop-drop 1 (at + 1) bytes ∙ ap (λ (i : ℕ). drop i bytes) on in
      let both : set_then_element state run (drop 1 e) ≡ parts s j objects (m + 2) =
      ap (set_then_element state run) behind ∙ set_element_is state run (drop (at + 2) bytes) s objects m j 2 set (ap (run_element state) (drop-drop m (at + 2) bytes) ∙ column) in
      let value_of : total_number bytes state words run e ≡ number_answer (fits (sum_over (λ i. entry_of bytes (table_in words (get_or bytes (at + 1) 0)) i j) (members s))) (1 + (m + 2)) =
      total_some bytes state words run e (λ z. absurd (omega (arith, long, l, z)))
      ∙ ap (λ (q : Parts). number_answer (fits (sum_over (λ i. entry_of bytes (table_in words (get_or e 0 0)) i q.second) (members q.first))) (1 + q.used)) both
      ∙ ap (λ (t : ℕ). number_answer (fits (sum_over (λ i. entry_of bytes (table_in words t) i j) (members s))) (1 + (m + 2))) (sym (first_at (at + 1) bytes)) in
      (number_opens here).opened (d + 2) at bytes (λ z. absurd (omega arith)) (omega arith) b ∙ ap (past_number 1) (rw less value_of) ∙ number_past _ 1 (1 + (m + 2))
    where
      on : at + 1 + 1 ≡ at + 2
      on = omega arith

  pub variable_total : (d at : ℕ) → VariableTotal bytes at → run_number (d + 2) here (drop at bytes) ≡ number_answer (fits (total_in bytes at words state)) 6
  unfolding summed_set summed_column sum_of
  variable_total d at f =
      let column : run_element state (drop (at + 2 + 2) bytes) ≡ element_answer (get_or bytes (at + 5) 0 % most_objects) 2 =
      ap (λ (i : ℕ). run_element state (drop i bytes)) (on_two 2) ∙ object_run (at + 4) (omega (arith, f.inside)) f.column ∙ ap (λ (i : ℕ). element_answer (get_or bytes i 0 % most_objects) 2) (on_four 1) in
      total_of d at _ _ 2 _ (omega (arith, f.inside)) f.total (variable_run state words bytes (d + 1) (at + 2) (get_or bytes (at + 3) 0) (λ z. absurd (omega arith)) (omega (arith, f.inside)) f.variable (ap (λ (i : ℕ). get_or bytes i 0) (on_two 1))) column
      ∙ rw f.variable
    where
      on_two : (i : ℕ) → at + 2 + i ≡ at + (2 + i)
      on_two i = omega arith

      on_four : (i : ℕ) → at + 4 + i ≡ at + (4 + i)
      on_four i = omega arith

  changed_total : (d at : ℕ) → (d ≡ 0 → ⊥) → ChangedTotal bytes at → run_number (d + 2) here (drop at bytes) ≡ number_answer (fits (total_in bytes at words state)) 9
  unfolding summed_set summed_column sum_of
  changed_total d at some f =
      let column : run_element state (drop (at + 2 + 5) bytes) ≡ element_answer (get_or bytes (at + 8) 0 % most_objects) 2 =
      ap (λ (i : ℕ). run_element state (drop i bytes)) (on_two 5) ∙ object_run (at + 7) (omega (arith, f.inside)) f.column ∙ ap (λ (i : ℕ). element_answer (get_or bytes i 0 % most_objects) 2) (on_seven 1) in
      total_of d at _ _ 5 _ (omega (arith, f.inside)) f.total (changed_run bytes (at + 2) words state f.set d some) column
      ∙ rw (names_none (get_or bytes (at + 2) 0) f.set.changes)
    where
      on_two : (i : ℕ) → at + 2 + i ≡ at + (2 + i)
      on_two i = omega arith

      on_seven : (i : ℕ) → at + 7 + i ≡ at + (7 + i)
      on_seven i = omega arith

  total_run : (d at : ℕ) → (d ≡ 0 → ⊥) → TotalForm bytes at → (n : ℕ) × (run_number (d + 2) here (drop at bytes) ≡ number_answer (fits (total_in bytes at words state)) n)
  total_run d at some (of_variable f) = (6, variable_total d at f)
  total_run d at some (of_changed f) = (9, changed_total d at some f)

  -- ---- 58 55 41 v 53 31 u 30 k

  empty_run : (d at : ℕ) → (d ≡ 0 → ⊥) → at + 3 ≤ length bytes → get_or bytes at 0 ≡ 0x55 → get_or bytes (at + 1) 0 ≡ 0x41 → run_condition (d + 1) here (drop at bytes) ≡ condition_answer (value (eqb (get_or state (get_or bytes (at + 2) 0) 0) 0)) 3
  unfolding condition_form condition_at condition_behind empty_set past_condition condition_answer
  empty_run d at some l b v =
      let less : d + 1 - 1 ≡ d = omega arith in
      let set : run_set (d + 1 - 1) state words (drop (at + 1) bytes) ≡ set_answer (get_or state (get_or bytes (at + 2) 0) 0) (objects_in words (get_or bytes (at + 2) 0)) 2 =
      rw less (variable_run state words bytes d (at + 1) (get_or bytes (at + 2) 0) some (omega arith) v (ap (λ (i : ℕ). get_or bytes i 0) on)) in
      (condition_opens here).opened (d + 1) at bytes (λ z. absurd (omega arith)) (omega arith) b ∙ ap (λ (i : SetValue). past_condition 1 (empty_set i)) set
    where
      on : at + 1 + 1 ≡ at + 2
      on = omega arith

  and_value : (a b : Bool) → (value a and_then (λ holds. cond holds (value b) (value false))) ≡ value (cond a b false)
  unfolding ◌and_then◌
  and_value true b = refl
  and_value false b = refl

  end_run : (d at : ℕ) → (d ≡ 0 → ⊥) → EndForm bytes at → run_condition (d + 2) here (drop at bytes) ≡ condition_answer (value (end_in bytes at state)) 9
  unfolding condition_form condition_at condition_behind condition_answer end_in object_in
  end_run d at some f =
      let long = f.same.inside in
      let less : d + 2 - 1 ≡ d + 1 = omega arith in
      let empty = eqb (get_or state (get_or bytes (at + 3) 0) 0) 0 in
      let same = eqb (get_or state (get_or bytes (at + 6) 0) 0 % most_objects) (get_or bytes (at + 8) 0 % most_objects) in
      let first : run_condition (d + 1) here (drop (at + 1) bytes) ≡ condition_answer (value empty) 3 =
      empty_run d (at + 1) some (omega (arith, long)) f.empty (ap (λ (i : ℕ). get_or bytes i 0) (on_one 1) ∙ f.variable) ∙ ap (λ (i : ℕ). condition_answer (value (eqb (get_or state (get_or bytes i 0) 0) 0)) 3) (on_one 2) in
      let behind : drop 3 (drop (at + 1) bytes) ≡ drop (at + 4) bytes = drop-drop 3 (at + 1) bytes ∙ ap (λ (i : ℕ). drop i bytes) (on_one 3) in
      let second : run_condition (d + 1) here (drop 3 (drop (at + 1) bytes)) ≡ condition_answer (value same) 5 =
      ap (run_condition (d + 1) here) behind ∙ same_run here bytes (at + 4) (d + 1) (get_or bytes (at + 6) 0) (get_or bytes (at + 8) 0) (λ z. absurd (omega arith)) f.same (ap (λ (i : ℕ). get_or bytes i 0) (on_four 2)) (ap (λ (i : ℕ). get_or bytes i 0) (on_four 4)) in
      let whole : run_connective false (λ g. run_condition (d + 2 - 1) here g) (drop (at + 1) bytes) ≡ condition_answer (value (cond empty same false)) 8 =
      rw less (both_is (λ g. run_number (d + 1) here g) (λ g. run_condition (d + 1) here g) (drop (at + 1) bytes) (value empty) (value same) 3 5 first second (ap (λ (g : List ℕ). span g 0 1) behind ∙ same_span bytes (at + 4) f.same))
      ∙ ap (λ (v : Value Bool). condition_answer v 8) (and_value empty same) in
      (condition_opens here).opened (d + 2) at bytes (λ z. absurd (omega arith)) (omega (arith, long)) f.both ∙ ap (past_condition 1) whole ∙ condition_past (value (cond empty same false)) 1 8
    where
      on_one : (i : ℕ) → at + 1 + i ≡ at + (1 + i)
      on_one i = omega arith

      on_four : (i : ℕ) → at + 4 + i ≡ at + (4 + i)
      on_four i = omega arith

  -- ---- 2B

  integer_at_lem : (at : ℕ) → at + 4 ≤ length bytes → integer (drop at bytes) ≡ read (integer_at bytes at) 4
  integer_at_lem at l =
      let q = integer_is (drop at bytes) (word_is 4 (drop at bytes) (rw (length-drop at bytes) (omega arith))) in
      q ∙ ap (λ (z : ℤ). read z 4) (integer_there bytes at q)

  closing_run : (at : ℕ) → ClosingForm bytes at → mag (closing_in bytes at words state) < range_end → (n : ℕ) × (run_number most_nesting here (drop at bytes) ≡ told_number (closing_in bytes at words state) n)
  unfolding number_form number_at number_behind past_number
  closing_run at f l =
      let run : List ℕ → NumberValue = λ g. run_number 31 here g in
      let b = end_in bytes (at + 1) state in
      let x = integer_at bytes (at + 11) in
      let y = total_in bytes (at + 15) words state in
      let ten : drop 9 (drop (at + 1) bytes) ≡ drop (at + 10) bytes = drop-drop 9 (at + 1) bytes ∙ ap (λ (i : ℕ). drop i bytes) (on_one 9) in
      let fifteen : drop 14 (drop (at + 1) bytes) ≡ drop (at + 15) bytes = drop-drop 14 (at + 1) bytes ∙ ap (λ (i : ℕ). drop i bytes) (on_one 14) in
      let literal : run (drop 9 (drop (at + 1) bytes)) ≡ number_answer (fits x) 5 =
      ap run ten ∙ literal_run here bytes 31 (at + 10) x (λ z. absurd (omega arith)) (omega (arith, f.inside)) f.literal (ap (λ (i : ℕ). integer (drop i bytes)) on_ten ∙ integer_at_lem (at + 11) (omega (arith, f.inside))) in
      let total = total_run 29 (at + 15) (λ z. absurd (omega arith)) f.total in
      let chosen_is = choice_value run (λ g. run_condition 31 here g) (drop (at + 1) bytes) b (fits x) (fits y) (cond b x y) 9 5 total.0
      (end_run 29 (at + 1) (λ z. absurd (omega arith)) f.ends)
      literal
      (ap (λ (g : List ℕ). span g 0 1) ten ∙ literal_span bytes (at + 10) (omega (arith, f.inside)) f.literal)
      (ap run fifteen ∙ total.1)
      (fits_either b x y l) in
      (1 + chosen_is.0, (number_opens here).opened most_nesting at bytes (λ z. absurd (omega arith)) (omega (arith, f.inside)) f.choice ∙ ap (past_number 1) chosen_is.1)
    where
      on_one : (i : ℕ) → at + 1 + i ≡ at + (1 + i)
      on_one i = omega arith

      on_ten : at + 10 + 1 ≡ at + 11
      on_ten = omega arith

  -- ---- values

  told : (at : ℕ) (z : ℤ) → (mag z < range_end → (n : ℕ) × (run_number most_nesting here (drop at bytes) ≡ told_number z n)) → BoundTold bytes at words state z
  told at z runs x n o reads l =
      let ran = runs l in
      (number_is _ n (sym (run_number_lem most_nesting here (drop at bytes) _ _ x n (outline_describes state o) reads) ∙ ran.1)).0

  pub total_told : (at : ℕ) → TotalForm bytes at → BoundTold bytes at words state (total_in bytes at words state)
  unfolding number_answer
  total_told at f = told at _ (λ l. let ran = total_run 30 at (λ z. absurd (omega arith)) f in
      (ran.0, ran.1 ∙ ap (λ (v : Value ℤ). number_answer v ran.0) (fits_value (total_in bytes at words state) l)))

  pub closing_told : (at : ℕ) → ClosingForm bytes at → BoundTold bytes at words state (closing_in bytes at words state)
  closing_told at f = told at _ (λ l. closing_run at f l)

  pub nothing_told : (at : ℕ) (z : ℤ) → range_end ≤ mag z → BoundTold bytes at words state z
  nothing_told at z h x n o reads l = absurd (omega (arith, h, l))
