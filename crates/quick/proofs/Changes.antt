-- 42 e 41 u and 43 e 41 u, 44 41 v with a set literal, and 54 30 k 41 v: what the evaluators make of their bytes, and so their values.
use Prim.Native.Nat.{ℕ, ◌+◌, ◌-◌, ◌%◌, ◌≤◌}
use mathlib.Core.Path.{◌≡◌, refl, sym, ap, ◌∙◌}
use mathlib.Core.Bool.{Bool, true, false, cond, false≢true}
use mathlib.Core.List.{List}
use native.Mathlib.Omega.{arith}
use lib.ListN.{length, get_or, drop, length-drop}
use lib.Seq.{get_or-drop, drop-drop}
use lib.Dec.{eqb}
use borrow.Author.Tests.{eqb-true, le-ltb}
use Rattle.model.specs.Numbers.{range_end, most_nesting, most_objects}
use Rattle.model.specs.Values.{value}
use Rattle.model.specs.Readers.{read, word}
use Rattle.model.specs.Syntax.{Set, Condition}
use Rattle.model.specs.Expressions.{set, condition}
use Rattle.model.specs.Meaning.{set_value, condition_value}
use Rattle.words.specs.States.{state_of}
use Rattle.words.proofs.Literal.{number, word_is}
use Rattle.outline.specs.Outline.{model_of, Outlines}
use Rattle.eval_sets.specs.declared.answers.SetValue.{SetValue}
use Rattle.eval_sets.specs.Answers.{element_answer, absent_element, set_answer, past_set}
use Rattle.eval_sets.specs.Forms.{set_form}
use Rattle.eval_sets.specs.Runs.{objects_in, element_of, run_element, element_then_set, changed, combined, set_behind, run_set}
use Rattle.eval_sets.proofs.Opening.{set_opens}
use Rattle.eval_sets.proofs.Parts.{parts, element_set_is, sets_are}
use Rattle.eval_sets.proofs.Promises.{run_set_lem}
use Rattle.eval_sets.proofs.Slices.{first_at}
use Rattle.prepare.specs.Forms.{MemberForm}
use Rattle.prepare.proofs.Bits.{member_test}
use Rattle.prepare.proofs.Tested.{variable_run, literal_run, outline_describes, member_says}
use Rattle.quick.specs.Sets.{begins_element, object_in, changes_set, changed_by, ChangedForm, changed_in, or_none, members_at, JoinedForm, joined_in, member_in}

-- ---- 30 k and 31 v

element_of_lem : (state : List ℕ) (b k : ℕ) → begins_element b ≡ true → element_of state b k ≡ element_answer (object_in b k state) 2
unfolding begins_element object_in element_of
element_of_lem state b k h = go (eqb b 0x30) (eqb b 0x31) h
  where
    go : (s t : Bool) → cond s true t ≡ true → cond s (element_answer (k % most_objects) 2) (cond t (element_answer (get_or state k 0 % most_objects) 2) absent_element) ≡ element_answer (cond s (k % most_objects) (get_or state k 0 % most_objects)) 2
    go true t h = refl
    go false true h = refl
    go false false h = absurd (false≢true h)

pub element_run : (state bytes : List ℕ) (at : ℕ) → at + 2 ≤ length bytes → begins_element (get_or bytes at 0) ≡ true
    → run_element state (drop at bytes) ≡ element_answer (object_in (get_or bytes at 0) (get_or bytes (at + 1) 0) state) 2
unfolding run_element
element_run state bytes at l h =
    let long = length-drop at bytes in
    rw (le-ltb (length (drop at bytes)) 2 (omega (arith, long, l)), ← (first_at at bytes), get_or-drop at bytes 1 0) (element_of_lem state (get_or bytes at 0) (get_or bytes (at + 1) 0) h)

-- ---- 42 and 43

pub changed_of : (state words : List ℕ) (runs : List ℕ → SetValue) (b : ℕ) (e : List ℕ) → changes_set b ≡ true → (k s objects n : ℕ) → element_then_set state runs e ≡ parts k s objects n
    → set_behind state words runs (set_form b) e ≡ set_answer (changed_by b k s) objects n
unfolding changes_set changed_by set_form set_behind changed
changed_of state words runs b e h k s objects n q = go (eqb b 0x42) refl (eqb b 0x43) refl
  where
    go : (t : Bool) → eqb b 0x42 ≡ t → (u : Bool) → eqb b 0x43 ≡ u → set_behind state words runs (set_form b) e ≡ set_answer (changed_by b k s) objects n
    go true t u v = rw (eqb-true b 0x42 t, q)
    go false t true v = rw (eqb-true b 0x43 v, q)
    go false t false v = absurd (false≢true (rw (t, v) at h))

-- what the run answers is the value of the set that is read
run_says : (bytes : List ℕ) (at : ℕ) (words state : List ℕ) (s objects k : ℕ) → run_set most_nesting state words (drop at bytes) ≡ set_answer s objects k
    → (x : Set) (n : ℕ) → Outlines bytes words (model_of bytes) → set (model_of bytes).variables (model_of bytes).tables most_nesting (drop at bytes) ≡ read x n
    → (s ≡ set_value x (state_of (model_of bytes).variables state)) × (k ≡ n)
run_says bytes at words state s objects k run x n o reads =
    let answer = sym run ∙ run_set_lem most_nesting state words (drop at bytes) _ _ x n (outline_describes state o).sets reads in
    (ap (λ (r : SetValue). r.members) answer, ap (λ (r : SetValue). r.used) answer)

module _ (bytes : List ℕ) (at : ℕ) (words state : List ℕ) (f : ChangedForm bytes at) where
  pub changed_run : (d : ℕ) → (d ≡ 0 → ⊥) → run_set (d + 1) state words (drop at bytes) ≡ set_answer (changed_in bytes at state) (objects_in words (get_or bytes (at + 4) 0)) 5
  changed_run d some =
      let less : d + 1 - 1 ≡ d = omega arith in
      let element : run_element state (drop (at + 1) bytes) ≡ element_answer (object_in (get_or bytes (at + 1) 0) (get_or bytes (at + 2) 0) state) 2 =
      element_run state bytes (at + 1) (omega (arith, f.inside)) f.element ∙ ap (λ (i : ℕ). element_answer (object_in (get_or bytes (at + 1) 0) (get_or bytes i 0) state) 2) (on_one 1) in
      let behind : drop 2 (drop (at + 1) bytes) ≡ drop (at + 3) bytes = drop-drop 2 (at + 1) bytes ∙ ap (λ (i : ℕ). drop i bytes) (on_one 2) in
      let variable : run_set d state words (drop 2 (drop (at + 1) bytes)) ≡ set_answer (get_or state (get_or bytes (at + 4) 0) 0) (objects_in words (get_or bytes (at + 4) 0)) 2 =
      ap (run_set d state words) behind ∙ variable_run state words bytes d (at + 3) _ some (omega (arith, f.inside)) f.variable (ap (λ (i : ℕ). get_or bytes i 0) (on_three 1)) in
      let value_of : set_behind state words (λ g. run_set (d + 1 - 1) state words g) (set_form (get_or bytes at 0)) (drop (at + 1) bytes) ≡ set_answer (changed_in bytes at state) (objects_in words (get_or bytes (at + 4) 0)) 4 =
      rw less (changed_of state words (λ g. run_set d state words g) (get_or bytes at 0) (drop (at + 1) bytes) f.changes _ _ _ _ (element_set_is state (λ g. run_set d state words g) (drop (at + 1) bytes) _ _ _ _ _ element variable)) in
      (set_opens state words).opened (d + 1) at bytes (λ z. absurd (omega arith)) (omega (arith, f.inside)) refl ∙ ap (past_set 1) value_of
    where
      on_one : (i : ℕ) → at + 1 + i ≡ at + (1 + i)
      on_one i = omega arith

      on_three : (i : ℕ) → at + 3 + i ≡ at + (3 + i)
      on_three i = omega arith

  pub changed_says : (x : Set) (n : ℕ) → Outlines bytes words (model_of bytes) → set (model_of bytes).variables (model_of bytes).tables most_nesting (drop at bytes) ≡ read x n
      → (changed_in bytes at state ≡ set_value x (state_of (model_of bytes).variables state)) × (5 ≡ n)
  changed_says x n o reads =
      run_says bytes at words state _ _ 5 (changed_run 31 (λ z. absurd (omega arith))) x n o reads

-- ---- 44 41 v 40 n and eight bytes

-- the eight bytes at k, where they are within the bytes
pub members_at_lem : (bytes : List ℕ) (k : ℕ) → k + 8 ≤ length bytes → word 8 (drop k bytes) ≡ read (members_at bytes k) 8
unfolding or_none
members_at_lem bytes k l =
    let is : word 8 (drop k bytes) ≡ read (number 8 (drop k bytes)) 8 = word_is 8 (drop k bytes) (rw (length-drop k bytes) (omega arith)) in
    rw is

module _ (bytes : List ℕ) (at : ℕ) (words state : List ℕ) (f : JoinedForm bytes at) where
  joined_run : run_set most_nesting state words (drop at bytes) ≡ set_answer (joined_in bytes at state) (objects_in words (get_or bytes (at + 2) 0)) 13
  unfolding set_form set_behind combined
  joined_run =
      let variable : run_set 31 state words (drop (at + 1) bytes) ≡ set_answer (get_or state (get_or bytes (at + 2) 0) 0) (objects_in words (get_or bytes (at + 2) 0)) 2 =
      variable_run state words bytes 31 (at + 1) _ (λ z. absurd (omega arith)) (omega (arith, f.inside)) f.variable (ap (λ (i : ℕ). get_or bytes i 0) (on_one 1)) in
      let behind : drop 2 (drop (at + 1) bytes) ≡ drop (at + 3) bytes = drop-drop 2 (at + 1) bytes ∙ ap (λ (i : ℕ). drop i bytes) (on_one 2) in
      let literal : run_set 31 state words (drop 2 (drop (at + 1) bytes)) ≡ set_answer (members_at bytes (at + 5)) (get_or (drop (at + 3 + 1) bytes) 0 0) 10 =
      ap (run_set 31 state words) behind
      ∙ literal_run state words bytes 31 (at + 3) _ (λ z. absurd (omega arith)) (omega (arith, f.inside)) f.literal (ap (λ (i : ℕ). word 8 (drop i bytes)) on_three ∙ members_at_lem bytes (at + 5) (omega (arith, f.inside))) in
      let value_of : set_behind state words (λ g. run_set 31 state words g) (set_form 0x44) (drop (at + 1) bytes) ≡ set_answer (joined_in bytes at state) (objects_in words (get_or bytes (at + 2) 0)) 12 =
      rw (sets_are state (λ g. run_set 31 state words g) (drop (at + 1) bytes) _ _ _ _ _ _ variable literal) in
      (set_opens state words).opened most_nesting at bytes (λ z. absurd (omega arith)) (omega (arith, f.inside)) f.union ∙ ap (past_set 1) value_of
    where
      on_one : (i : ℕ) → at + 1 + i ≡ at + (1 + i)
      on_one i = omega arith

      on_three : at + 3 + 2 ≡ at + 5
      on_three = omega arith

  pub joined_says : (x : Set) (n : ℕ) → Outlines bytes words (model_of bytes) → set (model_of bytes).variables (model_of bytes).tables most_nesting (drop at bytes) ≡ read x n
      → (joined_in bytes at state ≡ set_value x (state_of (model_of bytes).variables state)) × (13 ≡ n)
  joined_says x n o reads = run_says bytes at words state _ _ 13 joined_run x n o reads

-- ---- 54 30 k 41 v

pub membership_says : (bytes : List ℕ) (at : ℕ) (words state : List ℕ) → MemberForm bytes at → (x : Condition) (n : ℕ) → Outlines bytes words (model_of bytes)
    → condition (model_of bytes).variables (model_of bytes).tables most_nesting (drop at bytes) ≡ read x n
    → (condition_value range_end (model_of bytes).tables x (state_of (model_of bytes).variables state) ≡ value (member_in bytes at state)) × (n ≡ 5)
unfolding object_in
membership_says bytes at words state f x n o reads =
    let test = member_says bytes at _ _ f refl refl words x n o reads in
    (test.decides state ∙ ap value (sym (member_test (get_or bytes (at + 2) 0 % most_objects) (get_or state (get_or bytes (at + 4) 0) 0))), test.used)
