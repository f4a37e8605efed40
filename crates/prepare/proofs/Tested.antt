-- The conditions that test one word: what the evaluators make of their bytes, and so their values.
use Prim.Native.Nat.{ℕ, ◌+◌, ◌-◌, ◌%◌, ◌^◌, ◌≤◌}
use mathlib.Core.Path.{◌≡◌, refl, sym, ap, ◌∙◌}
use mathlib.Core.Bool.{Bool, not}
use mathlib.Core.List.{List, []}
use native.Mathlib.Omega.{arith}
use lib.ListN.{length, get_or, drop, length-drop}
use lib.Seq.{get_or-drop, drop-drop}
use lib.Dec.{eqb}
use borrow.Author.Tests.{le-ltb}
use Rattle.model.specs.Numbers.{range_end, most_nesting, most_objects}
use Rattle.model.specs.Values.{Value, value, trouble}
use Rattle.model.specs.Values.{◌>>=◌ as ◌and_then◌}
use Rattle.model.specs.Readers.{read, word}
use Rattle.model.specs.Sets as Sets
use Rattle.model.specs.Syntax.{Kind, a_set, Model, Table, Condition, negation}
use Rattle.model.specs.Meaning.{State, condition_value}
use Rattle.words.specs.States.{state_of}
use Rattle.words.specs.Signature.{kind_byte_of, kind_byte, Objects}
use Rattle.outline.specs.Outline.{model_of, Outlines}
use Rattle.eval_sets.specs.declared.answers.ConditionValue.TheVariants as C
use Rattle.eval_sets.specs.Answers.{condition_answer, past_condition, element_answer, set_answer, past_set, absent_set}
use Rattle.eval_sets.specs.Forms.{set_form, condition_form}
use Rattle.eval_sets.specs.Runs.{Environment, environment, objects_in, element_of, run_element, set_behind, combined, run_set, member_of, empty_set, same_elements, condition_behind, condition_at, run_condition}
use Rattle.eval_sets.specs.Promise.{Describes}
use Rattle.eval_sets.proofs.Opening.{variable_some, literal_is, set_opens, condition_opens}
use Rattle.eval_sets.proofs.Parts.{elements_are, element_set_is, sets_are}
use Rattle.eval_sets.proofs.Promises.{run_condition_lem}
use Rattle.eval_sets.proofs.Slices.{first_at}
use Rattle.prepare.specs.declared.tests.Test.{Test}
use Rattle.prepare.specs.Forms.{MemberForm, MissingForm, AbsentForm, SameForm}
use Rattle.prepare.specs.Promised.{TestSays}
use Rattle.prepare.proofs.Bits.{member_test, missing_test, absent_test, element_bits}
use Rattle.prepare.proofs.Connectives.{negation_part}

-- ---- runs

pub element_literal : (ws e : List ℕ) → 2 ≤ length e → get_or e 0 0 ≡ 0x30 → run_element ws e ≡ element_answer (get_or e 1 0 % most_objects) 2
unfolding run_element element_of
element_literal ws e l b = simp (b, le-ltb (length e) 2 l)

-- 31 v
pub element_variable_lem : (ws e : List ℕ) → 2 ≤ length e → get_or e 0 0 ≡ 0x31 → run_element ws e ≡ element_answer (get_or ws (get_or e 1 0) 0 % most_objects) 2
unfolding run_element element_of
element_variable_lem ws e l b = simp (b, le-ltb (length e) 2 l)

pub some_behind : (bytes : List ℕ) (at n : ℕ) → at + 1 + n ≤ length bytes → n ≤ length (drop (at + 1) bytes)
some_behind bytes at n l = rw (length-drop (at + 1) bytes) (omega arith)

module _ (ws os bytes : List ℕ) where
  -- 41 v
  pub variable_run : (d at v : ℕ) → (d ≡ 0 → ⊥) → at + 2 ≤ length bytes → get_or bytes at 0 ≡ 0x41 → get_or bytes (at + 1) 0 ≡ v → run_set d ws os (drop at bytes) ≡ set_answer (get_or ws v 0) (objects_in os v) 2
  unfolding set_form set_behind
  variable_run d at v some l b e =
      let there = some_behind bytes at 1 (omega arith) in
      let is : get_or (drop (at + 1) bytes) 0 0 ≡ v = sym (first_at (at + 1) bytes) ∙ e in
      (set_opens ws os).opened d at bytes some (omega arith) b
      ∙ ap (past_set 1) (variable_some ws os (drop (at + 1) bytes) (λ z. absurd (omega arith)) ∙ ap (λ (u : ℕ). set_answer (get_or ws u 0) (objects_in os u) 1) is)

  -- 40 n and the members s
  pub literal_run : (d at s : ℕ) → (d ≡ 0 → ⊥) → at + 10 ≤ length bytes → get_or bytes at 0 ≡ 0x40 → word 8 (drop (at + 2) bytes) ≡ read s 8
      → run_set d ws os (drop at bytes) ≡ set_answer s (get_or (drop (at + 1) bytes) 0 0) 10
  unfolding set_form set_behind
  literal_run d at s some l b h =
      let two-on : at + 1 + 1 ≡ at + 2 = omega arith in
      let members : word 8 (drop 1 (drop (at + 1) bytes)) ≡ read s 8 = rw (drop-drop 1 (at + 1) bytes, two-on) h in
      (set_opens ws os).opened d at bytes some (omega arith) b ∙ ap (past_set 1) (literal_is (drop (at + 1) bytes) s (some_behind bytes at 9 (omega arith)) members)

module _ (p : Environment) (bytes : List ℕ) (at : ℕ) where
  -- 54 30 k 41 v
  member_run : (v : ℕ) → MemberForm bytes at → get_or bytes (at + 4) 0 ≡ v → run_condition most_nesting p (drop at bytes) ≡ C.Holds (Sets.is_member (get_or bytes (at + 2) 0 % most_objects) (get_or p.state v 0)) 5
  unfolding condition_form condition_at condition_behind member_of past_condition
  member_run v f e =
      let ws = p.state in
      let os = p.outline in
      let object : run_element ws (drop (at + 1) bytes) ≡ element_answer (get_or (drop (at + 1) bytes) 1 0 % most_objects) 2 =
      element_literal ws (drop (at + 1) bytes) (some_behind bytes at 2 (omega (arith, f.inside))) (sym (first_at (at + 1) bytes) ∙ f.object) in
      let k : get_or (drop (at + 1) bytes) 1 0 ≡ get_or bytes (at + 2) 0 = get_or-drop (at + 1) bytes 1 0 ∙ ap (λ (i : ℕ). get_or bytes i 0) (behind_one 1) in
      let third : drop 2 (drop (at + 1) bytes) ≡ drop (at + 3) bytes = drop-drop 2 (at + 1) bytes ∙ ap (λ (i : ℕ). drop i bytes) (behind_one 2) in
      let set : run_set 31 ws os (drop 2 (drop (at + 1) bytes)) ≡ set_answer (get_or ws v 0) (objects_in os v) 2 =
      ap (run_set 31 ws os) third ∙ variable_run ws os bytes 31 (at + 3) v (λ z. absurd (omega arith)) (omega (arith, f.inside)) f.variable (ap (λ (i : ℕ). get_or bytes i 0) (behind_three 1) ∙ e) in
      (condition_opens p).opened most_nesting at bytes (λ z. absurd (omega arith)) (omega (arith, f.inside)) f.member
      ∙ ap (λ (i : _). past_condition 1 (member_of i)) (element_set_is ws _ (drop (at + 1) bytes) _ _ _ _ _ object set)
      ∙ ap (λ (i : ℕ). C.Holds (Sets.is_member (i % most_objects) (get_or ws v 0)) 5) k
    where
      behind_one : (i : ℕ) → at + 1 + i ≡ at + (1 + i)
      behind_one i = omega arith

      behind_three : (i : ℕ) → at + 3 + i ≡ at + (3 + i)
      behind_three i = omega arith

  -- 55 45 40 n members 41 v
  missing_run : (v s : ℕ) → MissingForm bytes at → word 8 (drop (at + 4) bytes) ≡ read s 8 → get_or bytes (at + 13) 0 ≡ v
      → run_condition most_nesting p (drop at bytes) ≡ C.Holds (eqb (Sets.intersection s (get_or p.state v 0)) 0) 14
  unfolding condition_form condition_at condition_behind empty_set past_condition set_form set_behind combined
  missing_run v s f h e =
      let ws = p.state in
      let os = p.outline in
      let objects = get_or (drop (at + 2 + 1) bytes) 0 0 in
      let first : run_set 30 ws os (drop (at + 2) bytes) ≡ set_answer s objects 10 =
      literal_run ws os bytes 30 (at + 2) s (λ z. absurd (omega arith)) (omega (arith, f.inside)) f.members (ap (λ (i : ℕ). word 8 (drop i bytes)) (behind_two 2) ∙ h) in
      let behind : drop 10 (drop (at + 2) bytes) ≡ drop (at + 12) bytes = drop-drop 10 (at + 2) bytes ∙ ap (λ (i : ℕ). drop i bytes) (behind_two 10) in
      let second : run_set 30 ws os (drop 10 (drop (at + 2) bytes)) ≡ set_answer (get_or ws v 0) (objects_in os v) 2 =
      ap (run_set 30 ws os) behind ∙ variable_run ws os bytes 30 (at + 12) v (λ z. absurd (omega arith)) (omega (arith, f.inside)) f.variable (ap (λ (i : ℕ). get_or bytes i 0) (last_byte at) ∙ e) in
      let both : run_set 31 ws os (drop (at + 1) bytes) ≡ set_answer (Sets.intersection s (get_or ws v 0)) objects 13 =
      (set_opens ws os).opened 31 (at + 1) bytes (λ z. absurd (omega arith)) (omega (arith, f.inside)) f.intersection
      ∙ rw (behind_one 1) (ap (λ (i : _). past_set 1 (set_answer (Sets.intersection i.first i.second) i.objects i.used)) (sets_are ws (λ g. run_set 30 ws os g) (drop (at + 2) bytes) _ _ _ _ _ _ first second)) in
      (condition_opens p).opened most_nesting at bytes (λ z. absurd (omega arith)) (omega (arith, f.inside)) f.empty ∙ ap (λ (i : _). past_condition 1 (empty_set i)) both
    where
      behind_one : (i : ℕ) → at + 1 + i ≡ at + (1 + i)
      behind_one i = omega arith

      behind_two : (i : ℕ) → at + 2 + i ≡ at + (2 + i)
      behind_two i = omega arith

      last_byte : (at : ℕ) → at + 12 + 1 ≡ at + 13
      last_byte at = omega arith

  -- 53 31 v 30 k
  pub same_run : (d v k : ℕ) → (d ≡ 0 → ⊥) → SameForm bytes at → get_or bytes (at + 2) 0 ≡ v → get_or bytes (at + 4) 0 ≡ k → run_condition d p (drop at bytes) ≡ C.Holds (eqb (get_or p.state v 0 % most_objects) (k % most_objects)) 5
  unfolding condition_form condition_at condition_behind same_elements past_condition
  same_run d v k some f e g =
      let ws = p.state in
      let behind = drop (at + 1) bytes in
      let third : drop 2 behind ≡ drop (at + 3) bytes = drop-drop 2 (at + 1) bytes ∙ ap (λ (i : ℕ). drop i bytes) (on_one 2) in
      let long = some_behind bytes at 4 (omega (arith, f.inside)) in
      let first : run_element ws behind ≡ element_answer (get_or ws v 0 % most_objects) 2 =
      element_variable_lem ws behind (omega (arith, long)) (sym (first_at (at + 1) bytes) ∙ f.variable) ∙ ap (λ (i : ℕ). element_answer (get_or ws i 0 % most_objects) 2) (get_or-drop (at + 1) bytes 1 0 ∙ ap (λ (i : ℕ). get_or bytes i 0) (on_one 1) ∙ e) in
      let last-long : 2 ≤ length (drop (at + 3) bytes) = rw (length-drop (at + 3) bytes) (omega (arith, f.inside)) in
      let second : run_element ws (drop 2 behind) ≡ element_answer (k % most_objects) 2 =
      ap (run_element ws) third ∙ element_literal ws (drop (at + 3) bytes) last-long (sym (first_at (at + 3) bytes) ∙ f.object) ∙ ap (λ (i : ℕ). element_answer (i % most_objects) 2) (get_or-drop (at + 3) bytes 1 0 ∙ ap (λ (i : ℕ). get_or bytes i 0) (on_three 1) ∙ g) in
      (condition_opens p).opened d at bytes some (omega (arith, f.inside)) f.same
      ∙ ap (λ (i : _). past_condition 1 (same_elements i)) (elements_are ws (λ h. absent_set) behind _ _ _ _ first second)
    where
      on_one : (i : ℕ) → at + 1 + i ≡ at + (1 + i)
      on_one i = omega arith

      on_three : (i : ℕ) → at + 3 + i ≡ at + (3 + i)
      on_three i = omega arith

-- ---- values

pub holds_value : (v : Value Bool) (n : ℕ) {b : Bool} {k : ℕ} → condition_answer v n ≡ C.Holds b k → (v ≡ value b) × (n ≡ k)
unfolding condition_answer
holds_value (value b) n e = (cc, cc)
holds_value (trouble t) n e = let z : ◌≡◌ {A = ℕ} 0 1 = cc in absurd (omega arith)

set_kind : (k : Kind) (n : ℕ) → k ≡ a_set → (kind_byte_of k n ≡ most_objects + n) × (Objects k n → n ≤ most_objects)
unfolding kind_byte_of
set_kind k n e = rw e (refl, λ h. h.1)

-- an outline's words are what the evaluators are to be handed
pub outline_describes : {bytes words : List ℕ} {m : Model} (state : List ℕ) → Outlines bytes words m → Describes m.variables m.tables (environment bytes state words)
unfolding kind_byte
outline_describes state o = record {
  sets = λ v x e k. let a = o.variables v x e in
      let b = set_kind x.kind x.objects k in (a.kind ∙ b.0, b.1 a.well_formed);
  tabled = o.tables;
}

module _ (bytes : List ℕ) (at : ℕ) where
  -- what runs to the test in every state is the test
  told : (r : Test) → ((p : Environment) → run_condition most_nesting p (drop at bytes) ≡ C.Holds (eqb (Sets.intersection (get_or p.state r.variable 0) r.mask) r.need) r.used) → TestSays bytes at r
  told r runs words x n o h = record {
    used = (holds_value (condition_value range_end (model_of bytes).tables x (state_of (model_of bytes).variables [])) n (answer [])).1;
    decides = λ state. (holds_value _ n (answer state)).0;
  }
    where
      answer : (state : List ℕ) → condition_answer (condition_value range_end (model_of bytes).tables x (state_of (model_of bytes).variables state)) n
          ≡ C.Holds (eqb (Sets.intersection (get_or state r.variable 0) r.mask) r.need) r.used
      answer state =
          let p = environment bytes state words in
          sym (run_condition_lem most_nesting p (drop at bytes) _ _ x n (outline_describes state o) h) ∙ runs p

  pub member_says : (v bit : ℕ) → MemberForm bytes at → get_or bytes (at + 4) 0 ≡ v → bit ≡ 2 ^ (get_or bytes (at + 2) 0 % most_objects) → TestSays bytes at (record { variable = v; mask = bit; need = bit; used = 5 })
  member_says v bit f e b = told _ (λ p. member_run p bytes at v f e ∙ rw (b, member_test (get_or bytes (at + 2) 0 % most_objects) (get_or p.state v 0)))

  pub missing_says : (v s : ℕ) → MissingForm bytes at → word 8 (drop (at + 4) bytes) ≡ read s 8 → get_or bytes (at + 13) 0 ≡ v → TestSays bytes at (record { variable = v; mask = s; need = 0; used = 14 })
  missing_says v s f h e = told _ (λ p. missing_run p bytes at v s f h e ∙ rw (missing_test s (get_or p.state v 0)))

  pub same_says : (v k : ℕ) → SameForm bytes at → get_or bytes (at + 2) 0 ≡ v → get_or bytes (at + 4) 0 ≡ k → TestSays bytes at (record { variable = v; mask = most_objects - 1; need = k % most_objects; used = 5 })
  same_says v k f e g = told _ (λ p. same_run p bytes at most_nesting v k (λ z. absurd (omega arith)) f e g ∙ rw (element_bits (get_or p.state v 0)))

-- the value of 57
negation_value : (ts : List Table) (c : Condition) (s : State) (b : Bool) → condition_value range_end ts c s ≡ value b → condition_value range_end ts (negation c) s ≡ value (not b)
unfolding condition_value ◌and_then◌
negation_value ts c s b e = rw e

pub absent_says : (bytes : List ℕ) (at v bit : ℕ) → AbsentForm bytes at → get_or bytes (at + 5) 0 ≡ v → bit ≡ 2 ^ (get_or bytes (at + 3) 0 % most_objects) → TestSays bytes at (record { variable = v; mask = bit; need = 0; used = 6 })
absent_says bytes at v bit f e b words x n o h =
    let m = model_of bytes in
    let on : (i : ℕ) → at + 1 + i ≡ at + (1 + i) = λ i. omega arith in
    let q = negation_part m.variables m.tables bytes at x n f.negated h in
    let t = member_says bytes (at + 1) v bit f.member (ap (λ (i : ℕ). get_or bytes i 0) (on 4) ∙ e) (b ∙ ap (λ (i : ℕ). 2 ^ (get_or bytes i 0 % most_objects)) (sym (on 2))) words q.part q.part_used o q.reads_part in
    record {
      used = omega (arith, q.uses, t.used);
      decides = λ state.
          ap (λ (c : Condition). condition_value range_end m.tables c (state_of m.variables state)) q.whole
          ∙ negation_value m.tables q.part (state_of m.variables state) _ (t.decides state)
          ∙ ap value (rw b (absent_test (get_or bytes (at + 3) 0 % most_objects) (get_or state v 0)));
    }
