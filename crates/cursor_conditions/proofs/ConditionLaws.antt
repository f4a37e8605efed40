-- Conditions from their parts, by place: what stands between p and q has this value. Then conditions that are due one behind the other.
use Prim.Native.Nat.{ℕ, zero, suc, ◌+◌, ◌-◌, ◌≤◌, ◌<◌, ◌^◌}
use mathlib.Core.Path.{◌≡◌, refl, sym, ap, ◌∙◌}
use mathlib.Core.Bool.{Bool, true, false, not, cond, ◌&&◌, false≢true}
use mathlib.Core.List.{List, ◌∷◌}
use native.Mathlib.Numerals.{add-one}
use native.Mathlib.Omega.{arith}
use lib.ListN.{length, get_or, drop, length-drop}
use lib.Seq.{drop-cons, drop-drop}
use lib.Dec.{eqb, leb, ltb}
use Rattle.std.specs.Prelude.{Some}
use borrow.Author.Tests.{eqb-true, eqb-false, ne_eqb, leb-true, le-leb, ltb-true}
use Rattle.laws.proofs.Bools.{and_both}
use lib.IntN.{ℤ, pos, negsuc, ◌*ℤ◌}
use lib.Signed.{lt_z, le_z}
use mir.Syntax.{w64}
use mir.Val.{SFits, of_z, to_z}
use Rattle.words.proofs.Integers.{back}
use Rattle.model.specs.Values.{value, ◌>>=◌ as ◌and_then◌}
use Rattle.model.specs.Readers.{read, word}
use Rattle.model.specs.Sets as Sets
use Rattle.model.specs.Meaning.{two, equal_z}
use Rattle.eval_sets.specs.declared.answers.ConditionValue.{ConditionValue}
use Rattle.eval_sets.specs.declared.answers.ConditionValue.TheVariants as C
use Rattle.eval_sets.specs.declared.first_bytes.Operation.TheVariants as Op
use Rattle.eval_sets.specs.declared.first_bytes.Relation.{Relation}
use Rattle.eval_sets.specs.declared.first_bytes.Relation.TheVariants as Re
use Rattle.eval_sets.specs.declared.first_bytes.ConditionForm.{ConditionForm}
use Rattle.eval_sets.specs.declared.first_bytes.ConditionForm.TheVariants as CF
use Rattle.eval_sets.specs.Answers.{number_answer, condition_answer, element_answer, set_answer, absent_set, past_condition, negated}
use Rattle.eval_sets.specs.Forms.{number_form, condition_form, shape_of, operands, parts, span}
use Rattle.eval_sets.specs.Runs.{arithmetic, compared, run_element, run_set, run_number, run_condition, same_elements, member_of, empty_set, subset_of, agree, decided, connective_first, run_connective, condition_behind, condition_at}
use Rattle.eval_sets.proofs.Opening.{condition_opens}
use Rattle.eval_sets.proofs.Parts.{test_is, elements_are, element_set_is, sets_are}
use Rattle.eval_sets.proofs.Spans.{span_within, span_operands, span_none}
use Rattle.quick.specs.Sets.{begins_element, object_in}
use Rattle.quick.proofs.Changes.{element_run}
use Rattle.cursor.specs.Places.{Stands, Begins, FirstByte, BehindAll}
use Rattle.cursor.specs.Told.{here, NumberTo, ConditionTo, SetTo, FailsAt}
use Rattle.cursor.specs.Codes.{ranged, combined_by, RelationTold, is_combination, is_relation}
use Rattle.cursor.proofs.NumberLaws.{inner, two_told, operation_told}
use Rattle.cursor.proofs.SetLaws.{variable_is, literal_is, two_sets_are}
use Rattle.cursor_conditions.specs.Forms.{ScaledForm, CommonForm, MemberAndCommon}

-- ---- passing over

module _ (bytes : List ℕ) where
  pub passed_one : (p : ℕ) → length bytes < 2 ^ 63 → p ≤ length bytes → BehindAll bytes p 1 (p + span (drop p bytes) 0 1)
  passed_one p small inside =
      let within = span_within (drop p bytes) 0 1 in
      let long = length-drop p bytes in
      record { ends = refl; there = record { inside = omega arith; near = omega arith } }

  -- a first byte and its operands, then what is due behind them
  span_first : (p q b c : ℕ) → q ≡ p + 1 + operands b → q ≤ length bytes → get_or bytes p 0 ≡ b → span (drop p bytes) 0 (suc c) ≡ 1 + operands b + span (drop q bytes) 0 (parts b + c)
  unfolding span
  span_first p q b c e inside byte =
      let rest = drop (suc p) bytes in
      let long = length-drop (suc p) bytes in
      let opens : drop p bytes ≡ b ∷ rest = drop-cons bytes p 0 (omega arith) ∙ ap (λ (i : ℕ). i ∷ rest) byte in
      let ends : suc p + operands b ≡ q = omega arith in
      let behind : drop (operands b) rest ≡ drop q bytes = drop-drop (operands b) (suc p) bytes ∙ ap (λ (i : ℕ). drop i bytes) ends in
      let over = span_operands (operands b) (parts b + c) rest (omega arith) ∙ ap (λ (l : List ℕ). operands b + span l 0 (parts b + c)) behind in
      ap (λ (l : List ℕ). span l 0 (suc c)) opens ∙ omega (arith, over)

  -- 57 55 45 40 n members 41 u takes fifteen bytes
  common_passed : {p : ℕ} → CommonForm bytes p → BehindAll bytes p 1 (p + 15)
  unfolding shape_of operands parts
  common_passed {p} form =
      let all = form.there in
      let turned : span (drop p bytes) 0 1 ≡ 1 + span (drop (p + 1) bytes) 0 1 = span_first p (p + 1) 0x57 0 (omega arith) (omega (arith, all.inside)) form.turned in
      let empty : span (drop (p + 1) bytes) 0 1 ≡ 1 + span (drop (p + 2) bytes) 0 1 = span_first (p + 1) (p + 2) 0x55 0 (omega arith) (omega (arith, all.inside)) form.empty in
      let both : span (drop (p + 2) bytes) 0 1 ≡ 1 + span (drop (p + 3) bytes) 0 2 = span_first (p + 2) (p + 3) 0x45 0 (omega arith) (omega (arith, all.inside)) form.intersection in
      let literal : span (drop (p + 3) bytes) 0 2 ≡ 10 + span (drop (p + 13) bytes) 0 1 = span_first (p + 3) (p + 13) 0x40 1 (omega arith) (omega (arith, all.inside)) form.members in
      let variable : span (drop (p + 13) bytes) 0 1 ≡ 2 + span (drop (p + 15) bytes) 0 0 = span_first (p + 13) (p + 15) 0x41 0 (omega arith) (omega (arith, all.inside)) form.variable in
      record {
        ends = omega (arith, turned, empty, both, literal, variable, span_none (drop (p + 15) bytes));
        there = record { inside = omega (arith, all.inside); near = omega (arith, all.near) };
      }

-- an expression begins with the byte that was read
pub begun : {bytes : List ℕ} {p b : ℕ} (k : ℕ) → FirstByte bytes p b → b ≡ k → (k ≡ 0 → ⊥) → Begins bytes p k
begun k f e h =
    let z = f.begins (λ z. h (sym e ∙ z)) in
    record { there = z.there; byte = z.byte ∙ e }

-- ---- relations

relation_form : (b : ℕ) → is_relation b ≡ true → (o : Relation) × (condition_form b ≡ CF.Comparison o)
unfolding is_relation condition_form
relation_form b h =
    let x = and_both (leb 0x50 b) (ltb b 0x53) h in
    go (leb-true 0x50 b x.0) (ltb-true b 0x53 x.1) (eqb b 0x50) refl (eqb b 0x51) refl
  where
    go : 0x50 ≤ b → b < 0x53 → (s : Bool) → eqb b 0x50 ≡ s → (t : Bool) → eqb b 0x51 ≡ t → (o : Relation) × (condition_form b ≡ CF.Comparison o)
    go l m true s t u = (Re.Equal, rw (eqb-true b 0x50 s))
    go l m false s true u = (Re.Less, rw (eqb-true b 0x51 u))
    go l m false s false u =
        let e : b ≡ 0x52 = omega (arith, eqb-false b 0x50 s, eqb-false b 0x51 u) in
        (Re.AtMost, rw e)

-- what 52 says, what 51 says, and 50 where it is neither
pub at_most_told : (b : ℕ) (x y : ℤ) (holds : Bool) → b ≡ 0x52 → holds ≡ le_z x y → RelationTold b x y holds
unfolding condition_form compared
at_most_told b x y holds e h o f =
    let g : ◌≡◌ {A = ConditionForm} (CF.Comparison Re.AtMost) (CF.Comparison o) = rw e at f in
    let q : Re.AtMost ≡ o = cc in
    rw (← q) h

pub less_told : (b : ℕ) (x y : ℤ) (holds : Bool) → b ≡ 0x51 → holds ≡ lt_z x y → RelationTold b x y holds
unfolding condition_form compared
less_told b x y holds e h o f =
    let g : ◌≡◌ {A = ConditionForm} (CF.Comparison Re.Less) (CF.Comparison o) = rw e at f in
    let q : Re.Less ≡ o = cc in
    rw (← q) h

no_comparison : (o : Relation) (a b c d e f g : Bool) → cond a CF.Same (cond b CF.Member (cond c CF.Empty (cond d CF.Subset (cond e CF.Negation (cond f (CF.Connective false) (cond g (CF.Connective true) CF.Other)))))) ≡ CF.Comparison o → ⊥
no_comparison o true b c d e f g h = let z : ◌≡◌ {A = ℕ} 0 1 = cc in omega arith
no_comparison o false true c d e f g h = let z : ◌≡◌ {A = ℕ} 0 1 = cc in omega arith
no_comparison o false false true d e f g h = let z : ◌≡◌ {A = ℕ} 0 1 = cc in omega arith
no_comparison o false false false true e f g h = let z : ◌≡◌ {A = ℕ} 0 1 = cc in omega arith
no_comparison o false false false false true f g h = let z : ◌≡◌ {A = ℕ} 0 1 = cc in omega arith
no_comparison o false false false false false true g h = let z : ◌≡◌ {A = ℕ} 0 1 = cc in omega arith
no_comparison o false false false false false false true h = let z : ◌≡◌ {A = ℕ} 0 1 = cc in omega arith
no_comparison o false false false false false false false h = let z : ◌≡◌ {A = ℕ} 0 1 = cc in omega arith

pub equal_told : (b : ℕ) (x y : ℤ) (holds : Bool) → (b ≡ 0x52 → ⊥) → (b ≡ 0x51 → ⊥) → holds ≡ equal_z x y → RelationTold b x y holds
unfolding condition_form compared
equal_told b x y holds m l h o f = go (eqb b 0x50) refl
  where
    go : (t : Bool) → eqb b 0x50 ≡ t → holds ≡ compared o x y
    go true t =
        let g : ◌≡◌ {A = ConditionForm} (CF.Comparison Re.Equal) (CF.Comparison o) = rw (eqb-true b 0x50 t) at f in
        let q : Re.Equal ≡ o = cc in
        rw (← q) h
    go false t = absurd (no_comparison o (eqb b 0x53) (eqb b 0x54) (eqb b 0x55) (eqb b 0x56) (eqb b 0x57) (eqb b 0x58) (eqb b 0x59) (rw (t, ne_eqb b 0x51 l, ne_eqb b 0x52 m) at f))

equal_same : (x y : ℤ) → equal_z x y ≡ true → x ≡ y
unfolding equal_z
equal_same (pos a) (pos b) h = let z = and_both (leb a b) (leb b a) h in
    ap pos (omega (arith, leb-true a b z.0, leb-true b a z.1))
equal_same (pos a) (negsuc b) h = absurd (false≢true h)
equal_same (negsuc a) (pos b) h = absurd (false≢true h)
equal_same (negsuc a) (negsuc b) h = let z = and_both (leb b a) (leb a b) h in
    ap negsuc (omega (arith, leb-true b a z.0, leb-true a b z.1))

equal_itself : (x : ℤ) → equal_z x x ≡ true
unfolding equal_z
equal_itself (pos a) = rw (le-leb a a (omega arith))
equal_itself (negsuc a) = rw (le-leb a a (omega arith))

-- equal bits are equal numbers
pub same_bits : {x y : ℤ} → SFits w64 x → SFits w64 y → eqb (of_z w64 x) (of_z w64 y) ≡ equal_z x y
same_bits {x} {y} f g = go (eqb (of_z w64 x) (of_z w64 y)) refl (equal_z x y) refl
  where
    go : (s : Bool) → eqb (of_z w64 x) (of_z w64 y) ≡ s → (t : Bool) → equal_z x y ≡ t → s ≡ t
    go true p true q = refl
    go false p false q = refl
    go true p false q =
        let e : x ≡ y = sym (back f) ∙ ap (to_z w64) (eqb-true (of_z w64 x) (of_z w64 y) p) ∙ back g in
        sym (equal_itself x) ∙ ap (equal_z x) e ∙ q
    go false p true q = absurd (eqb-false (of_z w64 x) (of_z w64 y) p (ap (of_z w64) (equal_same x y q)))

pub relation_some : (b : ℕ) → is_relation b ≡ true → b ≡ 0 → ⊥
unfolding is_relation
relation_some b h z = let x = and_both (leb 0x50 b) (ltb b 0x53) h in omega (arith, leb-true 0x50 b x.0)

pub suc_sub_one : (k : ℕ) → suc k - 1 ≡ k
suc_sub_one k = omega arith

-- ---- conditions from their parts

module _ (bytes words state : List ℕ) where
  -- bytes behind a part
  pub behind_part : (p n q : ℕ) → q ≡ p + n → drop n (drop p bytes) ≡ drop q bytes
  behind_part p n q e = drop-drop n p bytes ∙ ap (λ (i : ℕ). drop i bytes) (sym e)

  -- what stands behind the first byte gives the whole
  whole_is : {p b : ℕ} {form : ConditionForm} {v : Bool} (n q : ℕ) → Begins bytes p b → condition_form b ≡ form → q ≡ p + 1 + n → Stands bytes q 0
      → ((d : ℕ) → n ≤ d → condition_at d (here bytes words state) form (drop (p + 1) bytes) ≡ C.Holds v n) → ConditionTo bytes words state p v q
  unfolding past_condition
  whole_is {p} {b} {form} {v} n q begins f e there runs = record {
    used = 1 + n;
    ends = omega arith;
    is = record {
      there = record { inside = omega (arith, there.inside); near = omega (arith, there.near) };
      runs = λ d h. (condition_opens (here bytes words state)).opened d p bytes (λ z. absurd (omega arith)) (omega (arith, begins.there.inside)) begins.byte
          ∙ ap (past_condition 1) (ap (λ (g : ConditionForm). condition_at (d - 1) (here bytes words state) g (drop (p + 1) bytes)) f ∙ runs (d - 1) (omega arith));
    };
  }

  pub number_there : {p q : ℕ} {x : ℤ} → NumberTo bytes words state p x q → Stands bytes q 0
  number_there t = record { inside = omega (arith, t.ends, t.is.there.inside); near = omega (arith, t.ends, t.is.there.near) }

  pub condition_there : {p q : ℕ} {b : Bool} → ConditionTo bytes words state p b q → Stands bytes q 0
  condition_there t = record { inside = omega (arith, t.ends, t.is.there.inside); near = omega (arith, t.ends, t.is.there.near) }

  pub set_there : {p q s : ℕ} → SetTo bytes words state p s q → Stands bytes q 0
  set_there t = record { inside = omega (arith, t.ends, t.is.there.inside); near = omega (arith, t.ends, t.is.there.near) }

  -- a part as the run finds it behind another
  pub next_number : (p n : ℕ) {q r : ℕ} {y : ℤ} → q ≡ p + n → (t : NumberTo bytes words state q y r) → (d : ℕ) → t.used ≤ d → run_number d (here bytes words state) (drop n (drop p bytes)) ≡ number_answer (value y) t.used
  unfolding number_answer
  next_number p n {q} {r} e t d h = ap (λ (l : List ℕ). run_number d (here bytes words state) l) (behind_part p n q e) ∙ t.is.runs d h

  next_condition : (p n : ℕ) {q r : ℕ} {b : Bool} → q ≡ p + n → (t : ConditionTo bytes words state q b r) → (d : ℕ) → t.used ≤ d → run_condition d (here bytes words state) (drop n (drop p bytes)) ≡ C.Holds b t.used
  next_condition p n {q} {r} e t d h = ap (λ (l : List ℕ). run_condition d (here bytes words state) l) (behind_part p n q e) ∙ t.is.runs d h

  next_set : (p n : ℕ) {q r s : ℕ} → q ≡ p + n → (t : SetTo bytes words state q s r) → (d : ℕ) → t.used ≤ d → run_set d state words (drop n (drop p bytes)) ≡ set_answer s t.is.objects t.used
  next_set p n {q} {r} e t d h = ap (λ (l : List ℕ). run_set d state words l) (behind_part p n q e) ∙ t.is.runs d h

  -- 50 to 52
  pub compared_is : {p b q r : ℕ} {x y : ℤ} (o : Relation) → Begins bytes p b → condition_form b ≡ CF.Comparison o → NumberTo bytes words state (p + 1) x q → NumberTo bytes words state q y r
      → ConditionTo bytes words state p (compared o x y) r
  unfolding condition_at condition_behind number_answer condition_answer two ◌and_then◌
  compared_is {p} {b} {q} {r} {x} {y} o begins f s t = whole_is (s.used + t.used) r begins f (omega (arith, s.ends, t.ends)) (number_there t)
      (λ d h. test_is (λ g. run_number d (here bytes words state) g) (λ g. run_condition d (here bytes words state) g) (drop (p + 1) bytes) (compared o) (value x) (value y) s.used t.used
      (s.is.runs d (omega arith)) (next_number (p + 1) s.used s.ends t d (omega arith)))

  -- 53
  pub same_is : (p : ℕ) → Begins bytes p 0x53 → Stands bytes p 5 → begins_element (get_or bytes (p + 1) 0) ≡ true → begins_element (get_or bytes (p + 3) 0) ≡ true
      → ConditionTo bytes words state p (eqb (object_in (get_or bytes (p + 1) 0) (get_or bytes (p + 2) 0) state) (object_in (get_or bytes (p + 3) 0) (get_or bytes (p + 4) 0) state)) (p + 5)
  unfolding condition_at condition_behind condition_form same_elements
  same_is p begins there x y = whole_is 4 (p + 5) begins refl (omega arith) (record { inside = omega (arith, there.inside); near = omega (arith, there.near) })
      (λ d h. ap same_elements (elements_are state (λ g. absent_set) (drop (p + 1) bytes) _ 2 _ 2 first second))
    where
      at_one : p + 1 + 1 ≡ p + 2
      at_one = omega arith

      at_three : p + 3 + 1 ≡ p + 4
      at_three = omega arith

      first : run_element state (drop (p + 1) bytes) ≡ element_answer (object_in (get_or bytes (p + 1) 0) (get_or bytes (p + 2) 0) state) 2
      first = element_run state bytes (p + 1) (omega (arith, there.inside)) x ∙ ap (λ (i : ℕ). element_answer (object_in (get_or bytes (p + 1) 0) (get_or bytes i 0) state) 2) at_one

      second : run_element state (drop 2 (drop (p + 1) bytes)) ≡ element_answer (object_in (get_or bytes (p + 3) 0) (get_or bytes (p + 4) 0) state) 2
      second = ap (run_element state) (behind_part (p + 1) 2 (p + 3) (omega arith)) ∙ element_run state bytes (p + 3) (omega (arith, there.inside)) y
          ∙ ap (λ (i : ℕ). element_answer (object_in (get_or bytes (p + 3) 0) (get_or bytes i 0) state) 2) at_three

  -- 54 and an element
  pub member_is : (p : ℕ) {s q : ℕ} → Begins bytes p 0x54 → Stands bytes p 3 → begins_element (get_or bytes (p + 1) 0) ≡ true → SetTo bytes words state (p + 3) s q
      → ConditionTo bytes words state p (Sets.is_member (object_in (get_or bytes (p + 1) 0) (get_or bytes (p + 2) 0) state) s) q
  unfolding condition_at condition_behind condition_form member_of
  member_is p {s} {q} begins there x t = whole_is (2 + t.used) q begins refl (omega (arith, t.ends)) (set_there t)
      (λ d h. ap member_of (element_set_is state (λ g. run_set d state words g) (drop (p + 1) bytes) _ 2 s _ _ first (next_set (p + 1) 2 (omega arith) t d (omega arith))))
    where
      at_one : p + 1 + 1 ≡ p + 2
      at_one = omega arith

      first : run_element state (drop (p + 1) bytes) ≡ element_answer (object_in (get_or bytes (p + 1) 0) (get_or bytes (p + 2) 0) state) 2
      first = element_run state bytes (p + 1) (omega (arith, there.inside)) x ∙ ap (λ (i : ℕ). element_answer (object_in (get_or bytes (p + 1) 0) (get_or bytes i 0) state) 2) at_one

  -- 55
  pub empty_is : {p s q : ℕ} → Begins bytes p 0x55 → SetTo bytes words state (p + 1) s q → ConditionTo bytes words state p (eqb s 0) q
  unfolding condition_at condition_behind condition_form empty_set
  empty_is {p} {s} {q} begins t = whole_is t.used q begins refl t.ends (set_there t) (λ d h. ap empty_set (t.is.runs d h))

  -- 56
  pub subset_is : {p s q u r : ℕ} → Begins bytes p 0x56 → SetTo bytes words state (p + 1) s q → SetTo bytes words state q u r → ConditionTo bytes words state p (Sets.is_subset s u) r
  unfolding condition_at condition_behind condition_form subset_of
  subset_is {p} {s} {q} {u} {r} begins t v = whole_is (t.used + v.used) r begins refl (omega (arith, t.ends, v.ends)) (set_there v)
      (λ d h. ap subset_of (sets_are state (λ g. run_set d state words g) (drop (p + 1) bytes) s _ _ u _ _ (t.is.runs d (omega arith)) (next_set (p + 1) t.used t.ends v d (omega arith))))

  -- 57
  pub negated_is : {p q : ℕ} {c : Bool} → Begins bytes p 0x57 → ConditionTo bytes words state (p + 1) c q → ConditionTo bytes words state p (not c) q
  unfolding condition_at condition_behind condition_form negated
  negated_is {p} {q} {c} begins t = whole_is t.used q begins refl t.ends (condition_there t) (λ d h. ap negated (t.is.runs d h))

  -- ---- 58 and 59: a first part with the value a decides, else the second part does

  module _ (run : List ℕ → ConditionValue) (e : List ℕ) where
    going_on : (a : Bool) (n m : ℕ) (b : Bool) → run e ≡ C.Holds (not a) n → run (drop n e) ≡ C.Holds b m → run_connective a run e ≡ C.Holds b (n + m)
    unfolding run_connective connective_first decided agree past_condition
    going_on true n m b p q = rw (p, q)
    going_on false n m b p q = rw (p, q)

    is_decided : (a : Bool) (n : ℕ) → run e ≡ C.Holds a n → run_connective a run e ≡ C.Holds a (n + span (drop n e) 0 1)
    unfolding run_connective connective_first decided agree
    is_decided true n p = rw p
    is_decided false n p = rw p

  pub second_is : {p b q r : ℕ} {c : Bool} (a : Bool) → Begins bytes p b → condition_form b ≡ CF.Connective a → ConditionTo bytes words state (p + 1) (not a) q → ConditionTo bytes words state q c r
      → ConditionTo bytes words state p c r
  unfolding condition_at condition_behind
  second_is {p} {b} {q} {r} {c} a begins f s t = whole_is (s.used + t.used) r begins f (omega (arith, s.ends, t.ends)) (condition_there t)
      (λ d h. going_on (λ g. run_condition d (here bytes words state) g) (drop (p + 1) bytes) a s.used t.used c (s.is.runs d (omega arith)) (next_condition (p + 1) s.used s.ends t d (omega arith)))

  pub decided_is : {p b q r : ℕ} (a : Bool) → Begins bytes p b → condition_form b ≡ CF.Connective a → ConditionTo bytes words state (p + 1) a q → BehindAll bytes q 1 r
      → ConditionTo bytes words state p a r
  unfolding condition_at condition_behind
  decided_is {p} {b} {q} {r} a begins f s t = whole_is (s.used + span (drop q bytes) 0 1) r begins f (omega (arith, s.ends, t.ends)) t.there
      (λ d h. is_decided (λ g. run_condition d (here bytes words state) g) (drop (p + 1) bytes) a s.used (s.is.runs d (omega arith))
      ∙ ap (λ (l : List ℕ). C.Holds a (s.used + span l 0 1)) (behind_part (p + 1) s.used q s.ends))

  -- ---- what is told

  pub relation_told : {p b q r : ℕ} {holds : Bool} {x y : ℤ} → Begins bytes p b → is_relation b ≡ true → NumberTo bytes words state (p + 1) x q → NumberTo bytes words state q y r → RelationTold b x y holds
      → ConditionTo bytes words state p holds r
  relation_told {b = b} begins h s t told =
      let o = relation_form b h in
      rw (told o.0 o.1) (compared_is o.0 begins o.1 s t)

  -- the same by the bits of both numbers
  pub bits_told_related : {p b q r : ℕ} {holds : Bool} {x y : ℤ} → SFits w64 x → SFits w64 y → Begins bytes p b → is_relation b ≡ true
      → NumberTo bytes words state (p + 1) x q → NumberTo bytes words state q y r → RelationTold b (to_z w64 (of_z w64 x)) (to_z w64 (of_z w64 y)) holds → ConditionTo bytes words state p holds r
  bits_told_related f g begins h first second told = relation_told begins h first second (rw (back f, back g) at told)

  pub same_told : {p x y : ℕ} → Begins bytes p 0x53 → Stands bytes p 5 → begins_element (get_or bytes (p + 1) 0) ≡ true → begins_element (get_or bytes (p + 3) 0) ≡ true
      → x ≡ object_in (get_or bytes (p + 1) 0) (get_or bytes (p + 2) 0) state → y ≡ object_in (get_or bytes (p + 3) 0) (get_or bytes (p + 4) 0) state → ConditionTo bytes words state p (eqb x y) (p + 5)
  same_told {p} begins there a b hx hy = rw (hx, hy) (same_is p begins there a b)

  pub near_member_told : {p x s q : ℕ} {m : Bool} → Begins bytes p 0x54 → Stands bytes p 3 → begins_element (get_or bytes (p + 1) 0) ≡ true
      → x ≡ object_in (get_or bytes (p + 1) 0) (get_or bytes (p + 2) 0) state → SetTo bytes words state (p + 3) s q → m ≡ Sets.is_member x s → ConditionTo bytes words state p m q
  near_member_told {p} begins there a hx set hm = rw (hm, hx) (member_is p begins there a set)

  -- 54, an element and 41 v
  variable_member_is : {p x s : ℕ} → Begins bytes p 0x54 → Stands bytes p 5 → get_or bytes (p + 3) 0 ≡ 0x41 → begins_element (get_or bytes (p + 1) 0) ≡ true
      → x ≡ object_in (get_or bytes (p + 1) 0) (get_or bytes (p + 2) 0) state → s ≡ get_or state (get_or bytes (p + 4) 0) 0 → ConditionTo bytes words state p (Sets.is_member x s) (p + 5)
  variable_member_is {p} {x} {s} begins there v a hx hs =
      let at_three : p + 3 + 1 ≡ p + 4 = omega arith in
      let at_five : p + 3 + 2 ≡ p + 5 = omega arith in
      let set : SetTo bytes words state (p + 3) s (p + 5) = rw at_five at (variable_is bytes words state (p + 3) s (record { inside = omega (arith, there.inside); near = omega (arith, there.near) }) v (hs ∙ ap (λ (i : ℕ). get_or state (get_or bytes i 0) 0) (sym at_three))) in
      rw hx (member_is p begins (record { inside = omega (arith, there.inside); near = omega (arith, there.near) }) a set)

  pub member_told : {p x s : ℕ} {m : Bool} → Begins bytes p 0x54 → Stands bytes p 5 → get_or bytes (p + 3) 0 ≡ 0x41 → begins_element (get_or bytes (p + 1) 0) ≡ true
      → x ≡ object_in (get_or bytes (p + 1) 0) (get_or bytes (p + 2) 0) state → s ≡ get_or state (get_or bytes (p + 4) 0) 0 → m ≡ Sets.is_member x s
      → ConditionTo bytes words state p m (p + 5)
  member_told begins there v a hx hs hm = rw hm (variable_member_is begins there v a hx hs)

  -- 55 45 40 n members 41 v
  missing_is : {p s t : ℕ} → Begins bytes p 0x55 → Stands bytes p 14 → get_or bytes (p + 1) 0 ≡ 0x45 → get_or bytes (p + 2) 0 ≡ 0x40 → get_or bytes (p + 12) 0 ≡ 0x41
      → word 8 (drop (p + 4) bytes) ≡ read s 8 → t ≡ get_or state (get_or bytes (p + 13) 0) 0 → ConditionTo bytes words state p (eqb (Sets.intersection s t) 0) (p + 14)
  unfolding is_combination combined_by
  missing_is {p} {s} {t} begins there both literal variable members word_is =
      let on_two : p + 1 + 1 ≡ p + 2 = omega arith in
      let on_four : p + 2 + 2 ≡ p + 4 = omega arith in
      let on-twelve : p + 2 + 10 ≡ p + 12 = omega arith in
      let on-thirteen : p + 12 + 1 ≡ p + 13 = omega arith in
      let on-end : p + 12 + 2 ≡ p + 14 = omega arith in
      let first : SetTo bytes words state (p + 2) s (p + 12) = rw on-twelve at (literal_is bytes words state (p + 2) s (inner 2 10 (omega arith) there) literal (rw on_four members)) in
      let second : SetTo bytes words state (p + 12) t (p + 14) = rw on-end at (variable_is bytes words state (p + 12) t (inner 12 2 (omega arith) there) variable (rw on-thirteen word_is)) in
      let common : SetTo bytes words state (p + 1) (Sets.intersection s t) (p + 14) = two_sets_are bytes words state (record { there = inner 1 1 (omega arith) there; byte = both }) refl (rw on_two first) second in
      empty_is begins common

  pub missing_told : {p s t i : ℕ} → Begins bytes p 0x55 → Stands bytes p 14 → get_or bytes (p + 1) 0 ≡ 0x45 → get_or bytes (p + 2) 0 ≡ 0x40 → get_or bytes (p + 12) 0 ≡ 0x41
      → word 8 (drop (p + 4) bytes) ≡ read s 8 → t ≡ get_or state (get_or bytes (p + 13) 0) 0 → i ≡ Sets.intersection s t → ConditionTo bytes words state p (eqb i 0) (p + 14)
  missing_told begins there both literal variable members word_is e = rw e (missing_is begins there both literal variable members word_is)

  -- 52 20 a 24 20 b 21 v
  pub scaled_told : {p : ℕ} {a b x y : ℤ} → ScaledForm bytes p → NumberTo bytes words state (p + 1) a (p + 1 + 5) → NumberTo bytes words state (p + 7) b (p + 7 + 5)
      → NumberTo bytes words state (p + 12) x (p + 12 + 2) → Some y ≡ ranged (b *ℤ x) → ConditionTo bytes words state p (le_z a y) (p + 14)
  unfolding is_relation number_form arithmetic
  scaled_told {p} {a} {b} {x} {y} form first scale variable e =
      let on-six : p + 1 + 5 ≡ p + 6 = omega arith in
      let on_seven : p + 6 + 1 ≡ p + 7 = omega arith in
      let on-twelve : p + 7 + 5 ≡ p + 12 = omega arith in
      let on-end : p + 12 + 2 ≡ p + 14 = omega arith in
      let begins : Begins bytes p 0x52 = record { there = record { inside = omega (arith, form.there.inside); near = omega (arith, form.there.near) }; byte = form.is_at_most } in
      let scaled : NumberTo bytes words state (p + 6) y (p + 14) = two_told bytes words state (record { there = inner 6 1 (omega arith) form.there; byte = form.product }) refl
      (rw on_seven (rw on-twelve at scale)) (rw on-end at variable) (Some y) (operation_told 0x24 Op.Product b x (b *ℤ x) (Some y) refl refl e) in
      relation_told begins refl (rw on-six at first) scaled (at_most_told 0x52 a y (le_z a y) refl refl)

  -- 58 of two conditions, whether the first one holds or not
  both_are : {p q r : ℕ} {a c : Bool} → Begins bytes p 0x58 → ConditionTo bytes words state (p + 1) a q → ConditionTo bytes words state q c r → BehindAll bytes q 1 r
      → ConditionTo bytes words state p (a && c) r
  unfolding condition_form
  both_are {a = true} begins s t passed = second_is false begins refl s t
  both_are {a = false} begins s t passed = decided_is false begins refl s passed

  -- 57 55 45 40 n members 41 u
  common_is : {p s t : ℕ} → CommonForm bytes p → word 8 (drop (p + 5) bytes) ≡ read s 8 → t ≡ get_or state (get_or bytes (p + 14) 0) 0
      → ConditionTo bytes words state p (not (eqb (Sets.intersection s t) 0)) (p + 15)
  common_is {p} {s} {t} form members word_is =
      let on_two : p + 1 + 1 ≡ p + 2 = omega arith in
      let on_three : p + 1 + 2 ≡ p + 3 = omega arith in
      let on-five : p + 1 + 4 ≡ p + 5 = omega arith in
      let on-thirteen : p + 1 + 12 ≡ p + 13 = omega arith in
      let on-fourteen : p + 1 + 13 ≡ p + 14 = omega arith in
      let on-end : p + 1 + 14 ≡ p + 15 = omega arith in
      let begins : Begins bytes p 0x57 = record { there = record { inside = omega (arith, form.there.inside); near = omega (arith, form.there.near) }; byte = form.turned } in
      let missing : ConditionTo bytes words state (p + 1) (eqb (Sets.intersection s t) 0) (p + 1 + 14) = missing_is (record { there = inner 1 1 (omega arith) form.there; byte = form.empty }) (inner 1 14 (omega arith) form.there)
      (rw on_two form.intersection) (rw on_three form.members) (rw on-thirteen form.variable) (rw on-five members) (rw on-fourteen word_is) in
      negated_is begins (rw on-end at missing)

  -- 58 54 30 k 41 v and such a condition
  pub member_and_common_told : {p x s t u : ℕ} {m holds : Bool} → MemberAndCommon bytes p → x ≡ object_in (get_or bytes (p + 2) 0) (get_or bytes (p + 3) 0) state → s ≡ get_or state (get_or bytes (p + 5) 0) 0
      → t ≡ get_or state (get_or bytes (p + 20) 0) 0 → word 8 (drop (p + 11) bytes) ≡ read u 8 → m ≡ Sets.is_member x s → holds ≡ (m && not (eqb (Sets.intersection u t) 0))
      → ConditionTo bytes words state p holds (p + 21)
  unfolding begins_element
  member_and_common_told {p} {x} {s} {t} {u} form hx hs ht members hm e =
      let on_two : p + 1 + 1 ≡ p + 2 = omega arith in
      let on_three : p + 1 + 2 ≡ p + 3 = omega arith in
      let on_four : p + 1 + 3 ≡ p + 4 = omega arith in
      let on-five : p + 1 + 4 ≡ p + 5 = omega arith in
      let on-six : p + 1 + 5 ≡ p + 6 = omega arith in
      let on-eleven : p + 6 + 5 ≡ p + 11 = omega arith in
      let on-twenty : p + 6 + 14 ≡ p + 20 = omega arith in
      let on-end : p + 6 + 15 ≡ p + 21 = omega arith in
      let begins : Begins bytes p 0x58 = record { there = record { inside = omega (arith, form.there.inside); near = omega (arith, form.there.near) }; byte = form.both } in
      let member : ConditionTo bytes words state (p + 1) (Sets.is_member x s) (p + 1 + 5) = variable_member_is (record { there = inner 1 1 (omega arith) form.there; byte = form.member }) (inner 1 5 (omega arith) form.there) (rw on_four form.variable)
      (rw (on_two, form.object) refl) (rw (on_two, on_three) hx) (rw on-five hs) in
      let common : ConditionTo bytes words state (p + 6) (not (eqb (Sets.intersection u t) 0)) (p + 6 + 15) = common_is form.common (rw on-eleven members) (rw on-twenty ht) in
      rw (e, hm) (both_are begins (rw on-six at member) (rw on-end at common) (rw on-end at (common_passed bytes form.common)))

  -- ---- 58: conditions that are due one behind the other, from a to q

  -- all of them hold
  pub data AllHold : (due a q : ℕ) → Type 0 where
    none : {a : ℕ} → AllHold zero a a
    more : {k a r q : ℕ} → ConditionTo bytes words state a true r → AllHold k r q → AllHold (suc k) a q

  -- one does not, wherever those behind it end
  pub data OneBroken : (due a : ℕ) → Type 0 where
    now : {k a : ℕ} → FailsAt bytes words state a → OneBroken (suc k) a
    later : {k a r : ℕ} → ConditionTo bytes words state a true r → OneBroken k r → OneBroken (suc k) a

  both_hold : {k a q : ℕ} → Begins bytes a 0x58 → AllHold (suc (suc k)) (a + 1) q → AllHold (suc k) a q
  unfolding condition_form
  both_hold begins (more s (more t rest)) = more (second_is false begins refl s t) rest

  fails_at : {p q : ℕ} → ConditionTo bytes words state p false q → FailsAt bytes words state p
  fails_at t = record { used = t.used; is = t.is }

  one_broken : {k a : ℕ} → length bytes < 2 ^ 63 → Begins bytes a 0x58 → OneBroken (suc (suc k)) (a + 1) → OneBroken (suc k) a
  unfolding condition_form
  one_broken {k} {a} small begins (now s) = now (fails_at (decided_is false begins refl (record { used = s.used; ends = refl; is = s.is }) (passed_one bytes (a + 1 + s.used) small (omega (arith, s.is.there.inside)))))
  one_broken small begins (later s (now t)) = now (fails_at (second_is false begins refl s (record { used = t.used; ends = refl; is = t.is })))
  one_broken small begins (later s (later t rest)) = later (second_is false begins refl s t) rest

  -- the condition at p, by those that are due from a on; the end of one that fails is not asked for
  pub record Tests (p due a : ℕ) : Type 0 where
    pub counted : due + p ≤ a + 1
    pub holds : (q : ℕ) → AllHold due a q → ConditionTo bytes words state p true q
    pub fails : OneBroken due a → FailsAt bytes words state p

  pub tests_start : (p : ℕ) → Tests p 1 p
  tests_start p = record { counted = omega arith; holds = holds; fails = fails }
    where
      holds : (q : ℕ) → AllHold 1 p q → ConditionTo bytes words state p true q
      holds q (more t none) = t

      fails : OneBroken 1 p → FailsAt bytes words state p
      fails (now t) = t
      fails (later {r = r} _ x6) = elim x6 [ ]

  pub tests_and : (p due a : ℕ) → length bytes < 2 ^ 63 → Tests p due a → (due ≡ 0 → ⊥) → Begins bytes a 0x58 → Tests p (due + 1) (a + 1)
  tests_and p zero a small j some begins = absurd (some refl)
  tests_and p (suc k) a small j some begins = rw (add-one (suc k)) (record {
    counted = omega (arith, j.counted);
    holds = λ q all. j.holds q (both_hold begins all);
    fails = λ one. j.fails (one_broken small begins one);
  })

  pub tests_on : (p due a b : ℕ) → Tests p due a → (due ≡ 0 → ⊥) → ConditionTo bytes words state a true b → Tests p (due - 1) b
  tests_on p zero a b j some t = absurd (some refl)
  tests_on p (suc k) a b j some t = rw (suc_sub_one k) (record {
    counted = omega (arith, j.counted, t.ends);
    holds = λ q all. j.holds q (more t all);
    fails = λ one. j.fails (later t one);
  })

  pub tests_fails : (p due a b : ℕ) → Tests p due a → (due ≡ 0 → ⊥) → ConditionTo bytes words state a false b → FailsAt bytes words state p
  tests_fails p zero a b j some t = absurd (some refl)
  tests_fails p (suc k) a b j some t = j.fails (now (fails_at t))

  pub tests_end : (p due a : ℕ) → Tests p due a → due ≡ 0 → ConditionTo bytes words state p true a
  tests_end p due a j none-due = j.holds a (rw none-due none)
