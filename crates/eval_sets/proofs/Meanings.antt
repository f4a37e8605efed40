-- The run of an expression that reads well gives its value and the bytes that reading used.
use Prim.Native.Nat.{ℕ, zero, suc, ◌+◌, ◌%◌, ◌<◌, ◌≤◌}
use mathlib.Core.Path.{◌≡◌, refl, sym, ap, ◌∙◌}
use mathlib.Core.Bool.{Bool}
use mathlib.Core.List.{List, ◌∷◌}
use native.Mathlib.Omega.{arith}
use lib.ListN.{length, drop, get_or}
use lib.IntN.{ℤ}
use lib.Signed.{mag}
use borrow.Author.Tests.{le-ltb}
use Rattle.model.specs.Numbers.{range_end, most_objects}
use Rattle.model.specs.Values.{Value, value}
use Rattle.model.specs.Sets as Sets
use Rattle.model.specs.Readers.{Read, read, two, integer}
use Rattle.model.specs.Syntax.{Element, object, Set, add, remove, union, intersection, difference, complement, Number, literal, plus, minus, times, quotient, lesser, greater, entry, size, total, choice, Condition, equal, less, at_most, same, member, is_empty, subset, negation, both, either, element_count, set_count, Kind, a_set, an_element, a_number, Variable, Table, table_at}
use Rattle.model.specs.Expressions.{objects_and_members, object_number, variable, element, set, number, condition}
use Rattle.model.specs.Meaning as Meaning
use Rattle.model.specs.Meaning.{State, number_at, natural_at, element_value, set_value, entry_at, sum_over, fit, number_value, condition_value}
use Rattle.eval_sets.specs.declared.answers.SetValue.{SetValue}
use Rattle.eval_sets.specs.declared.first_bytes.Operation.{Operation}
use Rattle.eval_sets.specs.declared.first_bytes.Operation.TheVariants as Op
use Rattle.eval_sets.specs.declared.first_bytes.NumberForm.{NumberForm}
use Rattle.eval_sets.specs.declared.first_bytes.NumberForm.TheVariants as NF
use Rattle.eval_sets.specs.declared.first_bytes.Change.TheVariants as Ch
use Rattle.eval_sets.specs.declared.first_bytes.Combination.TheVariants as Co
use Rattle.eval_sets.specs.declared.first_bytes.SetForm.{SetForm}
use Rattle.eval_sets.specs.declared.first_bytes.SetForm.TheVariants as SF
use Rattle.eval_sets.specs.declared.first_bytes.Relation.{Relation}
use Rattle.eval_sets.specs.declared.first_bytes.Relation.TheVariants as Re
use Rattle.eval_sets.specs.declared.first_bytes.ConditionForm.{ConditionForm}
use Rattle.eval_sets.specs.declared.first_bytes.ConditionForm.TheVariants as CF
use Rattle.words.specs.States.{value_of, state_of}
use Rattle.words.proofs.FullSets.{full_of_lem}
use Rattle.eval_sets.specs.Forms.{number_form, set_form, condition_form}
use Rattle.eval_sets.specs.Answers.{number_answer, condition_answer, set_answer, element_answer, past_number, past_condition, past_set}
use Rattle.eval_sets.specs.Runs as R
use Rattle.eval_sets.specs.Runs.{Environment, run_element, run_set, run_number, run_condition, set_behind, number_behind, condition_behind}
use Rattle.eval_sets.specs.Promise.{SetKinds, Describes}
use Rattle.eval_sets.proofs.Reading.{Of, unsaid, of_map, of_both, of_one, of_two, of_three, Long, Byte, of_integer, of_object_number, Members, of_objects_and_members, Declared, of_variable_lem, of_element_and_set, of_two_sets, of_in_table, pick, pick_none, of_forms, of_no_depth}
use Rattle.eval_sets.proofs.Spans.{number_ends, condition_ends, ends_span}
use Rattle.eval_sets.proofs.Parts.{state_at_lem, number_past, condition_past, elements_are, element_set_is, set_element_is, sets_are, pair_is, test_is, negation_is, both_is, either_is, choice_is, sum_same, entry_is}

-- the outline tells the objects of the set variable v, no more than a set may have
abbrev Known : (outline : List ℕ) (v objects : ℕ) → Type 0
Known os v objects = (R.objects_in os v ≡ objects) × (objects ≤ most_objects)

module _ (vs : List Variable) (ts : List Table) (ws : List ℕ) where
  abbrev here : State
  here = state_of vs ws

  -- a variable's value, by its word
  variable_is : (kind : Kind) (v objects : ℕ) → Declared vs kind v objects → number_at here v ≡ value_of kind (get_or ws v 0)
  unfolding number_at
  variable_is kind v objects d = state_at_lem vs ws v d.named d.found ∙ ap (λ (k : Kind). value_of k (get_or ws v 0)) d.alike

  -- ---- elements

  -- b is followed by the operand k
  operand_is : (b k n : ℕ) (f : List ℕ) → Byte f k n → run_element ws (b ∷ f) ≡ R.element_of ws b k
  unfolding run_element
  operand_is b k n f h = rw (h.whole, le-ltb (length (b ∷ k ∷ h.rest)) 2 (omega arith))

  pub element_runs : (d : ℕ) (e : List ℕ) → Of (λ x n. run_element ws e ≡ element_answer (element_value x here) n) (element vs ts d e)
  unfolding element R.element_of element_value natural_at value_of
  element_runs zero e = of_no_depth e
  element_runs (suc d) e = of_forms _ e (λ b f q. rw q
      (pick (says f) b f 0x30 _ _ tt tt (of_one object_number object f (of_object_number f) (λ k n p. literal_is k n f p.0 p.1))
      (pick (says f) b f 0x31 _ _ tt tt (of_one (variable vs ts an_element) _ f (of_variable_lem vs ts an_element f) (λ v n p. variable_case v.0 v.1 n f p.0 p.1))
      (pick_none (says f) b f tt (λ t. unsaid)))))
    where
      says : List ℕ → ℕ → Unit {0} → Read Element → Type 0
      says f b u r = Of (λ x n. run_element ws (b ∷ f) ≡ element_answer (element_value x here) (1 + n)) r

      literal_is : (k n : ℕ) (f : List ℕ) → Byte f k n → k < most_objects → run_element ws (0x30 ∷ f) ≡ element_answer k (1 + n)
      literal_is k n f h l = let m : k % 64 ≡ k = omega arith in operand_is 0x30 k n f h ∙ rw (h.used, m)

      variable_case : (v objects n : ℕ) (f : List ℕ) → Byte f v n → Declared vs an_element v objects → run_element ws (0x31 ∷ f) ≡ element_answer (mag (number_at here v)) (1 + n)
      variable_case v objects n f h x = operand_is 0x31 v n f h ∙ rw (h.used, variable_is an_element v objects x)

  -- ---- sets

  -- a set's answer: its members, how many objects it may have, the bytes
  abbrev set_says : Set → ℕ → SetValue
  set_says x n = set_answer (set_value x here) (set_count x) n

  module _ (os : List ℕ) (known : (v objects : ℕ) → Declared vs a_set v objects → Known os v objects) where
    literal_set_lem : (objects members n : ℕ) (f : List ℕ) → Members f objects members n → R.literal_set f ≡ set_answer members objects n
    unfolding R.literal_set R.literal_members
    literal_set_lem objects members n f h =
        let long : 9 ≤ length (objects ∷ h.rest) = omega (arith, h.long) in
        rw (h.whole, le-ltb (length (objects ∷ h.rest)) 9 long, h.there, h.used)

    variable_set : (v objects n : ℕ) (f : List ℕ) → Byte f v n → Declared vs a_set v objects → R.set_variable_at ws os f ≡ set_answer (mag (number_at here v)) objects n
    unfolding R.set_variable_at value_of
    variable_set v objects n f h x = rw (h.whole, h.used, (known v objects x).0, variable_is a_set v objects x)

    -- a set that reads well has no more objects than a set may have
    set_counted : (d : ℕ) (e : List ℕ) → Of (λ x n. set_count x ≤ most_objects) (set vs ts d e)
    unfolding set set_count
    set_counted zero e = of_no_depth e
    set_counted (suc d) e = of_forms _ e (λ b f q.
        pick counted b f 0x40 _ _ tt tt (of_one objects_and_members _ f (of_objects_and_members f) (λ a n p. p.few))
        (pick counted b f 0x41 _ _ tt tt (of_one (variable vs ts a_set) _ f (of_variable_lem vs ts a_set f) (λ v n p. (known v.0 v.1 p.1).1))
        (pick counted b f 0x42 _ _ tt tt (of_element_and_set (element vs ts d) (set vs ts d) add f (element_runs d f) (set_counted d) (λ a n y m p q. q))
        (pick counted b f 0x43 _ _ tt tt (of_element_and_set (element vs ts d) (set vs ts d) remove f (element_runs d f) (set_counted d) (λ a n y m p q. q))
        (pick counted b f 0x44 _ _ tt tt (of_two_sets (set vs ts d) union f (set_counted d f) (set_counted d) (λ a n y m p q. p))
        (pick counted b f 0x45 _ _ tt tt (of_two_sets (set vs ts d) intersection f (set_counted d f) (set_counted d) (λ a n y m p q. p))
        (pick counted b f 0x46 _ _ tt tt (of_two_sets (set vs ts d) difference f (set_counted d f) (set_counted d) (λ a n y m p q. p))
        (pick counted b f 0x47 _ _ tt tt (of_one (set vs ts d) complement f (set_counted d f) (λ a n p. p))
        (pick_none counted b f tt (λ t. unsaid))))))))))
      where
        counted : ℕ → Unit {0} → Read Set → Type 0
        counted b u r = Of (λ x n. set_count x ≤ most_objects) r

    complement_is : (objects s n : ℕ) → objects ≤ most_objects → R.complemented (set_answer s objects n) ≡ set_answer (Sets.complement objects s) objects n
    unfolding R.complemented Sets.complement
    complement_is objects s n h = rw (full_of_lem objects h)

    -- what is behind the first byte
    Behind : (List ℕ → SetValue) → List ℕ → ℕ → SetForm → Read Set → Type 0
    Behind rs f b form r = Of (λ x n. set_behind ws os rs form f ≡ set_says x n) r

    pub set_runs : (d : ℕ) (e : List ℕ) → Of (λ x n. run_set d ws os e ≡ set_says x n) (set vs ts d e)
    unfolding set run_set set_form Behind set_behind set_value set_count natural_at R.changed R.combined
    set_runs zero e = of_no_depth e
    set_runs (suc d) e = of_forms _ e (λ b f q. rw q (of_map (λ x n h. ap (past_set 1) h)
        (pick (Behind (λ g. run_set d ws os g) f) b f 0x40 _ _ _ _ (of_one objects_and_members _ f (of_objects_and_members f) (λ a n p. literal_set_lem a.0 a.1 n f p))
        (pick (Behind (λ g. run_set d ws os g) f) b f 0x41 _ _ _ _ (of_one (variable vs ts a_set) _ f (of_variable_lem vs ts a_set f) (λ v n p. variable_set v.0 v.1 n f p.0 p.1))
        (pick (Behind (λ g. run_set d ws os g) f) b f 0x42 _ _ _ _ (of_element_and_set (element vs ts d) (set vs ts d) add f (element_runs d f) (set_runs d)
        (λ a n y m p q. ap (R.changed Ch.Add) (element_set_is ws (λ g. run_set d ws os g) f _ n _ _ m p q)))
        (pick (Behind (λ g. run_set d ws os g) f) b f 0x43 _ _ _ _ (of_element_and_set (element vs ts d) (set vs ts d) remove f (element_runs d f) (set_runs d)
        (λ a n y m p q. ap (R.changed Ch.Remove) (element_set_is ws (λ g. run_set d ws os g) f _ n _ _ m p q)))
        (pick (Behind (λ g. run_set d ws os g) f) b f 0x44 _ _ _ _ (of_two_sets (set vs ts d) union f (set_runs d f) (set_runs d)
        (λ a n y m p q. ap (R.combined Co.Union) (sets_are ws (λ g. run_set d ws os g) f _ _ n _ _ m p q)))
        (pick (Behind (λ g. run_set d ws os g) f) b f 0x45 _ _ _ _ (of_two_sets (set vs ts d) intersection f (set_runs d f) (set_runs d)
        (λ a n y m p q. ap (R.combined Co.Intersection) (sets_are ws (λ g. run_set d ws os g) f _ _ n _ _ m p q)))
        (pick (Behind (λ g. run_set d ws os g) f) b f 0x46 _ _ _ _ (of_two_sets (set vs ts d) difference f (set_runs d f) (set_runs d)
        (λ a n y m p q. ap (R.combined Co.Difference) (sets_are ws (λ g. run_set d ws os g) f _ _ n _ _ m p q)))
        (pick (Behind (λ g. run_set d ws os g) f) b f 0x47 _ _ _ _ (of_one (set vs ts d) complement f (of_both (set_runs d f) (set_counted d f))
        (λ a n p. ap R.complemented p.0 ∙ complement_is (set_count a) (set_value a here) n p.1))
        (pick_none (Behind (λ g. run_set d ws os g) f) b f SF.Other (λ t. unsaid))))))))))))

-- ---- numbers and conditions

pub kinds_known : (vs : List Variable) (os : List ℕ) → SetKinds vs os → (v objects : ℕ) → Declared vs a_set v objects → Known os v objects
kinds_known vs os h v objects x = let k = h v x.named x.found x.alike in (omega (arith, k.0, x.counted), omega (arith, k.1, x.counted))

module _ (vs : List Variable) (ts : List Table) (p : Environment) (known : Describes vs ts p) where
  abbrev now : State
  now = state_of vs p.state

  abbrev set_at : ℕ → List ℕ → SetValue
  set_at d e = run_set d p.state p.outline e

  elements_run : (d : ℕ) (e : List ℕ) → Of (λ x n. run_element p.state e ≡ element_answer (element_value x now) n) (element vs ts d e)
  elements_run d e = element_runs vs ts p.state d e

  sets_run : (d : ℕ) (e : List ℕ) → Of (λ x n. set_at d e ≡ set_answer (set_value x now) (set_count x) n) (set vs ts d e)
  sets_run d e = set_runs vs ts p.state p.outline (kinds_known vs p.outline known.sets) d e

  literal_number_lem : (z : ℤ) (n : ℕ) (f : List ℕ) → integer f ≡ read z n → Long 4 f n → R.literal_number f ≡ number_answer (R.fits z) n
  unfolding R.literal_number R.literal_value
  literal_number_lem z n f q h = rw (le-ltb (length f) 4 h.there, q, h.used)

  variable_number : (v objects n : ℕ) (f : List ℕ) → Byte f v n → Declared vs a_number v objects → R.number_variable_at p.state f ≡ number_answer (R.fits (number_at now v)) n
  unfolding R.number_variable_at
  variable_number v objects n f h x = rw (h.whole, h.used, variable_is vs ts p.state a_number v objects x)

  entry_number_lem : (t k i n j m : ℕ) (f : List ℕ) → Byte f t k → t < length ts
      → run_element p.state (drop k f) ≡ element_answer i n → run_element p.state (drop n (drop k f)) ≡ element_answer j m
      → R.entry_number p.model p.state p.outline f ≡ number_answer (R.fits (entry_at (table_at ts t) i j)) (k + (n + m))
  unfolding R.entry_number
  entry_number_lem t k i n j m f h l a b =
      let behind : drop k f ≡ h.rest = rw (h.used, h.whole) in
      let x = elements_are p.state (λ e. set_at 0 e) h.rest i n j m (rw behind at a) (rw behind at b) in
      rw (h.whole, x, entry_is (known.tabled t l) i j, h.used)

  total_number_lem : (d t k s g n j m : ℕ) (f : List ℕ) → Byte f t k → t < length ts
      → set_at d (drop k f) ≡ set_answer s g n → run_element p.state (drop n (drop k f)) ≡ element_answer j m
      → R.total_number p.model p.state p.outline (λ e. set_at d e) f ≡ number_answer (R.fits (sum_over (λ i. entry_at (table_at ts t) i j) (Sets.members s))) (k + (n + m))
  unfolding R.total_number
  total_number_lem d t k s g n j m f h l a b =
      let behind : drop k f ≡ h.rest = rw (h.used, h.whole) in
      let x = set_element_is p.state (λ e. set_at d e) h.rest s g n j m (rw behind at a) (rw behind at b) in
      rw (h.whole, x, sum_same (λ i. R.entry_of p.model (R.table_in p.outline t) i j) (λ i. entry_at (table_at ts t) i j) (λ i. entry_is (known.tabled t l) i j) (Sets.members s), h.used)

  -- what the readers of one depth less tell
  abbrev NumberRuns : ℕ → Type 0
  NumberRuns d = (e : List ℕ) → Of (λ x n. run_number d p e ≡ number_answer (number_value range_end ts x now) n) (number vs ts d e)

  -- what is behind the first byte
  NumberBehind : ℕ → List ℕ → ℕ → NumberForm → Read Number → Type 0
  NumberBehind d f b form r =
      Of (λ x n. number_behind p (λ g. set_at d g) (λ g. run_number d p g) (λ g. run_condition d p g) form f ≡ number_answer (number_value range_end ts x now) n) r

  ConditionBehind : ℕ → List ℕ → ℕ → ConditionForm → Read Condition → Type 0
  ConditionBehind d f b form r =
      Of (λ x n. condition_behind p (λ g. set_at d g) (λ g. run_number d p g) (λ g. run_condition d p g) form f ≡ condition_answer (condition_value range_end ts x now) n) r

  -- a form of two numbers
  module _ (d : ℕ) (hn : NumberRuns d) (f : List ℕ) where
    of_arithmetic : (o : Operation) (make : Number → Number → Number)
        → ((x y : Number) → number_value range_end ts (make x y) now ≡ Meaning.two (number_value range_end ts x now) (number_value range_end ts y now) (R.arithmetic o))
        → (b : ℕ) → NumberBehind d f b (NF.Arithmetic o) (two (number vs ts d) (number vs ts d) make f)
    unfolding NumberBehind number_behind
    of_arithmetic o make is b =
        of_two (number vs ts d) (number vs ts d) make f (hn f) hn
        (λ x n y m h k. pair_is (λ g. run_number d p g) (λ g. run_condition d p g) f (R.arithmetic o) _ _ n m h k ∙ ap (λ (v : Value ℤ). number_answer v (n + m)) (sym (is x y)))

    of_comparison : (o : Relation) (make : Number → Number → Condition)
        → ((x y : Number) → condition_value range_end ts (make x y) now ≡ Meaning.two (number_value range_end ts x now) (number_value range_end ts y now) (λ a b. value (R.compared o a b)))
        → (b : ℕ) → ConditionBehind d f b (CF.Comparison o) (two (number vs ts d) (number vs ts d) make f)
    unfolding ConditionBehind condition_behind
    of_comparison o make is b =
        of_two (number vs ts d) (number vs ts d) make f (hn f) hn
        (λ x n y m h k. test_is (λ g. run_number d p g) (λ g. run_condition d p g) f (R.compared o) _ _ n m h k ∙ ap (λ (v : Value Bool). condition_answer v (n + m)) (sym (is x y)))

  mutual
    unfolding number run_number number_form condition_form NumberBehind ConditionBehind number_behind condition_behind number_value R.arithmetic R.compared fit R.size_number R.same_elements R.member_of R.empty_set R.subset_of condition_answer

    pub number_runs : (d : ℕ) (e : List ℕ) → Of (λ x n. run_number d p e ≡ number_answer (number_value range_end ts x now) n) (number vs ts d e)
    number_runs zero e = of_no_depth e
    number_runs (suc d) e = of_forms _ e (λ b f q. rw q (of_map (λ x n h. ap (past_number 1) h ∙ number_past (number_value range_end ts x now) 1 n)
        (pick (NumberBehind d f) b f 0x20 _ _ _ _ (of_one integer literal f (of_integer f) (λ z n h. literal_number_lem z n f h.0 h.1))
        (pick (NumberBehind d f) b f 0x21 _ _ _ _ (of_one (variable vs ts a_number) _ f (of_variable_lem vs ts a_number f) (λ v n h. variable_number v.0 v.1 n f h.0 h.1))
        (pick (NumberBehind d f) b f 0x22 _ _ _ _ (of_arithmetic d (λ g. number_runs d g) f Op.Sum plus (λ x y. refl) 0x22)
        (pick (NumberBehind d f) b f 0x23 _ _ _ _ (of_arithmetic d (λ g. number_runs d g) f Op.Difference minus (λ x y. refl) 0x23)
        (pick (NumberBehind d f) b f 0x24 _ _ _ _ (of_arithmetic d (λ g. number_runs d g) f Op.Product times (λ x y. refl) 0x24)
        (pick (NumberBehind d f) b f 0x25 _ _ _ _ (of_arithmetic d (λ g. number_runs d g) f Op.Quotient quotient (λ x y. refl) 0x25)
        (pick (NumberBehind d f) b f 0x26 _ _ _ _ (of_arithmetic d (λ g. number_runs d g) f Op.Lesser lesser (λ x y. refl) 0x26)
        (pick (NumberBehind d f) b f 0x27 _ _ _ _ (of_arithmetic d (λ g. number_runs d g) f Op.Greater greater (λ x y. refl) 0x27)
        (pick (NumberBehind d f) b f 0x28 _ _ _ _ (of_in_table vs ts (element vs ts d) element_count (element vs ts d) entry f (elements_run d) (elements_run d)
        (λ t k x n y m z l h j. entry_number_lem t k _ n _ m f z l h j))
        (pick (NumberBehind d f) b f 0x29 _ _ _ _ (of_one (set vs ts d) size f (sets_run d f) (λ x n h. ap R.size_number h))
        (pick (NumberBehind d f) b f 0x2a _ _ _ _ (of_in_table vs ts (set vs ts d) set_count (element vs ts d) total f (sets_run d) (elements_run d)
        (λ t k x n y m z l h j. total_number_lem d t k _ _ n _ m f z l h j))
        (pick (NumberBehind d f) b f 0x2b _ _ _ _ (of_three (condition vs ts d) (number vs ts d) (number vs ts d) choice f (condition_runs d f)
        (λ g. of_both (number_runs d g) (number_ends vs ts d g)) (λ g. of_both (number_runs d g) (number_ends vs ts d g))
        (λ c n x m y l h j k. choice_is (λ g. run_number d p g) (λ g. run_condition d p g) f _ _ _ n m l h j.0 (ends_span _ m j.1) k.0 (ends_span _ l k.1)))
        (pick_none (NumberBehind d f) b f NF.Other (λ t. unsaid))))))))))))))))

    pub condition_runs : (d : ℕ) (e : List ℕ) → Of (λ x n. run_condition d p e ≡ condition_answer (condition_value range_end ts x now) n) (condition vs ts d e)
    condition_runs zero e = of_no_depth e
    condition_runs (suc d) e = of_forms _ e (λ b f q. rw q (of_map (λ x n h. ap (past_condition 1) h ∙ condition_past (condition_value range_end ts x now) 1 n)
        (pick (ConditionBehind d f) b f 0x50 _ _ _ _ (of_comparison d (λ g. number_runs d g) f Re.Equal equal (λ x y. refl) 0x50)
        (pick (ConditionBehind d f) b f 0x51 _ _ _ _ (of_comparison d (λ g. number_runs d g) f Re.Less less (λ x y. refl) 0x51)
        (pick (ConditionBehind d f) b f 0x52 _ _ _ _ (of_comparison d (λ g. number_runs d g) f Re.AtMost at_most (λ x y. refl) 0x52)
        (pick (ConditionBehind d f) b f 0x53 _ _ _ _ (of_two (element vs ts d) (element vs ts d) same f (elements_run d f) (elements_run d)
        (λ x n y m h k. ap R.same_elements (elements_are p.state (λ g. set_at d g) f _ n _ m h k)))
        (pick (ConditionBehind d f) b f 0x54 _ _ _ _ (of_element_and_set (element vs ts d) (set vs ts d) member f (elements_run d f) (sets_run d)
        (λ x n y m h k. ap R.member_of (element_set_is p.state (λ g. set_at d g) f _ n _ _ m h k)))
        (pick (ConditionBehind d f) b f 0x55 _ _ _ _ (of_one (set vs ts d) is_empty f (sets_run d f) (λ x n h. ap R.empty_set h))
        (pick (ConditionBehind d f) b f 0x56 _ _ _ _ (of_two_sets (set vs ts d) subset f (sets_run d f) (sets_run d)
        (λ x n y m h k. ap R.subset_of (sets_are p.state (λ g. set_at d g) f _ _ n _ _ m h k)))
        (pick (ConditionBehind d f) b f 0x57 _ _ _ _ (of_one (condition vs ts d) negation f (condition_runs d f) (λ x n h. negation_is (λ g. run_number d p g) (λ g. run_condition d p g) f _ n h))
        (pick (ConditionBehind d f) b f 0x58 _ _ _ _ (of_two (condition vs ts d) (condition vs ts d) both f (condition_runs d f) (λ g. of_both (condition_runs d g) (condition_ends vs ts d g))
        (λ x n y m h k. both_is (λ g. run_number d p g) (λ g. run_condition d p g) f _ _ n m h k.0 (ends_span _ m k.1)))
        (pick (ConditionBehind d f) b f 0x59 _ _ _ _ (of_two (condition vs ts d) (condition vs ts d) either f (condition_runs d f) (λ g. of_both (condition_runs d g) (condition_ends vs ts d g))
        (λ x n y m h k. either_is (λ g. run_number d p g) (λ g. run_condition d p g) f _ _ n m h k.0 (ends_span _ m k.1)))
        (pick_none (ConditionBehind d f) b f CF.Other (λ t. unsaid))))))))))))))
