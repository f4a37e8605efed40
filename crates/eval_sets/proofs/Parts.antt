-- The run of a form from the runs of its parts, where the parts have these values.
use Prim.Native.Nat.{ℕ, zero, suc, ◌+◌, ◌*◌, ◌<◌}
use mathlib.Core.Path.{◌≡◌, refl, sym, ap, ◌∙◌}
use mathlib.Core.Bool.{Bool, true, false, cond, not}
use mathlib.Core.List.{List, [], ◌∷◌}
use mathlib.Core.Option as O
use native.Mathlib.Nat.{add_assoc}
use native.Mathlib.Omega.{arith}
use lib.ListN.{length, drop, get_or, get_elem?, get_or-eq_default}
use lib.Seq.{drop-drop}
use lib.Dec.{ltb}
use borrow.Author.Tests.{ltb-true, ltb-false}
use lib.IntN.{ℤ, pos}
use Rattle.model.specs.Values.{Value, value, trouble, ◌>>=◌ as ◌and_then◌}
use Rattle.model.specs.Syntax.{Variable, Table}
use Rattle.model.specs.Meaning.{two, entry_at, sum_over}
use Rattle.words.specs.Tables.{cell_at, entry_in, columns_of, cells_of, at_of, table_word, Tabled}
use Rattle.eval_sets.specs.declared.answers.ConditionValue.{ConditionValue}
use Rattle.eval_sets.specs.declared.answers.SetValue.{SetValue}
use Rattle.eval_sets.specs.declared.answers.Parts.{Parts}
use Rattle.words.specs.States.{value_of, state_of}
use Rattle.eval_sets.specs.Forms.{span}
use Rattle.eval_sets.specs.Answers.{NumberValue, told, number_answer, condition_answer, set_answer, element_answer, past_number, past_condition, number_of_two, condition_of_two, negated}
use Rattle.eval_sets.specs.Runs.{run_element, two_elements, element_then_set, set_then_element, two_sets, entry_of, pair_second, pair_first, run_pair, number_before, chosen, choice_first, skip_at, run_choice, agree, decided, connective_first, run_connective}

-- ---- variables

pub state_at_lem : (vs : List Variable) (ws : List ℕ) (v : ℕ) (x : Variable) → get_elem? vs v ≡ O.some x → get_or (state_of vs ws) v (pos 0) ≡ value_of x.kind (get_or ws v 0)
unfolding state_of
state_at_lem [] ws v x q = let z : ◌≡◌ {A = ℕ} 0 1 = cc in absurd (omega arith)
state_at_lem (y ∷ vs) ws zero x q = let z : y ≡ x = cc in rw z
state_at_lem (y ∷ vs) [] (suc v) x q = state_at_lem vs [] v x q
state_at_lem (y ∷ vs) (w ∷ ws) (suc v) x q = state_at_lem vs ws v x q

-- ---- elements and sets

abbrev pub parts : (first second objects n : ℕ) → Parts
parts a b c n = record { first = a; second = b; objects = c; used = n }

module _ (ws : List ℕ) (rs : List ℕ → SetValue) (e : List ℕ) where
  pub elements_are : (i n j m : ℕ) → run_element ws e ≡ element_answer i n → run_element ws (drop n e) ≡ element_answer j m → two_elements ws e ≡ parts i j 0 (n + m)
  unfolding two_elements
  elements_are i n j m p q = rw (p, q)

  pub element_set_is : (i n s f m : ℕ) → run_element ws e ≡ element_answer i n → rs (drop n e) ≡ set_answer s f m → element_then_set ws rs e ≡ parts i s f (n + m)
  unfolding element_then_set
  element_set_is i n s f m p q = rw (p, q)

  pub set_element_is : (s f n i m : ℕ) → rs e ≡ set_answer s f n → run_element ws (drop n e) ≡ element_answer i m → set_then_element ws rs e ≡ parts s i f (n + m)
  unfolding set_then_element
  set_element_is s f n i m p q = rw (p, q)

  pub sets_are : (s f n t g m : ℕ) → rs e ≡ set_answer s f n → rs (drop n e) ≡ set_answer t g m → two_sets rs e ≡ parts s t f (n + m)
  unfolding two_sets
  sets_are s f n t g m p q = rw (p, q)

-- ---- numbers and conditions

pub number_past : (v : Value ℤ) (n m : ℕ) → past_number n (number_answer v m) ≡ number_answer v (n + m)
unfolding past_number number_answer
number_past (value z) n m = refl
number_past (trouble t) n m = refl

pub condition_past : (v : Value Bool) (n m : ℕ) → past_condition n (condition_answer v m) ≡ condition_answer v (n + m)
unfolding past_condition condition_answer
condition_past (value b) n m = refl
condition_past (trouble t) n m = refl

module _ (rn : List ℕ → NumberValue) (rc : List ℕ → ConditionValue) (e : List ℕ) where
  pub pair_is : (g : ℤ → ℤ → Value ℤ) (x y : Value ℤ) (n m : ℕ) → rn e ≡ number_answer x n → rn (drop n e) ≡ number_answer y m
      → number_of_two g (run_pair rn e) ≡ number_answer (two x y g) (n + m)
  unfolding run_pair pair_first pair_second number_of_two number_answer two ◌and_then◌
  pair_is g (value x) (value y) n m p q = rw (p, q)
  pair_is g (value x) (trouble t) n m p q = rw (p, q)
  pair_is g (trouble t) y n m p q = rw p

  pub test_is : (g : ℤ → ℤ → Bool) (x y : Value ℤ) (n m : ℕ) → rn e ≡ number_answer x n → rn (drop n e) ≡ number_answer y m
      → condition_of_two g (run_pair rn e) ≡ condition_answer (two x y (λ a b. value (g a b))) (n + m)
  unfolding run_pair pair_first pair_second condition_of_two number_answer condition_answer two ◌and_then◌
  test_is g (value x) (value y) n m p q = rw (p, q)
  test_is g (value x) (trouble t) n m p q = rw (p, q)
  test_is g (trouble t) y n m p q = rw p

  pub negation_is : (c : Value Bool) (n : ℕ) → rc e ≡ condition_answer c n → negated (rc e) ≡ condition_answer (c and_then (λ holds. value (not holds))) n
  unfolding negated condition_answer ◌and_then◌
  negation_is (value b) n p = rw p
  negation_is (trouble t) n p = rw p

  -- "and": a first part that fails decides
  pub both_is : (c d : Value Bool) (n m : ℕ) → rc e ≡ condition_answer c n → rc (drop n e) ≡ condition_answer d m → span (drop n e) 0 1 ≡ m
      → run_connective false rc e ≡ condition_answer (c and_then (λ holds. cond holds d (value false))) (n + m)
  unfolding run_connective connective_first decided agree condition_answer ◌and_then◌
  both_is (value true) d n m p q z = rw (p, q) (condition_past d n m)
  both_is (value false) d n m p q z = rw (p, z)
  both_is (trouble t) d n m p q z = rw p

  -- "or": a first part that holds decides
  pub either_is : (c d : Value Bool) (n m : ℕ) → rc e ≡ condition_answer c n → rc (drop n e) ≡ condition_answer d m → span (drop n e) 0 1 ≡ m
      → run_connective true rc e ≡ condition_answer (c and_then (λ holds. cond holds (value true) d)) (n + m)
  unfolding run_connective connective_first decided agree condition_answer ◌and_then◌
  either_is (value true) d n m p q z = rw (p, z)
  either_is (value false) d n m p q z = rw (p, q) (condition_past d n m)
  either_is (trouble t) d n m p q z = rw p

  before_is : (v : Value ℤ) (n m l : ℕ) → span (drop m (drop n e)) 0 1 ≡ l → number_before n (number_answer v m) (skip_at e) ≡ number_answer v (n + (m + l))
  unfolding number_before number_answer
  before_is (value z) n m l h = rw (← (drop-drop m n e), h) (ap (λ (k : ℕ). told z k) (omega arith))
  before_is (trouble t) n m l h = refl

  pub choice_is : (c : Value Bool) (x y : Value ℤ) (n m l : ℕ) → rc e ≡ condition_answer c n
      → rn (drop n e) ≡ number_answer x m → span (drop n e) 0 1 ≡ m
      → rn (drop m (drop n e)) ≡ number_answer y l → span (drop m (drop n e)) 0 1 ≡ l
      → run_choice rn rc e ≡ number_answer (c and_then (λ holds. cond holds x y)) (n + (m + l))
  unfolding run_choice choice_first chosen number_answer condition_answer ◌and_then◌
  choice_is (value true) x y n m l p q z r w = rw (p, q) (before_is x n m l w)
  choice_is (value false) x y n m l p q z r w = rw (p, z, ← (drop-drop m n e), r) (number_past y (n + m) l ∙ ap (number_answer y) (add_assoc n m l))
  choice_is (trouble t) x y n m l p q z r w = rw p

-- ---- tables

pub sum_same : (f g : ℕ → ℤ) → ((i : ℕ) → f i ≡ g i) → (l : List ℕ) → sum_over f l ≡ sum_over g l
unfolding sum_over
sum_same f g h [] = refl
sum_same f g h (i ∷ l) = rw (h i, sum_same f g h l)

-- the parts of a packed word
pub unpacked : (at columns cells : ℕ) → at < 131072 → columns < 128 → cells < 8192
    → (columns_of (table_word at columns cells) ≡ columns) × (cells_of (table_word at columns cells) ≡ cells) × (at_of (table_word at columns cells) ≡ at)
unpacked at columns cells a b c = (omega arith, omega arith, omega arith)

pub entry_is : {model : List ℕ} {w : ℕ} {t : Table} → Tabled model w t → (i j : ℕ) → entry_of model w i j ≡ entry_at t i j
unfolding entry_of entry_in entry_at
entry_is {model} {w} {t} d i j =
    let u = unpacked d.at t.columns (length t.entries) d.near d.narrow d.few in
    rw (d.packed, u.0, u.1, u.2) (go (i * t.columns + j) (ltb (i * t.columns + j) (length t.entries)) refl)
  where
    go : (k : ℕ) (b : Bool) → ltb k (length t.entries) ≡ b → cond b (cell_at model d.at k) (pos 0) ≡ get_or t.entries k (pos 0)
    go k true q = sym (d.cells k (ltb-true k (length t.entries) q))
    go k false q = sym (get_or-eq_default t.entries (pos 0) (ltb-false k (length t.entries) q))
