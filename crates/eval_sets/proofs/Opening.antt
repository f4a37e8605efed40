-- Definitions that go by the bytes' shape, opened by a length: what the code's tests tell.
use Prim.Native.Nat.{ℕ, zero, suc, ◌-◌, ◌<◌, ◌≤◌, ◌+◌, ◌%◌}
use mathlib.Core.Path.{◌≡◌, refl}
use mathlib.Core.List.{List, [], ◌∷◌}
use native.Mathlib.Omega.{arith}
use lib.ListN.{length, get_or, drop}
use borrow.Author.Tests.{le-ltb}
use lib.IntN.{pos, ◌-ℤ◌}
use Rattle.model.specs.Numbers.{range_end, range_size}
use Rattle.model.specs.Sets.{members}
use Rattle.model.specs.Meaning.{sum_over}
use Rattle.words.specs.States.{value_of}
use Rattle.model.specs.Readers.{read, word}
use Rattle.eval_sets.specs.declared.answers.SetValue.{SetValue}
use Rattle.eval_sets.proofs.Slices.{behind, first_at, none_behind, some_behind}
use Rattle.eval_sets.specs.Answers.{absent_set, absent_number, absent_condition, set_answer, past_set, past_number, past_condition, number_answer}
use Rattle.eval_sets.specs.Forms.{set_form, number_form, condition_form}
use Rattle.eval_sets.specs.Runs.{Environment, objects_in, table_in, run_number, run_condition, number_at, condition_at, fits, number_variable_at, entry_of, entry_number, total_number, two_elements, set_then_element, set_variable_at, literal_set, literal_members, set_behind, run_set}

-- ---- leaves of sets

pub variable_none : (ws os e : List ℕ) → length e ≡ 0 → set_variable_at ws os e ≡ absent_set
unfolding set_variable_at
variable_none ws os [] h = refl
variable_none ws os (v ∷ e) h = absurd (omega arith)

pub variable_some : (ws os e : List ℕ) → (length e ≡ 0 → ⊥) → set_variable_at ws os e ≡ set_answer (get_or ws (get_or e 0 0) 0) (objects_in os (get_or e 0 0)) 1
unfolding set_variable_at
variable_some ws os [] h = absurd (h refl)
variable_some ws os (v ∷ e) h = refl

pub literal_is : (e : List ℕ) (s : ℕ) → 9 ≤ length e → word 8 (drop 1 e) ≡ read s 8 → literal_set e ≡ set_answer s (get_or e 0 0) 9
unfolding literal_set literal_members
literal_is e s h q = rw (le-ltb (length e) 9 h, q)

-- ---- leaves of numbers

pub number_variable_none : (ws e : List ℕ) → length e ≡ 0 → number_variable_at ws e ≡ absent_number
unfolding number_variable_at
number_variable_none ws [] h = refl
number_variable_none ws (v ∷ e) h = absurd (omega arith)

pub number_variable_some : (ws e : List ℕ) → (length e ≡ 0 → ⊥)
    → number_variable_at ws e ≡ number_answer (fits (pos (get_or ws (get_or e 0 0) 0 % range_size) -ℤ pos range_end)) 1
unfolding number_variable_at value_of
number_variable_some ws [] h = absurd (h refl)
number_variable_some ws (v ∷ e) h = refl

module _ (model ws os : List ℕ) where
  pub entry_none : (e : List ℕ) → length e ≡ 0 → entry_number model ws os e ≡ absent_number
  unfolding entry_number
  entry_none [] h = refl
  entry_none (t ∷ e) h = absurd (omega arith)

  pub entry_some : (e : List ℕ) → (length e ≡ 0 → ⊥) → entry_number model ws os e
      ≡ number_answer (fits (entry_of model (table_in os (get_or e 0 0)) (two_elements ws (drop 1 e)).first (two_elements ws (drop 1 e)).second)) (1 + (two_elements ws (drop 1 e)).used)
  unfolding entry_number
  entry_some [] h = absurd (h refl)
  entry_some (t ∷ e) h = refl

  module _ (rs : List ℕ → SetValue) where
    pub total_none : (e : List ℕ) → length e ≡ 0 → total_number model ws os rs e ≡ absent_number
    unfolding total_number
    total_none [] h = refl
    total_none (t ∷ e) h = absurd (omega arith)

    pub total_some : (e : List ℕ) → (length e ≡ 0 → ⊥) → total_number model ws os rs e
        ≡ number_answer (fits (sum_over (λ i. entry_of model (table_in os (get_or e 0 0)) i (set_then_element ws rs (drop 1 e)).second) (members (set_then_element ws rs (drop 1 e)).first))) (1 + (set_then_element ws rs (drop 1 e)).used)
    unfolding total_number
    total_some [] h = absurd (h refl)
    total_some (t ∷ e) h = refl

-- ---- runs at a position, by depth and first byte

-- nothing without depth or without a byte, else what the first byte opens
pub record Opens {A : Type 0} (run : ℕ → List ℕ → A) (nothing : A) (first : (depth byte : ℕ) → List ℕ → A) : Type 0 where
  pub no_depth_lem : (d at : ℕ) (e : List ℕ) → d ≡ 0 → run d (drop at e) ≡ nothing
  pub no_byte : (d at : ℕ) (e : List ℕ) → length e ≤ at → run d (drop at e) ≡ nothing
  pub opened : (d at : ℕ) (e : List ℕ) {b : ℕ} → (d ≡ 0 → ⊥) → at < length e → get_or e at 0 ≡ b → run d (drop at e) ≡ first (d - 1) b (drop (at + 1) e)

module _ {A : Type 0} (run : ℕ → List ℕ → A) (nothing : A) (first : (depth byte : ℕ) → List ℕ → A) (shallow : (e : List ℕ) → run 0 e ≡ nothing)
    (empty : (d : ℕ) → run (suc d) [] ≡ nothing) (deep : (d b : ℕ) (e : List ℕ) → run (suc d) (b ∷ e) ≡ first d b e) where
  at_none : (d : ℕ) (e : List ℕ) → length e ≡ 0 → run d e ≡ nothing
  at_none zero e h = shallow e
  at_none (suc d) [] h = empty d
  at_none (suc d) (b ∷ e) h = absurd (omega arith)

  at_some : (d : ℕ) (e : List ℕ) → (d ≡ 0 → ⊥) → (length e ≡ 0 → ⊥) → run d e ≡ first (d - 1) (get_or e 0 0) (drop 1 e)
  at_some zero e h l = absurd (h refl)
  at_some (suc d) [] h l = absurd (l refl)
  at_some (suc d) (b ∷ e) h l = let x : suc d - 1 ≡ d = omega arith in rw x (deep d b e)

  opens : Opens run nothing first
  opens = record {
    no_depth_lem = λ d at e h. rw h (shallow (drop at e));
    no_byte = λ d at e h. at_none d (drop at e) (none_behind at e h);
    opened = λ d at e h l q. rw (← q, behind at 1 e, first_at at e) (at_some d (drop at e) h (some_behind at e l));
  }

pub set_opens : (ws os : List ℕ) → Opens (λ d e. run_set d ws os e) absent_set (λ d b e. past_set 1 (set_behind ws os (λ f. run_set d ws os f) (set_form b) e))
unfolding run_set
set_opens ws os = opens _ _ _ (λ e. refl) (λ d. refl) (λ d b e. refl)

pub number_opens : (p : Environment) → Opens (λ d e. run_number d p e) absent_number (λ d b e. past_number 1 (number_at d p (number_form b) e))
unfolding run_number number_at
number_opens p = opens _ _ _ (λ e. refl) (λ d. refl) (λ d b e. refl)

pub condition_opens : (p : Environment) → Opens (λ d e. run_condition d p e) absent_condition (λ d b e. past_condition 1 (condition_at d p (condition_form b) e))
unfolding run_condition condition_at
condition_opens p = opens _ _ _ (λ e. refl) (λ d. refl) (λ d b e. refl)
