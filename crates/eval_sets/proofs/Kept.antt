-- A number that the definitions give a trouble is kept where the trouble is named: where an evaluator answers by a name, the value is the
-- trouble of that name's number.
use Prim.Native.Nat.{ℕ, ◌≤◌, ◌<◌}
use mathlib.Core.Path.{◌≡◌, refl, sym, ap}
use mathlib.Core.Logic.{◌⊎◌, inl, inr}
use mathlib.Core.Bool.{Bool}
use mathlib.Core.List.{List}
use native.Mathlib.Nat.{eq-or-lt_of_le}
use native.Mathlib.Omega.{arith}
use lib.IntN.{ℤ}
use Rattle.std.specs.Prelude.{Err}
use Rattle.model.specs.Numbers.{range_end}
use Rattle.model.specs.Troubles.{StateTrouble, by_value, by_range, PlanTrouble, is_no_plan, of_state}
use Rattle.model.specs.Values.{Value, value, trouble}
use Rattle.model.specs.Syntax.{Number, Condition, Table}
use Rattle.model.specs.Meaning.{State, number_value, condition_value}
use Rattle.model.proofs.Troubles.{number_trouble, condition_trouble}
use Rattle.eval_sets.specs.declared.answers.ConditionValue.TheVariants as C
use Rattle.eval_sets.specs.declared.troubles.Trouble.{Trouble}
use Rattle.eval_sets.specs.declared.troubles.Trouble.TheVariants as T
use Rattle.eval_sets.specs.Answers.{number_answer, condition_answer}
use Rattle.eval_sets.specs.Troubles.{number_of, named}

pub named_number : (t : Trouble) → named (number_of t) ≡ t
unfolding named
named_number T.Nothing = refl
named_number T.OutOfRange = refl
named_number T.DivisorZero = refl
named_number T.NegativeCost = refl
named_number T.HighBelowLow = refl
named_number T.NotAPlan = refl

kept : (s t : ℕ) → number_of (named s) ≡ s → t ≡ s → number_of (named t) ≡ t
kept s t h q = rw q h

pub state_trouble_kept : {t : ℕ} → StateTrouble t → number_of (named t) ≡ t
unfolding named
state_trouble_kept {t} (by_value l m) = from_11 (eq-or-lt_of_le l)
  where
    from_12 : (12 ≡ t) ⊎ (12 < t) → number_of (named t) ≡ t
    from_12 (inl q) = kept 12 t refl (sym q)
    from_12 (inr k) = kept 13 t refl (omega arith)

    from_11 : (11 ≡ t) ⊎ (11 < t) → number_of (named t) ≡ t
    from_11 (inl q) = kept 11 t refl (sym q)
    from_11 (inr k) = let l : 12 ≤ t = omega arith in from_12 (eq-or-lt_of_le l)
state_trouble_kept {t} (by_range q) = kept 17 t refl q

pub plan_trouble_kept : {s : Trouble} {t : ℕ} → PlanTrouble t → s ≡ named t → number_of s ≡ t
unfolding named
plan_trouble_kept {t = t} (is_no_plan q) h = rw h (kept 14 t refl q)
plan_trouble_kept (of_state k) h = rw h (state_trouble_kept k)

-- ---- values, by the trouble that is told of them

number_told_by : (v : Value ℤ) (n : ℕ) {t : Trouble} → ((k : ℕ) → v ≡ trouble k → StateTrouble k) → number_answer v n ≡ Err t → v ≡ trouble (number_of t)
unfolding number_answer
number_told_by (value a) n f e = let z : ◌≡◌ {A = ℕ} 0 1 = cc in absurd (omega arith)
number_told_by (trouble k) n {t} f e = let h : t ≡ named k = cc in rw h (ap (λ (i : ℕ). trouble i) (sym (state_trouble_kept (f k refl))))

condition_told_by : (v : Value Bool) (n : ℕ) {t : Trouble} → ((k : ℕ) → v ≡ trouble k → StateTrouble k) → condition_answer v n ≡ C.Trouble t → v ≡ trouble (number_of t)
unfolding condition_answer
condition_told_by (value a) n f e = let z : ◌≡◌ {A = ℕ} 0 1 = cc in absurd (omega arith)
condition_told_by (trouble k) n {t} f e = let h : t ≡ named k = cc in rw h (ap (λ (i : ℕ). trouble i) (sym (state_trouble_kept (f k refl))))

module _ (ts : List Table) (s : State) (n : ℕ) {t : Trouble} where
  pub number_trouble_kept : (x : Number) → number_answer (number_value range_end ts x s) n ≡ Err t → number_value range_end ts x s ≡ trouble (number_of t)
  number_trouble_kept x e = number_told_by (number_value range_end ts x s) n (λ k q. number_trouble range_end ts x s q) e

  pub condition_trouble_kept : (x : Condition) → condition_answer (condition_value range_end ts x s) n ≡ C.Trouble t → condition_value range_end ts x s ≡ trouble (number_of t)
  condition_trouble_kept x e = condition_told_by (condition_value range_end ts x s) n (λ k q. condition_trouble range_end ts x s q) e
