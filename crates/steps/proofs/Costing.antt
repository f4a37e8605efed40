-- What a step costs, from the evaluators' answers: the low cost, and the high one where it is written.
use Prim.Native.Nat.{ℕ, ◌+◌, ◌≤◌}
use mathlib.Core.Path.{◌≡◌, refl, sym, ap, ◌∙◌}
use mathlib.Core.List.{List}
use mathlib.Core.Option.{Option}
use native.Mathlib.Omega.{arith}
use lib.ListN.{get_or, drop}
use lib.IntN.{ℤ}
use Rattle.std.specs.Prelude.{Ok, Err}
use Rattle.eval_sets.specs.declared.answers.Told.{Told}
use Rattle.model.specs.Numbers.{range_end}
use Rattle.model.specs.Values.{Value, value, trouble, ◌>>=◌}
use Rattle.model.specs.Readers.{read}
use Rattle.model.specs.Syntax.{Number, StepCosts}
use Rattle.model.specs.Commands.{costs}
use Rattle.model.specs.Meaning.{number_value}
use Rattle.model.specs.declared.Cost.{Cost}
use Rattle.model.specs.Costs.{fixed}
use Rattle.model.specs.Steps.{cost_of, not_below, with_high, step_cost}
use Rattle.outline.specs.Outline.{model_of}
use Rattle.eval_sets.specs.Troubles.{named}
use Rattle.eval_sets.specs.declared.troubles.Trouble.{Trouble}
use Rattle.eval_sets.specs.Answers.{NumberValue, told, number_answer}
use Rattle.steps.specs.InBytes.{state_in}
use Rattle.steps.specs.Answers.{IsTrouble, CostAnswer, cost_answer}
use Rattle.steps.specs.Says.{NumberSays, RangeSays, CostsSay, CostWithin}
use Rattle.quick.proofs.Totals.{number_is}
use Rattle.steps.proofs.Readings.{CostsAt, costs_at}
use Rattle.steps.proofs.Trials.{number_troubles}

-- ---- answers taken apart

pub cost_within : (l : ℕ) {r : CostAnswer} {c : Told Cost} → r ≡ Ok c → CostWithin l r → c.used ≤ l
cost_within l e h = rw e at h

pub costs_told : (v : Value Cost) (n : ℕ) {c : Cost} {k : ℕ} → cost_answer v n ≡ told c k → (v ≡ value c) × (n ≡ k)
unfolding cost_answer
costs_told (value a) n {c} {k} e =
    let q : ◌≡◌ {A = Told Cost} (record { value = a; used = n }) (record { value = c; used = k }) = cc in
    (ap (λ (v : Told Cost). value v.value) q, ap (λ (v : Told Cost). v.used) q)
costs_told (trouble t) n e = let z : ◌≡◌ {A = ℕ} 0 1 = cc in absurd (omega arith)

pub costs_troubles : (v : Value Cost) (n : ℕ) {t : Trouble} → cost_answer v n ≡ Err t → IsTrouble v t
unfolding cost_answer
costs_troubles (value a) n e = let z : ◌≡◌ {A = ℕ} 0 1 = cc in absurd (omega arith)
costs_troubles (trouble t) n e = (t, refl, cc)

-- ---- the high cost at a place, whose number stands behind 10

module _ (bytes : List ℕ) (at : ℕ) (state : List ℕ) (low : ℕ) (q : NumberValue) (says : NumberSays bytes (at + 1) state q) where
  pub range_says : {z : ℤ} {n high : ℕ} → q ≡ told z n → not_below low z ≡ value high → RangeSays bytes at state low (told (record { high = high; low = low; moves = 0 }) (n + 1))
  unfolding cost_answer with_high ◌>>=◌
  range_says e f x m h = let p = number_is _ m (sym (says x m h) ∙ e) in rw (p.0, f, p.1)

  pub range_refused : {z : ℤ} {n t : ℕ} → q ≡ told z n → not_below low z ≡ trouble t → RangeSays bytes at state low (Err (named t))
  unfolding cost_answer with_high ◌>>=◌
  range_refused e f x m h = let p = number_is _ m (sym (says x m h) ∙ e) in rw (p.0, f)

  pub range_trouble : {t : Trouble} → q ≡ Err t → RangeSays bytes at state low (Err t)
  unfolding cost_answer with_high ◌>>=◌
  range_trouble e x m h = let p = number_troubles _ m (sym (says x m h) ∙ e) in rw p.1 (ap Err p.2)

-- ---- the costs at a place, whose low cost stands behind 09

module _ (bytes : List ℕ) (at : ℕ) (state : List ℕ) (q : NumberValue) (says : NumberSays bytes (at + 1) state q) where
  abbrev Reads : StepCosts → ℕ → Type 0
  Reads k n = costs (model_of bytes).variables (model_of bytes).tables (drop at bytes) ≡ read k n

  abbrev cost_in : StepCosts → Value Cost
  cost_in k = step_cost range_end (model_of bytes) k (state_in bytes state)

  abbrev high_in : Option Number → (low : ℕ) → Value Cost
  high_in o low = with_high range_end (model_of bytes) o low (state_in bytes state)

  parts : (k : StepCosts) (n : ℕ) → Reads k n → CostsAt (model_of bytes).variables (model_of bytes).tables bytes at k (at + n)
  parts k n h = costs_at _ _ bytes at k n h

  low_told : (k : StepCosts) (n : ℕ) (h : Reads k n) → number_answer (number_value range_end (model_of bytes).tables k.cost (state_in bytes state)) (parts k n h).used ≡ q
  low_told k n h = sym (says k.cost (parts k n h).used (parts k n h).reads)

  pub costs_trouble : {t : Trouble} → q ≡ Err t → CostsSay bytes at state (Err t)
  unfolding cost_answer step_cost ◌>>=◌
  costs_trouble e k m h = let p = number_troubles _ _ (low_told k m h ∙ e) in rw p.1 (ap Err p.2)

  module _ {z : ℤ} {n : ℕ} (e : q ≡ told z n) where
    pub costs_refused : {t : ℕ} → cost_of z ≡ trouble t → CostsSay bytes at state (Err (named t))
    unfolding cost_answer step_cost ◌>>=◌
    costs_refused f k m h = let p = number_is _ _ (low_told k m h ∙ e) in rw (p.0, f)

    module _ {low : ℕ} (f : cost_of z ≡ value low) where
      -- the low cost is passed: what is left is the high one
      passed : (k : StepCosts) (m : ℕ) (h : Reads k m) → (cost_in k ≡ high_in k.high low) × ((parts k m h).used ≡ n)
      unfolding step_cost ◌>>=◌
      passed k m h = let p = number_is _ _ (low_told k m h ∙ e) in (rw (p.0, f), p.1)

      pub costs_say : (get_or bytes (at + 1 + n) 0 ≡ 0x10 → ⊥) → CostsSay bytes at state (told (fixed low) (n + 1))
      unfolding cost_answer with_high
      costs_say other k m h =
          let p = passed k m h in
          let a = (parts k m h).high.absent (rw p.1 other) in
          let used : m ≡ n + 1 = omega (arith, a.1, p.1) in
          rw (p.0, a.0, used)

      module _ (there : get_or bytes (at + 1 + n) 0 ≡ 0x10) (r : CostAnswer) (ranged : RangeSays bytes (at + 1 + n) state low r) where
        -- what the costs come to is told behind 10
        ranged_told : (k : StepCosts) (m : ℕ) → Reads k m → (i : ℕ) × (cost_answer (cost_in k) i ≡ r) × (m ≡ n + 1 + i)
        ranged_told k m h =
            let p = passed k m h in
            let w = (parts k m h).high.written (rw p.1 there) in
            (w.used + 1, ap (λ (v : Value Cost). cost_answer v (w.used + 1)) (p.0 ∙ ap (λ (o : Option Number). high_in o low) w.whole) ∙ sym (ranged w.item w.used (rw p.1 at w.reads)), omega (arith, w.ends, p.1))

        pub costs_range : {c : Cost} {more : ℕ} → r ≡ told c more → CostsSay bytes at state (told c (n + 1 + more))
        unfolding cost_answer
        costs_range {more = more} g k m h =
            let t = ranged_told k m h in
            let v = costs_told (cost_in k) t.0 (t.1 ∙ g) in
            let used : m ≡ n + 1 + more = omega (arith, t.2, v.1) in
            rw (v.0, used)

        pub costs_range_trouble : {t : Trouble} → r ≡ Err t → CostsSay bytes at state (Err t)
        unfolding cost_answer
        costs_range_trouble g k m h = let s = ranged_told k m h in let v = costs_troubles (cost_in k) s.0 (s.1 ∙ g) in rw v.1 (ap Err v.2)
