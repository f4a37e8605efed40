-- A step that is taken, told apart: its transition, the conditions that hold before it, its cost, and the state that its effects make.
use Prim.Native.Nat.{ℕ, zero, suc}
use mathlib.Core.Path.{◌≡◌, refl, subst}
use mathlib.Core.Bool.{Bool, true, false, cond}
use mathlib.Core.List.{List, [], ◌∷◌}
use mathlib.Core.Option.{Option, none, some}
use native.Mathlib.Omega.{arith}
use lib.ListN.{get_elem?}
use Rattle.laws.specs.Lists.{All}
use Rattle.model.specs.Values.{Value, value, trouble, ◌>>=◌}
use Rattle.model.specs.System.{moved}
use Rattle.model.specs.Syntax.{Number, StepCosts, Transition, Model}
use Rattle.model.specs.declared.Cost.{Cost}
use Rattle.model.specs.Costs.{fixed}
use Rattle.model.specs.Meaning.{State, number_value, all_hold}
use Rattle.model.specs.Steps.{Attempt, not_taken, taken, cost_of, admits, effects, with_high, step_cost, attempt, constrained, move_of, move_by, move, system_of}
use Rattle.model.specs.Real.{NoRanges}

-- one evaluation behind another that has a value: the first has one too
pub bind_value : {A B : Type 0} (x : Value A) (next : A → Value B) {b : B} → (x >>= next) ≡ value b → (a : A) × (x ≡ value a) × (next a ≡ value b)
unfolding ◌>>=◌
bind_value (value a) next e = (a, refl, e)
bind_value (trouble t) next e = let z : ◌≡◌ {A = ℕ} 0 1 = cc in absurd (omega arith)

-- what holds of every member holds of the one that is found
pub all_found : {A : Type 0} (P : A → Type 0) (l : List A) (i : ℕ) {x : A} → All P l → get_elem? l i ≡ some x → P x
all_found P [] i a e = let z : ◌≡◌ {A = ℕ} 0 1 = cc in absurd (omega arith)
all_found P (y ∷ l) zero {x} a e = let same : y ≡ x = cc in subst P same a.0
all_found P (y ∷ l) (suc i) a e = all_found P l i a.1 e

module _ (end : ℕ) (m : Model) where
  -- transition t takes s to u at cost c
  pub record Takes (t : Transition) (s : State) (c : Cost) (u : State) : Type 0 where
    pub holds : all_hold end m.tables t.conditions s ≡ value true
    pub priced : step_cost end m t.costs s ≡ value c
    pub changes : effects end m t.effects s s ≡ value u

  -- behind the conditions
  priced_takes : (t : Transition) (s u : State) (c : Cost) (b : Bool) → all_hold end m.tables t.conditions s ≡ value b
      → cond b (step_cost end m t.costs s >>= λ d. effects end m t.effects s s >>= λ new. value (taken d new)) (value not_taken) ≡ value (taken c u) → Takes t s c u
  priced_takes t s u c true h e =
      let (d, cost, of-effects) = bind_value (step_cost end m t.costs s) _ e in
      let (new, made, same) = bind_value (effects end m t.effects s s) _ of-effects in
      record { holds = h; priced = cc; changes = cc }
  priced_takes t s u c false h e = let z : ◌≡◌ {A = ℕ} 0 1 = cc in absurd (omega arith)

  attempt_takes : (t : Transition) (s u : State) (c : Cost) → attempt end m t s ≡ value (taken c u) → Takes t s c u
  unfolding attempt
  attempt_takes t s u c e = let (b, held, rest) = bind_value (all_hold end m.tables t.conditions s) _ e in priced_takes t s u c b held rest

  constrained_same : (c d : Cost) (new u : State) (b : Value Bool) → constrained end m c new b ≡ moved d u → taken c new ≡ taken d u
  unfolding constrained
  constrained_same c d new u (value true) e = cc
  constrained_same c d new u (value false) e = let z : ◌≡◌ {A = ℕ} 0 1 = cc in absurd (omega arith)
  constrained_same c d new u (trouble t) e = let z : ◌≡◌ {A = ℕ} 0 1 = cc in absurd (omega arith)

  move_takes : (t : Transition) (s u : State) (c : Cost) (x : Value Attempt) → attempt end m t s ≡ x → move_of end m x ≡ moved c u → Takes t s c u
  unfolding move_of
  move_takes t s u c (value not_taken) a e = let z : ◌≡◌ {A = ℕ} 0 1 = cc in absurd (omega arith)
  move_takes t s u c (value (taken d new)) a e = attempt_takes t s u c (rw (constrained_same d c new u (admits end m new) e) at a)
  move_takes t s u c (trouble n) a e = let z : ◌≡◌ {A = ℕ} 0 1 = cc in absurd (omega arith)

  found_takes : (s u : State) (i : ℕ) (c : Cost) (o : Option Transition) → get_elem? m.transitions i ≡ o → move_by end m o s ≡ moved c u → (t : Transition) × (get_elem? m.transitions i ≡ some t) × Takes t s c u
  unfolding move_by
  found_takes s u i c none f e = let z : ◌≡◌ {A = ℕ} 0 1 = cc in absurd (omega arith)
  found_takes s u i c (some t) f e = (t, f, move_takes t s u c (attempt end m t s) refl e)

  -- a step that the system takes is by one of the model's transitions
  pub step_takes : (s u : State) (i : ℕ) (c : Cost) → (system_of end m).move s i ≡ moved c u → (t : Transition) × (get_elem? m.transitions i ≡ some t) × Takes t s c u
  unfolding system_of move
  step_takes s u i c e = found_takes s u i c (get_elem? m.transitions i) refl e

  -- without a high cost a step costs the same at both figures
  high_is_low : (o : Option Number) (low : ℕ) (s : State) {c : Cost} → o ≡ none → with_high end m o low s ≡ value c → c.low ≡ c.high
  unfolding with_high
  high_is_low none low s {c} h e = let same : fixed low ≡ c = cc in subst (λ (d : Cost). d.low ≡ d.high) same refl
  high_is_low (some x) low s h e = let z : ◌≡◌ {A = ℕ} 0 1 = cc in absurd (omega arith)

  one_figure : (k : StepCosts) (s : State) {c : Cost} → k.high ≡ none → step_cost end m k s ≡ value c → c.low ≡ c.high
  unfolding step_cost
  one_figure k s h e =
      let (z, _, rest) = bind_value (number_value end m.tables k.cost s) _ e in
      let (low, _, priced) = bind_value (cost_of z) _ rest in
      high_is_low k.high low s h priced

  pub step_one_figure : NoRanges m → (s : State) (i : ℕ) {c : Cost} {u : State} → (system_of end m).move s i ≡ moved c u → c.low ≡ c.high
  step_one_figure fixed-costs s i {c} {u} e =
      let (t, found, takes) = step_takes s u i c e in
      one_figure t.costs s (all_found (λ (x : Transition). x.costs.high ≡ none) m.transitions i fixed-costs found) takes.priced
