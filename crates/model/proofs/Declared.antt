-- A model without bounds and preferences has true declarations: h is 0 in every state, and a state dominates itself only.
-- The number of values is the same in all states that are reached, so states with equal values are equal.
use Prim.Native.Nat.{ℕ, zero, suc, ◌+◌, ◌<◌}
use mathlib.Core.Path.{◌≡◌, ◌∙◌, sym, ap, subst}
use mathlib.Core.Bool.{true, false, false≢true, true≢false}
use mathlib.Core.List.{List, [], ◌∷◌}
use native.Mathlib.Omega.{arith}
use native.Mathlib.Nat.{add-zero, zero-add}
use lib.ListN.{length, length-map}
use lib.Seq.{ext_get_or}
use lib.IntN.{ℤ, pos, negsuc}
use borrow.Author.Tests.{leb-true}
use Rattle.laws.specs.Lists.{All, is_empty}
use Rattle.laws.proofs.Bools.{and_both, not_true}
use Rattle.laws.proofs.Lists.{any_none, is_empty_lem}
use Rattle.model.specs.Values.{value, ◌>>=◌}
use Rattle.model.specs.System.{Costs, System, moved}
use Rattle.model.specs.Plans.{InLayer, first, next, Plan, TrueDeclarations}
use Rattle.model.specs.Syntax.{Preference, none, less, more, Variable, Model}
use Rattle.model.specs.Meaning.{State, number_at, equal_z}
use Rattle.model.specs.Steps.{target, no_worse, none_worse, is_preferred, prefers_nothing, declares_nothing, greatest, bound_hours, bound, system_of}
use Rattle.model.specs.Costs.{free, costs_of}
use Rattle.model.specs.declared.Cost.{Cost}
use Rattle.model.proofs.Costs.{cost_laws}
use Rattle.model.proofs.Outcomes.{MoveOutcome, a_move, move_outcome}

-- the bounds' part of true declarations
abbrev pub TrueBounds : {S C : Type 0} → Costs C → System S C → (start : S) → Type 0
TrueBounds {S} {C} K M start = (k : ℕ) (s : S) (h r : C) (p : List ℕ) → InLayer M start k s → M.bound s ≡ value h → Plan K M s p r → K.at_most h r ≡ true

-- ---- equal values

equal_is_same : (a b : ℤ) → equal_z a b ≡ true → a ≡ b
unfolding equal_z
equal_is_same (pos a) (pos b) e = let (p, q) = and_both _ _ e in ap pos (omega (arith, leb-true a b p, leb-true b a q))
equal_is_same (pos a) (negsuc b) e = absurd (false≢true e)
equal_is_same (negsuc a) (pos b) e = absurd (false≢true e)
equal_is_same (negsuc a) (negsuc b) e = let (p, q) = and_both _ _ e in ap negsuc (omega (arith, leb-true b a p, leb-true a b q))

same_without_preference : (p : Preference) (a b : ℤ) → is_preferred p ≡ false → no_worse p a b ≡ true → a ≡ b
unfolding is_preferred no_worse
same_without_preference none a b f e = equal_is_same a b e
same_without_preference less a b f e = absurd (true≢false f)
same_without_preference more a b f e = absurd (true≢false f)

same_values : (xs : List Variable) (v : ℕ) (t s : State) → All (λ x. is_preferred x.preference ≡ false) xs → none_worse xs v t s ≡ true → (i : ℕ) → i < length xs → number_at t (v + i) ≡ number_at s (v + i)
unfolding none_worse
same_values [] v t s f e i lt = absurd (omega arith)
same_values (x ∷ xs) v t s f e zero lt = rw add-zero (same_without_preference x.preference _ _ f.0 (and_both (no_worse x.preference (number_at t v) (number_at s v)) _ e).0)
same_values (x ∷ xs) v t s f e (suc i) lt =
    let there : number_at t (suc v + i) ≡ number_at s (suc v + i) = same_values xs (suc v) t s f.1 (and_both (no_worse x.preference (number_at t v) (number_at s v)) _ e).1 i (omega arith) in
    let at : v + suc i ≡ suc v + i = omega arith in
    rw at there

-- ---- the number of values

moved_size : {end n : ℕ} {c : Cost} {u : State} → MoveOutcome end n (moved c u) → length u ≡ n
moved_size (a_move h e) = e

module _ (end : ℕ) (m : Model) where
  step_size : (s : State) (t : ℕ) {c : Cost} {u : State} → (system_of end m).move s t ≡ moved c u → length u ≡ length s
  unfolding system_of
  step_size s t e = moved_size (subst (MoveOutcome end (length s)) e (move_outcome end m s t))

  pub reached_size : {k : ℕ} {s : State} → InLayer (system_of end m) (target m) k s → length s ≡ length m.variables
  unfolding target
  reached_size first = length-map m.variables _
  reached_size (next {t = t} {s = s} i x) = step_size s t x.allowed ∙ reached_size i

  -- without preferences
  module _ (e : prefers_nothing m ≡ true) where
    no_preferences : All (λ x. is_preferred x.preference ≡ false) m.variables
    unfolding prefers_nothing
    no_preferences = any_none _ m.variables (not_true _ e)

    dominates_itself_only : {j k : ℕ} {s u : State} → InLayer (system_of end m) (target m) j s → InLayer (system_of end m) (target m) k u → (system_of end m).dominates s u ≡ true → s ≡ u
    unfolding system_of number_at
    dominates_itself_only {s = s} {u = u} i j d =
        ext_get_or (pos 0) s u (reached_size i ∙ sym (reached_size j))
        (λ n lt. rw zero-add at (same_values m.variables 0 s u no_preferences d n (omega (arith, reached_size i))))

    -- the declarations are true if the bounds are
    pub bounds_alone : TrueBounds (costs_of m.rule) (system_of end m) (target m) → TrueDeclarations (costs_of m.rule) (system_of end m) (target m)
    bounds_alone b =
        record {
          bounds = λ i h plan. b _ _ _ _ _ i h plan;
          preferences = λ {p = p} {r = r} i j d plan. (p, r, rw (dominates_itself_only i j d) plan, (cost_laws m.rule).reflexive r);
        }

  h_is_zero : m.bounds ≡ [] → (s : State) {h : Cost} → (system_of end m).bound s ≡ value h → h ≡ free
  unfolding system_of bound bound_hours greatest ◌>>=◌
  h_is_zero empty s b = let z = rw empty at b in cc

  -- no bound and no preference is declared, so nothing that is declared is false
  pub nothing_declared_is_true : declares_nothing m ≡ true → TrueDeclarations (costs_of m.rule) (system_of end m) (target m)
  unfolding declares_nothing costs_of
  nothing_declared_is_true e =
      let (p, b) = and_both (prefers_nothing m) (is_empty m.bounds) e in
      bounds_alone p (λ k s h r q i x plan. rw (h_is_zero (is_empty_lem m.bounds b) s x) ((cost_laws m.rule).least r))
