-- What the search cites of this layer: laws of the reading, the system, the costs and the states of the bytes.
use Prim.Native.Nat.{ℕ, ◌+◌, ◌≤◌, ◌<◌}
use mathlib.Core.Path.{◌≡◌, refl, sym, ap}
use mathlib.Core.Bool.{true}
use mathlib.Core.List.{List}
use native.Mathlib.Omega.{arith}
use lib.ListN.{get_or}
use Rattle.model.specs.Numbers.{range_end, most_variables, most_transitions}
use Rattle.model.specs.Values.{value, trouble, ◌>>=◌}
use Rattle.model.specs.System.{Costs, CostLaws, System, Origin, moved, trouble_after}
use Rattle.model.specs.Readers.{Read, read, refused}
use Rattle.model.specs.Syntax.{Model}
use Rattle.model.specs.Commands.{model}
use Rattle.model.specs.Meaning.{State}
use Rattle.model.specs.declared.Cost.{Cost}
use Rattle.model.specs.Costs.{free, hours, at_most, costs_of, CostUpTo, CostBelow}
use Rattle.model.specs.Steps.{system_of, origin_of, bound}
use Rattle.model.proofs.Costs as costs
use Rattle.model.proofs.Ranges as ranges
use Rattle.model.proofs.Reading.{model_refusal}
use Rattle.outline.specs.Outline.{model_of, read_model, refusal_of}
use Rattle.prepare.specs.Promised.{Ready}
use Rattle.steps.specs.InBytes.{refusal_in, Outlined, system_in, bound_in, state_in, target_in, origin_in}
use Rattle.steps.specs.Follow.{costs_in}
use Rattle.steps.specs.Hashes.{hash_of}
use Rattle.steps.proofs.StateWords.{state_alike}
use Rattle.steps.proofs.Hashing as hashing

refused_as : (x : Read Model) (t : ℕ) → t ≡ refusal_of x → 0 < t → x ≡ refused t
unfolding refusal_of
refused_as (read m n) t e h = absurd (omega arith)
refused_as (refused u) t e h = ap refused (sym e)

module _ (bytes : List ℕ) where
  -- ---- the reading

  pub refused_in_lem : (t : ℕ) → t ≡ refusal_in bytes → 0 < t → model bytes ≡ refused t
  refused_in_lem t e h = refused_as (model bytes) t e h

  -- bytes that are read, to a function that goes by a model's costs, system and origin alone: it goes by those in the bytes
  module _ {X : Type 0} (f : Read Model → X) (g : Costs Cost → System State Cost → Origin State Cost → X) (made : (m : Model) (n : ℕ) → f (read m n) ≡ g (costs_of m.rule) (system_of range_end m) (origin_of m)) where
    read_as : (x : Read Model) → model bytes ≡ x → 0 ≡ refusal_of x → f x ≡ g (costs_in bytes) (system_in bytes) (origin_in bytes)
    unfolding refusal_of model_of read_model
    read_as (read m n) e z = rw e (made m n)
    read_as (refused t) e z = absurd (omega (arith, model_refusal bytes e))

    pub read_in : 0 ≡ refusal_in bytes → f (model bytes) ≡ g (costs_in bytes) (system_in bytes) (origin_in bytes)
    read_in z = read_as (model bytes) refl z

  -- ---- costs

  pub cost_laws : CostLaws (costs_in bytes)
  cost_laws = costs.cost_laws (model_of bytes).rule

  -- their order, and what is spent on nothing
  pub cost_order : (a b : Cost) → (costs_in bytes).at_most a b ≡ at_most a b
  unfolding costs_of
  cost_order a b = refl

  pub cost_empty : (costs_in bytes).empty ≡ free
  unfolding costs_of
  cost_empty = refl

  -- each part of two costs joined
  pub combined_up_to : {a b : Cost} {n k : ℕ} → CostUpTo n a → CostUpTo k b → CostUpTo (n + k) ((costs_in bytes).combine a b)
  unfolding costs_of
  combined_up_to p q = costs.combine_up_to (model_of bytes).rule p q

  -- f has the low figure of g
  pub f_low : (g : Cost) (h : ℕ) → ((costs_in bytes).combine g (hours h)).low ≡ g.low
  unfolding costs_of
  f_low g h = costs.f_low (model_of bytes).rule g h

  -- ---- steps and h, below the range's end

  pub step_cost_below : (s : State) (t : ℕ) {c : Cost} {u : State} → (system_in bytes).move s t ≡ moved c u → CostBelow range_end c
  step_cost_below s t e = ranges.step_cost_below range_end (model_of bytes) s t e

  pub trouble_cost_below : (s : State) (t : ℕ) {c : Cost} {n : ℕ} → (system_in bytes).move s t ≡ trouble_after c n → CostBelow range_end c
  trouble_cost_below s t e = ranges.trouble_cost_below range_end (model_of bytes) s t e

  pub bound_below : (s : State) {h : ℕ} → bound_in bytes s ≡ value h → h < range_end
  bound_below s e = ranges.bound_hours_below range_end (model_of bytes) (omega arith) s e

  -- h as a cost
  pub bound_hours_lem : (s : State) {h : ℕ} → bound_in bytes s ≡ value h → (system_in bytes).bound s ≡ value (hours h)
  unfolding system_of bound ◌>>=◌
  bound_hours_lem s e = rw e

  pub bound_troubles : (s : State) {t : ℕ} → bound_in bytes s ≡ trouble t → (system_in bytes).bound s ≡ trouble t
  unfolding system_of bound ◌>>=◌
  bound_troubles s e = rw e

  -- ---- the start

  pub origin_start : (origin_in bytes).start ≡ target_in bytes
  unfolding origin_of
  origin_start = refl

  pub origin_spent : (origin_in bytes).spent ≡ free
  unfolding origin_of
  origin_spent = refl

-- words that the reading has made ready
pub ready : {bytes outline : List ℕ} → Ready bytes outline → Outlined bytes outline
ready r = record { outlines = r.room.outlines; prepared = r.prepared; long = r.room.long }

module _ {bytes outline : List ℕ} (o : Outlined bytes outline) where
  pub few_transitions : (system_in bytes).transitions ≤ most_transitions
  unfolding system_of
  few_transitions = o.outlines.few_transitions

  -- words that begin alike stand for the same state
  pub same_state : (ws us : List ℕ) → ((v : ℕ) → v < most_variables → get_or ws v 0 ≡ get_or us v 0) → state_in bytes ws ≡ state_in bytes us
  same_state ws us alike = state_alike (model_of bytes).variables ws us (λ v l. alike v (omega (arith, o.outlines.few_variables)))

  -- a state that dominates another has the same hash
  pub same_hash : (t s : List ℕ) → (system_in bytes).dominates (state_in bytes t) (state_in bytes s) ≡ true → hash_of outline t ≡ hash_of outline s
  same_hash t s d = hashing.same_hash bytes outline o t s d
