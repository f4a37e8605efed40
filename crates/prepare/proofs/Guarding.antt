-- The guard of a transition: leading tests joined, one after the other.
use Prim.Native.Nat.{ℕ, ◌+◌, ◌≤◌, ◌<◌}
use mathlib.Core.Path.{◌≡◌, refl, sym, ap, ◌∙◌}
use mathlib.Core.Logic.{◌⊎◌, inl, inr}
use mathlib.Core.Bool.{Bool, true, false, cond, ◌&&◌}
use mathlib.Core.List.{List, [], ◌∷◌}
use native.Mathlib.Omega.{arith}
use lib.ListN.{length, get_or, drop, drop_of_length-le}
use lib.Dec.{eqb, leb}
use borrow.Author.Tests.{leb-true, leb-false}
use lib.Bits.{and_zero_r, or_zero_l}
use Rattle.model.specs.Numbers.{range_end, most_nesting, most_conditions}
use Rattle.model.specs.Values.{Value, value, ◌>>=◌}
use Rattle.model.specs.Readers.{Read, read, refused, continue, give, byte, up_to}
use Rattle.model.specs.Readers.{◌>>=◌ as ◌then_reads◌}
use Rattle.model.specs.Sets.{intersection, union}
use Rattle.model.specs.Syntax.{Condition, Transition, Model}
use Rattle.model.specs.Expressions.{condition}
use Rattle.model.specs.Commands.{conditions, transition}
use Rattle.model.specs.Meaning.{condition_value, all_hold}
use Rattle.model.proofs.Chains.{chain}
use Rattle.model.proofs.Loops.{many_early, many_body_refused}
use Rattle.words.specs.States.{state_of}
use Rattle.outline.specs.Outline.{model_of}
use Rattle.prepare.specs.declared.guards.Guard.{Guard}
use Rattle.prepare.specs.declared.tests.Test.{Test}
use Rattle.prepare.specs.Guards.{passes}
use Rattle.prepare.specs.Promised.{TestSays, TestWithin, Joins, GuardSays}
use Rattle.prepare.proofs.Bits.{joined_tests, joined_within}
use Rattle.prepare.proofs.Starts.{starts_with, clash}
use Rattle.prepare.proofs.Tails.{transition_behind}

-- ---- guards as numbers

abbrev pub guard : (variable mask need behind : ℕ) → Guard
guard v m n b = record { variable = v; mask = m; need = n; behind = b }

-- a guard without bits passes everywhere
pub passes_all : (v behind : ℕ) (state : List ℕ) → passes (guard v 0 0 behind) state ≡ true
unfolding passes intersection
passes_all v behind state = rw (and_zero_r (get_or state v 0))

none_needed : (mask need : ℕ) → intersection need mask ≡ need → mask ≡ 0 → need ≡ 0
unfolding intersection
none_needed mask need e z = sym e ∙ rw z (and_zero_r need)

-- the guard and a test that is joined to it
module _ (variable mask need behind : ℕ) (t : Test) (within : intersection need mask ≡ need) (test_within : TestWithin t) where
  abbrev joined_guard : ℕ → Guard
  joined_guard end = guard t.variable (union mask t.mask) (union need t.need) end

  abbrev tests : (state : List ℕ) → Bool
  tests state = eqb (intersection (get_or state t.variable 0) t.mask) t.need

  first_bits : (end : ℕ) (state : List ℕ) → mask ≡ 0 → passes (joined_guard end) state ≡ (passes (guard variable mask need behind) state && tests state)
  unfolding union passes
  first_bits end state z = rw (none_needed mask need within z, z, or_zero_l t.mask, or_zero_l t.need) (sym (ap (λ (i : Bool). i && tests state) (passes_all variable behind state)))

  more_bits : (end : ℕ) (state : List ℕ) → variable ≡ t.variable → intersection mask t.mask ≡ 0 → passes (joined_guard end) state ≡ (passes (guard variable mask need behind) state && tests state)
  unfolding passes intersection
  more_bits end state same z = rw same (joined_tests (get_or state t.variable 0) mask t.mask need t.need (record { masks = z; first = within; second = test_within.bits }))

  pub passes_joined : Joins variable mask t → (end : ℕ) (state : List ℕ) → passes (joined_guard end) state ≡ (passes (guard variable mask need behind) state && tests state)
  passes_joined j end state = go j.apart
    where
      go : (mask ≡ 0) ⊎ ((variable ≡ t.variable) × (intersection mask t.mask ≡ 0)) → passes (joined_guard end) state ≡ (passes (guard variable mask need behind) state && tests state)
      go (inl z) = first_bits end state z
      go (inr p) = more_bits end state p.0 p.1

  pub within_joined : Joins variable mask t → intersection (union need t.need) (union mask t.mask) ≡ union need t.need
  within_joined j = joined_within mask t.mask need t.need within test_within.bits

-- ---- what is read at a place stands inside

module _ (bytes : List ℕ) (m : Model) where
  abbrev condition_reads : (at : ℕ) → Condition → (used : ℕ) → Type 0
  condition_reads at x n = condition m.variables m.tables most_nesting (drop at bytes) ≡ read x n

  no_bytes : (at : ℕ) → length bytes < at → drop at bytes ≡ []
  no_bytes at l = let beyond : length bytes ≤ at = omega arith in drop_of_length-le bytes beyond

  by_place : (at : ℕ) → (length bytes < at → ⊥) → at ≤ length bytes
  by_place at h = go (leb at (length bytes)) refl
    where
      go : (t : Bool) → leb at (length bytes) ≡ t → at ≤ length bytes
      go true e = leb-true at (length bytes) e
      go false e = absurd (h (leb-false at (length bytes) e))

  pub condition_inside : (at : ℕ) {x : Condition} {n : ℕ} → condition_reads at x n → at ≤ length bytes
  unfolding condition byte ◌then_reads◌ continue
  condition_inside at h = by_place at (λ l. clash (ap (condition m.variables m.tables most_nesting) (no_bytes at l)) h)

  abbrev transition_reads : (at : ℕ) → Transition → (used : ℕ) → Type 0
  transition_reads at x n = transition m.variables m.tables (drop at bytes) ≡ read x n

  conditions_first : (at : ℕ) (x : Transition) (n : ℕ) → transition_reads at x n → (l : List Condition) × (k : ℕ) × (conditions m.variables m.tables (drop at bytes) ≡ read l k)
  unfolding transition ◌then_reads◌
  conditions_first at x n h = let c = chain (conditions m.variables m.tables (drop at bytes)) _ (drop at bytes) x n h in (c.first, c.used, c.reads_first)

  pub transition_inside : (at : ℕ) (x : Transition) (n : ℕ) → transition_reads at x n → at ≤ length bytes
  unfolding conditions up_to
  transition_inside at x n h =
      let c = conditions_first at x n h in
      by_place at (λ l. clash (ap (conditions m.variables m.tables) (no_bytes at l) ∙ many_early _ _ _ most_conditions []) c.2)

  -- behind 08 there is a condition
  pub record FirstCondition (at : ℕ) : Type 0 where
    pub item : Condition
    pub used : ℕ
    pub reads : condition_reads (at + 1) item used

  pub first_condition : (at : ℕ) (x : Transition) (n : ℕ) → get_or bytes at 0 ≡ 0x08 → transition_reads at x n → FirstCondition at
  unfolding conditions up_to give
  first_condition at x n here h = go (condition m.variables m.tables most_nesting (drop (at + 1) bytes)) refl
    where
      go : (r : Read Condition) → condition m.variables m.tables most_nesting (drop (at + 1) bytes) ≡ r → FirstCondition at
      go (read c k) e = record { item = c; used = k; reads = e }
      go (refused t) e =
          let c = conditions_first at x n h in
          clash (ap (conditions m.variables m.tables) (starts_with bytes at 0x08 (omega arith) here) ∙ many_body_refused _ _ _ 15 [] 0x08 (drop (at + 1) bytes) (tt {0}) 0 t refl refl e) c.2

-- ---- the guard, one test after the other

module _ (bytes : List ℕ) where
  abbrev model : Model
  model = model_of bytes

  guard_none : (at : ℕ) → GuardSays bytes at (guard 0 0 0 at)
  guard_none at words x n o h =
      record { rest = x.conditions; used = n; inside = transition_inside bytes model at x n h; reads = h; decides = λ state. rw (passes_all 0 at state) }

  all_cons : (c : Condition) (l : List Condition) (state : List ℕ) (b : Bool) → condition_value range_end model.tables c (state_of model.variables state) ≡ value b
      → all_hold range_end model.tables (c ∷ l) (state_of model.variables state) ≡ cond b (all_hold range_end model.tables l (state_of model.variables state)) (value false)
  unfolding all_hold ◌>>=◌
  all_cons c l state b e = rw e

  cond_both : (a b : Bool) (x y : Value Bool) → cond a (cond b x y) y ≡ cond (a && b) x y
  cond_both true b x y = refl
  cond_both false b x y = refl

  guard_joined : (at variable mask need behind : ℕ) (t : Test) → intersection need mask ≡ need → GuardSays bytes at (guard variable mask need behind) → get_or bytes behind 0 ≡ 0x08
      → TestSays bytes (behind + 1) t → TestWithin t → Joins variable mask t → GuardSays bytes at (guard t.variable (union mask t.mask) (union need t.need) (behind + 1 + t.used))
  guard_joined at variable mask need behind t within guarded here says test_within j words x n o h =
      let g = guarded words x n o h in
      let first = first_condition bytes model behind _ g.used here g.reads in
      let test = says words first.item first.used o first.reads in
      let left = transition_behind model.variables model.tables bytes behind first.item first.used _ g.used here first.reads g.reads in
      let place : behind + 1 + first.used ≡ behind + 1 + t.used = ap (λ (i : ℕ). behind + 1 + i) test.used in
      record {
        rest = left.rest;
        used = left.used;
        inside = rw place at (transition_inside bytes model (behind + 1 + first.used) _ left.used left.reads);
        reads = rw place at left.reads;
        decides = λ state. g.decides state
            ∙ ap (λ (l : List Condition). cond (passes (guard variable mask need behind) state) (all_hold range_end model.tables l (state_of model.variables state)) (value false)) left.whole
            ∙ ap (λ (v : Value Bool). cond (passes (guard variable mask need behind) state) v (value false)) (all_cons first.item left.rest state _ (test.decides state))
            ∙ cond_both (passes (guard variable mask need behind) state) _ _ _
            ∙ ap (λ (b : Bool). cond b (all_hold range_end model.tables left.rest (state_of model.variables state)) (value false)) (sym (passes_joined variable mask need behind t within test_within j (behind + 1 + t.used) state));
      }

-- what was joined so far
pub record Guarding (bytes : List ℕ) (at variable mask need behind : ℕ) : Type 0 where
  pub says : GuardSays bytes at (guard variable mask need behind)
  pub within : intersection need mask ≡ need

pub guarding_none : (bytes : List ℕ) (at : ℕ) → Guarding bytes at 0 0 0 at
guarding_none bytes at = record { says = guard_none bytes at; within = nothing }
  where
    nothing : intersection 0 0 ≡ 0
    nothing = unfold intersection in refl

pub guarding_more : (bytes : List ℕ) (at variable mask need behind : ℕ) (t : Test) → Guarding bytes at variable mask need behind → get_or bytes behind 0 ≡ 0x08 → TestSays bytes (behind + 1) t → TestWithin t → Joins variable mask t
    → Guarding bytes at t.variable (union mask t.mask) (union need t.need) (behind + 1 + t.used)
guarding_more bytes at variable mask need behind t g here says within j = record {
  says = guard_joined bytes at variable mask need behind t g.within g.says here says within j;
  within = within_joined variable mask need behind t g.within within j;
}
