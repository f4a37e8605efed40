-- The constraints taken apart: the guard of a conjunct, and conjunctions in their place.
use Prim.Native.Nat.{ℕ, ◌+◌}
use mathlib.Core.Path.{◌≡◌, ap, ◌∙◌}
use mathlib.Core.Bool.{Bool, true, false, cond}
use mathlib.Core.List.{List}
use native.Mathlib.Omega.{arith}
use lib.ListN.{get_or}
use Rattle.model.specs.Numbers.{range_end}
use Rattle.model.specs.Values.{value, ◌>>=◌}
use Rattle.model.specs.Syntax.{Condition, negation, either, Table, Model}
use Rattle.model.specs.Meaning.{State, condition_value}
use Rattle.words.specs.States.{state_of}
use Rattle.outline.specs.Outline.{model_of}
use Rattle.prepare.specs.declared.tests.Test.{Test}
use Rattle.prepare.specs.Guards.{passes}
use Rattle.prepare.specs.Promised.{TestSays, ConjunctSays}
use Rattle.prepare.proofs.Connectives.{either_parts, negation_part}
use Rattle.prepare.proofs.Guarding.{guard, passes_all, condition_inside}

-- ---- the guard of a conjunct

module _ (ts : List Table) where
  -- a part that is not asked where the first holds
  unless : (c d : Condition) (s : State) (b : Bool) → condition_value range_end ts c s ≡ value b → condition_value range_end ts (either (negation c) d) s ≡ cond b (condition_value range_end ts d s) (value true)
  unfolding condition_value ◌>>=◌
  unless c d s true e = rw e
  unless c d s false e = rw e

module _ (bytes : List ℕ) (at : ℕ) where
  abbrev model : Model
  model = model_of bytes

  pub guarded_plain : ConjunctSays bytes at (guard 0 0 0 at)
  guarded_plain words x n o h = record { part = x; used = n; inside = condition_inside bytes model at h; reads = h; decides = λ state. rw (passes_all 0 at state) }

  pub guarded_test : (t : Test) → get_or bytes at 0 ≡ 0x59 → get_or bytes (at + 1) 0 ≡ 0x57 → TestSays bytes (at + 2) t
      → ConjunctSays bytes at (guard t.variable t.mask t.need (at + 2 + t.used))
  unfolding passes
  guarded_test t e f says words x n o h =
      let p = either_parts model.variables model.tables bytes at x n e h in
      let q = negation_part model.variables model.tables bytes (at + 1) p.first p.first_used f p.reads_first in
      let two-on : at + 1 + 1 ≡ at + 2 = omega arith in
      let test = says words q.part q.part_used o (rw two-on at q.reads_part) in
      let place : at + 1 + p.first_used ≡ at + 2 + t.used = omega (arith, q.uses, test.used) in
      record {
        part = p.second;
        used = p.second_used;
        inside = rw place at (condition_inside bytes model (at + 1 + p.first_used) p.reads_second);
        reads = rw place at p.reads_second;
        decides = λ state. ap (λ (c : Condition). condition_value range_end model.tables c (state_of model.variables state)) (p.whole ∙ ap (λ (c : Condition). either c p.second) q.whole)
            ∙ unless model.tables q.part p.second (state_of model.variables state) _ (test.decides state);
      }
