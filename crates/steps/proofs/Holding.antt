-- Conditions tried in order: what is left to try while those passed hold, and the answers at the end.
use Prim.Native.Nat.{ℕ, ◌+◌, ◌-◌, ◌≤◌, ◌<◌}
use mathlib.Core.Path.{◌≡◌, refl, sym, ap, ◌∙◌}
use mathlib.Core.Bool.{Bool, true, false}
use mathlib.Core.List.{List}
use native.Mathlib.Omega.{arith}
use lib.ListN.{length, get_or, drop}
use Rattle.laws.proofs.Lists.{byte_inside}
use Rattle.model.specs.Numbers.{range_end}
use Rattle.model.specs.Values.{Value, value, trouble, ◌>>=◌}
use Rattle.model.specs.Readers.{read}
use Rattle.model.specs.Syntax.{Condition}
use Rattle.model.specs.Commands.{conditions}
use Rattle.model.specs.Meaning.{condition_value, all_hold}
use Rattle.outline.specs.Outline.{model_of}
use Rattle.eval_sets.specs.declared.troubles.Trouble.{Trouble}
use Rattle.eval_sets.specs.declared.answers.ConditionValue.{ConditionValue}
use Rattle.eval_sets.specs.declared.answers.ConditionValue.TheVariants as C
use Rattle.eval_sets.specs.Answers.{condition_answer}
use Rattle.eval_sets.specs.Bounds.{ConditionWithin}
use Rattle.eval_tests.specs.Stopped.{stopped}
use Rattle.steps.specs.declared.answers.HeldAnswer.TheVariants as H
use Rattle.steps.specs.InBytes.{state_in}
use Rattle.steps.specs.Answers.{IsTrouble, held_answer}
use Rattle.steps.specs.Says.{ConditionSays, HeldSays}
use Rattle.steps.proofs.Readings.{Listed, ConditionAt, conditions_listed, First, first_of, none_of}

-- ---- a test's answer taken apart

pub condition_holds : (v : Value Bool) (n : ℕ) {b : Bool} {k : ℕ} → stopped (condition_answer v n) ≡ C.Holds b k → (v ≡ value b) × (b ≡ true → n ≡ k)
unfolding condition_answer stopped
condition_holds (value true) n e = (cc, λ y. cc)
condition_holds (value false) n e = (cc, λ y. let z : ◌≡◌ {A = ℕ} 0 1 = cc in absurd (omega arith))
condition_holds (trouble t) n e = let z : ◌≡◌ {A = ℕ} 0 1 = cc in absurd (omega arith)

pub condition_troubles : (v : Value Bool) (n : ℕ) {t : Trouble} → stopped (condition_answer v n) ≡ C.Trouble t → IsTrouble v t
unfolding condition_answer stopped
condition_troubles (value true) n e = let z : ◌≡◌ {A = ℕ} 0 1 = cc in absurd (omega arith)
condition_troubles (value false) n e = let z : ◌≡◌ {A = ℕ} 0 1 = cc in absurd (omega arith)
condition_troubles (trouble t) n e = (t, refl, cc)

pub holds_within : (l : ℕ) {r : ConditionValue} {b : Bool} {k : ℕ} → r ≡ C.Holds b k → ConditionWithin l r → k ≤ l
holds_within l e w = rw e at w

-- a place behind a byte, and the bytes used from there on
pub inside : (bytes : List ℕ) (next k : ℕ) {b : ℕ} → get_or bytes next 0 ≡ b → 0 < b → k ≤ length bytes - (next + 1) → next + 1 + k ≤ length bytes
inside bytes next k e h l = omega (arith, byte_inside bytes next _ h e)

-- ---- the conditions 08 from `at` on, those before `next` passed

module _ (bytes state : List ℕ) where
  abbrev all_in : List Condition → Value Bool
  all_in l = all_hold range_end (model_of bytes).tables l (state_in bytes state)

  abbrev ListedIn : ℕ → List Condition → ℕ → Type 0
  ListedIn = Listed 0x08 (ConditionAt (model_of bytes).variables (model_of bytes).tables bytes) bytes

  pub record Left (l : List Condition) (next end : ℕ) : Type 0 where
    pub rest : List Condition
    pub listed : ListedIn next rest end
    pub same : all_in l ≡ all_in rest

  abbrev pub Trying : (at next : ℕ) → Type 0
  Trying at next = (l : List Condition) (n : ℕ) → conditions (model_of bytes).variables (model_of bytes).tables (drop at bytes) ≡ read l n → Left l next (at + n)

  pub trying_first : (at : ℕ) → Trying at at
  trying_first at l n h = record { rest = l; listed = conditions_listed (model_of bytes).variables (model_of bytes).tables bytes at l n h; same = refl }

  module _ (at next : ℕ) (tried : Trying at next) where
    pub trying_last : (get_or bytes next 0 ≡ 0x08 → ⊥) → HeldSays bytes at state (H.All next)
    unfolding held_answer all_hold
    trying_last e l n h =
        let t = tried l n h in
        let p = none_of _ _ _ t.listed e in
        rw (t.same, p.0, p.1)

    module _ (byte : get_or bytes next 0 ≡ 0x08) (r : ConditionValue) (says : ConditionSays bytes (next + 1) state r) where
      said : {l : List Condition} {end : ℕ} (t : Left l next end) (f : First 0x08 (ConditionAt (model_of bytes).variables (model_of bytes).tables bytes) bytes next t.rest end)
          → r ≡ stopped (condition_answer (condition_value range_end (model_of bytes).tables f.first (state_in bytes state)) f.part.used)
      said t f = says f.first f.part.used f.part.reads

      pub trying_more : {b : Bool} {k : ℕ} → r ≡ C.Holds b k → b ≡ true → Trying at (next + 1 + k)
      unfolding all_hold ◌>>=◌
      trying_more {b} {k} e y l n h =
          let t = tried l n h in
          let f = first_of _ _ _ t.listed byte in
          let p = condition_holds _ f.part.used (sym (said t f) ∙ e) in
          let q : f.next ≡ next + 1 + k = omega (arith, f.part.ends, p.1 y) in
          record { rest = f.others; listed = rw q at f.behind; same = t.same ∙ ap all_in f.whole ∙ rw (p.0, y) }

      pub trying_fails : {b : Bool} {k : ℕ} → r ≡ C.Holds b k → b ≡ false → HeldSays bytes at state H.Fails
      unfolding all_hold ◌>>=◌ held_answer
      trying_fails e y l n h =
          let t = tried l n h in
          let f = first_of _ _ _ t.listed byte in
          let p = condition_holds _ f.part.used (sym (said t f) ∙ e) in
          rw (t.same, f.whole, p.0, y)

      pub trying_troubles : {k : Trouble} → r ≡ C.Trouble k → HeldSays bytes at state (H.Trouble k)
      unfolding all_hold ◌>>=◌ held_answer
      trying_troubles e l n h =
          let t = tried l n h in
          let f = first_of _ _ _ t.listed byte in
          let p = condition_troubles _ f.part.used (sym (said t f) ∙ e) in
          rw (t.same, f.whole, p.1) (ap H.Trouble p.2)
