-- The evaluators on a model's own bytes: what their answers are of expressions that stand there, by the outline's words.
use Prim.Native.Nat.{ℕ, ◌-◌, ◌≤◌, ◌<◌}
use mathlib.Core.Path.{◌≡◌, ap}
use mathlib.Core.Bool.{Bool, true, false}
use mathlib.Core.List.{List}
use native.Mathlib.Omega.{arith}
use lib.ListN.{length, take, drop, length-drop}
use lib.IntN.{ℤ}
use lib.Signed.{mag}
use mir.Syntax.{w64}
use mir.Val.{SFits, of_z, to_z}
use Rattle.model.specs.Numbers.{range_end, most_nesting, most_objects}
use Rattle.words.proofs.Integers.{back}
use Rattle.words.proofs.Literal.{suffix}
use Rattle.outline.specs.Outline.{model_of}
use Rattle.eval_sets.specs.declared.answers.ConditionValue.{ConditionValue}
use Rattle.eval_sets.specs.declared.answers.ConditionValue.TheVariants as C
use Rattle.eval_sets.specs.declared.answers.ElementValue.{ElementValue}
use Rattle.eval_sets.specs.declared.answers.SetValue.{SetValue}
use Rattle.eval_sets.specs.Bounds.{NumberWithin, ConditionWithin}
use Rattle.eval_sets.specs.Runs.{Environment, environment, run_element, run_set, run_number, run_condition}
use Rattle.eval_sets.specs.Promise.{Describes}
use Rattle.eval_sets.proofs.Promises.{run_number_lem, run_condition_lem, run_set_lem, run_element_lem}
use Rattle.eval_sets.proofs.Within.{number_within, condition_within, set_within, element_within, element_small}
use Rattle.eval_sets.specs.Answers.{NumberValue, told, condition_answer}
use Rattle.eval_tests.specs.Stopped.{stopped}
use Rattle.eval_tests.proofs.Stopping.{stopped_within}
use Rattle.prepare.specs.Forms.{MemberForm}
use Rattle.prepare.proofs.Tested.{outline_describes}
use Rattle.quick.specs.Entries.{EntryForm, entry_at}
use Rattle.quick.specs.Sets.{member_in}
use Rattle.quick.proofs.Changes.{membership_says}
use Rattle.quick.proofs.Compared.{entry_says}
use Rattle.cursor.specs.Told.{NumberTo, SetTo, ConditionTo, FailsAt}
use Rattle.cursor.proofs.Says.{number_says, condition_says, fails_says, set_says_lem}
use Rattle.steps.specs.InBytes.{Outlined}
use Rattle.steps.specs.Says.{ConditionSays, NumberSays, ElementSays, SetSays}

-- the part of a slice that is lent from n on
abbrev lent : ℕ → List ℕ → List ℕ
lent n l = take (length l - n) (drop n l)

-- where a condition does not hold, its end is not asked for
pub fails_of : {bytes words state : List ℕ} {at q : ℕ} → ConditionTo bytes words state at false q → FailsAt bytes words state at
fails_of t = record { used = t.used; is = t.is }

module _ (bytes words : List ℕ) (o : Outlined bytes words) (at : ℕ) (state : List ℕ) where
  abbrev here : Environment
  here = environment bytes state words

  described : Describes (model_of bytes).variables (model_of bytes).tables here
  described = outline_describes state o.outlines

  pub condition_promised : (r : ConditionValue) → r ≡ stopped (run_condition most_nesting here (lent at bytes))
      → ConditionSays bytes at state r × ConditionWithin (length bytes - at) r
  condition_promised r e =
      let f : r ≡ stopped (run_condition most_nesting here (drop at bytes)) = rw (suffix at bytes) at e in
      rw (f, ← length-drop at bytes)
      (λ x n h. ap stopped (run_condition_lem most_nesting here (drop at bytes) _ _ x n described h), stopped_within _ _ (condition_within most_nesting here (drop at bytes)))

  pub number_promised : (r : NumberValue) → r ≡ run_number most_nesting here (lent at bytes)
      → NumberSays bytes at state r × NumberWithin (length bytes - at) r
  number_promised r e =
      let f : r ≡ run_number most_nesting here (drop at bytes) = rw (suffix at bytes) at e in
      rw (f, ← length-drop at bytes) (λ x n h. run_number_lem most_nesting here (drop at bytes) _ _ x n described h, number_within most_nesting here (drop at bytes))

  -- 28 t e e, in place
  pub entry_promised : EntryForm bytes at → (z : ℤ) → z ≡ entry_at bytes at words state → mag z < range_end → NumberSays bytes at state (told z 6) × NumberWithin (length bytes - at) (told z 6)
  entry_promised f z e l = (λ x n h. rw e (entry_says bytes at words state f (rw e at l) x n o.outlines h), (l, omega (arith, f.inside)))

  -- 54 30 k 41 v, in place
  pub membership_promised : MemberForm bytes at → (b : Bool) → member_in bytes at state ≡ b
      → ConditionSays bytes at state (stopped (C.Holds b 5)) × ConditionWithin (length bytes - at) (stopped (C.Holds b 5))
  unfolding condition_answer
  membership_promised f b e =
      (λ x n h. let s = membership_says bytes at words state f x n o.outlines h in rw (s.0, s.1, e), stopped_within _ _ (omega (arith, f.inside)))

  -- ---- told along a cursor

  module _ (q : ℕ) where
    pub condition_told : ConditionTo bytes words state at true q → ConditionSays bytes at state (C.Holds true (q - at)) × ConditionWithin (length bytes - at) (C.Holds true (q - at))
    unfolding stopped
    condition_told holds =
        (λ x n h. ap stopped (condition_says bytes words state o.outlines at holds x n h), omega (arith, holds.ends, holds.is.there.inside))

    pub number_told : {z : ℤ} → NumberTo bytes words state at z q → NumberSays bytes at state (told z (q - at)) × NumberWithin (length bytes - at) (told z (q - at))
    number_told is = (λ x n h. number_says bytes words state o.outlines at is x n h, (is.is.fits, omega (arith, is.ends, is.is.there.inside)))

    -- of a number that is kept in a word, beside whatever else is promised
    pub kept_number_told : {z : ℤ} {R : Type 0} → SFits w64 z → NumberTo bytes words state at z q → R
        → NumberSays bytes at state (told (to_z w64 (of_z w64 z)) (q - at)) × NumberWithin (length bytes - at) (told (to_z w64 (of_z w64 z)) (q - at)) × R
    kept_number_told f is also = let t = number_told is in rw (back f) (t.0, t.1, also)

    pub set_told : {s : ℕ} → SetTo bytes words state at s q → (c : ℕ) → SetSays bytes at state (record { members = s; objects = c; used = q - at }) × (q - at ≤ length bytes - at)
    set_told is c = (λ x n h. set_says_lem bytes words state o.outlines at is x n h, omega (arith, is.ends, is.is.there.inside))

  pub failure_told : FailsAt bytes words state at → ConditionSays bytes at state (C.Holds false 0) × ConditionWithin (length bytes - at) (C.Holds false 0)
  unfolding stopped condition_answer
  failure_told fails = (λ x n h. rw (fails_says bytes words state o.outlines at fails x n h), omega arith)

  pub set_promised : (r : SetValue) → r ≡ run_set most_nesting state words (lent at bytes) → SetSays bytes at state r × (r.used ≤ length bytes - at)
  set_promised r e =
      let f : r ≡ run_set most_nesting state words (drop at bytes) = rw (suffix at bytes) at e in
      rw (f, ← length-drop at bytes) (λ x n h. set_is (run_set_lem most_nesting state words (drop at bytes) _ _ x n described.sets h), set_within most_nesting state words (drop at bytes))
    where
      set_is : {s t : SetValue} → s ≡ t → (s.members ≡ t.members) × (s.used ≡ t.used)
      set_is q = (ap (λ (i : SetValue). i.members) q, ap (λ (i : SetValue). i.used) q)

  pub element_promised : (r : ElementValue) → r ≡ run_element state (lent at bytes) → ElementSays bytes at state r × ((r.object < most_objects) × (r.used ≤ length bytes - at))
  element_promised r e =
      let f : r ≡ run_element state (drop at bytes) = rw (suffix at bytes) at e in
      rw (f, ← length-drop at bytes) (λ x n h. element_is (run_element_lem state (drop at bytes) _ _ most_nesting x n h), (element_small state (drop at bytes), element_within state (drop at bytes)))
    where
      element_is : {s t : ElementValue} → s ≡ t → (s.object ≡ t.object) × (s.used ≡ t.used)
      element_is q = (ap (λ (i : ElementValue). i.object) q, ap (λ (i : ElementValue). i.used) q)
