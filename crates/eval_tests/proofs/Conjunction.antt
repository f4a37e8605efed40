-- A conjunction's stopped answer by those of its parts, at a position in the bytes, and the room for their bytes.
use Prim.Native.Nat.{ℕ, ◌+◌, ◌-◌, ◌^◌, ◌≤◌, ◌<◌}
use mathlib.Core.Path.{◌≡◌, refl, sym, ap, ◌∙◌}
use mathlib.Core.Bool.{Bool, true, false}
use mathlib.Core.List.{List}
use native.Mathlib.Omega.{arith}
use lib.ListN.{length, get_or, drop, length-drop}
use Rattle.eval_sets.specs.declared.answers.ConditionValue.{ConditionValue}
use Rattle.eval_sets.specs.declared.answers.ConditionValue.TheVariants as C
use Rattle.eval_sets.specs.declared.troubles.Trouble.{Trouble}
use Rattle.eval_sets.specs.declared.troubles.Trouble.TheVariants.{Nothing}
use Rattle.eval_sets.specs.Answers.{past_condition}
use Rattle.eval_sets.specs.Bounds.{ConditionRoom}
use Rattle.eval_sets.specs.Forms.{condition_form}
use Rattle.eval_sets.specs.Runs.{Environment, run_number, run_condition, condition_at, condition_behind, run_connective, connective_first, decided, agree, skip_at}
use Rattle.eval_sets.proofs.Within.{number_within, condition_within, connective_within}
use Rattle.eval_sets.proofs.Opening.{condition_opens}
use Rattle.eval_sets.proofs.Slices.{behind}
use Rattle.eval_tests.specs.Stopped.{stopped}
use Rattle.eval_tests.proofs.Stopping.{stopped_past, stopped_within, stopped_room}

-- ---- a condition, by depth and first byte

module _ (p : Environment) (d at : ℕ) (e : List ℕ) where
  pub no_depth_lem : d ≡ 0 → C.Trouble Nothing ≡ stopped (run_condition d p (drop at e))
  unfolding stopped
  no_depth_lem h = rw ((condition_opens p).no_depth_lem d at e h)

  pub no_byte : length e ≤ at → C.Trouble Nothing ≡ stopped (run_condition d p (drop at e))
  unfolding stopped
  no_byte h = rw ((condition_opens p).no_byte d at e h)

  pub conjunction_tested : (d ≡ 0 → ⊥) → at < length e → get_or e at 0 ≡ 0x58
      → stopped (past_condition 1 (stopped (run_connective false (λ f. run_condition (d - 1) p f) (drop (at + 1) e)))) ≡ stopped (run_condition d p (drop at e))
  unfolding condition_at condition_behind condition_form
  conjunction_tested h l q = stopped_past 1 _ ∙ ap stopped (sym ((condition_opens p).opened d at e h l q))

  -- the first byte can be counted too
  pub conjunction_room : length e < 2 ^ 63 → ConditionRoom 1 (stopped (run_connective false (λ f. run_condition d p f) (drop (at + 1) e)))
  conjunction_room h =
      let f = drop (at + 1) e in
      stopped_room 1 (length f) (run_connective false (λ f. run_condition d p f) f)
      (connective_within (λ f. run_number d p f) (λ f. run_condition d p f) (λ f. number_within d p f) (λ f. condition_within d p f) false f)
      (omega (arith, length-drop (at + 1) e))

-- ---- 58 behind its byte

-- by the stopped answers of the first part and of a second behind n bytes
unfoldable both_of : ConditionValue → (ℕ → ConditionValue) → ConditionValue
both_of (C.Holds true n) next = stopped (past_condition n (next n))
both_of (C.Holds false n) next = C.Holds false 0
both_of (C.Trouble t) next = C.Trouble t

both_is : (rc : List ℕ → ConditionValue) (e : List ℕ) → stopped (run_connective false rc e) ≡ both_of (stopped (rc e)) (λ n. stopped (rc (drop n e)))
unfolding run_connective connective_first decided agree stopped both_of
both_is rc e = by_first (rc e)
  where
    by_first : (v : ConditionValue) → stopped (connective_first false v (λ n. rc (drop n e)) (skip_at e)) ≡ both_of (stopped v) (λ n. stopped (rc (drop n e)))
    by_first (C.Holds true n) = sym (stopped_past n (rc (drop n e)))
    by_first (C.Holds false n) = refl
    by_first (C.Trouble t) = refl

-- r is the first part's answer
module _ (p : Environment) (d at : ℕ) (e : List ℕ) {r : ConditionValue} (first : r ≡ stopped (run_condition d p (drop at e))) where
  abbrev whole : ConditionValue
  whole = stopped (run_connective false (λ f. run_condition d p f) (drop at e))

  whole_is : whole ≡ both_of r (λ n. stopped (run_condition d p (drop n (drop at e))))
  whole_is = rw first (both_is (λ f. run_condition d p f) (drop at e))

  pub first_used : {b : Bool} {n : ℕ} → r ≡ C.Holds b n → n ≤ length e - at
  first_used h =
      let w = rw (← first, h) at (stopped_within (length (drop at e)) (run_condition d p (drop at e)) (condition_within d p (drop at e))) in
      omega (arith, w, length-drop at e)

  pub second_tested : {b : Bool} {n : ℕ} → r ≡ C.Holds b n → b ≡ true → stopped (past_condition n (stopped (run_condition d p (drop (at + n) e)))) ≡ whole
  unfolding both_of
  second_tested {n = n} h y = rw (whole_is, h, y, behind at n e)

  pub second_room : {b : Bool} {n : ℕ} → r ≡ C.Holds b n → length e < 2 ^ 63 → ConditionRoom n (stopped (run_condition d p (drop (at + n) e)))
  second_room {n = n} h l =
      let f = drop (at + n) e in
      stopped_room n (length f) (run_condition d p f) (condition_within d p f) (omega (arith, first_used h, length-drop (at + n) e))

  pub first_fails : {b : Bool} {n : ℕ} → r ≡ C.Holds b n → b ≡ false → C.Holds false 0 ≡ whole
  unfolding both_of
  first_fails h y = rw (whole_is, h, y)

  pub first_troubles : {t : Trouble} → r ≡ C.Trouble t → C.Trouble t ≡ whole
  unfolding both_of
  first_troubles h = rw (whole_is, h)
