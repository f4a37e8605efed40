-- Expressions by their place: the value, and how many bytes they take. What is told of one along a cursor, sound or silent: what is answered is the
-- value, with the cursor behind the expression; no answer tells nothing.
use Rattle.std.specs.Prelude.{ℕ, ◌+◌, ◌≤◌, ◌<◌, ◌≡◌, Bool, true, false, cond, List, drop, ℤ, Option, IfSome}
use Rattle.std.specs.Bool.{MatchBool}
use Rattle.std.specs.Int.Signed.{mag}
use Rattle.model.specs.Numbers.{range_end}
use Rattle.eval_sets.specs.declared.answers.ConditionValue.TheVariants as C
use Rattle.eval_sets.specs.Answers.{told, set_answer}
use Rattle.eval_sets.specs.Forms.{span}
use Rattle.eval_sets.specs.Runs.{Environment, environment, run_number, run_condition, run_set}
use Rattle.cursor.specs.Places.{Stands}

module _ (bytes words state : List ℕ) where
  abbrev pub here : Environment
  here = environment bytes state words

  -- ---- the expression at p takes n bytes; the evaluators find its value with as much depth as it has bytes, and with more

  pub record NumberIs (p : ℕ) (z : ℤ) (n : ℕ) : Type 0 where
    pub there : Stands bytes p n
    pub fits : mag z < range_end
    pub runs : (d : ℕ) → n ≤ d → run_number d here (drop p bytes) ≡ told z n

  pub record ConditionIs (p : ℕ) (holds : Bool) (n : ℕ) : Type 0 where
    pub there : Stands bytes p n
    pub runs : (d : ℕ) → n ≤ d → run_condition d here (drop p bytes) ≡ C.Holds holds n

  pub record SetIs (p s n : ℕ) : Type 0 where
    pub there : Stands bytes p n
    pub objects : ℕ
    pub runs : (d : ℕ) → n ≤ d → run_set d state words (drop p bytes) ≡ set_answer s objects n

  -- ---- the expression from p to q

  pub record NumberTo (p : ℕ) (z : ℤ) (q : ℕ) : Type 0 where
    pub used : ℕ
    pub ends : q ≡ p + used
    pub is : NumberIs p z used

  pub record ConditionTo (p : ℕ) (holds : Bool) (q : ℕ) : Type 0 where
    pub used : ℕ
    pub ends : q ≡ p + used
    pub is : ConditionIs p holds used

  pub record SetTo (p s q : ℕ) : Type 0 where
    pub used : ℕ
    pub ends : q ≡ p + used
    pub is : SetIs p s used

  pub record FailsAt (p : ℕ) : Type 0 where
    pub used : ℕ
    pub is : ConditionIs p false used

  -- ---- what is told: p is where the cursor was, q where it is

  abbrev pub NumberTold : (p : ℕ) (r : Option ℤ) (q : ℕ) → Type 0
  NumberTold p r q = IfSome r (λ z. NumberTo p z q)

  -- a set is told where the cursor has moved
  abbrev pub SetTold : (p s q : ℕ) → Type 0
  SetTold p s q = (q ≡ p → ⊥) → SetTo p s q

  abbrev pub ConditionTold : (p : ℕ) (r : Option Bool) (q : ℕ) → Type 0
  ConditionTold p r q = IfSome r (λ b. ConditionTo p b q)

  -- where it fails the cursor tells nothing
  abbrev pub TestTold : (p : ℕ) (r : Option Bool) (q : ℕ) → Type 0
  TestTold p r q = IfSome r (λ b. MatchBool b (ConditionTo p true q) (FailsAt p))

  -- two numbers from p to q, of which the first is asked for where c, else the second
  pub record Chosen (p : ℕ) (c : Bool) (z : ℤ) (q : ℕ) : Type 0 where
    pub first : ℤ
    pub second : ℤ
    pub between : ℕ
    pub first_is : NumberTo p first between
    pub second_is : NumberTo between second q
    pub first_skipped : between ≡ p + span (drop p bytes) 0 1
    pub second_skipped : q ≡ between + span (drop between bytes) 0 1
    pub chosen : z ≡ cond c first second

  abbrev pub ChosenTold : (p : ℕ) (c : Bool) (r : Option ℤ) (q : ℕ) → Type 0
  ChosenTold p c r q = IfSome r (λ z. Chosen p c z q)
