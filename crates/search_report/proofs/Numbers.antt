-- An answer in numbers, and an answer read back from its numbers and the plan buffer.
use Prim.Native.Nat.{ℕ, ◌≤◌}
use mathlib.Core.Path.{◌≡◌, refl, ◌∙◌, ap}
use mathlib.Core.Bool.{Bool, true, false, cond}
use mathlib.Core.List.{List, [], ◌∷◌}
use lib.ListN.{length, get_or}
use lib.Dec.{eqb}
use Rattle.model.specs.declared.Cost.{Cost}
use Rattle.search.specs.Answer as A
use Rattle.search.specs.Answer.{outcome_number, is_refusal, outcome_numbered, buffer_after, handed_back}
use Rattle.search.specs.Demands.{Ends}
use Rattle.search.specs.Run.{Settings, shown, fields}
use Rattle.search.proofs.Numbered.{outcome_back}
use Rattle.search.proofs.Mission.{plan_handed_back}
use Rattle.search_report.specs.Answers.{refusal_of, outcome_of, AnswerIs, FieldsAre, LineOf, in_line, numbers_of, answer_in}
use Rattle.search_report.specs.declared.answers.Answer.{Answer}
use Rattle.search_report.specs.declared.answers.Refusal.{Refusal}
use Rattle.search_report.specs.declared.answers.Refusal.TheVariants as R
use Rattle.search_report.specs.declared.answers.Fields.{Fields}

pub refusal_is : (r : Refusal) → is_refusal (refusal_of r) ≡ true
unfolding is_refusal refusal_of
refusal_is (R.ByState t) = refl
refusal_is (R.ByInput t) = refl

pub in_numbers : (d : A.Answer Cost) (a : Answer) → AnswerIs d a → FieldsAre d (numbers_of a)
in_numbers d a is =
    record {
      refused = ap (λ (o : A.Outcome). cond (is_refusal o) 1 0) is.outcome;
      verdict_is = ap outcome_number is.outcome;
      flag = ap (λ (b : Bool). cond b 1 0) is.flag;
      cost = ap (λ (c : Cost). c.high) is.cost;
      bound = ap (λ (c : Cost). c.high) is.bound;
      length_is = is.length_is;
      expansions = is.expansions;
      rounds = is.rounds;
      width = is.width;
      low = ap (λ (c : Cost). c.low) is.cost;
    }

pub numbers_told : (a : Answer) {v f : ℕ} → v ≡ outcome_number (outcome_of a.outcome) → f ≡ cond a.flag 1 0
    → (v ∷ f ∷ a.cost.high ∷ a.bound.high ∷ a.length ∷ a.tally.expansions ∷ a.tally.rounds ∷ a.tally.width ∷ a.cost.low ∷ []) ≡ in_line a
numbers_told a ev ef = rw (ev, ef)

pub struct_told : (a : Answer) {r v : ℕ} {n : List ℕ} → r ≡ cond (is_refusal (outcome_of a.outcome)) 1 0 → v ≡ outcome_number (outcome_of a.outcome) → n ≡ in_line a
    → ◌≡◌ {A = Fields} (record { refused = r; verdict = v; flag = get_or n 1 0; cost = get_or n 2 0; bound = get_or n 3 0; length = get_or n 4 0; expansions = get_or n 5 0; rounds = get_or n 6 0; width = get_or n 7 0; low = get_or n 8 0 }) (numbers_of a)
struct_told a er ev en = rw (er, ev, en)

-- the list is the definition's
pub line_told : (a : Answer) {n : List ℕ} → n ≡ in_line a → LineOf a n
unfolding fields
line_told a e = record { same = λ d is. e ∙ in_line_lem d is }
  where
    in_line_lem : (d : A.Answer Cost) → AnswerIs d a → in_line a ≡ fields d
    in_line_lem d is = rw (is.outcome, is.flag, is.cost, is.bound, is.length_is, is.expansions, is.rounds, is.width)

-- ---- read back

flag_back : (b : Bool) → eqb (cond b 1 0) 1 ≡ b
flag_back true = refl
flag_back false = refl

pub read_back : (d : A.Answer Cost) (x : Fields) (plan plan' : List ℕ) {q : Settings} → Ends q d.outcome → length d.steps ≤ length plan → FieldsAre d x → plan' ≡ buffer_after d plan → answer_in x plan' ≡ shown d
unfolding shown
read_back d x plan plan' ends room is after =
    let outcome : outcome_numbered x.refused x.verdict ≡ d.outcome = rw (is.refused, is.verdict_is) (outcome_back d.outcome ends) in
    let flag : eqb x.flag 1 ≡ d.flag = rw is.flag (flag_back d.flag) in
    let steps : handed_back x.length plan' ≡ d.steps = rw (is.length_is, after) (plan_handed_back d plan room) in
    rw (outcome, flag, is.cost, is.bound, steps, is.expansions, is.rounds, is.width, is.low)
