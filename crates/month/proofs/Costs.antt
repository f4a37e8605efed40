-- A plan costs at most the range's end for each step; so no plan of a run with a length limit costs more than that many times the limit, and the cost
-- of an answer marked cheapest fits a month's sum.
use Prim.Native.Nat.{ℕ, ◌-◌, ◌*◌, ◌^◌, ◌≤◌, ◌<◌}
use mathlib.Core.Path.{◌≡◌, refl, sym, ◌∙◌, subst}
use mathlib.Core.Bool.{true, false≢true}
use mathlib.Core.List.{List}
use native.Mathlib.Omega.{arith}
use native.Mathlib.Nat.{suc-mul, mul-le-mul}
use lib.ListN.{length}
use lib.Dec.{eqb}
use borrow.Author.Tests.{eqb-true}
use Rattle.laws.proofs.Bools.{by_cond}
use Rattle.model.specs.Numbers.{range_end}
use Rattle.model.specs.Plans.{Plan, finish, step}
use Rattle.model.specs.Syntax.{Model}
use Rattle.model.specs.Meaning.{State}
use Rattle.model.specs.declared.Cost.{Cost}
use Rattle.model.specs.Costs.{costs_of, CostUpTo}
use Rattle.model.specs.Steps.{system_of}
use Rattle.model.proofs.Costs.{combine_up_to}
use Rattle.model.proofs.Ranges.{up_to_less, below_up_to, step_cost_below}
use Rattle.search.specs.Answer.{Verdict, cheapest, no_plan, width_stop, length_stop, budget_spent, contradicted, Outcome, verdict, by_state, by_input, verdict_number, outcome_number, is_refusal, Answer}
use Rattle.search.specs.Demands.{Demands}
use Rattle.search.specs.Run.{plain, Settings, Lent, refused_by_input, run, shown}
use Rattle.search.proofs.Source.{Source, input_refused, searched, run_source}
use Rattle.search.proofs.Mission.{run_meets_demands}
use Rattle.search_report.specs.Answers.{FieldsAre}
use Rattle.search_report.specs.declared.answers.Fields.{Fields}
use Rattle.month_figures.specs.Closing.{is_verdict, gives, cheapest_in, cost_of, answered}
use Rattle.month_figures.specs.Kept.{CheapestWithin}
use Rattle.month.specs.Month.{answer_to}

-- by either rule, each step adds at most end - 1 to each part
pub plan_cost_below : (end : ℕ) (m : Model) {s : State} {p : List ℕ} {c : Cost} → Plan (costs_of m.rule) (system_of end m) s p c → CostUpTo (length p * (end - 1)) c
unfolding costs_of
plan_cost_below end m (finish e) = record { high_within = omega arith; low_within = omega arith; moves_within = omega arith }
plan_cost_below end m (step {s} {u} {t} {ts} {c} {r} x rest) =
    up_to_less (combine_up_to m.rule (below_up_to (step_cost_below end m s t x.allowed)) (plan_cost_below end m rest)) (omega (arith, suc-mul (length ts) (end - 1)))

-- with a length limit that is given
source_cost_within : {bytes : List ℕ} {q : Settings} {l : Lent} {a : Answer Cost} (limit : ℕ) → q.form ≡ plain limit → Source bytes q l a → Demands bytes q (shown a) → a.flag ≡ true → a.cost.high ≤ limit * (range_end - 1)
unfolding refused_by_input shown
source_cost_within limit f (input_refused t r) D e = absurd (false≢true e)
source_cost_within {a = a} limit f (searched m x) D e =
    let given = (D.marked m x.used x.reads).plan_given e in
    let below = plan_cost_below range_end m given.plan in
    let steps : length a.steps * (range_end - 1) ≤ limit * (range_end - 1) = mul-le-mul (D.within_given limit f) (omega arith) in
    omega (arith, below.high_within)

-- "a run's cost": of every run with a plan, whatever its verdict
pub run_cost_within : (most : ℕ) (bytes : List ℕ) (q : Settings) (l : Lent) (limit : ℕ) → q.form ≡ plain limit → (run most bytes q l).flag ≡ true → (run most bytes q l).cost.high ≤ limit * (range_end - 1)
run_cost_within most bytes q l limit f e = source_cost_within limit f (run_source bytes q l most) (run_meets_demands most bytes q l) e

-- the most that a plan can cost at the programs' settings
abbrev pub most_cost : ℕ
most_cost = 64 * (range_end - 1)

pub most_cost_small : most_cost < 2 ^ 53
most_cost_small = omega arith

number_zero : (v : Verdict) → verdict_number v ≡ 0 → v ≡ cheapest
unfolding verdict_number
number_zero cheapest e = refl
number_zero no_plan e = absurd (omega arith)
number_zero width_stop e = absurd (omega arith)
number_zero length_stop e = absurd (omega arith)
number_zero budget_spent e = absurd (omega arith)
number_zero contradicted e = absurd (omega arith)

-- an answer marked cheapest has a plan
source_cheapest_within : {bytes : List ℕ} {q : Settings} {l : Lent} {a : Answer Cost} (limit : ℕ) → q.form ≡ plain limit → Source bytes q l a → Demands bytes q (shown a) → a.outcome ≡ verdict cheapest → a.cost.high ≤ limit * (range_end - 1)
unfolding refused_by_input shown
source_cheapest_within limit f (input_refused t r) D e = let z : ◌≡◌ {A = ℕ} 0 1 = cc in absurd (omega arith)
source_cheapest_within limit f (searched m x) D e = source_cost_within limit f (searched m x) D ((D.marked m x.used x.reads).cheapest_given e)

pub cheapest_within : (bytes : List ℕ) → (answer_to bytes).outcome ≡ verdict cheapest → (answer_to bytes).cost.high ≤ most_cost
cheapest_within bytes e = source_cheapest_within 64 refl (run_source bytes _ _ 16384) (run_meets_demands 16384 bytes _ _) e

-- in the list of answers, and in the numbers
pub answer_within : (bytes : List ℕ) → cheapest_in (answered (answer_to bytes)) ≤ most_cost
unfolding cheapest_in gives cost_of is_verdict
answer_within bytes = pick (answer_to bytes).outcome refl
  where
    pick : (o : Outcome) → (answer_to bytes).outcome ≡ o → cheapest_in (answered (answer_to bytes)) ≤ most_cost
    pick (verdict v) e =
        rw e
        (by_cond (λ (n : ℕ). n ≤ most_cost) (eqb (verdict_number v) 0)
        (λ z. cheapest_within bytes (subst (λ w. (answer_to bytes).outcome ≡ verdict w) (number_zero v (eqb-true (verdict_number v) 0 z)) e))
        (λ _. omega arith))
    pick (by_state t) e = rw e (omega arith)
    pick (by_input t) e = rw e (omega arith)

pub numbers_within : (bytes : List ℕ) (x : Fields) → FieldsAre (answer_to bytes) x → CheapestWithin most_cost x
unfolding is_refusal outcome_number
numbers_within bytes x is r z = subst (λ n. n ≤ most_cost) (sym is.cost) (cheapest_within bytes (pick (answer_to bytes).outcome refl))
  where
    pick : (o : Outcome) → (answer_to bytes).outcome ≡ o → (answer_to bytes).outcome ≡ verdict cheapest
    pick (verdict v) e = subst (λ w. (answer_to bytes).outcome ≡ verdict w) (number_zero v (sym (is.verdict_is ∙ (rw e)) ∙ z)) e
    pick (by_state t) e = let one : x.refused ≡ 1 = is.refused ∙ (rw e) in absurd (omega arith)
    pick (by_input t) e = let one : x.refused ≡ 1 = is.refused ∙ (rw e) in absurd (omega arith)
