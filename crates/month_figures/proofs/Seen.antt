-- An answer in numbers is seen as a refusal or as a verdict with its number; so what each figure of one answer is.
use Prim.Native.Nat.{ℕ, zero, suc, ◌-◌, ◌/◌, ◌%◌, ◌≤◌}
use mathlib.Core.Path.{◌≡◌, refl, ◌∙◌}
use mathlib.Core.Bool.{Bool, true, false, cond, ◌&&◌, ◌||◌}
use native.Mathlib.Omega.{arith}
use lib.Dec.{eqb}
use borrow.Author.Tests.{eq-eqb, ne_eqb}
use Rattle.model.specs.declared.Cost.{Cost}
use Rattle.search.specs.Answer.{Outcome, verdict, by_state, by_input, outcome_number, is_refusal, Answer}
use Rattle.search_report.specs.Answers.{FieldsAre}
use Rattle.search_report.specs.declared.answers.Fields.{Fields}
use Rattle.month_figures.specs.Closing.{Taken, answered, unread, is_verdict, gives, is_refused, cost_of, bound_of, has_plan, is_open, count_in, refused_in, cheapest_in, gap_in, whole_of, remainder_of}
use Rattle.month_figures.specs.Kept.{TakenIs, Tells, TellsUpTo, TellsCost}

-- refused, with no verdict; or a verdict, whose number stands in the numbers
pub data Seen (x : Fields) : Taken → Type 0 where
  refusal : {d : Taken} → x.refused ≡ 1 → is_refused d ≡ true → ((v : ℕ) → gives v d ≡ false) → Seen x d
  a_verdict : {a : Answer Cost} → x.refused ≡ 0 → is_refusal a.outcome ≡ false → ((v : ℕ) → is_verdict v a.outcome ≡ eqb x.verdict v) → FieldsAre a x → Seen x (answered a)

pub seen : (x : Fields) (d : Taken) → TakenIs d x → Seen x d
unfolding gives is_refused is_verdict is_refusal outcome_number
seen x unread is = refusal (rw is) refl (λ v. refl)
seen x (answered a) is = pick a.outcome refl
  where
    pick : (o : Outcome) → a.outcome ≡ o → Seen x (answered a)
    pick (verdict w) e = a_verdict {a = a} (is.refused ∙ (rw e)) (rw e) (λ v. rw (is.verdict_is, e)) is
    pick (by_state t) e = refusal {d = answered a} (is.refused ∙ (rw e)) (rw e) (λ v. rw e)
    pick (by_input t) e = refusal {d = answered a} (is.refused ∙ (rw e)) (rw e) (λ v. rw e)

-- the numbers of two and more alternatives
stops_are : (n : ℕ) → 2 ≤ n → n ≤ 4 → (eqb n 2 || eqb n 3 || eqb n 4) ≡ true
stops_are zero h k = absurd (omega arith)
stops_are (suc zero) h k = absurd (omega arith)
stops_are (suc (suc zero)) h k = refl
stops_are (suc (suc (suc zero))) h k = refl
stops_are (suc (suc (suc (suc zero)))) h k = refl
stops_are (suc (suc (suc (suc (suc n))))) h k = absurd (omega arith)

stops_are_not : (n : ℕ) → (n ≡ 2 → ⊥) → (n ≡ 3 → ⊥) → (n ≡ 4 → ⊥) → (eqb n 2 || eqb n 3 || eqb n 4) ≡ false
stops_are_not n a b c = rw (ne_eqb n 2 a, ne_eqb n 3 b, ne_eqb n 4 c)

unless_both : (a b : Bool) (n : ℕ) → b ≡ false → 0 ≡ cond (a && b) n 0
unless_both true b n e = rw e
unless_both false b n e = refl

flag_set : (b : Bool) {n : ℕ} → n ≡ cond b 1 0 → (n ≡ 0 → ⊥) → b ≡ true
flag_set true e h = refl
flag_set false e h = absurd (h e)

flag_clear : (b : Bool) {n : ℕ} → n ≡ cond b 1 0 → n ≡ 0 → b ≡ false
flag_clear true e h = absurd (omega arith)
flag_clear false e h = refl

module _ (x : Fields) where
  tells : (f : Taken → ℕ) (figure : ℕ) → ((d : Taken) → Seen x d → figure ≡ f d) → Tells f x figure
  tells f figure h = record { same = λ d is. h d (seen x d is) }

  -- ---- counts

  module _ (v : ℕ) where
    pub not_counted : (x.refused ≡ 0 → x.verdict ≡ v → ⊥) → TellsUpTo 1 (count_in v) x 0
    unfolding count_in gives
    not_counted h = record { tells = tells (count_in v) 0 law; within = omega arith }
      where
        law : (d : Taken) → Seen x d → 0 ≡ count_in v d
        law d (refusal e i g) = rw (g v)
        law d (a_verdict e i g is) = rw (g v, ne_eqb x.verdict v (h e))

    pub counted : x.refused ≡ 0 → x.verdict ≡ v → TellsUpTo 1 (count_in v) x 1
    unfolding count_in gives
    counted r h = record { tells = tells (count_in v) 1 law; within = omega arith }
      where
        law : (d : Taken) → Seen x d → 1 ≡ count_in v d
        law d (refusal e i g) = absurd (omega arith)
        law d (a_verdict e i g is) = rw (g v, eq-eqb x.verdict v h)

  pub refusal_counted : (x.refused ≡ 0 → ⊥) → TellsUpTo 1 refused_in x 1
  unfolding refused_in
  refusal_counted r = record { tells = tells refused_in 1 law; within = omega arith }
    where
      law : (d : Taken) → Seen x d → 1 ≡ refused_in d
      law d (refusal e i g) = rw i
      law d (a_verdict e i g is) = absurd (r e)

  pub refusal_not_counted : x.refused ≡ 0 → TellsUpTo 1 refused_in x 0
  unfolding refused_in is_refused
  refusal_not_counted r = record { tells = tells refused_in 0 law; within = omega arith }
    where
      law : (d : Taken) → Seen x d → 0 ≡ refused_in d
      law d (refusal e i g) = absurd (omega arith)
      law d (a_verdict e i g is) = rw i

  -- ---- the cost at verdict 0

  pub cost_of_cheapest : x.refused ≡ 0 → x.verdict ≡ 0 → TellsCost x x.cost
  unfolding cheapest_in gives cost_of
  cost_of_cheapest r h = record { tells = tells cheapest_in x.cost law; within = λ most w. w r h }
    where
      law : (d : Taken) → Seen x d → x.cost ≡ cheapest_in d
      law d (refusal e i g) = absurd (omega arith)
      law d (a_verdict e i g is) = rw (g 0, eq-eqb x.verdict 0 h, is.cost)

  pub no_cost_of_other : (x.refused ≡ 0 → x.verdict ≡ 0 → ⊥) → TellsCost x 0
  unfolding cheapest_in gives
  no_cost_of_other h = record { tells = tells cheapest_in 0 law; within = λ most w. omega arith }
    where
      law : (d : Taken) → Seen x d → 0 ≡ cheapest_in d
      law d (refusal e i g) = rw (g 0)
      law d (a_verdict e i g is) = rw (g 0, ne_eqb x.verdict 0 (h e))

  -- ---- the gap of a stopped run that has a plan

  pub no_gap_of_other : (x.refused ≡ 0 → (x.flag ≡ 0 → ⊥) → 2 ≤ x.verdict → x.verdict ≤ 4 → ⊥) → Tells gap_in x 0
  unfolding gap_in is_open gives has_plan
  no_gap_of_other h = tells gap_in 0 law
    where
      law : (d : Taken) → Seen x d → 0 ≡ gap_in d
      law d (refusal e i g) = rw (g 2, g 3, g 4)
      law (answered a) (a_verdict e i g is) = pick a.flag refl
        where
          pick : (b : Bool) → a.flag ≡ b → 0 ≡ gap_in (answered a)
          pick false f = unless_both (gives 2 (answered a) || gives 3 (answered a) || gives 4 (answered a)) a.flag _ f
          pick true f =
              let some : x.flag ≡ 1 = is.flag ∙ rw f in
              let out : 2 ≤ x.verdict → x.verdict ≤ 4 → ⊥ = h e (λ z. omega arith) in
              rw (g 2, g 3, g 4, stops_are_not x.verdict (λ n. out (omega arith) (omega arith)) (λ n. out (omega arith) (omega arith)) (λ n. out (omega arith) (omega arith)))

  pub gap_of_stopped : x.refused ≡ 0 → (x.flag ≡ 0 → ⊥) → 2 ≤ x.verdict → x.verdict ≤ 4 → Tells gap_in x (x.cost - x.bound)
  unfolding gap_in is_open gives has_plan cost_of bound_of
  gap_of_stopped r f h k = tells gap_in (x.cost - x.bound) law
    where
      law : (d : Taken) → Seen x d → x.cost - x.bound ≡ gap_in d
      law d (refusal e i g) = absurd (omega arith)
      law (answered a) (a_verdict e i g is) = rw (g 2, g 3, g 4, stops_are x.verdict h k, flag_set a.flag is.flag f, is.cost, is.bound)

-- ---- the mean

pub whole_none : (sum count : ℕ) → count ≡ 0 → 0 ≡ whole_of sum count
unfolding whole_of
whole_none sum count e = rw (eq-eqb count 0 e)

pub whole_some : (sum count : ℕ) → (count ≡ 0 → ⊥) → sum / count ≡ whole_of sum count
unfolding whole_of
whole_some sum count e = rw (ne_eqb count 0 e)

pub remainder_none : (sum count : ℕ) → count ≡ 0 → 0 ≡ remainder_of sum count
unfolding remainder_of
remainder_none sum count e = rw (eq-eqb count 0 e)

pub remainder_some : (sum count : ℕ) → (count ≡ 0 → ⊥) → sum % count ≡ remainder_of sum count
unfolding remainder_of
remainder_some sum count e = rw (ne_eqb count 0 e)
