-- The closing line of a month: twelve figures of the list of answers, refused ones included, each in a line; and lists that differ in order alone.
-- docs/FORMAT.md, "Month".
use Rattle.std.specs.Prelude.{ℕ, ◌+◌, ◌-◌, ◌/◌, ◌%◌, max, Bool, true, false, cond, ◌&&◌, ◌||◌, List, [], ◌∷◌, length, eqb}
use Rattle.model.specs.declared.Cost.{Cost}
use Rattle.search.specs.Answer.{Outcome, verdict, by_state, by_input, verdict_number, is_refusal, Answer}

-- what a name comes to: the answer to the model in its file; or no file is read by it, "refused 0"
pub data Taken : Type 0 where
  answered : Answer Cost → Taken
  unread : Taken

-- ---- of one answer

-- the outcome is verdict v: no refusal is, whatever its number
unfoldable pub is_verdict : (v : ℕ) → Outcome → Bool
is_verdict v (verdict w) = eqb (verdict_number w) v
is_verdict v (by_state t) = false
is_verdict v (by_input t) = false

unfoldable pub gives : (v : ℕ) → Taken → Bool
gives v (answered a) = is_verdict v a.outcome
gives v unread = false

-- "count refused": by the input, by the state, or unread
unfoldable pub is_refused : Taken → Bool
is_refused (answered a) = is_refusal a.outcome
is_refused unread = true

-- cost and bound in hours, at high figures
unfoldable pub cost_of : Taken → ℕ
cost_of (answered a) = a.cost.high
cost_of unread = 0

unfoldable pub bound_of : Taken → ℕ
bound_of (answered a) = a.bound.high
bound_of unread = 0

unfoldable pub has_plan : Taken → Bool
has_plan (answered a) = a.flag
has_plan unread = false

-- "stopped runs (verdicts 2 to 4) that have a plan"
unfoldable pub is_open : Taken → Bool
is_open x = (gives 2 x || gives 3 x || gives 4 x) && has_plan x

unfoldable pub count_in : (v : ℕ) → Taken → ℕ
count_in v x = cond (gives v x) 1 0

unfoldable pub refused_in : Taken → ℕ
refused_in x = cond (is_refused x) 1 0

unfoldable pub cheapest_in : Taken → ℕ
cheapest_in x = cond (gives 0 x) (cost_of x) 0

-- "gap between cost and bound", by subtraction of natural numbers: 0 where the bound is no less
unfoldable pub gap_in : Taken → ℕ
gap_in x = cond (is_open x) (cost_of x - bound_of x) 0

-- ---- of a list

-- f of every one, put together by an operation, from 0
unfoldable pub gather : (op : ℕ → ℕ → ℕ) (f : Taken → ℕ) → List Taken → ℕ
gather op f [] = 0
gather op f (x ∷ xs) = op (f x) (gather op f xs)

-- "names taken"
abbrev pub names_taken : List Taken → ℕ
names_taken l = length l

-- "count of each verdict 0 to 5"
abbrev pub verdicts : (v : ℕ) → List Taken → ℕ
verdicts v l = gather ◌+◌ (count_in v) l

-- "count refused"
abbrev pub refusals : List Taken → ℕ
refusals l = gather ◌+◌ refused_in l

-- "sum of the costs of verdict 0"
abbrev pub costs : List Taken → ℕ
costs l = gather ◌+◌ cheapest_in l

-- "their mean as whole part and remainder", "0 where there are no such runs"
unfoldable pub whole_of : (sum count : ℕ) → ℕ
whole_of sum count = cond (eqb count 0) 0 (sum / count)

unfoldable pub remainder_of : (sum count : ℕ) → ℕ
remainder_of sum count = cond (eqb count 0) 0 (sum % count)

-- "the largest gap between cost and bound among stopped runs … that have a plan", "0 where there are no such runs"
abbrev pub largest_gap : List Taken → ℕ
largest_gap l = gather max gap_in l

-- the closing line
unfoldable pub closing : List Taken → List ℕ
closing l =
    names_taken l ∷ verdicts 0 l ∷ verdicts 1 l ∷ verdicts 2 l ∷ verdicts 3 l ∷ verdicts 4 l ∷ verdicts 5 l ∷ refusals l
    ∷ costs l ∷ whole_of (costs l) (verdicts 0 l) ∷ remainder_of (costs l) (verdicts 0 l) ∷ largest_gap l ∷ []

-- "reordering that list": the same answers in another order
pub data Reordered : List Taken → List Taken → Type 0 where
  none : Reordered [] []
  keep : (x : Taken) {l l' : List Taken} → Reordered l l' → Reordered (x ∷ l) (x ∷ l')
  swap : (x y : Taken) (l : List Taken) → Reordered (x ∷ y ∷ l) (y ∷ x ∷ l)
  further : {l l' l'' : List Taken} → Reordered l l' → Reordered l' l'' → Reordered l l''
