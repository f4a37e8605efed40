-- Bounds that answers keep: numbers in range, and no more bytes used than there are.
use Rattle.std.specs.Prelude.{ℕ, ◌+◌, ◌^◌, ◌≤◌, ◌<◌, IfOk}
use Rattle.std.specs.Int.Signed.{mag}
use Rattle.model.specs.Numbers.{range_end}
use Rattle.eval_sets.specs.declared.answers.ConditionValue.{ConditionValue}
use Rattle.eval_sets.specs.declared.answers.ConditionValue.TheVariants as C
use Rattle.eval_sets.specs.Answers.{NumberValue, PairValue}

abbrev pub NumberWithin : (bytes : ℕ) → NumberValue → Type 0
NumberWithin l v = IfOk v (λ x. (mag x.value < range_end) × (x.used ≤ l))

abbrev pub PairWithin : (bytes : ℕ) → PairValue → Type 0
PairWithin l v = IfOk v (λ x. (mag x.value.0 < range_end) × ((mag x.value.1 < range_end) × (x.used ≤ l)))

abbrev pub ConditionWithin : (bytes : ℕ) → ConditionValue → Type 0
ConditionWithin l (C.Holds b n) = n ≤ l
ConditionWithin l (C.Trouble t) = Unit {0}

-- k bytes more can be counted
abbrev pub NumberRoom : (k : ℕ) → NumberValue → Type 0
NumberRoom k v = IfOk v (λ x. k + x.used < 2 ^ 64)

abbrev pub ConditionRoom : (k : ℕ) → ConditionValue → Type 0
ConditionRoom k (C.Holds b n) = k + n < 2 ^ 64
ConditionRoom k (C.Trouble t) = Unit {0}

abbrev pub PairInRange : PairValue → Type 0
PairInRange v = IfOk v (λ x. (mag x.value.0 < range_end) × (mag x.value.1 < range_end))
