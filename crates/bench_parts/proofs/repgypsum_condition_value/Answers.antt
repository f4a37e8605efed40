-- `bench_parts::repgypsum_condition_value` meets its contract.
use Prim.Native.Nat.{ℕ}
use mathlib.Core.Path.{◌≡◌, refl, ◌∙◌, ap}
use mathlib.Core.Bool.{true, false}
use Rattle.eval_sets.specs.declared.answers.ConditionValue.{ConditionValue}
use Rattle.eval_sets.specs.declared.answers.ConditionValue.TheVariants as C
use Rattle.eval_tests.specs.Stopped.{stopped}
use Rattle.bench_parts.specs.Timed.{condition_code}
use Rattle.bench_parts.proofs.repgypsum_condition_value.Goals as goal

code-stopped : (v : ConditionValue) → condition_code (stopped v) ≡ condition_code v
unfolding stopped
code-stopped (C.Holds true n) = refl
code-stopped (C.Holds false n) = refl
code-stopped (C.Trouble t) = refl

code_is : (v : ConditionValue) {r : ConditionValue} {k : ℕ} → r ≡ stopped v → k ≡ condition_code r → k ≡ condition_code v
code_is v e q = q ∙ ap condition_code e ∙ code-stopped v

pub returns-then-b : goal.returns-then-b
returns-then-b c =
    code_is _ c.test.ensures.run (rw (c.in-Holds.is, c.if-b.true))

pub returns-else-b : goal.returns-else-b
returns-else-b c =
    code_is _ c.test.ensures.run (rw (c.in-Holds.is, c.if-b.false))

pub returns-in-Trouble : goal.returns-in-Trouble
returns-in-Trouble c =
    code_is _ c.test.ensures.run (rw c.in-Trouble.is)
