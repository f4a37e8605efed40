-- `eval_sets::first_bytes::condition_form` meets its contract.
use mathlib.Core.Path.{refl, sym, ap}
use native.Mathlib.Omega.{arith}
use Rattle.words.proofs.Bytes.{tab, unnamed}
use Rattle.eval_sets.specs.Forms.{condition_form}
use Rattle.eval_sets.specs.declared.first_bytes.ConditionForm.TheVariants.{Other}
use Rattle.eval_sets.proofs.first_bytes.condition_form.Goals as goal

pub returns-in-80 : goal.returns-in-80
unfolding condition_form
returns-in-80 c =
    sym (ap condition_form c.in-80.is)

pub returns-in-81 : goal.returns-in-81
unfolding condition_form
returns-in-81 c =
    sym (ap condition_form c.in-81.is)

pub returns-in-82 : goal.returns-in-82
unfolding condition_form
returns-in-82 c =
    sym (ap condition_form c.in-82.is)

pub returns-in-83 : goal.returns-in-83
unfolding condition_form
returns-in-83 c =
    sym (ap condition_form c.in-83.is)

pub returns-in-84 : goal.returns-in-84
unfolding condition_form
returns-in-84 c =
    sym (ap condition_form c.in-84.is)

pub returns-in-85 : goal.returns-in-85
unfolding condition_form
returns-in-85 c =
    sym (ap condition_form c.in-85.is)

pub returns-in-86 : goal.returns-in-86
unfolding condition_form
returns-in-86 c =
    sym (ap condition_form c.in-86.is)

pub returns-in-87 : goal.returns-in-87
unfolding condition_form
returns-in-87 c =
    sym (ap condition_form c.in-87.is)

pub returns-in-88 : goal.returns-in-88
unfolding condition_form
returns-in-88 c =
    sym (ap condition_form c.in-88.is)

pub returns-in-89 : goal.returns-in-89
unfolding condition_form
returns-in-89 c =
    sym (ap condition_form c.in-89.is)

pub returns-in_default : goal.returns-in_default
unfolding condition_form
returns-in_default c =
    unnamed (tab (λ b. b) 0x50 10) (λ b. Other) condition_form refl c.args.b (omega (arith, c.ranges.b)) c.in_default.in_default-own.rest
