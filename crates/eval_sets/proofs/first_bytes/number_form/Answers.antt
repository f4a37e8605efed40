-- `eval_sets::first_bytes::number_form` meets its contract.
use mathlib.Core.Path.{refl, sym, ap}
use native.Mathlib.Omega.{arith}
use Rattle.words.proofs.Bytes.{tab, unnamed}
use Rattle.eval_sets.specs.Forms.{number_form}
use Rattle.eval_sets.specs.declared.first_bytes.NumberForm.TheVariants.{Other}
use Rattle.eval_sets.proofs.first_bytes.number_form.Goals as goal

pub returns-in-32 : goal.returns-in-32
unfolding number_form
returns-in-32 c =
    sym (ap number_form c.in-32.is)

pub returns-in-33 : goal.returns-in-33
unfolding number_form
returns-in-33 c =
    sym (ap number_form c.in-33.is)

pub returns-in-34 : goal.returns-in-34
unfolding number_form
returns-in-34 c =
    sym (ap number_form c.in-34.is)

pub returns-in-35 : goal.returns-in-35
unfolding number_form
returns-in-35 c =
    sym (ap number_form c.in-35.is)

pub returns-in-36 : goal.returns-in-36
unfolding number_form
returns-in-36 c =
    sym (ap number_form c.in-36.is)

pub returns-in-37 : goal.returns-in-37
unfolding number_form
returns-in-37 c =
    sym (ap number_form c.in-37.is)

pub returns-in-38 : goal.returns-in-38
unfolding number_form
returns-in-38 c =
    sym (ap number_form c.in-38.is)

pub returns-in-39 : goal.returns-in-39
unfolding number_form
returns-in-39 c =
    sym (ap number_form c.in-39.is)

pub returns-in-40 : goal.returns-in-40
unfolding number_form
returns-in-40 c =
    sym (ap number_form c.in-40.is)

pub returns-in-41 : goal.returns-in-41
unfolding number_form
returns-in-41 c =
    sym (ap number_form c.in-41.is)

pub returns-in-42 : goal.returns-in-42
unfolding number_form
returns-in-42 c =
    sym (ap number_form c.in-42.is)

pub returns-in-43 : goal.returns-in-43
unfolding number_form
returns-in-43 c =
    sym (ap number_form c.in-43.is)

pub returns-in_default : goal.returns-in_default
unfolding number_form
returns-in_default c =
    unnamed (tab (λ b. b) 0x20 12) (λ b. Other) number_form refl c.args.b (omega (arith, c.ranges.b)) c.in_default.in_default-own.rest
