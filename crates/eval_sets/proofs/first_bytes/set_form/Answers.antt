-- `eval_sets::first_bytes::set_form` meets its contract.
use mathlib.Core.Path.{refl, sym, ap}
use native.Mathlib.Omega.{arith}
use Rattle.words.proofs.Bytes.{tab, unnamed}
use Rattle.eval_sets.specs.Forms.{set_form}
use Rattle.eval_sets.specs.declared.first_bytes.SetForm.TheVariants.{Other}
use Rattle.eval_sets.proofs.first_bytes.set_form.Goals as goal

pub returns-in-64 : goal.returns-in-64
unfolding set_form
returns-in-64 c =
    sym (ap set_form c.in-64.is)

pub returns-in-65 : goal.returns-in-65
unfolding set_form
returns-in-65 c =
    sym (ap set_form c.in-65.is)

pub returns-in-66 : goal.returns-in-66
unfolding set_form
returns-in-66 c =
    sym (ap set_form c.in-66.is)

pub returns-in-67 : goal.returns-in-67
unfolding set_form
returns-in-67 c =
    sym (ap set_form c.in-67.is)

pub returns-in-68 : goal.returns-in-68
unfolding set_form
returns-in-68 c =
    sym (ap set_form c.in-68.is)

pub returns-in-69 : goal.returns-in-69
unfolding set_form
returns-in-69 c =
    sym (ap set_form c.in-69.is)

pub returns-in-70 : goal.returns-in-70
unfolding set_form
returns-in-70 c =
    sym (ap set_form c.in-70.is)

pub returns-in-71 : goal.returns-in-71
unfolding set_form
returns-in-71 c =
    sym (ap set_form c.in-71.is)

pub returns-in_default : goal.returns-in_default
unfolding set_form
returns-in_default c =
    unnamed (tab (λ b. b) 0x40 8) (λ b. Other) set_form refl c.args.b (omega (arith, c.ranges.b)) c.in_default.in_default-own.rest
