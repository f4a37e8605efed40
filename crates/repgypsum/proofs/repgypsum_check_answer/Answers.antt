-- `repgypsum::repgypsum_check_answer` gives the answer number, which is 0 exactly for plans.
use mathlib.Core.Path.{sym, ◌∙◌}
use Rattle.model.proofs.PlanCheck.{answer_zero_exact}
use Rattle.repgypsum.proofs.repgypsum_check_answer.Goals as goal

pub returns : goal.returns
returns c =
    let told = c.check.ensures.number in
    let exact = answer_zero_exact c.args.model.now c.args.plan.now in
    record { number = told; exact = (λ z. exact.0 (sym told ∙ z), λ p. told ∙ exact.1 p) }
