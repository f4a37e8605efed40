-- `read_model::read_model` meets its contract. The rule, then all that follows it; the rule's word last.
use mathlib.Core.Path.{refl, ◌∙◌}
use native.Mathlib.Omega.{arith}
use lib.ListN.{length-set}
use Rattle.read_declarations.proofs.Positions.{passed_on}
use Rattle.read_model.proofs.Whole.{model_rule_refused, model_refused, model_number, model_outlined}
use Rattle.read_model.proofs.read_model.Goals as goal

pub returns : goal.returns
returns c =
    let rule = c.in_ok-behind.ensures in
    record {
      number = model_number c.args.model.now rule c.behind_rule.new.outline c.in_ok-behind_rule.ensures.told;
      outlined = model_outlined c.args.model.now rule c.behind_rule.new.outline c.in_ok-behind_rule.ensures.told c.wide.result (c.wide.ensures.0 ∙ c.byte_at.ensures) (omega (arith, c.behind_rule.ensures.same, c.requires.1));
      same = length-set c.behind_rule.new.outline 0 c.wide.result ∙ c.behind_rule.ensures.same;
    }

pub returns-in_err-behind_rule : goal.returns-in_err-behind_rule
returns-in_err-behind_rule c =
    let r = model_refused c.args.model.now c.in_ok-behind.ensures c.behind_rule.new.outline c.in_err-behind_rule.was c.behind_rule.ensures.told in
    let p = passed_on c.from_residual-in_err-behind_rule.result c.from_residual-in_err-behind_rule.ensures.1 in
    record { number = rw p r; outlined = rw p tt; same = c.behind_rule.ensures.same }

pub returns-in_err-behind : goal.returns-in_err-behind
returns-in_err-behind c =
    let r = model_rule_refused c.args.model.now c.in_err-behind.ensures in
    let p = passed_on c.from_residual.result c.from_residual.ensures.1 in
    record { number = rw p r; outlined = rw p tt; same = refl }
