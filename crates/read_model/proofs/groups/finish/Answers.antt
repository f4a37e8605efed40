-- `read_model::groups::finish` meets its contract. 0E, and no byte behind it.
use mathlib.Core.Path.{◌∙◌}
use Rattle.read_declarations.proofs.Positions.{passed_on}
use Rattle.read_model.proofs.Outlining.{end_good, end_more, end_refused}
use Rattle.read_model.proofs.groups.finish.Goals as goal

pub returns-in_err-behind : goal.returns-in_err-behind
returns-in_err-behind c =
    passed_on c.from_residual.result c.from_residual.ensures.1 ∙ end_refused c.args.model.now c.args.at c.in_err-behind.ensures

pub returns-then-behind-model : goal.returns-then-behind-model
returns-then-behind-model c =
    end_good c.args.model.now c.args.at c.in_ok-behind.ensures c.if-behind-model.true

pub returns-else-behind-model : goal.returns-else-behind-model
returns-else-behind-model c =
    end_more c.args.model.now c.args.at c.in_ok-behind.ensures c.if-behind-model.false
