-- `costs` meets its contract. 09 and a number, then the high cost.
use mathlib.Core.Path.{◌∙◌}
use Rattle.read_declarations.proofs.Positions.{passed_on}
use Rattle.read_transitions.proofs.Reading.{costs_read, costs_number_refused, costs_refused}
use Rattle.read_transitions.proofs.costs.Goals as goal

pub returns-in_err-command : goal.returns-in_err-command
returns-in_err-command c =
    passed_on c.from_residual.result c.from_residual.ensures.1 ∙ costs_refused _ _ c.args.at c.args.model.now c.in_err-command.ensures

pub returns-in_err-number : goal.returns-in_err-number
returns-in_err-number c =
    passed_on c.from_residual-in_err-number.result c.from_residual-in_err-number.ensures.1 ∙ costs_number_refused _ _ c.args.at c.args.model.now c.in_ok-command.ensures c.in_err-number.ensures

pub returns : goal.returns
returns c =
    c.high_cost.ensures ∙ costs_read _ _ c.args.at c.args.model.now c.in_ok-command.ensures c.in_ok-number.ensures
