-- `condition_at` meets its contract. The position behind a condition.
use mathlib.Core.Path.{◌∙◌}
use Rattle.read_forms.specs.Parts.{variables_in, tables_in}
use Rattle.read_declarations.proofs.Positions.{passed_on}
use Rattle.read_transitions.proofs.Reading.{condition_place}
use Rattle.read_transitions.proofs.condition_at.Goals as goal

pub returns-in_err-condition : goal.returns-in_err-condition
returns-in_err-condition c =
    let a = c.args in
    passed_on c.from_residual.result c.from_residual.ensures.1 ∙ condition_place (variables_in a.names) (tables_in a.names) a.at a.model.now c.in_err-condition.ensures

pub returns : goal.returns
returns c =
    let a = c.args in
    condition_place (variables_in a.names) (tables_in a.names) a.at a.model.now c.in_ok-condition.ensures
