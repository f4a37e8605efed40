-- `number_at` meets its contract. The position behind a number.
use mathlib.Core.Path.{◌∙◌}
use Rattle.read_forms.specs.Parts.{variables_in, tables_in}
use Rattle.read_declarations.proofs.Positions.{passed_on}
use Rattle.read_transitions.proofs.Reading.{number_place}
use Rattle.read_transitions.proofs.number_at.Goals as goal

pub returns-in_err-number : goal.returns-in_err-number
returns-in_err-number c =
    let a = c.args in
    passed_on c.from_residual.result c.from_residual.ensures.1 ∙ number_place (variables_in a.names) (tables_in a.names) a.at a.model.now c.in_err-number.ensures

pub returns : goal.returns
returns c =
    let a = c.args in
    number_place (variables_in a.names) (tables_in a.names) a.at a.model.now c.in_ok-number.ensures
