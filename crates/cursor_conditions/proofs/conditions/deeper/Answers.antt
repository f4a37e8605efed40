-- `cursor_conditions::conditions::deeper` meets its contract.
use mathlib.Core.Path.{sym, ◌∙◌}
use Rattle.cursor.proofs.NumberLaws.{operation_some}
use Rattle.cursor_conditions.proofs.conditions.deeper.Goals as goal

pub two_simple-requires : goal.two_simple-requires
two_simple-requires c =
    let operates = sym c.is_operation.ensures ∙ c.if-is_operation.true in
    (c.first_byte-b.ensures.begins (operation_some _ operates), operates)
