-- `cursor::numbers::simple` meets its contract.
use mathlib.Core.Path.{◌≡◌, sym, ◌∙◌}
use mathlib.Core.Bool.{true}
use Rattle.cursor.specs.Codes.{is_operation}
use Rattle.cursor.proofs.NumberLaws.{operation_some}
use Rattle.cursor.proofs.numbers.simple.Goals as goal

pub two_leaves-requires : goal.two_leaves-requires
two_leaves-requires c =
    let operation : is_operation c.first_byte-b.result ≡ true = sym c.is_operation.ensures ∙ c.if-is_operation.true in
    (c.first_byte-b.ensures.begins (operation_some c.first_byte-b.result operation), operation)
