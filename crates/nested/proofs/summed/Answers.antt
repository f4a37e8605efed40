-- `nested::summed` meets its contract.
use mir.Val.{SFits}
use mir.Syntax.{w64}
use Rattle.words.proofs.Integers.{back}
use Rattle.nested.proofs.Waiting.{ranged_told, total_is}
use Rattle.nested.proofs.summed.Goals as goal

pub returns-then-is_variable_total : goal.returns-then-is_variable_total
returns-then-is_variable_total c =
    let f : SFits w64 c.last_total.result = record { sfits = c.last_total.type_inv } in (
      ranged_told _ _ _ _ _ c.last_total.result _ (rw (back f) at c.ranged.ensures)
          (total_is _ _ _ _ c.last_total.result (c.stands.ensures c.if-stands.true) (c.is_variable_total.ensures c.if-is_variable_total.true) c.last_total.ensures.0),
      c.last_total.ensures.1,
    )
