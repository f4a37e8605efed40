-- `cursor_conditions::conditions::empty` meets its contract.
use Rattle.cursor_conditions.proofs.ConditionLaws.{empty_is}
use Rattle.cursor_conditions.proofs.conditions.empty.Goals as goal

pub returns : goal.returns
returns c =
    empty_is _ _ _ c.requires (c.near_set-s.ensures c.if-at-p.false)
