-- `cursor_conditions::conditions::subset` meets its contract.
use Rattle.cursor_conditions.proofs.ConditionLaws.{subset_is}
use Rattle.cursor_conditions.proofs.conditions.subset.Goals as goal

pub returns : goal.returns
returns c =
    rw c.is_subset.ensures (subset_is _ _ _ c.requires (c.near_set-s.ensures c.if-q-p.false) (c.near_set-t.ensures c.if-at-q.false))
