-- `cursor_conditions::conditions::member_near` meets its contract.
use mathlib.Core.Path.{sym, ◌∙◌}
use Rattle.cursor_conditions.proofs.ConditionLaws.{near_member_told}
use Rattle.cursor_conditions.proofs.conditions.member_near.Goals as goal

pub returns-then-begins_element : goal.returns-then-begins_element
returns-then-begins_element c =
    near_member_told _ _ _ c.requires (c.stands.ensures c.if-stands.true) (sym c.begins_element.ensures ∙ c.if-begins_element.true) c.object.ensures.0 (c.near_set-s.ensures c.if-at-p.false) c.is_member.ensures
