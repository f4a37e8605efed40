-- `cursor_conditions::conditions::same` meets its contract.
use mathlib.Core.Path.{sym, ◌∙◌}
use Rattle.cursor_conditions.proofs.ConditionLaws.{same_told}
use Rattle.cursor_conditions.proofs.conditions.same.Goals as goal

pub returns-then-begins_element-2 : goal.returns-then-begins_element-2
returns-then-begins_element-2 c =
    same_told _ _ _ c.requires (c.stands.ensures c.if-stands.true) (sym c.begins_element.ensures ∙ c.if-begins_element.true) (sym c.begins_element-then-begins_element.ensures ∙ c.if-begins_element-2.true)
    c.object-i.ensures.0 c.object-j.ensures.0
