-- `cursor_conditions::conditions::member` meets its contract.
use mathlib.Core.Path.{sym, ◌∙◌}
use Rattle.cursor_conditions.proofs.ConditionLaws.{member_told}
use Rattle.cursor_conditions.proofs.conditions.member.Goals as goal

pub returns-then-begins_element : goal.returns-then-begins_element
returns-then-begins_element c =
    member_told _ _ _ c.requires (c.stands.ensures c.if-stands.true) c.if-e-p-eq65.true (sym c.begins_element.ensures ∙ c.if-begins_element.true) c.object.ensures.0 c.word_at-s.ensures c.is_member.ensures
