-- `cursor_conditions::conditions::plain` meets its contract.
use mathlib.Core.Path.{sym, ◌∙◌}
use Rattle.cursor_conditions.proofs.ConditionLaws.{relation_some}
use Rattle.cursor_conditions.proofs.conditions.plain.Goals as goal

pub any_comparison-requires : goal.any_comparison-requires
any_comparison-requires c =
    let compares = sym c.is_relation.ensures ∙ c.if-is_relation.true in
    (c.requires.begins (relation_some _ compares), compares)
