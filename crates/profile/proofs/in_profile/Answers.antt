-- `profile::in_profile` meets its contract.
use mathlib.Core.Path.{sym, ◌∙◌}
use Rattle.profile.proofs.Outlined.{in_as, out_by_end, out_by_variable}
use Rattle.profile.proofs.in_profile.Goals.{then-begins_with_set, else-begins_with_set}
use Rattle.profile.proofs.in_profile.Goals as goal

pub returns-then-ends_empty : goal.returns-then-ends_empty
returns-then-ends_empty c =
    elim c.if-begins_with_set.branch [
      | then-begins_with_set w ↦
          c.all_load.ensures ∙ in_as _ (sym c.begins_with_set.ensures ∙ w.if-begins_with_set.true) (sym w.ends_empty.ensures ∙ sym w.value-is ∙ c.if-ends_empty.true)
      | else-begins_with_set w ↦ cc
    ]

pub returns-else-ends_empty : goal.returns-else-ends_empty
returns-else-ends_empty c =
    elim c.if-begins_with_set.branch [
      | then-begins_with_set w ↦ c.if-ends_empty.false ∙ sym (out_by_end _ (sym w.ends_empty.ensures ∙ sym w.value-is ∙ c.if-ends_empty.false))
      | else-begins_with_set w ↦ c.if-ends_empty.false ∙ sym (out_by_variable _ (sym c.begins_with_set.ensures ∙ w.if-begins_with_set.false))
    ]
