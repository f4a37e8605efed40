-- `profile::begins_with_set` meets its contract.
use mathlib.Core.Path.{sym, ◌∙◌}
use Rattle.profile.proofs.Outlined.{begins_none, begins_as}
use borrow.Author.Tests.{eq-eqb}
use Rattle.profile.proofs.begins_with_set.Goals as goal

pub returns-else-word_at-ne0 : goal.returns-else-word_at-ne0
returns-else-word_at-ne0 c =
    rw (eq-eqb _ _ c.if-word_at-ne0.false) (sym (begins_none _ _ c.requires (sym c.word_at.ensures ∙ c.if-word_at-ne0.false)))

pub returns-then-word_at-ne0 : goal.returns-then-word_at-ne0
returns-then-word_at-ne0 c =
    rw c.word_at-then-word_at-ne0.ensures (begins_as _ _ c.requires (λ e. c.if-word_at-ne0.true (c.word_at.ensures ∙ e)))
