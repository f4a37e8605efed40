-- `profile::ends_empty` meets its contract.
use mathlib.Core.Path.{sym, ◌∙◌}
use Rattle.profile.proofs.Outlined.{ends_none, ends_as}
use borrow.Author.Tests.{ne_eqb}
use Rattle.profile.proofs.ends_empty.Goals as goal

pub returns-then-word_at-eq1 : goal.returns-then-word_at-eq1
returns-then-word_at-eq1 c =
    ends_as _ _ c.requires (sym c.word_at.ensures ∙ c.if-word_at-eq1.true) (rw (← c.word_at-then-word_at-eq1.ensures) c.only_empty.ensures)

pub returns-else-word_at-eq1 : goal.returns-else-word_at-eq1
returns-else-word_at-eq1 c =
    rw (ne_eqb _ _ c.if-word_at-eq1.false) (sym (ends_none _ _ c.requires (λ e. c.if-word_at-eq1.false (c.word_at.ensures ∙ e))))
