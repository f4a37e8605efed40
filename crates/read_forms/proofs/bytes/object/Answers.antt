-- `object` meets its contract, by the length and the limit.
use mathlib.Core.Bool.{true, false}
use mathlib.Core.Path.{sym, ◌∙◌}
use borrow.Author.Tests.{lt-ltb, le-ltb, eqb-true, eqb-false}
use Rattle.read_forms.proofs.Operands.{object_read, object_short}
use Rattle.read_forms.proofs.bytes.object.Goals as goal

pub returns-then-k-lt-MOST_OBJECTS : goal.returns-then-k-lt-MOST_OBJECTS
returns-then-k-lt-MOST_OBJECTS c =
    object_read c.args.e.now (eqb-false _ 0 (sym c.is_empty.ensures ∙ c.if-is_empty.false)) true (lt-ltb _ 64 c.if-k-lt-MOST_OBJECTS.true)

pub returns-else-k-lt-MOST_OBJECTS : goal.returns-else-k-lt-MOST_OBJECTS
returns-else-k-lt-MOST_OBJECTS c =
    object_read c.args.e.now (eqb-false _ 0 (sym c.is_empty.ensures ∙ c.if-is_empty.false)) false (le-ltb _ 64 c.if-k-lt-MOST_OBJECTS.false)

pub returns-then-is_empty : goal.returns-then-is_empty
returns-then-is_empty c =
    object_short c.args.e.now (eqb-true _ 0 (sym c.is_empty.ensures ∙ c.if-is_empty.true))
