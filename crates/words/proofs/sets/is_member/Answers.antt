-- `words::sets::is_member` meets its contract.
use mathlib.Core.Path.{refl, sym, ◌∙◌}
use native.Mathlib.Omega.{arith}
use borrow.Author.Tests.{le-ltb}
use Rattle.model.specs.Sets as Sets
use Rattle.words.proofs.Members.{no_member}
use Rattle.words.proofs.sets.is_member.Goals as goal

pub returns-then-k-lt-MOST_OBJECTS : goal.returns-then-k-lt-MOST_OBJECTS
returns-then-k-lt-MOST_OBJECTS c =
    unfold Sets.is_member in refl

pub returns-else-k-lt-MOST_OBJECTS : goal.returns-else-k-lt-MOST_OBJECTS
returns-else-k-lt-MOST_OBJECTS c =
    le-ltb _ _ c.if-k-lt-MOST_OBJECTS.false ∙ sym (no_member 64 c.args.k c.args.s c.ranges.s.fits (omega arith))
