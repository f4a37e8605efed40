-- `solver::entry::lent_fits` meets its contract; the sum fits a word.
use mathlib.Core.Path.{sym, ◌∙◌}
use borrow.Author.Tests.{lt-leb}
use Rattle.solver.proofs.Entering.{lent_short, lent_words}
use Rattle.solver.proofs.entry.lent_fits.Goals as goal

pub returns-then-limit-bytes : goal.returns-then-limit-bytes
returns-then-limit-bytes c =
    lent_words c.args.width c.args.limit c.args.bytes c.args.words c.if-limit-bytes.true

pub returns-else-limit-bytes : goal.returns-else-limit-bytes
returns-else-limit-bytes c =
    lt-leb _ _ c.if-limit-bytes.false ∙ sym (lent_short c.args.width c.args.limit c.args.bytes c.args.words c.if-limit-bytes.false)
