-- `read_declarations::variables::declares_variable` meets its contract. 02, 03 or 04.
use borrow.Author.Tests.{le-leb, lt-leb}
use Rattle.model.specs.Expressions.{among}
use Rattle.read_declarations.proofs.variables.declares_variable.Goals as goal

pub returns-then-b-ge2 : goal.returns-then-b-ge2
unfolding among
returns-then-b-ge2 c =
    rw (le-leb 2 c.args.b c.if-b-ge2.true)

pub returns-else-b-ge2 : goal.returns-else-b-ge2
unfolding among
returns-else-b-ge2 c =
    rw (lt-leb 2 c.args.b c.if-b-ge2.false)
