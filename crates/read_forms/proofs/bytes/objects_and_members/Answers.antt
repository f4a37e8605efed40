-- `objects_and_members` meets its contract, by the length and the test of the members.
use mathlib.Core.Bool.{true, false}
use mathlib.Core.Path.{◌≡◌, sym, ◌∙◌}
use lib.ListN.{drop}
use Rattle.model.specs.Readers.{read, word}
use Rattle.read_forms.proofs.Operands.{members_read, members_short}
use Rattle.words.proofs.Literal.{suffix}
use Rattle.read_forms.proofs.bytes.objects_and_members.Goals as goal

pub returns-then-members_fit : goal.returns-then-members_fit
returns-then-members_fit c =
    let members : word 8 (drop 1 c.args.e.now) ≡ read c.long.result 8 = rw suffix at c.long.ensures in
    members_read c.args.e.now c.if-e-lt9.false c.long.result (members) true (sym c.if-members_fit.true ∙ c.members_fit.ensures)

pub returns-else-members_fit : goal.returns-else-members_fit
returns-else-members_fit c =
    let members : word 8 (drop 1 c.args.e.now) ≡ read c.long.result 8 = rw suffix at c.long.ensures in
    members_read c.args.e.now c.if-e-lt9.false c.long.result (members) false (sym c.if-members_fit.false ∙ c.members_fit.ensures)

pub returns-then-e-lt9 : goal.returns-then-e-lt9
returns-then-e-lt9 c =
    members_short c.args.e.now c.if-e-lt9.true
