-- `read_declarations::tables::entry` meets its contract. 06 and four bytes.
use mathlib.Core.Path.{◌∙◌}
use native.Mathlib.Omega.{arith}
use Rattle.read_declarations.proofs.Entries.{entry_good, entry_cut, entry_refused}
use Rattle.read_declarations.proofs.Positions.{passed_on, command_read}
use Rattle.read_declarations.proofs.tables.entry.Goals as goal

pub returns-in_err-behind : goal.returns-in_err-behind
returns-in_err-behind c =
    passed_on c.from_residual.result c.from_residual.ensures.1 ∙ entry_refused c.args.model.now c.args.at c.in_err-behind.ensures

pub overflow_sub-model : goal.overflow_sub-model
overflow_sub-model c =
    let there = command_read 6 c.args.at c.args.model.now c.in_ok-behind.ensures in
    omega (arith, there.inside, there.behind)

pub returns-then-model-behind-ge4 : goal.returns-then-model-behind-ge4
returns-then-model-behind-ge4 c =
    entry_good c.args.model.now c.args.at c.in_ok-behind.ensures c.if-model-behind-ge4.true

pub returns-else-model-behind-ge4 : goal.returns-else-model-behind-ge4
returns-else-model-behind-ge4 c =
    entry_cut c.args.model.now c.args.at c.in_ok-behind.ensures c.if-model-behind-ge4.false
