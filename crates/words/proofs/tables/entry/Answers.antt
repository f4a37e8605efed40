-- `words::tables::entry` meets its contract.
use mathlib.Core.Path.{◌∙◌}
use native.Mathlib.Omega.{arith}
use Rattle.words.proofs.Entries.{entry_there, entry_beyond}
use Rattle.words.proofs.Integers.{back}
use Rattle.words.proofs.tables.entry.Goals as goal

pub returns-then-k-table : goal.returns-then-k-table
returns-then-k-table c =
    rw (back (record { sfits = c.cell.type_inv })) (c.cell.ensures.0 ∙ entry_there _ _ _ _ _ _ c.if-k-table.true, c.cell.ensures.1)

pub returns : goal.returns
returns c =
    (entry_beyond _ _ _ _ _ _ c.if-k-table.false, omega arith)
