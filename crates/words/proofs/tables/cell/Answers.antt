-- `words::tables::cell` meets its contract.
use Prim.Native.Nat.{◌+◌, ◌*◌}
use native.Mathlib.Omega.{arith}
use Rattle.words.proofs.Entries.{cell_there, cell_ends}
use Rattle.words.proofs.Integers.{back}
use Rattle.words.proofs.Literal.{suffix}
use Rattle.words.proofs.tables.cell.Goals as goal

pub returns-then-from-model : goal.returns-then-from-model
returns-then-from-model c =
    let e = c.args.model.now in
    let at = c.args.at in
    let k = c.args.k in
    rw (back (record { sfits = c.integer.type_inv }))
    (cell_there e at k (rw (suffix (at + 5 * k + 1) e) at c.integer.ensures.0), c.integer.ensures.1)

pub returns : goal.returns
returns c =
    (cell_ends c.args.model.now c.args.at c.args.k c.if-from-model.false, omega arith)
