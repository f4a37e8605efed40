-- `expression_at` meets its contract. The expression of the bytes from a position on, moved there.
use Prim.Native.Nat.{◌+◌, ◌<◌, ◌^◌}
use mathlib.Core.Path.{◌∙◌}
use native.Mathlib.Omega.{arith}
use Rattle.read_declarations.proofs.Positions.{passed_on}
use Rattle.read_transitions.proofs.Reading.{placed_fits, part_from_lem}
use Rattle.read_transitions.proofs.expression_at.Goals as goal

pub overflow_add-result : goal.overflow_add-result
overflow_add-result c =
    let a = c.args in
    let fits : a.at + c.in_ok-read.read.used < 2 ^ 64 = placed_fits a.names a.at a.model.now a.due c.suffix_at.ensures c.in_ok-read.ensures (omega (arith, c.well_formed)) (omega (arith, c.ranges.at)) in
    omega (arith, fits)

pub returns-in_err-read : goal.returns-in_err-read
returns-in_err-read c =
    let a = c.args in
    passed_on c.from_residual.result c.from_residual.ensures.1 ∙ part_from_lem a.names a.at a.model.now a.due c.suffix_at.ensures c.in_err-read.ensures

pub returns : goal.returns
returns c =
    let a = c.args in
    part_from_lem a.names a.at a.model.now a.due c.suffix_at.ensures c.in_ok-read.ensures
