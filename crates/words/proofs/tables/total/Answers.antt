-- `words::tables::total` meets its contract: the sum over the lower half and the sum over the upper half make the sum.
use Prim.Native.Nat.{ℕ}
use mathlib.Core.Path.{◌≡◌}
use lib.IntN.{◌+ℤ◌}
use mir.Syntax.{w64}
use mir.Val.{SFits, to_z, of_z}
use Rattle.words.specs.Tables.{entry_in, columns_of, cells_of, at_of}
use Rattle.words.proofs.Integers.{back}
use Rattle.words.proofs.Sums.{halves_fit, by_halves}
use Rattle.words.proofs.tables.total.Goals as goal

pub returns : goal.returns
returns c =
    let lower : to_z w64 (of_z w64 c.walked-lower.result) ≡ c.walked-lower.result = back (record { sfits = c.walked-lower.type_inv }) in
    let upper : to_z w64 (of_z w64 c.walked-upper.result) ≡ c.walked-upper.result = back (record { sfits = c.walked-upper.type_inv }) in
    let fits : SFits w64 (c.walked-lower.result +ℤ c.walked-upper.result) = halves_fit c.walked-lower.result c.walked-upper.result c.walked-lower.ensures.1 c.walked-upper.ensures.1 in
    let a = c.args in
    rw (lower, upper, back (fits))
    (by_halves (λ (i : ℕ). entry_in a.model.now (at_of a.table) (columns_of a.table) (cells_of a.table) i a.j) a.s c.walked-lower.ensures.0 c.walked-upper.ensures.0)
