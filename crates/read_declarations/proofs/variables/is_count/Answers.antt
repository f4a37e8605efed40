-- `read_declarations::variables::is_count` meets its contract. An object count is 1 to 64.
use mathlib.Core.Path.{◌≡◌, sym}
use native.Mathlib.Omega.{arith}
use Rattle.read_declarations.proofs.Operands.{count_zero, count_is}
use Rattle.read_declarations.proofs.variables.is_count.Goals as goal

pub returns-then-n-ge1 : goal.returns-then-n-ge1
returns-then-n-ge1 c =
    count_is c.args.n c.if-n-ge1.true

pub returns-else-n-ge1 : goal.returns-else-n-ge1
returns-else-n-ge1 c =
    let none : c.args.n ≡ 0 = omega (arith, c.if-n-ge1.false) in
    rw none (sym count_zero)
