-- `words::tables::covers` meets its contract: the greatest member's cell is the last that is asked for.
use Prim.Native.Nat.{◌-◌}
use native.Mathlib.Omega.{arith}
use lib.Count.{count_leading_zeros}
use borrow.Author.Tests.{leb-true}
use Rattle.words.proofs.Members.{Greatest, greatest}
use Rattle.words.proofs.tables.covers.Goals as goal

pub returns-then-from-last : goal.returns-then-from-last
returns-then-from-last c =
    let last : Greatest 32 c.args.s (count_leading_zeros 64 c.args.s) = greatest 32 c.args.s c.requires.set (omega (arith, c.requires.set)) c.requires.some in
    λ e. record { last = 63 - count_leading_zeros 64 c.args.s; members_to = (last).members_to; cells_to = c.if-from-last.true; bytes_to = leb-true _ _ e }
