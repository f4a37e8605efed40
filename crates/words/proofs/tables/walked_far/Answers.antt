-- `words::tables::walked_far` meets its contract. The invariant: the sum so far and the sum over the members left make the whole.
use mathlib.Core.Path.{◌≡◌}
use native.Mathlib.Omega.{arith}
use lib.IntN.{◌+ℤ◌}
use mir.Syntax.{w64}
use mir.Val.{SFits, to_z, of_z}
use Rattle.words.proofs.Integers.{back}
use Rattle.words.proofs.Members.{members_none, members_all, members_lowest}
use Rattle.words.proofs.Sums.{begin, more_fits, one_further, done}
use Rattle.words.proofs.tables.walked_far.Goals as goal

pub loop-left-init : goal.loop-left-init
loop-left-init c =
    (begin 32 _ c.args.s c.requires.0, members_all _ 32 c.args.s c.requires.0 (λ i h. h))

pub entry-sum-requires : goal.entry-sum-requires
entry-sum-requires c =
    let split = members_lowest 64 c.loop-left.left (omega arith) (omega (arith, c.loop-left-test.true)) in
    (omega (arith, (rw split at c.loop-left.invariant.1).0, c.requires.1), c.requires.2)

pub loop-left-preserved : goal.loop-left-preserved
loop-left-preserved c =
    let read : to_z w64 (of_z w64 c.entry-sum.result) ≡ c.entry-sum.result = back (record { sfits = c.entry-sum.type_inv }) in
    let so = c.loop-left.invariant.0 in
    let split = members_lowest 64 c.loop-left.left (omega arith) (omega (arith, c.loop-left-test.true)) in
    let fits : SFits w64 (to_z w64 c.loop-left.sum-bits +ℤ c.entry-sum.result) = more_fits (omega arith) so split c.entry-sum.ensures.0 c.entry-sum.ensures.1 in
    (rw (read, back (fits)) (one_further (omega arith) so split c.entry-sum.ensures.0 c.entry-sum.ensures.1), (rw split at c.loop-left.invariant.1).1)

pub returns : goal.returns
returns c =
    done 32 _ _ _ _ members_none (rw c.loop-left-test.false at c.loop-left.invariant.0)
