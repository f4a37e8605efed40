-- `words::tables::few` meets its contract. The invariant: the sum so far and the sum over the members left make the whole.
use native.Mathlib.Omega.{arith}
use mathlib.Core.Path.{◌≡◌}
use lib.IntN.{◌+ℤ◌}
use mir.Syntax.{w64}
use mir.Val.{SFits, to_z, of_z}
use Rattle.words.proofs.Integers.{back}
use Rattle.words.proofs.Members.{members_all}
use Rattle.words.proofs.Sums.{begin, more_fits, one_further, done}
use Rattle.words.proofs.tables.few.Goals as goal

pub loop-i-init : goal.loop-i-init
loop-i-init c =
    rw (c.into_iter-i-iterator.ensures.into_iter_gives, c.members-i-items.ensures)
    (begin 64 _ c.args.s c.ranges.s.fits, members_all _ 64 c.args.s c.ranges.s.fits (λ i h. h))

pub loop-i-preserved : goal.loop-i-preserved
loop-i-preserved c =
    let read : to_z w64 (of_z w64 c.entry-sum.result) ≡ c.entry-sum.result = back (record { sfits = c.entry-sum.type_inv }) in
    let so = c.loop-i.invariant.0 in
    let split = c.in-Some.ensures.steps in
    let fits : SFits w64 (to_z w64 c.loop-i.sum-bits +ℤ c.entry-sum.result) = more_fits (omega arith) so split c.entry-sum.ensures.0 c.entry-sum.ensures.1 in
    (rw (read, back (fits)) (one_further (omega arith) so split c.entry-sum.ensures.0 c.entry-sum.ensures.1), (rw split at c.loop-i.invariant.1).1)

pub returns : goal.returns
returns c =
    done 64 _ _ _ _ c.in-None.ensures.steps.0 c.loop-i.invariant.0
