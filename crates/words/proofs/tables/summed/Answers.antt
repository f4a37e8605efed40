-- `words::tables::summed` meets its contract. The invariant: the sum so far and the sum over the members left make the whole, whose integers
-- are there.
use Prim.Native.Nat.{ℕ, ◌+◌, ◌*◌}
use native.Mathlib.Omega.{arith}
use mathlib.Core.Path.{◌≡◌}
use mathlib.Core.List.{List}
use lib.IntN.{◌+ℤ◌}
use mir.Syntax.{w64}
use mir.Val.{SFits, to_z, of_z}
use Rattle.words.specs.Tables.{integer_at}
use Rattle.words.proofs.Integers.{back}
use Rattle.words.proofs.Literal.{suffix}
use Rattle.words.proofs.Entries.{integer_there}
use Rattle.words.proofs.Covered.{spaced_all}
use Rattle.words.proofs.Sums.{begin, more_fits, one_further, done}
use Rattle.words.proofs.tables.summed.Goals as goal

pub loop-i-init : goal.loop-i-init
loop-i-init c =
    rw (c.into_iter-i-iterator.ensures.into_iter_gives, c.members-i-items.ensures)
    (begin 32 _ c.args.s c.requires.0, spaced_all c.requires.1)

pub loop-i-preserved : goal.loop-i-preserved
loop-i-preserved c =
    let read : to_z w64 (of_z w64 c.integer-sum.result) ≡ c.integer-sum.result = back (record { sfits = c.integer-sum.type_inv }) in
    let so = c.loop-i.invariant.0 in
    let split = c.in-Some.ensures.steps in
    let bytes : List ℕ = c.args.model.now in
    let place : ℕ = c.args.first + c.args.stride * c.in-Some.i in
    let is : c.integer-sum.result ≡ integer_at (bytes) (place) = integer_there (bytes) (place) (rw (suffix (place) (bytes)) at c.integer-sum.ensures.0) in
    let fits : SFits w64 (to_z w64 c.loop-i.sum-bits +ℤ c.integer-sum.result) = more_fits (omega arith) so split (is) c.integer-sum.ensures.1 in
    (rw (read, back (fits)) (one_further (omega arith) so split (is) c.integer-sum.ensures.1), (rw split at c.loop-i.invariant.1).1)

pub returns : goal.returns
returns c =
    done 32 _ _ _ _ c.in-None.ensures.steps.0 c.loop-i.invariant.0
