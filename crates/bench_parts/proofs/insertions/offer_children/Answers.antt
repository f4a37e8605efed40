-- `bench_parts::insertions::offer_children` meets its contract, and no index or sum leaves its range.
use Prim.Native.Nat.{◌+◌, ◌-◌}
use borrow.Author.Rules.{rules}
use mathlib.Core.Path.{◌≡◌, refl}
use native.Mathlib.Omega.{arith}
use Rattle.bench_parts.proofs.Offering.{begins, going_on, ends}
use Rattle.bench_parts.proofs.insertions.offer_children.Goals as goal

pub loop-child-init : goal.loop-child-init
loop-child-init c =
    let all : c.args.children - 0 ≡ c.args.children = omega arith in
    (rw all (begins c.empty.ensures), refl)

pub loop-child-preserved : goal.loop-child-preserved
loop-child-preserved c =
    let one_less : c.args.children - (c.loop-child._child + 1) ≡ c.args.children - c.loop-child._child - 1 = omega arith in
    (rw one_less (going_on c.loop-child.invariant.0 (omega (arith, c.loop-child-test.true)) c.make_header-header.ensures c.make_state-state.ensures c.insert-inserted.ensures c.next-x.ensures), search rules)

pub returns : goal.returns
returns c =
    ends c.loop-child.invariant.0 (omega (arith, c.loop-child-test.false))
