-- `steps::moves::allowed` meets its contract. The invariant: the mask is that of the transitions from t on.
use Prim.Native.Nat.{◌+◌, ◌-◌, ◌^◌, ◌≤◌, ◌<◌}
use mathlib.Core.Path.{◌≡◌}
use native.Mathlib.Omega.{arith}
use lib.Pow.{pow_mono}
use Rattle.steps.specs.Allowed.{allowed_from}
use Rattle.steps.proofs.Allowing.{digit_below, allowed_below, allowed_more}
use Rattle.steps.proofs.moves.allowed.Goals as goal

pub loop-t-init : goal.loop-t-init
unfolding allowed_from
loop-t-init c =
    let e : c.args.end - c.args.end ≡ 0 = omega arith in
    (rw e, c.requires.0, omega arith)

pub overflow_add-mask : goal.overflow_add-mask
overflow_add-mask c =
    let room : c.loop-t.mask < 2 ^ 63 = let n = c.args.end - c.loop-t.t in
    let few : n ≤ 63 = omega (arith, c.loop-t-test.true, c.requires.1) in
    let below : 2 ^ n ≤ 2 ^ 63 = pow_mono few in
    omega (arith, c.loop-t.invariant.0, allowed_below c.args.outline.now c.args.state.now n c.loop-t.t) in
    record { fits = omega (arith, room) }

pub overflow_add-mask-in-loop-t : goal.overflow_add-mask-in-loop-t
overflow_add-mask-in-loop-t c =
    let room : c.loop-t.mask < 2 ^ 63 = let n = c.args.end - c.loop-t.t in
    let few : n ≤ 63 = omega (arith, c.loop-t-test.true, c.requires.1) in
    let below : 2 ^ n ≤ 2 ^ 63 = pow_mono few in
    omega (arith, c.loop-t.invariant.0, allowed_below c.args.outline.now c.args.state.now n c.loop-t.t) in
    let asked : c.digit.result < 2 = rw c.digit.ensures (digit_below c.passes.result) in
    record { fits = omega (arith, room, asked) }

pub loop-t-preserved : goal.loop-t-preserved
loop-t-preserved c =
    let before-end : c.loop-t.t - 1 < c.args.end = omega (arith, c.loop-t-test.true, c.loop-t.invariant.2) in
    let a = c.args in
    let t = c.loop-t.t in
    let next : t - 1 + 1 ≡ t = omega (arith, c.loop-t-test.true) in
    let more = rw next at (allowed_more a.outline.now a.state.now (t - 1) a.end (before-end)) in
    (rw (more, ← c.loop-t.invariant.0, c.digit.ensures, c.passes.ensures) (omega arith), omega (arith, c.loop-t-test.true), omega (arith, before-end))
