-- `steps::moves::range_at` meets its contract.
use Prim.Native.Nat.{◌+◌, ◌-◌, ◌≤◌, ◌<◌}
use mathlib.Core.Path.{◌≡◌}
use mathlib.Core.Bool.{false}
use native.Mathlib.Omega.{arith}
use lib.ListN.{length}
use lib.IntN.{pos}
use lib.Signed.{mag, lt_z}
use mir.Syntax.{w64}
use mir.Val.{SFits}
use Rattle.model.specs.Numbers.{range_end}
use Rattle.std.proofs.lemmas.Result.{err_from_is_err_and}
use Rattle.words.proofs.Integers.{back}
use Rattle.eval_sets.specs.Troubles.{named}
use Rattle.steps.proofs.Costing.{range_says, range_refused, range_trouble}
use Rattle.steps.proofs.Trials.{value_within}
use Rattle.steps.proofs.Signs.{range_fits, high_is, high_below, high_negative}
use Rattle.steps.proofs.moves.range_at.Goals as goal

pub returns-then-z-lt0 : goal.returns-then-z-lt0
unfolding named
returns-then-z-lt0 c =
    let within : ((mag c.in_ok-z.z.value < range_end) × (c.in_ok-z.z.used ≤ length c.args.model.now - (c.args.at + 1))) = value_within _ c.in_ok-z.was c.number_near.ensures.1 in
    let fits : SFits w64 c.in_ok-z.z.value = range_fits (within).0 in
    (range_refused _ c.args.at _ _ _ c.number_near.ensures.0 c.in_ok-z.was (high_negative _ _ (rw (back (fits)) at c.if-z-lt0.true)), tt, c.number_near.ensures.2)

pub returns-then-high-low : goal.returns-then-high-low
unfolding named
returns-then-high-low c =
    let within : ((mag c.in_ok-z.z.value < range_end) × (c.in_ok-z.z.used ≤ length c.args.model.now - (c.args.at + 1))) = value_within _ c.in_ok-z.was c.number_near.ensures.1 in
    let fits : SFits w64 c.in_ok-z.z.value = range_fits (within).0 in
    let natural : (lt_z c.in_ok-z.z.value (pos 0) ≡ false) = rw (back (fits)) at c.if-z-lt0.false in
    (range_refused _ c.args.at _ _ _ c.number_near.ensures.0 c.in_ok-z.was (high_below _ (fits) (natural) _ c.if-high-low.true), tt, c.number_near.ensures.2)

pub returns : goal.returns
returns c =
    let within : ((mag c.in_ok-z.z.value < range_end) × (c.in_ok-z.z.used ≤ length c.args.model.now - (c.args.at + 1))) = value_within _ c.in_ok-z.was c.number_near.ensures.1 in
    let fits : SFits w64 c.in_ok-z.z.value = range_fits (within).0 in
    let natural : (lt_z c.in_ok-z.z.value (pos 0) ≡ false) = rw (back (fits)) at c.if-z-lt0.false in
    (range_says _ c.args.at _ _ _ c.number_near.ensures.0 c.in_ok-z.was (high_is _ (fits) (natural) _ c.if-high-low.false), omega (arith, (within).1, c.requires.1), c.number_near.ensures.2)

pub returns-in_err-z : goal.returns-in_err-z
returns-in_err-z c =
    let p = err_from_is_err_and c.from_residual.result c.from_residual.ensures.1 in
    rw (p.1, p.2) (range_trouble _ c.args.at _ _ _ c.number_near.ensures.0 c.in_err-z.was, tt, c.number_near.ensures.2)
