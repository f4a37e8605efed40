-- `steps::moves::costs_at` meets its contract.
use Prim.Native.Nat.{◌+◌, ◌-◌, ◌≤◌, ◌<◌}
use mathlib.Core.Path.{◌≡◌, sym, ◌∙◌}
use mathlib.Core.Bool.{false}
use native.Mathlib.Omega.{arith}
use lib.ListN.{length, get_or}
use lib.IntN.{pos, nat_abs}
use lib.Signed.{mag, lt_z}
use mir.Syntax.{w64}
use mir.Val.{SFits, to_z, of_z}
use Rattle.model.specs.Numbers.{range_end}
use Rattle.model.specs.Values.{value}
use Rattle.model.specs.Steps.{cost_of}
use Rattle.std.proofs.lemmas.Result.{err_from_is_err_and}
use Rattle.words.proofs.Integers.{back}
use Rattle.eval_sets.specs.Troubles.{named}
use Rattle.steps.proofs.Costing.{cost_within, costs_say, costs_refused, costs_trouble, costs_range, costs_range_trouble}
use Rattle.steps.proofs.Trials.{value_within}
use Rattle.steps.proofs.Signs.{range_fits, cost_is, cost_negative}
use Rattle.steps.proofs.moves.costs_at.Goals as goal

pub returns-then-z-lt0 : goal.returns-then-z-lt0
unfolding named
returns-then-z-lt0 c =
    let within : ((mag c.in_ok-z.z.value < range_end) × (c.in_ok-z.z.used ≤ length c.args.model.now - (c.args.at + 1))) = value_within _ c.in_ok-z.was c.cost_number.ensures.1 in
    let fits : SFits w64 c.in_ok-z.z.value = range_fits (within).0 in
    (costs_refused _ c.args.at _ _ c.cost_number.ensures.0 c.in_ok-z.was (cost_negative _ (rw (back (fits)) at c.if-z-lt0.true)), tt, c.cost_number.ensures.2)

pub returns-then-byte_at-eq16 : goal.returns-then-byte_at-eq16
returns-then-byte_at-eq16 c =
    let within : ((mag c.in_ok-z.z.value < range_end) × (c.in_ok-z.z.used ≤ length c.args.model.now - (c.args.at + 1))) = value_within _ c.in_ok-z.was c.cost_number.ensures.1 in
    let fits : SFits w64 c.in_ok-z.z.value = range_fits (within).0 in
    let natural : (lt_z c.in_ok-z.z.value (pos 0) ≡ false) = rw (back (fits)) at c.if-z-lt0.false in
    let low : (cost_of c.in_ok-z.z.value ≡ value (nat_abs (to_z w64 (of_z w64 c.in_ok-z.z.value)))) = cost_is _ (fits) (natural) in
    let written : (get_or c.args.model.now (c.args.at + 1 + c.in_ok-z.z.used) 0 ≡ 0x10) = sym c.byte_at.ensures ∙ c.if-byte_at-eq16.true in
    let high_within : (c.in_ok-ranged.ranged.used ≤ length c.args.model.now - (c.args.at + 1 + c.in_ok-z.z.used)) = cost_within _ c.in_ok-ranged.was c.range_at.ensures.1 in
    let says = costs_range _ c.args.at _ _ c.cost_number.ensures.0 c.in_ok-z.was (low) (written) _ c.range_at.ensures.0 c.in_ok-ranged.was in
    (says, omega (arith, (within).1, high_within, c.requires.1), c.range_at.ensures.2)

pub returns-in_err-ranged : goal.returns-in_err-ranged
returns-in_err-ranged c =
    let within : ((mag c.in_ok-z.z.value < range_end) × (c.in_ok-z.z.used ≤ length c.args.model.now - (c.args.at + 1))) = value_within _ c.in_ok-z.was c.cost_number.ensures.1 in
    let fits : SFits w64 c.in_ok-z.z.value = range_fits (within).0 in
    let natural : (lt_z c.in_ok-z.z.value (pos 0) ≡ false) = rw (back (fits)) at c.if-z-lt0.false in
    let low : (cost_of c.in_ok-z.z.value ≡ value (nat_abs (to_z w64 (of_z w64 c.in_ok-z.z.value)))) = cost_is _ (fits) (natural) in
    let written : (get_or c.args.model.now (c.args.at + 1 + c.in_ok-z.z.used) 0 ≡ 0x10) = sym c.byte_at.ensures ∙ c.if-byte_at-eq16.true in
    let p = err_from_is_err_and c.from_residual-in_err-ranged.result c.from_residual-in_err-ranged.ensures.1 in
    rw (p.1, p.2) (costs_range_trouble _ c.args.at _ _ c.cost_number.ensures.0 c.in_ok-z.was (low) (written) _ c.range_at.ensures.0 c.in_err-ranged.was, tt, c.range_at.ensures.2)

pub returns : goal.returns
returns c =
    let within : ((mag c.in_ok-z.z.value < range_end) × (c.in_ok-z.z.used ≤ length c.args.model.now - (c.args.at + 1))) = value_within _ c.in_ok-z.was c.cost_number.ensures.1 in
    let fits : SFits w64 c.in_ok-z.z.value = range_fits (within).0 in
    let natural : (lt_z c.in_ok-z.z.value (pos 0) ≡ false) = rw (back (fits)) at c.if-z-lt0.false in
    let low : (cost_of c.in_ok-z.z.value ≡ value (nat_abs (to_z w64 (of_z w64 c.in_ok-z.z.value)))) = cost_is _ (fits) (natural) in
    rw c.fixed-cost.ensures
    (costs_say _ c.args.at _ _ c.cost_number.ensures.0 c.in_ok-z.was (low) (λ e. c.if-byte_at-eq16.false (c.byte_at.ensures ∙ e)), omega (arith, (within).1, c.requires.1), c.cost_number.ensures.2)

pub returns-in_err-z : goal.returns-in_err-z
returns-in_err-z c =
    let p = err_from_is_err_and c.from_residual.result c.from_residual.ensures.1 in
    rw (p.1, p.2) (costs_trouble _ c.args.at _ _ c.cost_number.ensures.0 c.in_err-z.was, tt, c.cost_number.ensures.2)
