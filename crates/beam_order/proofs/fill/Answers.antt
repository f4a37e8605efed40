-- `beam_order::fill` meets its contract. The invariant: the first i places hold 0 to i - 1.
use mathlib.Core.Path.{◌≡◌, refl}
use native.Mathlib.Omega.{arith}
use lib.ListN.{length, length-set}
use Rattle.beam_order.proofs.Arrays.{fill_start, fill_more}
use Rattle.beam_order.proofs.fill.Goals as goal

pub loop-i-init : goal.loop-i-init
loop-i-init c =
    (omega arith, (refl, fill_start c.args.order.now))

pub loop-i-preserved : goal.loop-i-preserved
loop-i-preserved c =
    let l = c.loop-i in
    let e : length l.order ≡ length c.args.order.now = l.invariant.1.0 in
    (simp length-set (omega arith), (simp length-set l.invariant.1.0, fill_more l.order l.i (omega arith) l.invariant.1.1))
