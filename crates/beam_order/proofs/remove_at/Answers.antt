-- `beam_order::remove_at` meets its contract. The invariant: what is left to shift comes to the same.
use mathlib.Core.Path.{refl, ◌∙◌}
use native.Mathlib.Omega.{arith}
use lib.ListN.{length-set}
use Rattle.beam_order.proofs.Shifts.{remove_start, remove_more, remove_end}
use Rattle.beam_order.proofs.remove_at.Goals as goal

pub loop-j-init : goal.loop-j-init
loop-j-init c =
    (omega arith, (omega arith, (refl, remove_start c.args.order.now c.args.n c.args.p c.requires.0)))

pub loop-j-preserved : goal.loop-j-preserved
loop-j-preserved c =
    let turn = c.loop-j in (
      omega arith,
      (
        omega arith,
        (
          simp length-set turn.invariant.1.1.0,
          remove_more turn.order c.args.n turn.j _ turn.invariant.0 (omega arith) (omega arith)
              ∙ turn.invariant.1.1.1,
        ),
      ),
    )

pub returns : goal.returns
returns c =
    let turn = c.loop-j in
    remove_end turn.order c.args.n turn.j _ (omega arith) (omega arith) (omega arith) ∙ turn.invariant.1.1.1
