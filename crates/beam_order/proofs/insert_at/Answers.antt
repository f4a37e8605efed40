-- `beam_order::insert_at` meets its contract. The invariant: putting x in at p, with j for n, comes to the same.
use mathlib.Core.Path.{◌∙◌}
use native.Mathlib.Omega.{arith}
use lib.ListN.{length-set}
use Rattle.beam_order.proofs.Shifts.{insert_more, insert_end}
use Rattle.beam_order.proofs.insert_at.Goals as goal

pub loop-j-preserved : goal.loop-j-preserved
loop-j-preserved c =
    let turn = c.loop-j in (
      omega arith,
      (
        omega arith,
        (
          simp length-set turn.invariant.1.1.0,
          insert_more turn.order turn.j c.args.p c.args.x (omega arith) (omega arith) ∙ turn.invariant.1.1.1,
        ),
      ),
    )

pub returns : goal.returns
returns c =
    let turn = c.loop-j in
    insert_end turn.order turn.j c.args.p c.args.x (omega arith) (omega arith) ∙ turn.invariant.1.1.1
