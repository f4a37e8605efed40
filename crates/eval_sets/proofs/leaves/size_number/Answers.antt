-- `eval_sets::leaves::size_number` meets its contract.
use native.Mathlib.Omega.{arith}
use mir.Facts.{to_z_pos}
use mir.Syntax.{w64}
use Rattle.eval_sets.specs.Runs.{size_number}
use Rattle.eval_sets.proofs.leaves.size_number.Goals as goal

pub returns : goal.returns
unfolding size_number
returns c =
    let q = to_z_pos w64 {n = c.count.result} (omega (arith, c.count.ensures.1)) in
    rw (← c.set_near-x.ensures) (rw (q, c.count.ensures.0) at c.ranged.ensures)
