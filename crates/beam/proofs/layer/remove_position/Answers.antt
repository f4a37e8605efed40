-- `beam::layer::remove_position` meets its contract.
use native.Mathlib.Omega.{arith}
use Rattle.beam.proofs.Moves.{slot_at, removed_in}
use Rattle.beam.proofs.layer.remove_position.Goals as goal

pub remove-requires : goal.remove-requires
remove-requires c =
    let held = c.requires.held in
    (omega (arith, held.parts.links_long, c.requires.is_in_range), (slot_at held c.args.p (omega (arith, held.parts.few, c.requires.place)), held.parts.falling))

pub returns : goal.returns
returns c =
    removed_in c.requires.held c.requires.place c.requires.own_bucket c.remove.auto.links c.remove.ensures c.remove_at.auto.order c.remove_at.ensures
