-- `beam::layer::empty` meets its contract.
use Rattle.beam.proofs.Moves.{emptied_in}
use Rattle.beam.proofs.layer.empty.Goals as goal

pub returns : goal.returns
returns c =
    emptied_in c.args.w c.args.layer.now c.fill.new.order c.clear.new.links c.requires.0 c.requires.1.0 c.requires.1.1
    c.fill.auto.order c.fill.ensures c.clear.auto.links c.clear.ensures
