-- `beam_index::remove` meets its contract.
use Rattle.beam_index.proofs.Linked.{removed}
use Rattle.beam_index.proofs.remove.Goals as goal

pub returns : goal.returns
returns c =
    removed c.args.links.now c.args.w c.args.b c.args.x c.low_link-at.result c.requires.0
    c.requires.1.0 c.low_link-at.ensures c.requires.1.1
