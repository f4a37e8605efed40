-- `search_paths::current::take_node` meets its contract.
use Rattle.search_paths.proofs.Gathering.{node_written}
use Rattle.search_paths.proofs.current.take_node.Goals as goal

pub returns : goal.returns
returns c =
    node_written c.args.words.now c.copy_node.new.node c.copy_from_slice.new.self c.args.w c.args.k c.args.i
    c.requires.place c.requires.slot c.requires.room c.copy_node.ensures c.copy_from_slice.ensures.after
