-- `search_paths::current::start_round` meets its contract.
use Rattle.search_paths.proofs.Gathering.{round_started}
use Rattle.search_paths.proofs.current.start_round.Goals as goal

pub returns : goal.returns
returns c =
    round_started c.args.root.now c.args.words.now c.copy_from_slice.new.self c.empty.new.layer c.args.w c.requires c.copy_from_slice.ensures.after
    c.empty.auto.layer c.empty.ensures
