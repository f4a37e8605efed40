-- `eval_sets::sets::set` meets its contract.
use Rattle.eval_sets.proofs.Promises.{set_kept}
use Rattle.eval_sets.proofs.sets.set.Goals as goal

pub returns : goal.returns
returns c =
    let whole = set_kept c.args.depth c.args.state.now c.args.outline.now c.args.e.now c.set_from.ensures in record { run = whole.0; promise = whole.1 }
