-- `eval_numbers::number` meets its contract.
use Rattle.eval_sets.specs.Runs.{environment}
use Rattle.eval_sets.proofs.Promises.{number_kept}
use Rattle.eval_numbers.proofs.number.Goals as goal

pub returns-clause-promise : goal.returns-clause-promise
returns-clause-promise c = (number_kept c.args.depth (environment c.args.model.now c.args.state.now c.args.outline.now) c.args.e.now c.number_from.ensures).1
