-- `eval_tests::test` meets its contract.
use Rattle.std.proofs.Common.{◌∙◌, ap}
use Rattle.eval_sets.specs.Runs.{environment}
use Rattle.eval_tests.specs.Stopped.{stopped}
use Rattle.eval_tests.proofs.Stopping.{test_kept}
use Rattle.eval_tests.proofs.test.Goals as goal

pub returns-then-e-eq88-clause-promise : goal.returns-then-e-eq88-clause-promise
returns-then-e-eq88-clause-promise c = (test_kept c.args.depth (environment c.args.model.now c.args.state.now c.args.outline.now) c.args.e.now c.test_from.ensures).1

pub returns-clause-promise : goal.returns-clause-promise
returns-clause-promise c =
    (test_kept c.args.depth (environment c.args.model.now c.args.state.now c.args.outline.now) c.args.e.now (c.stop.ensures ∙ ap stopped c.condition_from.ensures)).1
