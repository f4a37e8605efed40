-- `eval_sets::leaves::agree` meets its contract.
use Rattle.eval_sets.proofs.Integers.{agree_true, agree_false}
use Rattle.eval_sets.proofs.leaves.agree.Goals as goal

pub returns-then-a : goal.returns-then-a
returns-then-a c =
    agree_true c.args.a c.args.b c.if-a.true

pub returns : goal.returns
returns c =
    agree_false c.args.a c.args.b c.if-a.false
