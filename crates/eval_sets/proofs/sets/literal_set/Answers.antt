-- `eval_sets::sets::literal_set` meets its contract.
use mathlib.Core.Path.{sym}
use native.Mathlib.Omega.{arith}
use lib.ListN.{length}
use borrow.Author.Tests.{lt-ltb}
use Rattle.eval_sets.specs.Runs.{literal_set}
use Rattle.eval_sets.proofs.Opening.{literal_is}
use Rattle.words.proofs.Literal.{suffix}
use Rattle.eval_sets.proofs.sets.literal_set.Goals as goal

pub returns-then-e-lt9 : goal.returns-then-e-lt9
unfolding literal_set
returns-then-e-lt9 c =
    rw (lt-ltb (length c.args.e.now) 9 c.if-e-lt9.true) c.no_set.ensures

pub returns : goal.returns
returns c =
    rw c.wide.ensures.0
    (sym (literal_is c.args.e.now c.long.result (omega arith) (rw suffix at c.long.ensures)))
