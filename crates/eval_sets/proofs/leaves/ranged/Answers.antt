-- `eval_sets::leaves::ranged` meets its contract.
use mathlib.Core.Path.{sym, ◌∙◌}
use Rattle.model.specs.Values.{in_range}
use Rattle.eval_sets.specs.Answers.{number_answer}
use Rattle.eval_sets.specs.Troubles.{named}
use Rattle.words.proofs.Integers.{back}
use Rattle.eval_sets.proofs.leaves.ranged.Goals as goal

pub returns-then-in_range : goal.returns-then-in_range
unfolding number_answer named in_range
returns-then-in_range c =
    let q = rw (back c.ranges.z) at (sym c.in_range.ensures ∙ c.if-in_range.true) in rw (back c.ranges.z, q)

pub returns : goal.returns
unfolding number_answer named in_range
returns c =
    let q = rw (back c.ranges.z) at (sym c.in_range.ensures ∙ c.if-in_range.false) in rw q
