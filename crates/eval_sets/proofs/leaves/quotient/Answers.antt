-- `eval_sets::leaves::quotient` meets its contract.
use native.Mathlib.Omega.{arith}
use mir.Val.{SFits}
use mir.Syntax.{w64}
use Rattle.model.specs.Values.{◌>>=◌ as ◌and_then◌, floor_quotient}
use Rattle.eval_sets.specs.Answers.{number_answer}
use Rattle.eval_sets.specs.Troubles.{named}
use Rattle.words.proofs.Integers.{back}
use Rattle.eval_sets.proofs.Integers.{zero_bits}
use Rattle.eval_sets.proofs.leaves.quotient.Goals as goal

pub returns-then-b-eq0 : goal.returns-then-b-eq0
unfolding number_answer named floor_quotient ◌and_then◌
returns-then-b-eq0 c =
    rw (zero_bits c.args.b c.ranges.b c.if-b-eq0.true)

pub returns : goal.returns
unfolding ◌and_then◌
returns c =
    let f : SFits w64 c.floor_quotient.result = record { sfits = omega (arith, c.floor_quotient.ensures.1) } in
    let q = rw (back f) at c.ranged.ensures in
    let v = rw (back c.ranges.a, back c.ranges.b) at c.floor_quotient.ensures.0 in
    rw (q, v)
