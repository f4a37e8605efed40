-- `beam::layer::keep_below` meets its contract. The invariant: from place i on no f is below the best.
use Prim.Native.Nat.{◌+◌, ◌-◌}
use mathlib.Core.Path.{◌≡◌, sym, ap, ◌∙◌}
use mathlib.Core.Bool.{true, not}
use native.Mathlib.Omega.{arith}
use borrow.Author.Tests.{not-true}
use Rattle.model.specs.Costs.{at_most}
use Rattle.beam.proofs.Moves.{below_at, below_none}
use Rattle.beam.proofs.layer.keep_below.Goals as goal

pub returns-then-less : goal.returns-then-less
returns-then-less c =
    let best = c.args.best in
    let less : not (at_most best c.f_in-f.result) ≡ true = cc in
    let same : c.loop-i.i - 1 + 1 ≡ c.loop-i.i = omega arith in
    rw same (below_at c.requires c.loop-i.i best (omega arith) c.loop-i.invariant.0 (ap (at_most best) (sym c.f_in-f.ensures) ∙ not-true _ less) c.loop-i.invariant.1)

pub returns : goal.returns
returns c =
    below_none c.requires c.args.best (λ i x l. c.loop-i.invariant.1 i (omega arith) l)
