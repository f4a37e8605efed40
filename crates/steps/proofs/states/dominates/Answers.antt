-- `steps::states::dominates` meets its contract. The invariant: the variables passed are no worse.
use Rattle.steps.proofs.Dominance.{comparing_first, comparing_more, comparing_fails, comparing_last}
use native.Mathlib.Omega.{arith}
use mathlib.Core.Path.{sym, ◌∙◌}
use Prim.Native.Nat.{◌<◌}
use lib.ListN.{length}
use Rattle.outline.specs.Outline.{model_of}
use Rattle.steps.proofs.states.dominates.Goals as goal

pub loop-v-init : goal.loop-v-init
loop-v-init c =
    comparing_first _ _ c.requires _ _

pub loop-v-preserved : goal.loop-v-preserved
loop-v-preserved c =
    let declared : c.loop-v.v < length (model_of c.args.model.now).variables = omega (arith, c.loop-v-test.true, c.word_at-count.ensures, c.requires.outlines.variable_count) in
    comparing_more _ _ c.requires _ _ _ (declared) (sym c.if-not-no_worse_at.false ∙ c.no_worse_at.ensures) c.loop-v.invariant

pub returns-then-not-no_worse_at : goal.returns-then-not-no_worse_at
returns-then-not-no_worse_at c =
    let declared : c.loop-v.v < length (model_of c.args.model.now).variables = omega (arith, c.loop-v-test.true, c.word_at-count.ensures, c.requires.outlines.variable_count) in
    comparing_fails _ _ c.requires _ _ _ (declared) (sym c.if-not-no_worse_at.true ∙ c.no_worse_at.ensures) c.loop-v.invariant

pub returns : goal.returns
returns c =
    comparing_last _ _ c.requires _ _ c.loop-v.v (omega (arith, c.loop-v-test.false, c.word_at-count.ensures, c.requires.outlines.variable_count)) c.loop-v.invariant
