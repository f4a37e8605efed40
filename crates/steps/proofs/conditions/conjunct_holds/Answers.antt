-- `steps::conditions::conjunct_holds` meets its contract.
use Prim.Native.Nat.{◌+◌, ◌*◌}
use mathlib.Core.Path.{◌≡◌, sym, ◌∙◌}
use mathlib.Core.Bool.{true}
use Rattle.prepare.specs.Layout.{conjuncts_from}
use Rattle.prepare.specs.Guards.{passes, guard_in}
use Rattle.steps.proofs.Trials.{conjunct_inside, conjunct_passed_over, conjunct_tried}
use Rattle.steps.proofs.conditions.conjunct_holds.Goals as goal

pub condition_holds-requires : goal.condition_holds-requires
condition_holds-requires c =
    (c.requires.0, conjunct_inside c.requires.0 c.requires.1 c.word_at-at.ensures)

pub returns-then-passes : goal.returns-then-passes
returns-then-passes c =
    let passed : (let a = c.args in true ≡ passes (guard_in a.outline.now (conjuncts_from + 4 * a.k)) a.state.now) = sym c.if-passes.true ∙ c.passes.ensures in
    conjunct_tried _ _ _ _ (passed) c.word_at-at.ensures _ c.condition_holds.ensures

pub returns : goal.returns
returns c =
    conjunct_passed_over _ _ _ _ (sym c.if-passes.false ∙ c.passes.ensures)
