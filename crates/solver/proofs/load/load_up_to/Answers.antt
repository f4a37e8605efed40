-- `solver::load::load_up_to` meets its contract: the tests in their order, then what follows them at the built-in widths up to W.
use mathlib.Core.Path.{refl}
use native.Mathlib.Omega.{arith}
use Rattle.search.specs.Run.{loading}
use Rattle.search.proofs.Source.{run_too_long}
use Rattle.solver.specs.Searches.{loading_settings, lent}
use Rattle.solver.proofs.Entering.{refused_says, no_width, front_rises, built_in_says}
use Rattle.solver.proofs.load.load_up_to.Goals as goal

pub returns-then-most-model : goal.returns-then-most-model
returns-then-most-model c =
    let a = c.args in
    refused_says a.most a.model.now a.plan.now a.words.now (loading_settings a.width a.budget) 1 _
    (run_too_long a.most a.model.now (loading_settings a.width a.budget) (lent a.plan.now a.words.now) c.if-most-model.true) c.refusal.ensures

pub load_set-requires : goal.load_set-requires
load_set-requires c =
    let a = c.args in (
      omega (arith, c.if-most-model.false, c.requires),
      front_rises a.most a.model.now a.plan.now a.words.now a.width a.budget _ loading c.if-most-model.false refl c.built_in-count.ensures c.if-count-gt0.true _ refl,
    )

pub returns-then-count-gt0 : goal.returns-then-count-gt0
returns-then-count-gt0 c =
    let a = c.args in
    built_in_says a.most a.model.now a.plan.now a.words.now a.width a.budget _ loading c.if-most-model.false refl c.built_in-count.ensures c.if-count-gt0.true _ refl _ _ _ c.load_set.ensures

pub returns : goal.returns
returns c =
    let a = c.args in
    refused_says a.most a.model.now a.plan.now a.words.now (loading_settings a.width a.budget) 2 _
    (no_width a.most a.model.now a.plan.now a.words.now a.width a.budget _ loading c.if-most-model.false refl c.built_in-count.ensures c.if-count-gt0.false) c.refusal-2.ensures
