-- `solver::lists::load_widths` meets its contract: the tests in their order, then what follows them at the widths of the list.
use mathlib.Core.Path.{refl, sym, ◌∙◌}
use Rattle.search.specs.Run.{loading}
use Rattle.search.proofs.Source.{run_too_long}
use Rattle.solver.specs.Searches.{list_loading_settings, lent}
use Rattle.solver.proofs.Entering.{refused_says, list_refused, list_says}
use Rattle.solver.proofs.lists.load_widths.Goals as goal

pub returns-then-model-gt65536 : goal.returns-then-model-gt65536
returns-then-model-gt65536 c =
    let a = c.args in
    refused_says 65536 a.model.now a.plan.now a.words.now (list_loading_settings a.widths.now a.budget) 1 _
    (run_too_long 65536 a.model.now (list_loading_settings a.widths.now a.budget) (lent a.plan.now a.words.now) c.if-model-gt65536.true) c.refusal.ensures

pub returns-then-rises : goal.returns-then-rises
returns-then-rises c =
    let a = c.args in
    list_says 65536 a.model.now a.plan.now a.words.now a.widths.now loading a.budget c.if-model-gt65536.false refl (sym c.rises.ensures ∙ c.if-rises.true) _ _ _ c.load_set.ensures

pub returns : goal.returns
returns c =
    let a = c.args in
    refused_says 65536 a.model.now a.plan.now a.words.now (list_loading_settings a.widths.now a.budget) 16 _
    (list_refused 65536 a.model.now a.plan.now a.words.now a.widths.now loading a.budget c.if-model-gt65536.false refl (sym c.rises.ensures ∙ c.if-rises.false)) c.refusal-2.ensures
