-- `solver::lists::search_widths` meets its contract: the tests in their order, then what follows them at the widths of the list.
use Prim.Native.Nat.{◌≤◌}
use mathlib.Core.Path.{◌≡◌, sym, ◌∙◌}
use mathlib.Core.Bool.{true}
use lib.ListN.{length}
use Rattle.search.specs.Run.{listed, plain, form_fits}
use Rattle.search.proofs.Source.{run_too_long, run_bad_setting}
use Rattle.solver.specs.Searches.{list_settings, lent}
use Rattle.solver.proofs.Entering.{bad_length, refused_says, list_refused, list_says}
use Rattle.solver.proofs.lists.search_widths.Goals as goal

pub returns-then-model-gt65536 : goal.returns-then-model-gt65536
returns-then-model-gt65536 c =
    let a = c.args in
    refused_says 65536 a.model.now a.plan.now a.words.now (list_settings a.widths.now a.limit a.budget) 1 _
    (run_too_long 65536 a.model.now (list_settings a.widths.now a.limit a.budget) (lent a.plan.now a.words.now) c.if-model-gt65536.true) c.refusal.ensures

pub returns-then-rises : goal.returns-then-rises
returns-then-rises c =
    let few : length c.args.model.now ≤ 65536 = c.if-model-gt65536.false in
    let fits : form_fits (plain c.args.limit) ≡ true = sym c.is_length.ensures ∙ c.if-is_length.true in
    let a = c.args in
    list_says 65536 a.model.now a.plan.now a.words.now a.widths.now (plain a.limit) a.budget (few) (fits) (sym c.rises.ensures ∙ c.if-rises.true) _ _ _ c.search_set.ensures

pub returns-then-is_length : goal.returns-then-is_length
returns-then-is_length c =
    let few : length c.args.model.now ≤ 65536 = c.if-model-gt65536.false in
    let fits : form_fits (plain c.args.limit) ≡ true = sym c.is_length.ensures ∙ c.if-is_length.true in
    let a = c.args in
    refused_says 65536 a.model.now a.plan.now a.words.now (list_settings a.widths.now a.limit a.budget) 16 _
    (list_refused 65536 a.model.now a.plan.now a.words.now a.widths.now (plain a.limit) a.budget (few) (fits) (sym c.rises.ensures ∙ c.if-rises.false)) c.refusal-then-is_length.ensures

pub returns : goal.returns
returns c =
    let a = c.args in
    refused_says 65536 a.model.now a.plan.now a.words.now (list_settings a.widths.now a.limit a.budget) 2 _
    (run_bad_setting 65536 a.model.now (list_settings a.widths.now a.limit a.budget) (lent a.plan.now a.words.now) c.if-model-gt65536.false
    (bad_length (listed a.widths.now) (plain a.limit) a.budget (sym c.is_length.ensures ∙ c.if-is_length.false)))
    c.refusal-2.ensures
