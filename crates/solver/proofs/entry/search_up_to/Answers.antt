-- `solver::entry::search_up_to` meets its contract: the tests in their order, then what follows them at the built-in widths up to W.
use Prim.Native.Nat.{◌≤◌}
use mathlib.Core.Path.{◌≡◌, refl, sym, ◌∙◌}
use mathlib.Core.Bool.{true}
use native.Mathlib.Omega.{arith}
use lib.ListN.{length}
use Rattle.search.specs.Run.{up_to, plain, form_fits}
use Rattle.search.proofs.Settings.{given_within}
use Rattle.search.proofs.Source.{run_too_long, run_bad_setting}
use Rattle.solver.specs.Searches.{settings, lent}
use Rattle.solver.proofs.Entering.{bad_length, refused_says, no_width, front_rises, built_in_says}
use Rattle.solver.proofs.entry.search_up_to.Goals as goal

pub returns-then-most-model : goal.returns-then-most-model
returns-then-most-model c =
    let a = c.args in
    refused_says a.most a.model.now a.plan.now a.words.now (settings a.width a.limit a.budget) 1 _
    (run_too_long a.most a.model.now (settings a.width a.limit a.budget) (lent a.plan.now a.words.now) c.if-most-model.true) c.refusal.ensures

pub search_set-requires : goal.search_set-requires
search_set-requires c =
    let few : length c.args.model.now ≤ c.args.most = omega arith in
    let fits : form_fits (plain c.args.limit) ≡ true = sym c.is_length.ensures ∙ c.if-is_length.true in
    let a = c.args in
    record {
      few_bytes = omega (arith, few, c.requires);
      rises = front_rises a.most a.model.now a.plan.now a.words.now a.width a.budget _ (plain a.limit) (few) (fits) c.built_in-count.ensures c.if-count-gt0.true _ refl;
      few_steps = (given_within a.limit (fits)).1;
    }

pub returns-then-count-gt0 : goal.returns-then-count-gt0
returns-then-count-gt0 c =
    let few : length c.args.model.now ≤ c.args.most = omega arith in
    let fits : form_fits (plain c.args.limit) ≡ true = sym c.is_length.ensures ∙ c.if-is_length.true in
    let a = c.args in
    built_in_says a.most a.model.now a.plan.now a.words.now a.width a.budget _ (plain a.limit) (few) (fits) c.built_in-count.ensures c.if-count-gt0.true _ refl _ _ _ c.search_set.ensures

pub returns-then-is_length : goal.returns-then-is_length
returns-then-is_length c =
    let few : length c.args.model.now ≤ c.args.most = omega arith in
    let fits : form_fits (plain c.args.limit) ≡ true = sym c.is_length.ensures ∙ c.if-is_length.true in
    let a = c.args in
    refused_says a.most a.model.now a.plan.now a.words.now (settings a.width a.limit a.budget) 2 _
    (no_width a.most a.model.now a.plan.now a.words.now a.width a.budget _ (plain a.limit) (few) (fits) c.built_in-count.ensures c.if-count-gt0.false) c.refusal-then-is_length.ensures

pub returns : goal.returns
returns c =
    let a = c.args in
    refused_says a.most a.model.now a.plan.now a.words.now (settings a.width a.limit a.budget) 2 _
    (run_bad_setting a.most a.model.now (settings a.width a.limit a.budget) (lent a.plan.now a.words.now) c.if-most-model.false
    (bad_length (up_to a.width) (plain a.limit) a.budget (sym c.is_length.ensures ∙ c.if-is_length.false)))
    c.refusal-2.ensures
