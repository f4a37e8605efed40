-- `solver::load::load_set` meets its contract: the reading, the profile, what is lent, then the search. Each test's fact stands at its place.
use Prim.Native.Nat.{◌≤◌}
use mathlib.Core.Path.{◌≡◌, refl, sym, ◌∙◌}
use mathlib.Core.Bool.{true}
use native.Mathlib.Omega.{arith}
use lib.ListN.{length}
use borrow.Author.Rules.{rules}
use Rattle.model.specs.Profile.{in_profile}
use Rattle.outline.specs.Outline.{model_of}
use Rattle.search.specs.Run.{listed, loading, widest_of, lent_fits}
use Rattle.search.proofs.Settings.{last_fits, some_entries}
use Rattle.search.proofs.Source.{set_unread, set_outside}
use Rattle.steps.specs.InBytes.{refusal_in}
use Rattle.steps.proofs.Promises.{ready, refused_in_lem}
use Rattle.read_model.proofs.Refusals.{number_positive}
use Rattle.solver.specs.Searches.{list_loading_settings, lent}
use Rattle.solver.proofs.Entering.{reads_in, lent_at, room_lent, few_steps, set_refused, set_unlent, set_says_lem}
use Rattle.solver.proofs.load.load_set.Goals as goal

pub widest-requires : goal.widest-requires
widest-requires c =
    some_entries c.args.widths.now c.requires.1

pub lent_fits-requires : goal.lent_fits-requires
lent_fits-requires c =
    let read : 0 ≡ refusal_in c.args.model.now = c.in_default.ensures.number in
    let inside : in_profile (model_of c.args.model.now) ≡ true = sym c.in_profile.ensures ∙ c.if-in_profile.true in
    let few : c.loading_length-limit.result ≤ 256 = let a = c.args in
    few_steps a.model.now a.plan.now a.words.now a.widths.now loading a.budget (read) (inside) _ c.loading_length-limit.ensures refl in
    (omega (arith, c.widest.ensures, (last_fits c.args.widths.now c.requires.1).1), few)

pub search_model-requires : goal.search_model-requires
search_model-requires c =
    let read : 0 ≡ refusal_in c.args.model.now = c.in_default.ensures.number in
    let inside : in_profile (model_of c.args.model.now) ≡ true = sym c.in_profile.ensures ∙ c.if-in_profile.true in
    let few : c.loading_length-limit.result ≤ 256 = let a = c.args in
    few_steps a.model.now a.plan.now a.words.now a.widths.now loading a.budget (read) (inside) _ c.loading_length-limit.ensures refl in
    let enough : let a = c.args in lent_fits (widest_of (listed a.widths.now)) c.loading_length-limit.result (lent a.plan.now a.words.now) ≡ true = let a = c.args in
    lent_at _ _ c.loading_length-limit.result (length a.plan.now) (length a.words.now) c.widest.ensures c.lent_fits.ensures c.if-lent_fits.true in
    record {
      outlined = ready (c.in_default.ensures.ready);
      room = room_lent c.args.widths.now c.args.plan.now c.args.words.now c.loading_length-limit.result c.requires.1 (few) (enough);
      rises = c.requires.1;
      small_budget = search rules;
    }

pub returns-then-lent_fits : goal.returns-then-lent_fits
returns-then-lent_fits c =
    let read : 0 ≡ refusal_in c.args.model.now = c.in_default.ensures.number in
    let inside : in_profile (model_of c.args.model.now) ≡ true = sym c.in_profile.ensures ∙ c.if-in_profile.true in
    let enough : let a = c.args in lent_fits (widest_of (listed a.widths.now)) c.loading_length-limit.result (lent a.plan.now a.words.now) ≡ true = let a = c.args in
    lent_at _ _ c.loading_length-limit.result (length a.plan.now) (length a.words.now) c.widest.ensures c.lent_fits.ensures c.if-lent_fits.true in
    let a = c.args in
    set_says_lem a.model.now a.plan.now a.words.now a.widths.now loading a.budget (read) (inside) _ c.loading_length-limit.ensures (enough) _ _ _ c.search_model.ensures

pub returns-then-in_profile : goal.returns-then-in_profile
returns-then-in_profile c =
    let read : 0 ≡ refusal_in c.args.model.now = c.in_default.ensures.number in
    let inside : in_profile (model_of c.args.model.now) ≡ true = sym c.in_profile.ensures ∙ c.if-in_profile.true in
    let a = c.args in
    set_refused a.model.now a.plan.now a.words.now a.widths.now loading a.budget 3 _
    (set_unlent a.model.now a.plan.now a.words.now a.widths.now loading a.budget (read) (inside) _ c.loading_length-limit.ensures
    (lent_at _ _ c.loading_length-limit.result (length a.plan.now) (length a.words.now) c.widest.ensures c.lent_fits.ensures c.if-lent_fits.false) refl)
    c.refusal-then-in_profile.ensures

pub returns : goal.returns
returns c =
    let read : 0 ≡ refusal_in c.args.model.now = c.in_default.ensures.number in
    let a = c.args in
    set_refused a.model.now a.plan.now a.words.now a.widths.now loading a.budget 15 _
    (set_outside a.model.now (list_loading_settings a.widths.now a.budget) (lent a.plan.now a.words.now) refl (reads_in a.model.now (read)).1 (sym c.in_profile.ensures ∙ c.if-in_profile.false))
    c.refusal-2.ensures

pub returns-in-Err : goal.returns-in-Err
returns-in-Err c =
    let a = c.args in
    set_refused a.model.now a.plan.now a.words.now a.widths.now loading a.budget _ _
    (set_unread a.model.now (list_loading_settings a.widths.now a.budget) (lent a.plan.now a.words.now) refl
    (refused_in_lem a.model.now _ (c.number.ensures.number ∙ c.in-Err.ensures.number) (omega (arith, c.number.ensures.number, number_positive c.in-Err.refused))))
    c.refusal.ensures
