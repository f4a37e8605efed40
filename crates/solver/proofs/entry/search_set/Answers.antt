-- `solver::entry::search_set` meets its contract: what is lent, the reading, then the search. Each test's fact stands at its place.
use mathlib.Core.Path.{◌≡◌, refl, ◌∙◌}
use mathlib.Core.Bool.{true}
use native.Mathlib.Omega.{arith}
use lib.ListN.{length}
use borrow.Author.Rules.{rules}
use Rattle.search.specs.Run.{listed, plain, widest_of, lent_fits}
use Rattle.search.proofs.Settings.{last_fits, some_entries}
use Rattle.search.proofs.Source.{set_little_lent, set_unread}
use Rattle.steps.specs.InBytes.{refusal_in}
use Rattle.steps.proofs.Promises.{ready, refused_in_lem}
use Rattle.read_model.proofs.Refusals.{number_positive}
use Rattle.solver.specs.Searches.{list_settings, lent}
use Rattle.solver.proofs.Entering.{lent_at, room_lent, set_refused, set_says_lem}
use Rattle.solver.proofs.entry.search_set.Goals as goal

pub widest-requires : goal.widest-requires
widest-requires c =
    some_entries c.args.widths.now c.requires.rises

pub lent_fits-requires : goal.lent_fits-requires
lent_fits-requires c =
    (omega (arith, c.widest.ensures, (last_fits c.args.widths.now c.requires.rises).1), c.requires.few_steps)

pub search_model-requires : goal.search_model-requires
search_model-requires c =
    let enough : let a = c.args in lent_fits (widest_of (listed a.widths.now)) a.limit (lent a.plan.now a.words.now) ≡ true = let a = c.args in
    lent_at _ _ a.limit (length a.plan.now) (length a.words.now) c.widest.ensures c.lent_fits.ensures c.if-lent_fits.true in
    record {
      outlined = ready (c.in-Ok.ensures.ready);
      room = room_lent c.args.widths.now c.args.plan.now c.args.words.now c.args.limit c.requires.rises c.requires.few_steps (enough);
      rises = c.requires.rises;
      small_budget = search rules;
    }

pub returns-in-Ok : goal.returns-in-Ok
returns-in-Ok c =
    let read : 0 ≡ refusal_in c.args.model.now = c.in-Ok.ensures.number in
    let enough : let a = c.args in lent_fits (widest_of (listed a.widths.now)) a.limit (lent a.plan.now a.words.now) ≡ true = let a = c.args in
    lent_at _ _ a.limit (length a.plan.now) (length a.words.now) c.widest.ensures c.lent_fits.ensures c.if-lent_fits.true in
    let a = c.args in
    set_says_lem a.model.now a.plan.now a.words.now a.widths.now (plain a.limit) a.budget (read) refl a.limit refl (enough) _ _ _ c.search_model.ensures

pub returns-in-Err : goal.returns-in-Err
returns-in-Err c =
    let enough : let a = c.args in lent_fits (widest_of (listed a.widths.now)) a.limit (lent a.plan.now a.words.now) ≡ true = let a = c.args in
    lent_at _ _ a.limit (length a.plan.now) (length a.words.now) c.widest.ensures c.lent_fits.ensures c.if-lent_fits.true in
    let a = c.args in
    set_refused a.model.now a.plan.now a.words.now a.widths.now (plain a.limit) a.budget _ _
    (set_unread a.model.now (list_settings a.widths.now a.limit a.budget) (lent a.plan.now a.words.now) (enough)
    (refused_in_lem a.model.now _ (c.number.ensures.number ∙ c.in-Err.ensures.number) (omega (arith, c.number.ensures.number, number_positive c.in-Err.refused))))
    c.refusal.ensures

pub returns : goal.returns
returns c =
    let a = c.args in
    set_refused a.model.now a.plan.now a.words.now a.widths.now (plain a.limit) a.budget 3 _
    (set_little_lent a.model.now (list_settings a.widths.now a.limit a.budget) (lent a.plan.now a.words.now)
    (lent_at _ _ a.limit (length a.plan.now) (length a.words.now) c.widest.ensures c.lent_fits.ensures c.if-lent_fits.false))
    c.refusal-2.ensures
