-- `bench_parts::insertions::repgypsum_insertions` meets its contract, test by test, and no index or sum leaves its range.
use mathlib.Core.Path.{◌≡◌, sym, ◌∙◌}
use mathlib.Core.Bool.{true}
use lib.Dec.{leb}
use lib.ListN.{length}
use Rattle.model.specs.Numbers.{most_model_bytes}
use Rattle.read_model.proofs.Refusals.{number_positive}
use Rattle.bench_parts.specs.Timed.{layer_fits}
use Rattle.steps.proofs.Promises.{ready}
use Rattle.bench_parts.proofs.Offering.{room, too_long, no_room, refused, read}
use Rattle.bench_parts.proofs.insertions.repgypsum_insertions.Goals as goal

pub offer_children-requires : goal.offer_children-requires
offer_children-requires c =
    let fits : (let a = c.args in layer_fits a.width (length a.words.now) ≡ true) = sym c.layer_fits.ensures ∙ c.if-layer_fits.true in
    let a = c.args in
    room a.width a.words.now (ready (c.in-Ok.ensures.ready)) (fits)

pub returns-in-Ok : goal.returns-in-Ok
returns-in-Ok c =
    let short : leb (length c.args.model.now) most_model_bytes ≡ true = sym c.length_fits.ensures ∙ c.if-length_fits.true in
    let fits : (let a = c.args in layer_fits a.width (length a.words.now) ≡ true) = sym c.layer_fits.ensures ∙ c.if-layer_fits.true in
    let a = c.args in
    c.offer_children.ensures
    ∙ read a.model.now (length a.words.now) a.width a.children a.seed (short) (fits) (sym c.in-Ok.ensures.number)

pub returns-in-Err : goal.returns-in-Err
returns-in-Err c =
    let short : leb (length c.args.model.now) most_model_bytes ≡ true = sym c.length_fits.ensures ∙ c.if-length_fits.true in
    let fits : (let a = c.args in layer_fits a.width (length a.words.now) ≡ true) = sym c.layer_fits.ensures ∙ c.if-layer_fits.true in
    let a = c.args in
    refused a.model.now (length a.words.now) a.width a.children a.seed (short) (fits) _ c.in-Err.ensures.number (number_positive c.in-Err.field-0)

pub returns-then-length_fits : goal.returns-then-length_fits
returns-then-length_fits c =
    let short : leb (length c.args.model.now) most_model_bytes ≡ true = sym c.length_fits.ensures ∙ c.if-length_fits.true in
    let a = c.args in
    no_room a.model.now (length a.words.now) a.width a.children a.seed (short) (sym c.layer_fits.ensures ∙ c.if-layer_fits.false)

pub returns : goal.returns
returns c =
    let a = c.args in
    too_long a.model.now (length a.words.now) a.width a.children a.seed (sym c.length_fits.ensures ∙ c.if-length_fits.false)
