-- `quick::sums::bound_sum` meets its contract.
use mathlib.Core.Path.{sym, ap, ◌∙◌}
use Rattle.words.proofs.Integers.{back}
use Rattle.quick.specs.Sums.{sum_place}
use Rattle.quick.proofs.Memory.{place_here, place_behind_lem}
use Rattle.quick.proofs.Totals.{total_first, total_told, closing_told}
use Rattle.quick.proofs.sums.bound_sum.Goals as goal

pub remembered-requires : goal.remembered-requires
remembered-requires c =
    let form = c.is_total.ensures c.if-is_total.true in
    record { bound = c.if-k-lt-MOST_BOUNDS.true; place = ap (sum_place c.args.model.now) (sym c.word_at-at.ensures) ∙ place_here c.args.model.now c.word_at-at.result (total_first form); form = form; memory = c.requires }

pub returns-then-is_total : goal.returns-then-is_total
returns-then-is_total c =
    let form = c.is_total.ensures c.if-is_total.true in
    rw (back (record { sfits = c.remembered.type_inv }), c.remembered.ensures.0, ← c.word_at-at.ensures) (total_told c.args.model.now c.args.outline.now c.args.state.now c.word_at-at.result form, c.remembered.ensures.1)

pub closing-requires : goal.closing-requires
closing-requires c =
    let form = c.is_closing.ensures c.if-is_closing.true in
    (form, record { bound = c.if-k-lt-MOST_BOUNDS.true; place = ap (sum_place c.args.model.now) (sym c.word_at-at.ensures) ∙ place_behind_lem c.args.model.now c.word_at-at.result form.choice; form = form.total; memory = c.requires })

pub returns-then-is_closing : goal.returns-then-is_closing
returns-then-is_closing c =
    let form = c.is_closing.ensures c.if-is_closing.true in
    rw (back (record { sfits = c.closing.type_inv }), c.closing.ensures.0, ← c.word_at-at.ensures) (closing_told c.args.model.now c.args.outline.now c.args.state.now c.word_at-at.result form, c.closing.ensures.1)
