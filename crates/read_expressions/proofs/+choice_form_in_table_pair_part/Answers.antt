-- The readers, which call each other, meet their contracts.
use Rattle.std.proofs.Common.{refl, ◌≤◌, ◌^◌, length, sym, ◌∙◌, arith}
use Rattle.std.proofs.lemmas.Result.{err_from_is_err_and}
use borrow.Author.Tests.{eqb-true, eqb-false}
use Rattle.read_forms.specs.declared.Due.TheVariants as D
use Rattle.read_expressions.proofs.Forms.{Source, used, no_byte, layout_refused, whole_read, whole_fits, parts_refused, parts_read, parts_fit, choice_refused, choice_read, choice_fits, table_short, table_undeclared, table_read, table_fits}
use Rattle.read_expressions.proofs.+choice_form_in_table_pair_part.Goals as goal

-- ---- a condition and two numbers

pub choice-returns-in_err-condition : goal.choice-returns-in_err-condition
choice-returns-in_err-condition t c =
    let s : Source = record { names = c.args.names; depth = c.args.depth; bytes = c.args.e.now } in
    let e = err_from_is_err_and c.from_residual.result c.from_residual.ensures.1 in
    rw (e.1, e.2) (choice_refused s c.in_err-condition.ensures)

pub choice-slice_bounds-rest-count : goal.choice-slice_bounds-rest-count
choice-slice_bounds-rest-count t c =
    let s : Source = record { names = c.args.names; depth = c.args.depth; bytes = c.args.e.now } in
    used s D.Condition c.in_ok-condition.ensures

pub choice-slice_bounds-rest-start : goal.choice-slice_bounds-rest-start
choice-slice_bounds-rest-start t c =
    let s : Source = record { names = c.args.names; depth = c.args.depth; bytes = c.args.e.now } in
    used s D.Condition c.in_ok-condition.ensures

pub choice-returns-in_err-numbers : goal.choice-returns-in_err-numbers
choice-returns-in_err-numbers t c =
    let s : Source = record { names = c.args.names; depth = c.args.depth; bytes = c.args.e.now } in
    let e = err_from_is_err_and c.from_residual-in_err-numbers.result c.from_residual-in_err-numbers.ensures.1 in
    rw (e.1, e.2) (choice_read s c.in_ok-condition.ensures c.in_err-numbers.ensures)

pub choice-plus_parts-requires : goal.choice-plus_parts-requires
choice-plus_parts-requires t c =
    let s : Source = record { names = c.args.names; depth = c.args.depth; bytes = c.args.e.now } in
    let room : length s.bytes ≤ 2 ^ 63 = omega (arith, c.well_formed) in
    choice_fits s room c.in_ok-condition.ensures c.in_ok-numbers.ensures

pub choice-returns : goal.choice-returns
choice-returns t c =
    let s : Source = record { names = c.args.names; depth = c.args.depth; bytes = c.args.e.now } in
    rw c.plus_parts.ensures (choice_read s c.in_ok-condition.ensures c.in_ok-numbers.ensures)

-- ---- a table's number and two parts

pub in_table-returns-then-is_empty : goal.in_table-returns-then-is_empty
in_table-returns-then-is_empty t c =
    let s : Source = record { names = c.args.names; depth = c.args.depth; bytes = c.args.e.now } in
    table_short s c.args.first (eqb-true _ 0 (sym c.is_empty.ensures ∙ c.if-is_empty.true))

pub in_table-returns-in_err-parts : goal.in_table-returns-in_err-parts
in_table-returns-in_err-parts t c =
    let s : Source = record { names = c.args.names; depth = c.args.depth; bytes = c.args.e.now } in
    let e = err_from_is_err_and c.from_residual.result c.from_residual.ensures.1 in
    rw (e.1, e.2) (table_read s c.args.first (eqb-false _ 0 (sym c.is_empty.ensures ∙ c.if-is_empty.false)) c.if-t-names.true refl c.in_err-parts.ensures)

pub in_table-within-requires : goal.in_table-within-requires
in_table-within-requires t c =
    let s : Source = record { names = c.args.names; depth = c.args.depth; bytes = c.args.e.now } in
    let room : length s.bytes ≤ 2 ^ 63 = omega (arith, c.well_formed) in
    table_fits s c.args.first room c.in_ok-parts.ensures

pub in_table-returns-in_ok-parts : goal.in_table-returns-in_ok-parts
in_table-returns-in_ok-parts t c =
    let s : Source = record { names = c.args.names; depth = c.args.depth; bytes = c.args.e.now } in
    c.within.ensures ∙ table_read s c.args.first (eqb-false _ 0 (sym c.is_empty.ensures ∙ c.if-is_empty.false)) c.if-t-names.true c.byte_at.ensures c.in_ok-parts.ensures

pub in_table-returns-else-t-names : goal.in_table-returns-else-t-names
in_table-returns-else-t-names t c =
    let s : Source = record { names = c.args.names; depth = c.args.depth; bytes = c.args.e.now } in
    table_undeclared s c.args.first (eqb-false _ 0 (sym c.is_empty.ensures ∙ c.if-is_empty.false)) c.if-t-names.false

-- ---- an expression by its layout

pub part-returns-then-is_empty : goal.part-returns-then-is_empty
part-returns-then-is_empty t c =
    let s : Source = record { names = c.args.names; depth = c.args.depth; bytes = c.args.e.now } in
    no_byte s c.args.due (eqb-true _ 0 (sym c.is_empty.ensures ∙ c.if-is_empty.true))

pub part-returns-in_err-layout : goal.part-returns-in_err-layout
part-returns-in_err-layout t c =
    let s : Source = record { names = c.args.names; depth = c.args.depth; bytes = c.args.e.now } in
    let e = err_from_is_err_and c.from_residual.result c.from_residual.ensures.1 in
    rw (e.1, e.2) (layout_refused s c.args.due (eqb-false _ 0 (sym c.is_empty.ensures ∙ c.if-is_empty.false)) (omega arith) c.in_err-layout.ensures)

pub part-returns-in_err-rest : goal.part-returns-in_err-rest
part-returns-in_err-rest t c =
    let s : Source = record { names = c.args.names; depth = c.args.depth; bytes = c.args.e.now } in
    let e = err_from_is_err_and c.from_residual-in_err-rest.result c.from_residual-in_err-rest.ensures.1 in
    rw (e.1, e.2) (whole_read s c.args.due (eqb-false _ 0 (sym c.is_empty.ensures ∙ c.if-is_empty.false)) (omega arith) c.in_ok-layout.ensures c.in_err-rest.ensures)

pub part-whole-requires : goal.part-whole-requires
part-whole-requires t c =
    let s : Source = record { names = c.args.names; depth = c.args.depth; bytes = c.args.e.now } in
    let room : length s.bytes ≤ 2 ^ 63 = omega (arith, c.well_formed) in
    whole_fits s c.args.due (eqb-false _ 0 (sym c.is_empty.ensures ∙ c.if-is_empty.false)) (omega arith) room c.in_ok-layout.ensures c.in_ok-rest.ensures

pub part-returns : goal.part-returns
part-returns t c =
    let s : Source = record { names = c.args.names; depth = c.args.depth; bytes = c.args.e.now } in
    rw c.whole.ensures (whole_read s c.args.due (eqb-false _ 0 (sym c.is_empty.ensures ∙ c.if-is_empty.false)) (omega arith) c.in_ok-layout.ensures c.in_ok-rest.ensures)

-- ---- two parts

pub pair-returns-in_err-one : goal.pair-returns-in_err-one
pair-returns-in_err-one t c =
    let s : Source = record { names = c.args.names; depth = c.args.depth; bytes = c.args.e.now } in
    let e = err_from_is_err_and c.from_residual.result c.from_residual.ensures.1 in
    rw (e.1, e.2) (parts_refused s c.args.first c.args.second c.in_err-one.ensures)

pub pair-slice_bounds-part-count : goal.pair-slice_bounds-part-count
pair-slice_bounds-part-count t c =
    let s : Source = record { names = c.args.names; depth = c.args.depth; bytes = c.args.e.now } in
    used s c.args.first c.in_ok-one.ensures

pub pair-slice_bounds-part-start : goal.pair-slice_bounds-part-start
pair-slice_bounds-part-start t c =
    let s : Source = record { names = c.args.names; depth = c.args.depth; bytes = c.args.e.now } in
    used s c.args.first c.in_ok-one.ensures

pub pair-returns-in_err-next : goal.pair-returns-in_err-next
pair-returns-in_err-next t c =
    let s : Source = record { names = c.args.names; depth = c.args.depth; bytes = c.args.e.now } in
    let e = err_from_is_err_and c.from_residual-in_err-next.result c.from_residual-in_err-next.ensures.1 in
    rw (e.1, e.2) (parts_read s c.args.first c.args.second c.in_ok-one.ensures c.in_err-next.ensures)

pub pair-behind-requires : goal.pair-behind-requires
pair-behind-requires t c =
    let s : Source = record { names = c.args.names; depth = c.args.depth; bytes = c.args.e.now } in
    let room : length s.bytes ≤ 2 ^ 63 = omega (arith, c.well_formed) in
    parts_fit s c.args.first c.args.second room c.in_ok-one.ensures c.in_ok-next.ensures

pub pair-returns : goal.pair-returns
pair-returns t c =
    let s : Source = record { names = c.args.names; depth = c.args.depth; bytes = c.args.e.now } in
    rw c.behind.ensures (parts_read s c.args.first c.args.second c.in_ok-one.ensures c.in_ok-next.ensures)
