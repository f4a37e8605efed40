-- `read_declarations::tables::tables` meets its contract. The invariant: so many tables are read and stored, and the loop goes on from here. The measure is the room that is left.
use Prim.Native.Nat.{◌<◌}
use mathlib.Core.Path.{sym, ◌∙◌}
use native.Mathlib.Omega.{arith}
use Rattle.read_declarations.proofs.Declarations.{no_tables, tables_so_far, table_inside, sided_here, refused_here, table_head_refused, table_too_many, table_body_refused, table_more, tables_end, tables_early}
use Rattle.read_declarations.proofs.Positions.{passed_on}
use Rattle.read_declarations.proofs.tables.tables.Goals as goal

pub loop-start-init : goal.loop-start-init
loop-start-init c =
    no_tables c.requires.rows_long c.requires.columns_long c.requires.words_long

pub returns-in_err-sides : goal.returns-in_err-sides
returns-in_err-sides c =
    let so_far = c.loop-start.invariant in
    let refused = refused_here c.args.model.now c.loop-start.at c.in_err-sides.ensures in
    tables_so_far so_far (rw (passed_on c.from_residual.result c.from_residual.ensures.1) (table_head_refused so_far (sym c.byte_at.ensures ∙ c.loop-start-test.true) refused))

pub returns-then-n-eq-MOST_TABLES : goal.returns-then-n-eq-MOST_TABLES
returns-then-n-eq-MOST_TABLES c =
    let so_far = c.loop-start.invariant in
    let sided = sided_here c.args.model.now c.loop-start.at c.in_ok-sides.ensures in
    tables_so_far so_far (table_too_many so_far (sym c.byte_at.ensures ∙ c.loop-start-test.true) sided c.if-n-eq-MOST_TABLES.true)

pub returns-in_err-at : goal.returns-in_err-at
returns-in_err-at c =
    let so_far = c.loop-start.invariant in
    let sided = sided_here c.args.model.now c.loop-start.at c.in_ok-sides.ensures in
    let room : c.loop-start.n < 32 = omega (arith, so_far.few, c.if-n-eq-MOST_TABLES.false) in
    let refused = rw (c.wide.ensures.0, c.wide-in-loop-start.ensures.0) at c.entries.ensures in
    tables_so_far so_far (rw (passed_on c.from_residual-in_err-at.result c.from_residual-in_err-at.ensures.1)
    (table_body_refused so_far (sym c.byte_at.ensures ∙ c.loop-start-test.true) sided room (sym c.in_err-at.was ∙ refused)))

pub packed-requires : goal.packed-requires
packed-requires c =
    let sided = sided_here c.args.model.now c.loop-start.at c.in_ok-sides.ensures in
    let inside = table_inside c.loop-start.invariant (sym c.byte_at.ensures ∙ c.loop-start-test.true) in
    (omega (arith, inside, c.requires.short), sided.low_rows, sided.low_columns)

pub loop-start-preserved : goal.loop-start-preserved
loop-start-preserved c =
    let so_far = c.loop-start.invariant in
    let sided = sided_here c.args.model.now c.loop-start.at c.in_ok-sides.ensures in
    let room : c.loop-start.n < 32 = omega (arith, so_far.few, c.if-n-eq-MOST_TABLES.false) in
    let read = rw (c.wide.ensures.0, c.wide-in-loop-start.ensures.0) at c.entries.ensures in
    table_more so_far (sym c.byte_at.ensures ∙ c.loop-start-test.true) sided room c.requires.short (sym c.in_ok-at.was ∙ read) c.packed.ensures

pub returns-then-at-model : goal.returns-then-at-model
returns-then-at-model c =
    tables_so_far c.loop-start.invariant (tables_end c.loop-start.invariant c.if-at-model.true (λ q. c.loop-start-test.false (c.byte_at.ensures ∙ q)))

pub returns-else-at-model : goal.returns-else-at-model
returns-else-at-model c =
    tables_so_far c.loop-start.invariant (tables_early c.loop-start.invariant c.if-at-model.false)
