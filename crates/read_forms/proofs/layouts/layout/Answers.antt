-- `layout` meets its contract: the table at the row of the byte.
use mathlib.Core.Path.{◌≡◌, sym, ap, ◌∙◌}
use mathlib.Core.Bool.{true}
use native.Mathlib.Omega.{arith}
use Rattle.read_forms.specs.Layouts.{layouts}
use Rattle.std.specs.Prelude.{Err}
use Rattle.read_forms.proofs.Rows.{of_kind, all_layouts, row_at, in_no_row, row_inside}
use Rattle.read_forms.proofs.layouts.layout.Goals as goal

pub overflow_sub-k : goal.overflow_sub-k
overflow_sub-k c =
    let begun : (let a = c.args in of_kind a.due a.b ≡ true) = rw c.rows_of-rows.ensures at (sym c.is_among.ensures ∙ c.if-is_among.true) in
    let a = c.args in rw c.rows_of-rows.ensures (row_inside a.due a.b (begun)).0

pub bounds-k-k : goal.bounds-k-k
bounds-k-k c =
    let begun : (let a = c.args in of_kind a.due a.b ≡ true) = rw c.rows_of-rows.ensures at (sym c.is_among.ensures ∙ c.if-is_among.true) in
    let a = c.args in
    rw c.rows_of-rows.ensures (row_inside a.due a.b (begun)).1

pub returns-then-is_among : goal.returns-then-is_among
unfolding all_layouts layouts
returns-then-is_among c =
    let begun : (let a = c.args in of_kind a.due a.b ≡ true) = rw c.rows_of-rows.ensures at (sym c.is_among.ensures ∙ c.if-is_among.true) in
    rw c.rows_of-rows.ensures (row_at c.args.due c.args.b (omega (arith, c.ranges.b)) (begun))

pub returns-else-is_among : goal.returns-else-is_among
returns-else-is_among c =
    ap Err c.refusal.ensures ∙ in_no_row c.args.due c.args.b (omega (arith, c.ranges.b))
    (rw c.rows_of-rows.ensures at (sym c.is_among.ensures ∙ c.if-is_among.false))
