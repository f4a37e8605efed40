-- `read_declarations::tables::sides` meets its contract. The sides, by the tests of two bytes.
use mathlib.Core.Bool.{false, ◌&&◌}
use mathlib.Core.Path.{◌≡◌, sym, ap, ◌∙◌}
use lib.ListN.{get_or}
use Rattle.model.specs.Expressions.{is_count}
use Rattle.read_declarations.specs.Declarations.{sides_of}
use Rattle.read_declarations.proofs.Operands.{sides_good, sides_beyond, sides_cut}
use Rattle.read_declarations.proofs.tables.sides.Goals.{else-is_count-via-then-is_count+else-is_count-2, else-is_count-via-else-is_count}
use Rattle.read_declarations.proofs.tables.sides.Goals as goal

pub returns-then-e-lt2 : goal.returns-then-e-lt2
returns-then-e-lt2 c =
    sym (ap sides_of (sides_cut c.args.e.now c.if-e-lt2.true))

pub returns-then-is_count-2 : goal.returns-then-is_count-2
returns-then-is_count-2 c =
    sym (ap sides_of (sides_good c.args.e.now c.if-e-lt2.false (sym c.is_count.ensures ∙ c.if-is_count.true) (sym c.is_count-then-is_count.ensures ∙ c.if-is_count-2.true)))

pub returns-else-is_count : goal.returns-else-is_count
returns-else-is_count c =
    let e = c.args.e.now in
    let beyond : (is_count (get_or e 0 0) && is_count (get_or e 1 0)) ≡ false = elim c.else-is_count.branch [
      | else-is_count-via-then-is_count+else-is_count-2 w ↦ rw (sym c.is_count.ensures ∙ w.if-is_count.true, sym w.is_count-then-is_count.ensures ∙ w.if-is_count-2.false)
      | else-is_count-via-else-is_count w ↦ rw (sym c.is_count.ensures ∙ w.if-is_count.false)
    ] in
    sym (ap sides_of (sides_beyond e c.if-e-lt2.false beyond))
