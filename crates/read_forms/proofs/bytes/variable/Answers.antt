-- `variable` meets its contract: no byte, undeclared, of the kind, of another kind.
use mathlib.Core.Path.{refl, sym, ◌∙◌}
use mathlib.Core.Bool.{true, false}
use borrow.Author.Tests.{eqb-true, eqb-false}
use Rattle.read_forms.proofs.Operands.{variable_short, variable_undeclared, variable_read}
use Rattle.read_forms.proofs.bytes.variable.Goals.{else-v-kinds-via-then-v-kinds+else-eq, else-v-kinds-via-else-v-kinds}
use Rattle.read_forms.proofs.bytes.variable.Goals as goal

pub returns-then-is_empty : goal.returns-then-is_empty
returns-then-is_empty c =
    let a = c.args in variable_short a.due a.kinds.now a.e.now (eqb-true _ 0 (sym c.is_empty.ensures ∙ c.if-is_empty.true))

pub returns-then-eq : goal.returns-then-eq
returns-then-eq c =
    let a = c.args in
    variable_read a.due a.kinds.now a.e.now (eqb-false _ 0 (sym c.is_empty.ensures ∙ c.if-is_empty.false)) c.if-v-kinds.true c.due_for.ensures
    c.objects.ensures true (sym c.if-eq.true ∙ c.eq.ensures)

pub returns-else-v-kinds : goal.returns-else-v-kinds
returns-else-v-kinds c =
    let a = c.args in
    let some_byte = eqb-false _ 0 (sym c.is_empty.ensures ∙ c.if-is_empty.false) in
    elim c.else-v-kinds.branch [
      | else-v-kinds-via-then-v-kinds+else-eq w ↦ variable_read a.due a.kinds.now a.e.now some_byte w.if-v-kinds.true w.due_for.ensures refl false (sym w.if-eq.false ∙ w.eq.ensures)
      | else-v-kinds-via-else-v-kinds w ↦ variable_undeclared a.due a.kinds.now a.e.now some_byte w.if-v-kinds.false
    ]
