-- `result_at` meets its contract. The expression that is due, then the test of its count.
use mathlib.Core.Path.{◌≡◌, sym, ap, ◌∙◌}
use mathlib.Core.Bool.{Bool, true, false, cond}
use Rattle.std.specs.Prelude.{Ok, Err}
use Rattle.words.specs.Signature.{variable_of}
use Rattle.read_forms.specs.Forms.{due_for}
use Rattle.read_forms.specs.declared.refusals.Refusal.TheVariants.{Mismatch}
use Rattle.read_declarations.proofs.Positions.{passed_on}
use Rattle.read_transitions.specs.Transitions.{count_fits, part_from}
use Rattle.read_transitions.proofs.Reading.{result_read, result_refused}
use Rattle.read_transitions.proofs.result_at.Goals as goal

pub returns-then-count_fits : goal.returns-then-count_fits
returns-then-count_fits c =
    let read : Ok c.in_ok-expression.expression ≡ part_from _ _ (due_for (variable_of c.args.kind).kind) c.args.at c.args.model.now = rw c.due_for.ensures at c.in_ok-expression.ensures in
    let fits : true ≡ count_fits (variable_of c.args.kind).kind (variable_of c.args.kind).objects c.in_ok-expression.expression.count = sym c.if-count_fits.true ∙ c.count_fits.ensures in
    ap (λ (b : Bool). cond b (Ok c.in_ok-expression.expression.end) (Err Mismatch)) fits ∙ result_read _ _ c.args.at c.args.model.now (variable_of c.args.kind).kind (variable_of c.args.kind).objects read

pub returns-else-count_fits : goal.returns-else-count_fits
returns-else-count_fits c =
    let read : Ok c.in_ok-expression.expression ≡ part_from _ _ (due_for (variable_of c.args.kind).kind) c.args.at c.args.model.now = rw c.due_for.ensures at c.in_ok-expression.ensures in
    let fits : false ≡ count_fits (variable_of c.args.kind).kind (variable_of c.args.kind).objects c.in_ok-expression.expression.count = sym c.if-count_fits.false ∙ c.count_fits.ensures in
    ap (λ (b : Bool). cond b (Ok c.in_ok-expression.expression.end) (Err Mismatch)) fits ∙ result_read _ _ c.args.at c.args.model.now (variable_of c.args.kind).kind (variable_of c.args.kind).objects read

pub returns-in_err-expression : goal.returns-in_err-expression
returns-in_err-expression c =
    passed_on c.from_residual.result c.from_residual.ensures.1 ∙ result_refused _ _ c.args.at c.args.model.now (variable_of c.args.kind).kind (variable_of c.args.kind).objects (rw c.due_for.ensures at c.in_err-expression.ensures)
