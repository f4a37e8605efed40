-- `effect` meets its contract. The tests of the target in their order, then its expression.
use mathlib.Core.Path.{sym, ◌∙◌}
use native.Mathlib.Omega.{arith}
use Rattle.read_declarations.proofs.Positions.{passed_on}
use Rattle.read_transitions.proofs.Reading.{effect_cut, effect_again, effect_undeclared, effect_too_many, effect_refused, effect_more}
use Rattle.read_transitions.proofs.effect.Goals as goal

pub returns-then-model-at : goal.returns-then-model-at
returns-then-model-at c =
    effect_cut c.args.names c.args.model.now c.args.at c.args.n c.args.marks.now c.requires.0 c.if-model-at.true

pub returns-then-is_marked : goal.returns-then-is_marked
returns-then-is_marked c =
    effect_again c.args.names c.args.model.now c.args.at c.args.n c.args.marks.now c.requires.0 c.if-model-at.false (sym c.if-is_marked.true ∙ c.is_marked.ensures)

pub returns-then-names-variable : goal.returns-then-names-variable
returns-then-names-variable c =
    effect_undeclared c.args.names c.args.model.now c.args.at c.args.n c.args.marks.now c.requires.0 c.if-model-at.false (sym c.if-is_marked.false ∙ c.is_marked.ensures) c.if-names-variable.true

pub returns-then-n-eq-MOST_VARIABLES : goal.returns-then-n-eq-MOST_VARIABLES
returns-then-n-eq-MOST_VARIABLES c =
    effect_too_many c.args.names c.args.model.now c.args.at c.args.n c.args.marks.now c.requires.0 c.if-model-at.false (sym c.if-is_marked.false ∙ c.is_marked.ensures) c.if-names-variable.false c.if-n-eq-MOST_VARIABLES.true

pub returns-in_err-end : goal.returns-in_err-end
returns-in_err-end c =
    rw (passed_on c.from_residual.result c.from_residual.ensures.1)
    (effect_refused c.args.names c.args.model.now c.args.at c.args.n c.args.marks.now c.requires.0 c.if-model-at.false (sym c.if-is_marked.false ∙ c.is_marked.ensures) c.if-names-variable.false
    (omega (arith, c.requires.1, c.if-n-eq-MOST_VARIABLES.false)) c.in_err-end.ensures)

pub returns : goal.returns
returns c =
    effect_more c.args.names c.args.model.now c.args.at c.args.n c.args.marks.now c.requires.0 c.if-model-at.false (sym c.if-is_marked.false ∙ c.is_marked.ensures) c.if-names-variable.false (omega (arith, c.requires.1, c.if-n-eq-MOST_VARIABLES.false)) c.requires.2 c.in_ok-end.ensures
