-- `conditions` meets its contract, turn by turn.
use Prim.Native.Nat.{◌+◌, ◌<◌}
use mathlib.Core.Path.{◌≡◌, sym, ap, ◌∙◌}
use native.Mathlib.Omega.{arith}
use lib.ListN.{get_or}
use Rattle.std.specs.Prelude.{Err}
use Rattle.model.specs.Readers.{Read}
use Rattle.model.specs.Syntax.{Condition}
use Rattle.model.specs.Commands.{conditions}
use Rattle.model.specs.Expressions.{condition}
use Rattle.model.specs.Numbers.{most_nesting}
use Rattle.read_forms.specs.Parts.{variables_in, tables_in}
use Rattle.read_declarations.specs.Positions.{read_at, position_of}
use Rattle.read_declarations.proofs.Items.{no_items, item_more, item_too_many, item_refused, items_end, items_early}
use Rattle.read_declarations.proofs.Positions.{passed_on, position_read, position_refused}
use Rattle.read_transitions.proofs.conditions.Goals as goal

pub loop-start-init : goal.loop-start-init
loop-start-init c =
    no_items

pub returns-then-n-eq-MOST_CONDITIONS : goal.returns-then-n-eq-MOST_CONDITIONS
unfolding conditions
returns-then-n-eq-MOST_CONDITIONS c =
    let due : (get_or c.args.model.now c.loop-start.at 0 ≡ 8) = sym c.byte_at.ensures ∙ c.loop-start-test.true in
    sym (ap position_of (item_too_many c.loop-start.invariant (omega arith) due c.if-n-eq-MOST_CONDITIONS.true))

pub loop-start-preserved : goal.loop-start-preserved
loop-start-preserved c =
    let due : (get_or c.args.model.now c.loop-start.at 0 ≡ 8) = sym c.byte_at.ensures ∙ c.loop-start-test.true in
    let room : c.loop-start.n < 16 = omega (arith, c.loop-start.invariant.few, c.if-n-eq-MOST_CONDITIONS.false) in
    let reading : Read Condition = read_at (condition (variables_in c.args.names) (tables_in c.args.names) most_nesting) (c.loop-start.at + 1) c.args.model.now in
    item_more c.loop-start.invariant (omega arith) due room (position_read reading c.in_ok-at.ensures).1

pub returns-in_err-at : goal.returns-in_err-at
unfolding conditions
returns-in_err-at c =
    let due : (get_or c.args.model.now c.loop-start.at 0 ≡ 8) = sym c.byte_at.ensures ∙ c.loop-start-test.true in
    let room : c.loop-start.n < 16 = omega (arith, c.loop-start.invariant.few, c.if-n-eq-MOST_CONDITIONS.false) in
    let reading : Read Condition = read_at (condition (variables_in c.args.names) (tables_in c.args.names) most_nesting) (c.loop-start.at + 1) c.args.model.now in
    let refused = position_refused reading c.in_err-at.ensures in
    passed_on c.from_residual.result c.from_residual.ensures.1 ∙ ap Err refused.2 ∙ sym (ap position_of (item_refused c.loop-start.invariant (omega arith) due room refused.1))

pub returns-then-at-model : goal.returns-then-at-model
unfolding conditions
returns-then-at-model c =
    sym (ap position_of (items_end c.loop-start.invariant c.if-at-model.true (λ q. c.loop-start-test.false (c.byte_at.ensures ∙ q))))

pub returns-else-at-model : goal.returns-else-at-model
unfolding conditions
returns-else-at-model c =
    sym (ap position_of (items_early c.loop-start.invariant c.if-at-model.false))
