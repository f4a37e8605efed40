-- `read_declarations::commands::cost_rule` meets its contract. 01 and the cost rule, by the tests of its two bytes.
use mathlib.Core.Path.{sym, ap, ◌∙◌}
use native.Mathlib.Omega.{arith}
use Rattle.model.specs.Readers.{command}
use Rattle.model.specs.Commands.{cost_rule}
use Rattle.read_declarations.specs.Positions.{position_of}
use Rattle.read_declarations.proofs.Operands.{rule_good, rule_beyond, rule_cut}
use Rattle.read_declarations.proofs.Positions.{reads_at, refuses_at, next_stops, passed_on, command_read}
use Rattle.read_declarations.proofs.commands.cost_rule.Goals as goal

pub returns-in_err-at : goal.returns-in_err-at
unfolding cost_rule
returns-in_err-at c =
    passed_on c.from_residual.result c.from_residual.ensures.1 ∙ next_stops (command 0x01) _ 0 c.args.model.now c.in_err-at.ensures

pub returns-then-model-at : goal.returns-then-model-at
returns-then-model-at c =
    let model = c.args.model.now in
    let there = command_read 1 0 model c.in_ok-at.ensures in
    sym (ap position_of (refuses_at cost_rule 0 model (rule_cut model (omega (arith, there.inside, there.behind, c.if-model-at.true)) there.is)))

pub returns-then-model-at-lt2 : goal.returns-then-model-at-lt2
returns-then-model-at-lt2 c =
    let model = c.args.model.now in
    let there = command_read 1 0 model c.in_ok-at.ensures in
    rw there.behind (sym (ap position_of (reads_at cost_rule 0 model (rule_good model (omega (arith, there.behind, c.if-model-at.false)) there.is (rw there.behind at c.if-model-at-lt2.true)))))

pub returns-else-model-at-lt2 : goal.returns-else-model-at-lt2
returns-else-model-at-lt2 c =
    let model = c.args.model.now in
    let there = command_read 1 0 model c.in_ok-at.ensures in
    sym (ap position_of (refuses_at cost_rule 0 model (rule_beyond model (omega (arith, there.behind, c.if-model-at.false)) there.is (rw there.behind at c.if-model-at-lt2.false))))
