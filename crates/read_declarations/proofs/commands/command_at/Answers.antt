-- `read_declarations::commands::command_at` meets its contract. A command's byte: there, another, or none.
use mathlib.Core.Path.{sym, ap}
use Rattle.read_declarations.specs.Positions.{position_of}
use Rattle.read_declarations.proofs.Positions.{command_there, command_other, command_early}
use Rattle.read_declarations.proofs.commands.command_at.Goals as goal

pub returns-then-model-at : goal.returns-then-model-at
returns-then-model-at c =
    sym (ap position_of (command_early c.args.c c.args.at c.args.model.now c.if-model-at.true))

pub returns-then-model-at-2 : goal.returns-then-model-at-2
returns-then-model-at-2 c =
    sym (ap position_of (command_there c.args.c c.args.at c.args.model.now c.if-model-at.false c.if-model-at-2.true))

pub returns-else-model-at-2 : goal.returns-else-model-at-2
returns-else-model-at-2 c =
    sym (ap position_of (command_other c.args.c c.args.at c.args.model.now c.if-model-at.false c.if-model-at-2.false))
