-- `read_declarations::variables::variable` meets its contract. The reader that the command byte picks.
use Rattle.std.proofs.Common.{rules}
use Rattle.read_declarations.proofs.Operands.{variable_set, variable_element, variable_number}
use Rattle.read_declarations.proofs.variables.variable.Goals as goal

pub returns-in-2 : goal.returns-in-2
returns-in-2 c =
    rw (variable_set c.args.b c.args.e.now c.in-2.is) c.set_variable.ensures

pub returns-in-3 : goal.returns-in-3
returns-in-3 c =
    rw (variable_element c.args.b c.args.e.now c.in-3.is) c.element_variable.ensures

pub returns-in_default : goal.returns-in_default
returns-in_default c =
    rw (variable_number c.args.b c.args.e.now (search rules) (search rules)) c.number_variable.ensures
