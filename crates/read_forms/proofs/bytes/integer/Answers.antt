-- `integer` meets its contract, by the length alone.
use Rattle.read_forms.proofs.Operands.{integer_read, integer_short}
use Rattle.read_forms.proofs.bytes.integer.Goals as goal

pub returns-then-e-lt4 : goal.returns-then-e-lt4
returns-then-e-lt4 c =
    integer_short c.args.e.now c.if-e-lt4.true

pub returns : goal.returns
returns c =
    integer_read c.args.e.now c.if-e-lt4.false
