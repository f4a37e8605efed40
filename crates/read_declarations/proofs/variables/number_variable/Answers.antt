-- `read_declarations::variables::number_variable` meets its contract. 04: five bytes of operands, and the test of the preference.
use mathlib.Core.Path.{refl}
use lib.ListN.{get_or}
use Rattle.words.proofs.Integers.{back}
use Rattle.words.proofs.Literal.{suffix}
use Rattle.read_declarations.proofs.Operands.{number_good, number_beyond, number_cut, number_declares}
use Rattle.read_declarations.proofs.variables.number_variable.Goals as goal

pub returns-then-p-lt3 : goal.returns-then-p-lt3
returns-then-p-lt3 c =
    let e = c.args.e.now in
    number_declares _ (get_or e 0 0) c.integer.result _
    (number_good e c.if-e-lt5.false (rw (suffix 1 e) at c.integer.ensures.0) c.if-p-lt3.true)
    c.if-p-lt3.true refl refl refl (rw (back {z = c.integer.result} (record { sfits = c.integer.type_inv })) at c.biased.ensures.0)
    c.biased.ensures.1

pub returns-else-p-lt3 : goal.returns-else-p-lt3
returns-else-p-lt3 c =
    number_beyond c.args.e.now c.if-e-lt5.false c.if-p-lt3.false

pub returns-then-e-lt5 : goal.returns-then-e-lt5
returns-then-e-lt5 c =
    number_cut c.args.e.now c.if-e-lt5.true
