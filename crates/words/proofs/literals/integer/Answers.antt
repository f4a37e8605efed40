-- `words::literals::integer` meets its contract.
use mathlib.Core.Path.{◌∙◌, ap, sym}
use lib.IntN.{ℤ}
use Rattle.model.specs.Readers.{read}
use Rattle.words.proofs.Integers.{back}
use Rattle.words.proofs.Literal.{integer_is}
use Rattle.words.proofs.literals.integer.Goals as goal

pub returns : goal.returns
returns c =
    rw (back (record { sfits = c.signed.type_inv }))
    (integer_is c.args.e.now c.word.ensures.0 ∙ ap (λ (z : ℤ). read z 4) (sym c.signed.ensures.0), c.signed.ensures.1)
