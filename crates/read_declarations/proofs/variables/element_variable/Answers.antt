-- `read_declarations::variables::element_variable` meets its contract. 03: three bytes of operands, and their test.
use mathlib.Core.Path.{refl, sym, ◌∙◌}
use lib.ListN.{get_or}
use Rattle.read_declarations.proofs.Operands.{element_good, element_beyond, element_cut, element_declares}
use Rattle.read_declarations.proofs.variables.element_variable.Goals as goal

pub returns-then-element_fits : goal.returns-then-element_fits
returns-then-element_fits c =
    let e = c.args.e.now in
    let t = sym c.element_fits.ensures ∙ c.if-element_fits.true in
    element_declares _ (get_or e 0 0) (get_or e 1 0) (get_or e 2 0) _ (element_good e c.if-e-lt3.false t) t
    refl refl refl c.wide.ensures.0

pub returns-else-element_fits : goal.returns-else-element_fits
returns-else-element_fits c =
    element_beyond c.args.e.now c.if-e-lt3.false
    (sym c.element_fits.ensures ∙ c.if-element_fits.false)

pub returns-then-e-lt3 : goal.returns-then-e-lt3
returns-then-e-lt3 c =
    element_cut c.args.e.now c.if-e-lt3.true
