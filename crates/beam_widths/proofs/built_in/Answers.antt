-- `beam_widths::built_in` meets its contract. The invariant: W is not among the widths passed.
use mathlib.Core.Path.{sym, ◌∙◌}
use borrow.Author.Rules.{rules}
use Rattle.beam_widths.proofs.Rising.{width_found, width_passed, no_width}
use Rattle.beam_widths.proofs.built_in.Goals as goal

pub returns-then-width_of-wanted : goal.returns-then-width_of-wanted
returns-then-width_of-wanted c =
    width_found _ _ c.loop-place-test.true (sym c.width_of.ensures ∙ c.if-width_of-wanted.true) c.loop-place.invariant.1

pub loop-place-preserved : goal.loop-place-preserved
loop-place-preserved c =
    (search rules, c.loop-place.invariant.1 ∙ width_passed _ _ c.loop-place-test.true (λ e. c.if-width_of-wanted.false (c.width_of.ensures ∙ e)))

pub returns : goal.returns
returns c =
    no_width _ _ c.loop-place.invariant.0 c.loop-place-test.false c.loop-place.invariant.1
