-- `beam_widths::entries_rise` meets its contract. The invariant: the list rises as the entries that are left rise from the one before.
use mathlib.Core.Path.{sym, ◌∙◌}
use native.Mathlib.Omega.{arith}
use borrow.Author.Rules.{rules}
use Rattle.beam_widths.proofs.Rising.{not_above, too_wide, one_further, none_left}
use Rattle.beam_widths.proofs.entries_rise.Goals.{then-width-before-via-then-width-before, then-width-before-via-else-width-before+then-width-gt4096}
use Rattle.beam_widths.proofs.entries_rise.Goals as goal

pub returns-then-width-before : goal.returns-then-width-before
returns-then-width-before c =
    let ws = c.args.widths.now in
    let turn = c.loop-entry in
    elim c.then-width-before.branch [
      | then-width-before-via-then-width-before w ↦
          sym (turn.invariant.1 ∙ not_above ws turn.before turn.entry-index c.loop-entry-test.true (omega (arith, w.if-width-before, c.width_of-width.ensures)))
      | then-width-before-via-else-width-before+then-width-gt4096 w ↦
          sym (turn.invariant.1 ∙ too_wide ws turn.before turn.entry-index c.loop-entry-test.true (omega (arith, w.if-width-before, c.width_of-width.ensures))
          (omega (arith, w.if-width-gt4096, c.width_of-width.ensures)))
    ]

pub loop-entry-preserved : goal.loop-entry-preserved
loop-entry-preserved c =
    let e = c.width_of-width.ensures in
    (search rules, c.loop-entry.invariant.1 ∙ rw e (one_further _ _ _ c.loop-entry-test.true (rw e at c.if-width-before.false) (rw e at c.if-width-gt4096.false)))

pub returns : goal.returns
returns c =
    sym (c.loop-entry.invariant.1 ∙ none_left _ _ _ c.loop-entry.invariant.0 c.loop-entry-test.false)
