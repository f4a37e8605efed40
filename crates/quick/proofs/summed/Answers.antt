-- `quick::summed` meets its contract.
use mathlib.Core.Path.{◌≡◌, ap₂, ◌∙◌}
use native.Mathlib.Omega.{arith}
use lib.IntN.{◌+ℤ◌}
use mir.Val.{SFits}
use mir.Syntax.{w64}
use Rattle.eval_sets.specs.Runs.{entry_of}
use Rattle.words.proofs.Integers.{back, sum_fits}
use Rattle.quick.specs.Sets.{object_in}
use Rattle.quick.specs.Quick.{variable_in, entry_in}
use Rattle.quick.proofs.summed.Goals as goal

pub returns : goal.returns
unfolding entry_of object_in
returns c =
    let variable_fits : SFits w64 c.signed_word-a.result = record { sfits = omega (arith, c.signed_word-a.ensures.1) } in
    let entry_fits : SFits w64 c.entry-b.result = record { sfits = omega (arith, c.entry-b.ensures.1) } in
    let bytes = c.args.model.now in
    let at = c.args.at in
    let state = c.args.state.now in
    let words = c.args.outline.now in
    let variable : c.signed_word-a.result ≡ variable_in bytes at state = c.signed_word-a.ensures.0 ∙ rw (c.word_at.ensures, c.byte_at.ensures) in
    let entry : c.entry-b.result ≡ entry_in bytes at words state =
    c.entry-b.ensures.0 ∙ rw (c.wide-column.ensures.0, c.byte_at-4.ensures, c.word_at-row.ensures, c.byte_at-3.ensures, c.word_at-table.ensures, c.byte_at-2.ensures) in
    let small = c.signed_word-a.ensures.1 in
    let small-entry = c.entry-b.ensures.1 in
    let sum : c.sum.result ≡ c.signed_word-a.result +ℤ c.entry-b.result = rw (back (variable_fits), back (entry_fits)) at c.sum.ensures in
    let whole : SFits w64 c.sum.result = rw sum (sum_fits c.signed_word-a.result c.entry-b.result small small-entry) in
    record {
      sum = rw (back whole) (sum ∙ ap₂ ◌+ℤ◌ variable entry);
      variable_fits = rw variable at small;
      entry_fits = rw entry at small-entry;
    }
