-- `quick::entries::entry_at` meets its contract.
use mathlib.Core.Path.{◌≡◌, ◌∙◌}
use native.Mathlib.Omega.{arith}
use mir.Val.{SFits}
use mir.Syntax.{w64}
use Rattle.eval_sets.specs.Runs.{entry_of}
use Rattle.words.proofs.Integers.{back}
use Rattle.quick.specs.Entries.{entry_at}
use Rattle.quick.proofs.entries.entry_at.Goals as goal

pub returns : goal.returns
unfolding entry_of
returns c =
    let f : SFits w64 c.entry.result = record { sfits = omega (arith, c.entry.ensures.1) } in
    let is : c.entry.result ≡ entry_at c.args.model.now c.args.at c.args.outline.now c.args.state.now =
    c.entry.ensures.0 ∙ rw (c.object-column.ensures.0, c.object-row.ensures.0, c.word_at-table.ensures, c.byte_at.ensures) in
    rw (back f) (is, c.entry.ensures.1)
