-- `cursor::numbers::entry_on` meets its contract.
use mathlib.Core.Path.{◌≡◌, sym, ◌∙◌}
use native.Mathlib.Omega.{arith}
use mir.Val.{SFits}
use mir.Syntax.{w64}
use Rattle.eval_sets.specs.Runs.{entry_of}
use Rattle.words.proofs.Integers.{back}
use Rattle.quick.specs.Entries.{EntryForm, entry_at}
use Rattle.cursor.specs.Places.{Stands}
use Rattle.cursor.proofs.NumberLaws.{entry_is}
use Rattle.cursor.proofs.numbers.entry_on.Goals as goal

pub returns-then-begins_element-2 : goal.returns-then-begins_element-2
unfolding entry_of
returns-then-begins_element-2 c =
    let there : (Stands c.args.m.now.now c.args.at.now 6) = c.stands.ensures c.if-stands.true in
    let form : (EntryForm c.args.m.now.now c.args.at.now) = record {
      inside = (there).inside;
      entry = c.requires.byte;
      row = sym c.begins_element.ensures ∙ c.if-begins_element.true;
      column = sym c.begins_element-then-begins_element.ensures ∙ c.if-begins_element-2.true;
    } in
    let f : SFits w64 c.entry.result = record { sfits = omega (arith, c.entry.ensures.1) } in
    let is : c.entry.result ≡ entry_at c.args.m.now.now c.args.at.now c.args.outline.now c.args.state.now =
    c.entry.ensures.0 ∙ rw (c.object-column.ensures.0, c.object-row.ensures.0, c.word_at-table.ensures) in
    rw (back f) (entry_is c.args.m.now.now c.args.outline.now c.args.state.now c.args.at.now c.entry.result (there) (form) is c.entry.ensures.1)
