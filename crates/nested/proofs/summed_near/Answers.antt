-- `nested::summed_near` meets its contract.
use mathlib.Core.Path.{sym, ◌∙◌}
use mir.Val.{SFits}
use mir.Syntax.{w64}
use Rattle.words.proofs.Integers.{back}
use Rattle.nested.proofs.Waiting.{ranged_told, near_total_is}
use Rattle.nested.proofs.summed_near.Goals as goal

pub returns-then-begins_element : goal.returns-then-begins_element
returns-then-begins_element c =
    let f : SFits w64 c.total.result = record { sfits = c.total.type_inv } in
    ranged_told _ _ _ _ _ c.total.result _ (rw (back f) at c.ranged.ensures)
    (near_total_is _ _ _ c.total.result c.requires (c.near_set-s.ensures c.if-q-p.false) (c.stands-then-stands.ensures c.if-stands-2.true) (sym c.begins_element.ensures ∙ c.if-begins_element.true)
    (c.total.ensures ∙ rw (c.word_at-table.ensures, c.object-j.ensures.0)))
