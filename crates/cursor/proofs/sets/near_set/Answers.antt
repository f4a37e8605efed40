-- `cursor::sets::near_set` meets its contract.
use mathlib.Core.Path.{◌≡◌, sym, ◌∙◌}
use mathlib.Core.Bool.{true}
use Rattle.cursor.specs.Codes.{is_change, is_combination}
use Rattle.cursor.proofs.SetLaws.{change_some, combination_some}
use Rattle.cursor.proofs.sets.near_set.Goals as goal

pub changed-requires : goal.changed-requires
changed-requires c =
    let change : is_change c.first_byte-b.result ≡ true = sym c.is_change.ensures ∙ c.if-is_change.true in
    (c.first_byte-b.ensures.begins (change_some c.first_byte-b.result change), change)

pub two_leaves-requires : goal.two_leaves-requires
two_leaves-requires c =
    let combines : is_combination c.first_byte-b.result ≡ true = sym c.is_combination.ensures ∙ c.if-is_combination.true in
    (c.first_byte-b.ensures.begins (combination_some c.first_byte-b.result combines), combines)
