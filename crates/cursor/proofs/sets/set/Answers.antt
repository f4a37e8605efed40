-- `cursor::sets::set` meets its contract.
use mathlib.Core.Path.{◌≡◌, sym, ◌∙◌}
use mathlib.Core.Bool.{true}
use Rattle.cursor.specs.Places.{Begins}
use Rattle.cursor.specs.Codes.{is_combination}
use Rattle.cursor.proofs.SetLaws.{combination_some}
use Rattle.cursor.proofs.sets.set.Goals as goal

pub is_deep-requires : goal.is_deep-requires
is_deep-requires c =
    let combines : is_combination c.first_byte-b.result ≡ true = sym c.is_combination.ensures ∙ c.if-is_combination.true in
    let begins : Begins c.args.m.now.now c.args.at.now c.first_byte-b.result = c.first_byte-b.ensures.begins (combination_some c.first_byte-b.result (combines)) in
    (begins).there

pub two_sets-requires : goal.two_sets-requires
two_sets-requires c =
    let combines : is_combination c.first_byte-b.result ≡ true = sym c.is_combination.ensures ∙ c.if-is_combination.true in
    let begins : Begins c.args.m.now.now c.args.at.now c.first_byte-b.result = c.first_byte-b.ensures.begins (combination_some c.first_byte-b.result (combines)) in
    (begins, combines)
