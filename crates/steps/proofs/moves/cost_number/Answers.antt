-- `steps::moves::cost_number` meets its contract.
use borrow.Author.Rules.{rules}
use Rattle.words.proofs.Integers.{back}
use Rattle.steps.proofs.Signs.{range_fits}
use Rattle.steps.proofs.Evaluated.{entry_promised, kept_number_told}
use Rattle.steps.proofs.moves.cost_number.Goals as goal

pub returns-then-is_entry : goal.returns-then-is_entry
returns-then-is_entry c =
    let form = c.is_entry.ensures c.if-is_entry.true in
    let says = entry_promised _ _ c.requires.0 c.args.at _ form c.entry_at-value.result c.entry_at-value.ensures.0 c.entry_at-value.ensures.1 in
    rw (back (range_fits {z = c.entry_at-value.result} c.entry_at-value.ensures.1)) (says.0, says.1, c.requires.2)

pub returns-in-Some : goal.returns-in-Some
returns-in-Some c =
    kept_number_told _ _ c.requires.0 c.args.at _ _ (search rules) c.in-Some.ensures c.requires.2

pub returns-in-Some-number : goal.returns-in-Some-number
returns-in-Some-number c =
    kept_number_told _ _ c.requires.0 c.args.at _ _ (search rules) c.in-Some-number.ensures c.requires.2
