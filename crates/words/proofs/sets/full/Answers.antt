-- `words::sets::full` meets its contract, by the table's rule.
use mathlib.Core.Path.{sym, ◌∙◌}
use Rattle.words.proofs.FullSets.{full_sets_lem, full_of_lem, full_beyond}
use Rattle.words.proofs.sets.full.Goals as goal

pub returns-then-n-gt-MOST_OBJECTS : goal.returns-then-n-gt-MOST_OBJECTS
returns-then-n-gt-MOST_OBJECTS c =
    sym (full_beyond c.args.n c.if-n-gt-MOST_OBJECTS.true)

pub returns : goal.returns
returns c =
    full_sets_lem c.args.n c.if-n-gt-MOST_OBJECTS.false ∙ sym (full_of_lem c.args.n c.if-n-gt-MOST_OBJECTS.false)
