-- `solver::entry::refusal` has the number, and 0 in every other field.
use mathlib.Core.Path.{refl}
use Rattle.search.specs.Run.{refused_by_input}
use Rattle.search_report.specs.Answers.{outcome_of, refusal_of}
use Rattle.solver.proofs.entry.refusal.Goals as goal

pub returns : goal.returns
unfolding refused_by_input outcome_of refusal_of
returns c =
    record { outcome = refl; flag = refl; cost = c.hours-nothing.ensures; bound = c.hours-nothing.ensures; length_is = refl; expansions = refl; rounds = refl; width = refl }
