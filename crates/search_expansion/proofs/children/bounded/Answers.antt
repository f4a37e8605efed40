-- `search_expansion::children::bounded` meets its contract.
use mathlib.Core.Path.{sym, ◌∙◌}
use Rattle.search_expansion.proofs.TrialSteps.{f_fits, joined, bounded_value, bounded_trouble}
use Rattle.search_expansion.proofs.children.bounded.Goals as goal

pub combine-f-requires : goal.combine-f-requires
combine-f-requires c =
    rw c.hours.ensures
    (c.requires.0.outlined, f_fits _ _ _ _ _ _ c.requires.0.small c.requires.1.cost c.combine-g.ensures (sym c.child_bound.ensures.0 ∙ c.in-Ok.is))

pub returns-in-Ok : goal.returns-in-Ok
returns-in-Ok c = (
  record {
    grows = λ state.
        bounded_value _ _ _ _ state _ _ _ _ c.offer-x.result c.requires.1.transition (sym c.child_bound.ensures.0 ∙ c.in-Ok.is)
        c.combine-g.ensures (joined _ _ c.hours.ensures c.combine-f.ensures) c.offer-x.ensures;
  },
  c.child_bound.ensures.1,
)

pub returns-in-Err : goal.returns-in-Err
returns-in-Err c = (
  record {
    grows = λ state.
        bounded_trouble _ _ _ _ state _ _ _ _ c.requires.1.transition (sym c.child_bound.ensures.0 ∙ c.in-Err.is) c.number.ensures.kept c.combine-g.ensures c.requires.0.held;
  },
  c.child_bound.ensures.1,
)
