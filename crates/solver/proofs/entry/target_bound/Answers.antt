-- `solver::entry::target_bound` meets its contract.
use Rattle.solver.proofs.entry.target_bound.Goals as goal

pub bound-requires : goal.bound-requires
bound-requires c =
    (c.requires, c.forget.ensures _ _)
