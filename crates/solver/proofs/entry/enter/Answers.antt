-- `solver::entry::enter` meets its contract: the target's constraints, then its bounds.
use Rattle.solver.proofs.Entering.{enter_bounded, enter_unbounded, enter_broken, enter_trouble}
use Rattle.solver.proofs.entry.enter.Goals as goal

pub returns-in-Ok-target_bound : goal.returns-in-Ok-target_bound
returns-in-Ok-target_bound c =
    enter_bounded _ _ c.requires.1 _ c.constraints_hold.ensures c.in-Ok.is c.if-holds.true _ c.target_bound.ensures c.in-Ok-target_bound.is

pub returns-in-Err-target_bound : goal.returns-in-Err-target_bound
returns-in-Err-target_bound c =
    enter_unbounded _ _ c.requires.1 _ c.constraints_hold.ensures c.in-Ok.is c.if-holds.true _ c.target_bound.ensures c.in-Err-target_bound.is c.number.ensures.kept

pub returns-else-holds : goal.returns-else-holds
returns-else-holds c =
    enter_broken _ _ c.requires.1 _ c.constraints_hold.ensures c.in-Ok.is c.if-holds.false

pub returns-in-Err : goal.returns-in-Err
returns-in-Err c =
    enter_trouble _ _ c.requires.1 _ c.constraints_hold.ensures c.in-Err.is c.number-in-Err.ensures.kept
