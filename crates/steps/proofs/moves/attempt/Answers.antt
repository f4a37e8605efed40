-- `steps::moves::attempt` meets its contract.
use Rattle.steps.proofs.Moving.{rest_read, attempt_blocked, attempt_stops, attempt_taken}
use Rattle.steps.proofs.moves.attempt.Goals as goal

pub take-requires : goal.take-requires
take-requires c =
    (c.requires.0, rest_read _ _ _ _ c.rest_holds.ensures c.in-All.is c.requires.1, c.requires.2, c.requires.3)

pub returns-in-Ok : goal.returns-in-Ok
returns-in-Ok c =
    (rw c.in-Ok.is at (attempt_taken _ _ _ _ c.rest_holds.ensures c.in-All.is _ _ c.take.ensures.0), c.take.ensures.1)

pub returns-in-Err : goal.returns-in-Err
returns-in-Err c =
    (rw c.in-Err.is at (attempt_taken _ _ _ _ c.rest_holds.ensures c.in-All.is _ _ c.take.ensures.0), c.take.ensures.1)

pub returns-in-Fails : goal.returns-in-Fails
returns-in-Fails c =
    (attempt_blocked _ _ _ _ c.rest_holds.ensures _ c.in-Fails.is, c.requires.3)

pub returns-in-Trouble : goal.returns-in-Trouble
returns-in-Trouble c =
    (attempt_stops _ _ _ _ c.rest_holds.ensures _ c.in-Trouble.is, c.requires.3)
