-- `prepare::guards::put_guard` meets its contract.
use Rattle.prepare.proofs.Kept.{guard_put}
use Rattle.prepare.proofs.guards.put_guard.Goals as goal

pub returns : goal.returns
returns c =
    record { put = guard_put _ c.put.ensures; kept = c.put.ensures.kept }
