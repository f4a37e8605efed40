-- `search_runs::judged_round` meets its contract: over in the round, judged to go on, or judged to end.
use Rattle.search_runs.proofs.Widening.{round_over, round_again, round_ended}
use Rattle.search_runs.proofs.judged_round.Goals as goal
use Rattle.search_runs.proofs.judged_round.Goals.{in-Ok+in-Some, in-Ok+in-None, in-Err}

pub returns : goal.returns
returns c =
    elim c.match-x.branch [
      | in-Ok+in-Some w ↦ rw w.next-is (round_ended c.round-x.ensures w.in-Ok.is w.judge.ensures w.in-Some.is)
      | in-Ok+in-None w ↦ rw w.next-is (round_again c.round-x.ensures w.in-Ok.is w.judge.ensures w.in-None.is)
      | in-Err w ↦ rw w.next-is (round_over c.round-x.ensures w.in-Err.is)
    ]
