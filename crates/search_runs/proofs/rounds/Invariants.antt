-- `search_runs::rounds` meets its contract. The invariant: the rounds that are left give the run's answer.
use Prim.Native.Nat.{◌+◌, ◌-◌}
use Rattle.search_runs.proofs.Widening.{Widening}
use Rattle.search_runs.proofs.rounds.Given as goal

abbrev pub invariant-loop-round : goal.invariant-loop-round
invariant-loop-round l = Widening l.model l.root l.initial.words l.words l.initial.plan l.plan l.widths l.budget l.length l.place l.progress (l.budget + 1 - l._round)
