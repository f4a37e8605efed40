-- `bench_parts::insertions::make_state` meets its contract.
use Rattle.bench_parts.specs.Timed.{child_state}
use Rattle.bench_parts.proofs.insertions.make_state.Goals as goal

pub returns : goal.returns
unfolding child_state
returns c =
    rw c.next.ensures
