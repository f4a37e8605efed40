-- `bench_parts::insertions::make_header` meets its contract.
use Rattle.bench_parts.specs.Timed.{child_header}
use Rattle.bench_parts.proofs.insertions.make_header.Goals as goal

pub returns : goal.returns
unfolding child_header
returns c =
    rw c.next-y.ensures
