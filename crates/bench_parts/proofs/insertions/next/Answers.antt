-- `bench_parts::insertions::next` meets its contract.
use mathlib.Core.Path.{refl}
use Rattle.bench_parts.specs.Timed.{next_of}
use Rattle.bench_parts.proofs.insertions.next.Goals as goal

pub returns : goal.returns
unfolding next_of
returns c =
    refl
