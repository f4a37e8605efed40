-- `beam::buckets::bucket` meets its contract.
use Prim.Native.Nat.{ℕ, ◌*◌, ◌/◌, ◌%◌}
use mathlib.Core.Path.{ap}
use Rattle.beam.specs.Buckets.{bucket_of}
use Rattle.beam.proofs.Bucketing.{bucket_below}
use Rattle.beam.proofs.buckets.bucket.Goals as goal

pub returns : goal.returns
unfolding bucket_of
returns c =
    let size = c.args.size in
    (bucket_below c.hash-h.result size c.requires.1.some, ap (λ (m : ℕ). m % 4294967296 * size / 4294967296) c.hash-h.ensures)
