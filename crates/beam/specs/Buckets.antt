-- The bucket of a state, by its hash.
use Rattle.std.specs.Prelude.{ℕ, ◌*◌, ◌/◌, ◌%◌, ◌^◌, ◌≤◌, ◌<◌, List}
use Rattle.steps.specs.Hashes.{hash_of}

-- how many buckets there may be
pub record BucketCount (size : ℕ) : Type 0 where
  pub some : 0 < size
  pub few : size ≤ 2 ^ 32

-- one of `size` buckets
unfoldable pub bucket_of : (outline state : List ℕ) (size : ℕ) → ℕ
bucket_of outline state size = hash_of outline state % 2 ^ 32 * size / 2 ^ 32
