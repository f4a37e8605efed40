-- The bucket of a state: its bounds, and that a state that dominates another is in the same bucket.
use Prim.Native.Nat.{ℕ, ◌*◌, ◌/◌, ◌%◌, ◌≤◌, ◌<◌}
use mathlib.Core.Path.{◌≡◌}
use mathlib.Core.Bool.{true}
use mathlib.Core.List.{List}
use native.Mathlib.Nat.{div-lt_iff_lt-mul, mod-lt, mul-le-mul, mul-lt-mul_of_pos_right}
use native.Mathlib.Omega.{arith}
use lib.Dec.{lit<}
use Rattle.steps.specs.InBytes.{Outlined, system_in, state_in}
use Rattle.steps.proofs.Promises.{same_hash}
use Rattle.beam.specs.Buckets.{bucket_of}

pub bucket_room : (m size : ℕ) → size ≤ 4294967296 → m % 4294967296 * size ≤ 4294967295 * 4294967296
bucket_room m size h =
    let a : m % 4294967296 < 4294967296 = mod-lt m (lit< tt) in
    let b : m % 4294967296 ≤ 4294967295 = omega arith in
    mul-le-mul b h

pub bucket_below : (m size : ℕ) → 0 < size → m % 4294967296 * size / 4294967296 < size
bucket_below m size pos =
    let a : m % 4294967296 < 4294967296 = mod-lt m (lit< tt) in
    let b : m % 4294967296 * size < 4294967296 * size = mul-lt-mul_of_pos_right a pos in
    (div-lt_iff_lt-mul (lit< tt)).1 (omega arith)

pub same_bucket : {bytes outline : List ℕ} → Outlined bytes outline → (t s : List ℕ) (size : ℕ) → (system_in bytes).dominates (state_in bytes t) (state_in bytes s) ≡ true → bucket_of outline t size ≡ bucket_of outline s size
unfolding bucket_of
same_bucket o t s size d = rw (same_hash o t s d)
