-- The byte at a place in front of what follows it, and readings that exclude each other.
use Prim.Native.Nat.{ℕ, ◌+◌, ◌<◌}
use mathlib.Core.Path.{◌≡◌}
use mathlib.Core.List.{List, ◌∷◌}
use native.Mathlib.Omega.{arith}
use native.Mathlib.Numerals.{add-one}
use lib.ListN.{get_or, drop}
use lib.Seq.{drop-cons}
use Rattle.laws.proofs.Lists.{byte_inside}
use Rattle.model.specs.Readers.{Read, read, refused}

pub starts_with : (bytes : List ℕ) (at b : ℕ) → 0 < b → get_or bytes at 0 ≡ b → drop at bytes ≡ b ∷ drop (at + 1) bytes
starts_with bytes at b some here = rw (← here, add-one at) (drop-cons bytes at 0 (byte_inside bytes at b some here))

-- nothing is both refused and read
pub clash : {X Y : Type 0} {y : Y} {n t : ℕ} {x : Read Y} → x ≡ refused t → x ≡ read y n → X
clash e f = let z : ◌≡◌ {A = ℕ} 0 1 = cc in absurd (omega arith)
