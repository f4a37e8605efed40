-- Bytes that stand at a place, with room to count on.
use Rattle.std.specs.Prelude.{ℕ, ◌+◌, ◌^◌, ◌≤◌, ◌<◌, ◌≡◌, List, length, get_or, drop}
use Rattle.eval_sets.specs.Forms.{span}

-- n bytes stand at p
pub record Stands (bytes : List ℕ) (p n : ℕ) : Type 0 where
  pub inside : p + n ≤ length bytes
  pub near : p + n < 2 ^ 63

-- an expression that begins with byte b stands at p
pub record Begins (bytes : List ℕ) (p b : ℕ) : Type 0 where
  pub there : Stands bytes p 1
  pub byte : get_or bytes p 0 ≡ b

-- the byte at p, 0 where there is none
pub record FirstByte (bytes : List ℕ) (p b : ℕ) : Type 0 where
  pub byte : b ≡ get_or bytes p 0
  pub begins : (b ≡ 0 → ⊥) → Begins bytes p b
  pub small : length bytes < 2 ^ 63

-- q is behind k expressions from p on, by first bytes alone
pub record BehindAll (bytes : List ℕ) (p k q : ℕ) : Type 0 where
  pub ends : q ≡ p + span (drop p bytes) 0 k
  pub there : Stands bytes q 0
