-- The bytes of the conditions that test one word of a state.
use Rattle.std.specs.Prelude.{ℕ, ◌+◌, ◌≤◌, ◌≡◌, List, length, get_or}

module _ (bytes : List ℕ) (at : ℕ) where
  -- 54 30 k 41 v: object k is a member of variable v
  pub record MemberForm : Type 0 where
    pub inside : at + 5 ≤ length bytes
    pub member : get_or bytes at 0 ≡ 0x54
    pub object : get_or bytes (at + 1) 0 ≡ 0x30
    pub variable : get_or bytes (at + 3) 0 ≡ 0x41

  -- 55 45 40 n members 41 v: none of the members is one of variable v
  pub record MissingForm : Type 0 where
    pub inside : at + 14 ≤ length bytes
    pub empty : get_or bytes at 0 ≡ 0x55
    pub intersection : get_or bytes (at + 1) 0 ≡ 0x45
    pub members : get_or bytes (at + 2) 0 ≡ 0x40
    pub variable : get_or bytes (at + 12) 0 ≡ 0x41

  -- 53 31 v 30 k: element variable v is object k
  pub record SameForm : Type 0 where
    pub inside : at + 5 ≤ length bytes
    pub same : get_or bytes at 0 ≡ 0x53
    pub variable : get_or bytes (at + 1) 0 ≡ 0x31
    pub object : get_or bytes (at + 3) 0 ≡ 0x30

-- 57 54 30 k 41 v: object k is no member of variable v
pub record AbsentForm (bytes : List ℕ) (at : ℕ) : Type 0 where
  pub negated : get_or bytes at 0 ≡ 0x57
  pub member : MemberForm bytes (at + 1)
