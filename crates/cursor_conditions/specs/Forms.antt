-- The bytes of conditions that are read in place.
use Rattle.std.specs.Prelude.{ℕ, ◌+◌, ◌≡◌, List, get_or}
use Rattle.cursor.specs.Places.{Stands}

module _ (bytes : List ℕ) (p : ℕ) where
  -- 52 20 a 24 20 b 21 v: a literal is at most a number variable, scaled by another
  pub record ScaledForm : Type 0 where
    pub there : Stands bytes p 14
    pub is_at_most : get_or bytes p 0 ≡ 0x52
    pub literal : get_or bytes (p + 1) 0 ≡ 0x20
    pub product : get_or bytes (p + 6) 0 ≡ 0x24
    pub scale : get_or bytes (p + 7) 0 ≡ 0x20
    pub variable : get_or bytes (p + 12) 0 ≡ 0x21

  -- 57 55 45 40 n members 41 u: some of these members are members of variable u
  pub record CommonForm : Type 0 where
    pub there : Stands bytes p 15
    pub turned : get_or bytes p 0 ≡ 0x57
    pub empty : get_or bytes (p + 1) 0 ≡ 0x55
    pub intersection : get_or bytes (p + 2) 0 ≡ 0x45
    pub members : get_or bytes (p + 3) 0 ≡ 0x40
    pub variable : get_or bytes (p + 13) 0 ≡ 0x41

-- 58 54 30 k 41 v and such a condition: object k is a member of variable v, and some of these members are members of variable u
pub record MemberAndCommon (bytes : List ℕ) (p : ℕ) : Type 0 where
  pub there : Stands bytes p 21
  pub both : get_or bytes p 0 ≡ 0x58
  pub member : get_or bytes (p + 1) 0 ≡ 0x54
  pub object : get_or bytes (p + 2) 0 ≡ 0x30
  pub variable : get_or bytes (p + 4) 0 ≡ 0x41
  pub common : CommonForm bytes (p + 6)
