-- A number that is known before it is read: a table's sum, by its place; and the forms around it.
use Rattle.std.specs.Prelude.{ℕ, ◌+◌, ◌<◌, ◌≡◌, List, length, get_or, ℤ}
use Rattle.cursor.specs.Places.{Stands, Begins}
use Rattle.cursor.specs.Told.{NumberTo}

-- the number z stands at p and takes six bytes; behind the last byte nothing is known
abbrev pub KnownAt : (bytes words state : List ℕ) (p : ℕ) (z : ℤ) → Type 0
KnownAt bytes words state p z = p < length bytes → NumberTo bytes words state p z (p + 6)

-- 23 20 and a number
pub record LessForm (bytes : List ℕ) (p : ℕ) : Type 0 where
  pub there : Stands bytes p 6
  pub less : get_or bytes p 0 ≡ 0x23
  pub literal : get_or bytes (p + 1) 0 ≡ 0x20

-- 25 23 20 and a number
pub record QuotientForm (bytes : List ℕ) (p : ℕ) : Type 0 where
  pub begins : Begins bytes p 0x25
  pub less : LessForm bytes (p + 1)

-- 23 20 z 25 23 20 and a number
pub record RoundedForm (bytes : List ℕ) (p : ℕ) : Type 0 where
  pub less : LessForm bytes p
  pub quotient : QuotientForm bytes (p + 6)
