-- A set of objects as the number whose bit k says that object k is a member. There is no word size in it.
-- docs/FORMAT.md, "Expressions".
use Rattle.std.specs.Prelude.{ℕ, zero, suc, ◌-◌, ◌/◌, ◌%◌, ◌^◌, Bool, List, [], ◌∷◌, eqb}
use Rattle.std.specs.Int.Bits.{bit_and, bit_or}

unfoldable pub is_member : (k s : ℕ) → Bool
is_member k s = eqb (s / 2 ^ k % 2) 1

unfoldable pub union : ℕ → ℕ → ℕ
union s t = bit_or s t

unfoldable pub intersection : ℕ → ℕ → ℕ
intersection s t = bit_and s t

-- the members of s that are not in t
unfoldable pub difference : ℕ → ℕ → ℕ
difference s t = s - bit_and s t

-- those of the first n objects that are not in s
unfoldable pub complement : (n s : ℕ) → ℕ
complement n s = difference (2 ^ n - 1) s

unfoldable pub is_subset : ℕ → ℕ → Bool
is_subset s t = eqb (bit_and s t) s

unfoldable pub cons_if : (digit k : ℕ) → List ℕ → List ℕ
cons_if zero k l = l
cons_if (suc d) k l = k ∷ l

-- the members from object k on, least first, where the lowest binary digit of s is for k;
-- the first argument bounds the digits that are looked at
unfoldable pub members_from : (digits k s : ℕ) → List ℕ
members_from zero k s = []
members_from (suc n) k zero = []
members_from (suc n) k (suc s) = cons_if (suc s % 2) k (members_from n (suc k) (suc s / 2))

-- the members of s, least first: s has no more digits than its own number
unfoldable pub members : ℕ → List ℕ
members s = members_from s 0 s
