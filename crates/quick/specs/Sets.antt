-- Elements, a set variable with an element added or taken out, one joined to a set, and an object's membership in one, by the bytes that
-- stand for them.
use Rattle.std.specs.Prelude.{ℕ, ◌+◌, ◌%◌, ◌^◌, ◌≤◌, ◌≡◌, Bool, true, cond, List, length, get_or, drop, eqb}
use Rattle.model.specs.Numbers.{most_objects}
use Rattle.model.specs.Readers.{Read, read, refused, word}
use Rattle.model.specs.Sets as Sets

-- ---- 30 k and 31 v: an element

unfoldable pub begins_element : (b : ℕ) → Bool
begins_element b = cond (eqb b 0x30) true (eqb b 0x31)

unfoldable pub object_in : (b k : ℕ) (state : List ℕ) → ℕ
object_in b k state = cond (eqb b 0x30) (k % most_objects) (get_or state k 0 % most_objects)

-- ---- 42 e 41 u and 43 e 41 u: the set variable u with the element e, and without it

unfoldable pub changes_set : (b : ℕ) → Bool
changes_set b = cond (eqb b 0x42) true (eqb b 0x43)

-- by its first byte
unfoldable pub changed_by : (b k s : ℕ) → ℕ
changed_by b k s = cond (eqb b 0x42) (Sets.union (2 ^ k) s) (Sets.difference s (2 ^ k))

module _ (bytes : List ℕ) (at : ℕ) where
  pub record ChangedForm : Type 0 where
    pub inside : at + 5 ≤ length bytes
    pub changes : changes_set (get_or bytes at 0) ≡ true
    pub element : begins_element (get_or bytes (at + 1) 0) ≡ true
    pub variable : get_or bytes (at + 3) 0 ≡ 0x41

  abbrev pub changed_in : (state : List ℕ) → ℕ
  changed_in state = changed_by (get_or bytes at 0) (object_in (get_or bytes (at + 1) 0) (get_or bytes (at + 2) 0) state) (get_or state (get_or bytes (at + 4) 0) 0)

-- ---- 44 41 v 40 n and eight bytes: the members of the set variable v and those of the set that the bytes are

-- what was read, or no members
unfoldable pub or_none : Read ℕ → ℕ
or_none (read s n) = s
or_none (refused t) = 0

-- the eight bytes from k on as one number
abbrev pub members_at : (bytes : List ℕ) (k : ℕ) → ℕ
members_at bytes k = or_none (word 8 (drop k bytes))

module _ (bytes : List ℕ) (at : ℕ) where
  pub record JoinedForm : Type 0 where
    pub inside : at + 13 ≤ length bytes
    pub union : get_or bytes at 0 ≡ 0x44
    pub variable : get_or bytes (at + 1) 0 ≡ 0x41
    pub literal : get_or bytes (at + 3) 0 ≡ 0x40

  abbrev pub joined_in : (state : List ℕ) → ℕ
  joined_in state = Sets.union (get_or state (get_or bytes (at + 2) 0) 0) (members_at bytes (at + 5))

-- ---- 54 30 k 41 v: whether the object k is a member of the set variable v

module _ (bytes : List ℕ) (at : ℕ) where
  abbrev pub member_in : (state : List ℕ) → Bool
  member_in state = Sets.is_member (object_in 0x30 (get_or bytes (at + 2) 0) state) (get_or state (get_or bytes (at + 4) 0) 0)
