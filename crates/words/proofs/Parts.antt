-- A set in two parts, at any object k: the objects below k, and those from k on, counted from there.
use mathlib.Core.Path.{◌≡◌, refl, sym, ap, ◌∙◌}
use mathlib.Core.List.{List, [], ◌∷◌, ◌++◌, map}
use Prim.Native.Nat.{ℕ, zero, suc, ◌+◌, ◌/◌, ◌%◌, ◌^◌, ◌<◌}
use native.Mathlib.Nat.{zero-add, add-zero, suc-add, add-suc, mod-lt, lt_of_lt_of_le, lt_of_le_of_lt}
use native.Mathlib.Numerals.{add-one, one-add}
use native.Mathlib.Omega.{arith}
use lib.IntN.{ℤ, ◌+ℤ◌, +ℤ_assoc, +ℤ_idl}
use lib.Pow.{pow_mono, pow_pos, field, mod-mod-pow, shr-shr, shr_le}
use Rattle.model.specs.Sets.{cons_if, members_from, members}
use Rattle.model.specs.Meaning.{sum_over}
use Rattle.words.proofs.Members.{from_step, lt_power, members_within}

-- ---- the members

cons_append : (d j : ℕ) (l m : List ℕ) → cons_if d j (l ++ m) ≡ cons_if d j l ++ m
unfolding cons_if
cons_append zero j l m = refl
cons_append (suc d) j l m = refl

cons_map : (d k j : ℕ) (l : List ℕ) → cons_if d (k + j) (map (λ (i : ℕ). k + i) l) ≡ map (λ (i : ℕ). k + i) (cons_if d j l)
unfolding cons_if
cons_map zero k j l = refl
cons_map (suc d) k j l = refl

-- the objects numbered from k + j on are those from j on, each k more
from_raised : (n k j s : ℕ) → members_from n (k + j) s ≡ map (λ (i : ℕ). k + i) (members_from n j s)
unfolding members_from
from_raised zero k j s = refl
from_raised (suc n) k j s =
    rw (from_step n (k + j) s, ← add-suc k j, from_raised n k (suc j) (s / 2), from_step n j s)
    (cons_map (s % 2) k j (members_from n (suc j) (s / 2)))

-- k digits, and then n others
from_parts : (k n j s : ℕ) → members_from (k + n) j s ≡ members_from k j (s % 2 ^ k) ++ members_from n (j + k) (s / 2 ^ k)
unfolding members_from
from_parts zero n j s =
    let all : s / 2 ^ 0 ≡ s = omega arith in
    rw (zero-add n, add-zero j, all)
from_parts (suc k) n j s =
    let next : suc j + k ≡ j + suc k = omega arith in
    let digit : s % 2 ^ suc k % 2 ≡ s % 2 = rw (← add-one k) (mod-mod-pow s k 1) in
    let below : s % 2 ^ suc k / 2 ≡ s / 2 % 2 ^ k = rw (← add-one k) (field s k 1) in
    let above : s / 2 / 2 ^ k ≡ s / 2 ^ suc k = rw (← one-add k) (shr-shr s 1 k) in
    rw (suc-add k n, from_step (k + n) j s, from_parts k n (suc j) (s / 2), above, from_step k j (s % 2 ^ suc k), digit, below, next)
    (cons_append (s % 2) j (members_from k (suc j) (s / 2 % 2 ^ k)) (members_from n (j + suc k) (s / 2 ^ suc k)))

-- the members below k, then those from k on
pub members_by_parts : (k s : ℕ) → members s ≡ members (s % 2 ^ k) ++ map (λ (i : ℕ). k + i) (members (s / 2 ^ k))
members_by_parts k s =
    let whole : s < 2 ^ (k + s) = lt_of_lt_of_le (lt_power s) (pow_mono (omega arith)) in
    let above : s / 2 ^ k < 2 ^ s = lt_of_le_of_lt (shr_le s k) (lt_power s) in
    rw (members_within (k + s) s whole, from_parts k s 0 s, members_within k (s % 2 ^ k) (mod-lt s (pow_pos k)), members_within s (s / 2 ^ k) above, ← from_raised s k 0 (s / 2 ^ k), zero-add k, add-zero k)

-- ---- a sum over them

pub sum_append : (f : ℕ → ℤ) (l m : List ℕ) → sum_over f (l ++ m) ≡ sum_over f l +ℤ sum_over f m
unfolding sum_over
sum_append f [] m = sym (+ℤ_idl (sum_over f m))
sum_append f (i ∷ l) m = ap (λ (z : ℤ). f i +ℤ z) (sum_append f l m) ∙ sym (+ℤ_assoc (f i) (sum_over f l) (sum_over f m))

pub sum_map : (f : ℕ → ℤ) (g : ℕ → ℕ) (l : List ℕ) → sum_over f (map g l) ≡ sum_over (λ i. f (g i)) l
unfolding sum_over
sum_map f g [] = refl
sum_map f g (i ∷ l) = ap (λ (z : ℤ). f (g i) +ℤ z) (sum_map f g l)

-- a sum over a set is the sum over its members below k and the sum over those from k on
pub sum_by_parts : (k : ℕ) (f : ℕ → ℤ) (s : ℕ) → sum_over f (members s) ≡ sum_over f (members (s % 2 ^ k)) +ℤ sum_over (λ i. f (k + i)) (members (s / 2 ^ k))
sum_by_parts k f s =
    let below = members (s % 2 ^ k) in
    let above = members (s / 2 ^ k) in
    rw (members_by_parts k s)
    (sum_append f below (map (λ (i : ℕ). k + i) above) ∙ ap (λ (z : ℤ). sum_over f below +ℤ z) (sum_map f (λ i. k + i) above))
