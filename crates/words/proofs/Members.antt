-- Laws of the members of a set: their count is a count of ones, the least and the greatest are counts of zeros, and each is taken off by an and.
use mathlib.Core.Path.{◌≡◌, refl, sym, ap, ◌∙◌}
use mathlib.Core.List.{List, [], ◌∷◌}
use mathlib.Core.Logic.{◌⊎◌, inl, inr, ⊎_elim}
use Prim.Native.Nat.{ℕ, zero, suc, ◌+◌, ◌-◌, ◌*◌, ◌/◌, ◌%◌, ◌^◌, ◌<◌, ◌≤◌}
use native.Mathlib.Nat.{lt_of_lt_of_le, lt_of_not-le, mod-lt, div-eq_of_lt, pow-suc}
use native.Mathlib.Omega.{arith}
use lib.ListN.{length}
use lib.Arith.{lt-one}
use lib.Bits.{bit_and, and_step, and_self, and_le_r}
use lib.Count.{ones, ones_step, ones-le, count_leading_zeros, leading_top, count_trailing_zeros}
use lib.Pow.{pow_mono}
use mathlib.Core.Bool.{false}
use Rattle.laws.specs.Lists.{All}
use Rattle.model.specs.Sets.{is_member, cons_if, members_from, members}

pub half_lt : (n s : ℕ) → s < 2 ^ suc n → s / 2 < 2 ^ n
half_lt n s h = omega (arith, pow-suc 2 n)

two_cases : (b : ℕ) → b < 2 → (b ≡ 0) ⊎ (b ≡ 1)
two_cases zero h = inl refl
two_cases (suc zero) h = inr refl
two_cases (suc (suc b)) h = let z : ⊥ = omega arith in absurd z

none_from : (n k : ℕ) → members_from n k 0 ≡ []
unfolding members_from
none_from zero k = refl
none_from (suc n) k = refl

-- the lowest digit, and the members from the others
pub from_step : (n k s : ℕ) → members_from (suc n) k s ≡ cons_if (s % 2) k (members_from n (suc k) (s / 2))
unfolding members_from cons_if
from_step n k zero = sym (none_from n (suc k))
from_step n k (suc s) = refl

-- digits beyond the number's own change nothing
from_enough : (n m k s : ℕ) → s < 2 ^ n → s < 2 ^ m → members_from n k s ≡ members_from m k s
from_enough zero m k s h g = rw (lt-one h) (none_from zero k ∙ sym (none_from m k))
from_enough (suc n) zero k s h g = rw (lt-one g) (none_from (suc n) k ∙ sym (none_from zero k))
from_enough (suc n) (suc m) k s h g =
    rw (from_step n k s, from_step m k s, from_enough n m (suc k) (s / 2) (half_lt n s h) (half_lt m s g))

pub lt_power : (s : ℕ) → s < 2 ^ s
lt_power zero = omega arith
lt_power (suc s) = omega (arith, pow-suc 2 s, lt_power s)

pub members_within : (n s : ℕ) → s < 2 ^ n → members s ≡ members_from n 0 s
unfolding members
members_within n s h = from_enough s n 0 s (lt_power s) h

-- ---- the count

cons_length : (d k : ℕ) (l : List ℕ) → d < 2 → length (cons_if d k l) ≡ d + length l
unfolding cons_if
cons_length zero k l h = omega arith
cons_length (suc zero) k l h = omega arith
cons_length (suc (suc d)) k l h = let z : ⊥ = omega arith in absurd z

from_count : (n k s : ℕ) → s < 2 ^ n → length (members_from n k s) ≡ ones s
from_count zero k s h = rw (lt-one h, none_from) (unfold ones in refl)
from_count (suc n) k s h =
    rw (from_step n k s)
    (cons_length (s % 2) k (members_from n (suc k) (s / 2)) (mod-lt s (omega arith))
    ∙ ap (λ (x : ℕ). s % 2 + x) (from_count n (suc k) (s / 2) (half_lt n s h)) ∙ sym (ones_step s))

-- as many members as ones
pub members_count : (n s : ℕ) → s < 2 ^ n → length (members s) ≡ ones s
members_count n s h = rw (members_within n s h) (from_count n 0 s h)

pub members_most : (n s : ℕ) → s < 2 ^ n → length (members s) ≤ n
members_most n s h = rw (members_count n s h) (ones-le n s h)

-- ---- each member is below n

cons_below : (P : ℕ → Type 0) (d k : ℕ) (l : List ℕ) → P k → All P l → All P (cons_if d k l)
unfolding cons_if
cons_below P zero k l h a = a
cons_below P (suc d) k l h a = (h, a)

from_below : (P : ℕ → Type 0) (n k s : ℕ) → ((i : ℕ) → i < k + n → P i) → All P (members_from n k s)
unfolding members_from
from_below P zero k s h = tt
from_below P (suc n) k s h = rw (from_step n k s) (cons_below P (s % 2) k (members_from n (suc k) (s / 2)) (h k (omega arith)) (from_below P n (suc k) (s / 2) (λ i l. h i (omega arith))))

-- what holds of each object below n holds of each member of a set of n objects
pub members_all : (P : ℕ → Type 0) (n s : ℕ) → s < 2 ^ n → ((i : ℕ) → i < n → P i) → All P (members s)
members_all P n s h each = rw (members_within n s h) (from_below P n 0 s (λ i l. each i (omega arith)))

-- ---- the walk, least member first

-- no member of the empty set
pub members_none : members 0 ≡ []
unfolding members members_from
members_none = refl

even_and : (s : ℕ) → s % 2 ≡ 0 → 0 < s → bit_and s (s - 1) ≡ bit_and (s / 2) (s / 2 - 1) * 2
even_and s e p =
    let half-less : (s - 1) / 2 ≡ s / 2 - 1 = omega arith in
    and_step s (s - 1) ∙ simp (e, half-less) (omega arith)

odd_and : (s : ℕ) → s % 2 ≡ 1 → bit_and s (s - 1) ≡ s / 2 * 2
odd_and s e =
    let half-same : (s - 1) / 2 ≡ s / 2 = omega arith in
    let rest : (s - 1) % 2 ≡ 0 = omega arith in
    and_step s (s - 1) ∙ simp (e, half-same, rest) (rw and_self (omega arith))

double_half : (x : ℕ) → x * 2 / 2 ≡ x
double_half x = omega arith

double_even : (x : ℕ) → x * 2 % 2 ≡ 0
double_even x = omega arith

from_lowest : (n k s : ℕ) → s < 2 ^ n → 0 < s → members_from n k s ≡ (k + count_trailing_zeros n s) ∷ members_from n k (bit_and s (s - 1))
unfolding cons_if count_trailing_zeros
from_lowest zero k s h p = let z : ⊥ = omega arith in absurd z
from_lowest (suc n) k s h p =
    ⊎_elim
    (λ e. rw (from_step n k s, from_step n k (bit_and s (s - 1)), even_and s e p, double_half, double_even, e)
    (from_lowest n (suc k) (s / 2) (half_lt n s h) (omega arith)
    ∙ ap (λ (j : ℕ). j ∷ members_from n (suc k) (bit_and (s / 2) (s / 2 - 1))) (omega arith)))
    (λ e. rw (from_step n k s, from_step n k (bit_and s (s - 1)), odd_and s e, double_half, double_even, e)
    (ap (λ (j : ℕ). j ∷ members_from n (suc k) (s / 2)) (omega arith)))
    (two_cases (s % 2) (mod-lt s (omega arith)))

pub and_falls : (s : ℕ) → 0 < s → bit_and s (s - 1) < s
and_falls s p = omega (arith, and_le_r s (s - 1))

-- the least member is as many as there are zeros below it, and the others are those of s & (s − 1)
pub members_lowest : (n s : ℕ) → s < 2 ^ n → 0 < s → members s ≡ count_trailing_zeros n s ∷ members (bit_and s (s - 1))
members_lowest n s h p =
    let less : bit_and s (s - 1) < 2 ^ n = omega (arith, and_falls s p) in
    rw (members_within n s h, members_within n (bit_and s (s - 1)) less)
    (from_lowest n 0 s h p ∙ ap (λ (j : ℕ). j ∷ members_from n 0 (bit_and s (s - 1))) (omega arith))

-- ---- the greatest member, of a set of n objects: by the zeros above it

pub record Greatest (n s zeros : ℕ) : Type 0 where
  pub some : zeros ≤ 63
  pub object : 63 - zeros < n
  pub members_to : s < 2 ^ suc (63 - zeros)

pub greatest : (n s : ℕ) → s < 2 ^ n → s < 2 ^ 64 → 0 < s → Greatest n s (count_leading_zeros 64 s)
greatest n s h word p =
    let top = leading_top 64 s p word in
    let is : 63 - count_leading_zeros 64 s ≡ top.0 = omega (arith, top.1) in
    record {
      some = omega (arith, top.1);
      object = rw is (lt_of_not-le (λ l. let beyond : 2 ^ n ≤ 2 ^ top.0 = pow_mono l in omega (arith, top.2)));
      members_to = rw is top.3;
    }

-- ---- beyond the digits

pub no_member : (n k s : ℕ) → s < 2 ^ n → n ≤ k → is_member k s ≡ false
unfolding is_member
no_member n k s h l = rw (div-eq_of_lt (lt_of_lt_of_le h (pow_mono l)))
