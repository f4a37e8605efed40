-- How many members a set has: one less without one of them, none only if it is empty, no more than objects.
use Prim.Native.Nat.{ℕ, zero, suc, ◌+◌, ◌-◌, ◌*◌, ◌/◌, ◌%◌, ◌^◌, ◌≤◌, ◌<◌}
use mathlib.Core.Path.{◌≡◌, sym, ◌∙◌, ap}
use mathlib.Core.Bool.{true}
use mathlib.Core.List.{List}
use native.Mathlib.Nat.{mod-lt, div-add-mod', suc-mul, pow-suc}
use native.Mathlib.Omega.{arith}
use lib.ListN.{length}
use lib.Bits.{bit_and, and_high}
use lib.Count.{ones, ones_step, ones_cat, ones-le}
use lib.Pow.{pow_pos}
use borrow.Author.Tests.{eqb-true}
use Rattle.model.specs.Sets.{is_member, difference, cons_if, members_from, members}

abbrev pub size : (s : ℕ) → ℕ
size s = length (members s)

-- ---- as many as there are binary digits 1

cons_length : (d k : ℕ) (l : List ℕ) → d < 2 → length (cons_if d k l) ≡ d + length l
unfolding cons_if
cons_length zero k l h = omega arith
cons_length (suc zero) k l h = omega arith
cons_length (suc (suc d)) k l h = absurd (omega arith)

from_ones : (n k s : ℕ) → s ≤ n → length (members_from n k s) ≡ ones s
unfolding members_from ones
from_ones zero k zero h = omega arith
from_ones zero k (suc s) h = absurd (omega arith)
from_ones (suc n) k zero h = omega arith
from_ones (suc n) k (suc s) h =
    cons_length (suc s % 2) k (members_from n (suc k) (suc s / 2)) (omega arith)
    ∙ ap (λ (x : ℕ). suc s % 2 + x) (from_ones n (suc k) (suc s / 2) (omega arith)) ∙ sym (ones_step (suc s))

pub size_ones : (s : ℕ) → size s ≡ ones s
unfolding members
size_ones s = from_ones s 0 s (omega arith)

-- a set below 2^n has at most n members
pub size_within : (n s : ℕ) → s < 2 ^ n → size s ≤ n
size_within n s h = omega (arith, size_ones s, ones-le n s h)

-- ---- no member

no_ones : (n s : ℕ) → s ≤ n → ones s ≡ 0 → s ≡ 0
no_ones zero s h e = omega arith
no_ones (suc n) s h e = omega (arith, ones_step s, no_ones n (s / 2) (omega arith) (omega (arith, ones_step s)))

pub size_zero : (s : ℕ) → size s ≡ 0 → s ≡ 0
size_zero s e = no_ones s s (omega arith) (omega (arith, size_ones s))

-- ---- a member taken away

-- a digit 1 behind an even number e, in front of k digits r
digit_less : (k e r : ℕ) → r < 2 ^ k → e % 2 ≡ 0 → suc (ones (e * 2 ^ k + r)) ≡ ones (suc e * 2 ^ k + r)
digit_less k e r h even =
    let half : suc e / 2 ≡ e / 2 = omega arith in
    omega (arith, ones_cat k e r h, ones_cat k (suc e) r h, ones_step e, ones_step (suc e), ap ones half)

-- the set of a member alone, and the member
only_member : (k s : ℕ) → s / 2 ^ k % 2 ≡ 1 → bit_and s (2 ^ k) ≡ 2 ^ k
only_member k s e =
    let shifted : 1 + k ≡ suc k = omega arith in
    let power : 2 ^ (1 + k) - 2 ^ k ≡ 2 ^ k = rw shifted (omega (arith, pow-suc 2 k)) in
    (rw power at (and_high s 1 k)) ∙ rw e (omega arith)

pub size_removed : (k s : ℕ) → is_member k s ≡ true → suc (size (difference s (2 ^ k))) ≡ size s
unfolding is_member difference
size_removed k s e =
    let digit : s / 2 ^ k % 2 ≡ 1 = eqb-true (s / 2 ^ k % 2) 1 e in
    let before : ℕ = s / 2 ^ k - 1 in
    let behind : ℕ = s % 2 ^ k in
    let next : suc before ≡ s / 2 ^ k = omega arith in
    let whole : s ≡ suc before * 2 ^ k + behind = rw next (sym (div-add-mod' s (2 ^ k))) in
    let less : s - 2 ^ k ≡ before * 2 ^ k + behind = omega (arith, suc-mul before (2 ^ k)) in
    let counted = digit_less k before behind (mod-lt s (pow_pos k)) (omega arith) in
    rw (only_member k s digit) (omega (arith, size_ones s, size_ones (s - 2 ^ k), ap ones whole, ap ones less))
