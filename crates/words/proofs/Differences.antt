-- A sum over a set's members in two parts: those that are in another set, and those that are not.
use mathlib.Core.Path.{◌≡◌, refl, sym, ap, ap₂, ◌∙◌}
use Prim.Native.Nat.{ℕ, zero, suc, ◌+◌, ◌-◌, ◌*◌, ◌/◌, ◌%◌, ◌^◌, ◌<◌, ◌≤◌}
use native.Mathlib.Nat.{mod-lt}
use native.Mathlib.Omega.{arith}
use lib.Arith.{lt-one}
use lib.Bits.{bit_and, and_zero_l, and_le_l, and_comm, and_shr, and_mod}
use lib.IntN.{ℤ, pos, neg_ℤ, ◌+ℤ◌, ◌-ℤ◌, +ℤ_assoc, +ℤ_comm, +ℤ_idl, +ℤ_idr, +ℤ-neg_ℤ_cancel}
use lib.Signed.{mag}
use mir.Syntax.{w64}
use mir.Val.{SFits}
use Rattle.model.specs.Numbers.{range_end}
use Rattle.model.specs.Sets.{intersection, difference, members_from, members}
use Rattle.model.specs.Meaning.{sum_over}
use Rattle.words.proofs.Integers.{mag_sum, mag_neg}
use Rattle.words.proofs.Members.{lt_power, half_lt}
use Rattle.words.proofs.Parts.{sum_by_parts}

no_sum : (f : ℕ → ℤ) → sum_over f (members 0) ≡ pos 0
unfolding sum_over members members_from
no_sum f = refl

exchange : (a b c d : ℤ) → (a +ℤ b) +ℤ (c +ℤ d) ≡ (a +ℤ c) +ℤ (b +ℤ d)
exchange a b c d =
    +ℤ_assoc a b (c +ℤ d)
    ∙ ap (λ (z : ℤ). a +ℤ z) (sym (+ℤ_assoc b c d) ∙ ap (λ (z : ℤ). z +ℤ d) (+ℤ_comm b c) ∙ +ℤ_assoc c b d)
    ∙ sym (+ℤ_assoc a c (b +ℤ d))

-- of one digit
digit_apart : (f : ℕ → ℤ) (a b : ℕ) → a < 2 → b < 2 → sum_over f (members a) ≡ sum_over f (members (bit_and a b)) +ℤ sum_over f (members (a - bit_and a b))
digit_apart f zero b h g = rw (and_zero_l b, no_sum f)
digit_apart f (suc zero) zero h g = rw (no_sum f) (sym (+ℤ_idl _))
digit_apart f (suc zero) (suc zero) h g = rw (no_sum f) (sym (+ℤ_idr _))
digit_apart f (suc zero) (suc (suc b)) h g = absurd (omega arith)
digit_apart f (suc (suc a)) b h g = absurd (omega arith)

-- the last digit and the others of what is left when c is taken from a, digit by digit
rest_digit : (a c : ℕ) → c ≤ a → c % 2 ≤ a % 2 → ((a - c) % 2 ≡ a % 2 - c % 2) × ((a - c) / 2 ≡ a / 2 - c / 2)
rest_digit a c h g = (omega arith, omega arith)

apart : (n : ℕ) (f : ℕ → ℤ) (s t : ℕ) → s < 2 ^ n → sum_over f (members s) ≡ sum_over f (members (bit_and s t)) +ℤ sum_over f (members (s - bit_and s t))
apart zero f s t h = rw (lt-one h, and_zero_l t, no_sum f)
apart (suc n) f s t h =
    let low : bit_and s t % 2 ≡ bit_and (s % 2) (t % 2) = and_mod s t 1 in
    let high : bit_and s t / 2 ≡ bit_and (s / 2) (t / 2) = and_shr s t 1 in
    let less : bit_and s t % 2 ≤ s % 2 = rw low (and_le_l (s % 2) (t % 2)) in
    let rest = rest_digit s (bit_and s t) (and_le_l s t) less in
    let next : ℕ → ℤ = λ i. f (1 + i) in
    let both-low = bit_and (s % 2) (t % 2) in
    let both_high = bit_and (s / 2) (t / 2) in
    rw (sum_by_parts 1 f s, sum_by_parts 1 f (bit_and s t), sum_by_parts 1 f (s - bit_and s t), rest.0, rest.1, low, high)
    (ap₂ ◌+ℤ◌ (digit_apart f (s % 2) (t % 2) (mod-lt s (omega arith)) (mod-lt t (omega arith))) (apart n next (s / 2) (t / 2) (half_lt n s h))
    ∙ exchange (sum_over f (members both-low)) (sum_over f (members (s % 2 - both-low))) (sum_over next (members both_high)) (sum_over next (members (s / 2 - both_high))))

pub sum_apart : (f : ℕ → ℤ) (s t : ℕ) → sum_over f (members s) ≡ sum_over f (members (intersection s t)) +ℤ sum_over f (members (difference s t))
unfolding intersection difference
sum_apart f s t = apart s f s t (lt_power s)

-- the sum over s, from that over t, over what is in t alone and over what is in s alone
pub sum_from : (f : ℕ → ℤ) (t s : ℕ) {sum gone come : ℤ} → sum ≡ sum_over f (members t) → gone ≡ sum_over f (members (difference t s)) → come ≡ sum_over f (members (difference s t)) → sum -ℤ gone +ℤ come ≡ sum_over f (members s)
unfolding intersection
sum_from f t s hs hg hc =
    rw (hs, hg, hc, sum_apart f t s, +ℤ-neg_ℤ_cancel (sum_over f (members (intersection t s))) (sum_over f (members (difference t s))), and_comm t s)
    (sym (sum_apart f s t))

-- all of them are far from the ends of 64 bits
pub few_fits : {z : ℤ} → mag z ≤ 64 * range_end → SFits w64 z
few_fits h = record { sfits = omega arith }

module _ (sum gone : ℤ) (hs : mag sum < range_end) (hg : mag gone ≤ 64 * range_end) where
  pub less_fits : SFits w64 (sum -ℤ gone)
  less_fits = record { sfits = omega (arith, mag_sum sum (neg_ℤ gone), mag_neg gone) }

  pub from_fits : (come : ℤ) → mag come ≤ 64 * range_end → SFits w64 (sum -ℤ gone +ℤ come)
  from_fits come hc = record { sfits = omega (arith, mag_sum (sum -ℤ gone) come, mag_sum sum (neg_ℤ gone), mag_neg gone) }
