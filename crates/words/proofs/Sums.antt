-- The sum over a set's members, as a loop makes it that goes through them, and from two halves.
use mathlib.Core.Path.{◌≡◌, refl, ap, sym, ◌∙◌}
use mathlib.Core.List.{List, [], ◌∷◌}
use Prim.Native.Nat.{ℕ, zero, suc, ◌+◌, ◌*◌, ◌/◌, ◌%◌, ◌^◌, ◌<◌, ◌≤◌}
use native.Mathlib.Nat.{zero-add}
use native.Mathlib.Omega.{arith}
use lib.ListN.{length}
use lib.IntN.{ℤ, pos, ◌+ℤ◌, +ℤ_assoc, +ℤ_idl, +ℤ_idr}
use lib.Signed.{mag}
use mir.Syntax.{w64}
use mir.Val.{SFits}
use Rattle.model.specs.Numbers.{range_end}
use Rattle.model.specs.Sets.{cons_if, members_from, members}
use Rattle.model.specs.Meaning.{sum_over}
use Rattle.words.proofs.Integers.{mag_sum}
use Rattle.words.proofs.Members.{from_step, members_within, members_most}
use Rattle.words.proofs.Parts.{sum_by_parts}

-- z and the sum over what is left make the sum over s, a set of n objects; each member that is left adds less than the range's end
pub record Sofar (n : ℕ) (f : ℕ → ℤ) (s : ℕ) (left : List ℕ) (z : ℤ) : Type 0 where
  pub total : z +ℤ sum_over f left ≡ sum_over f (members s)
  pub size : mag z + range_end * length left ≤ n * range_end

pub begin : (n : ℕ) (f : ℕ → ℤ) (s : ℕ) → s < 2 ^ n → Sofar n f s (members s) (pos 0)
begin n f s h = record { total = +ℤ_idl _; size = omega (arith, members_most n s h) }

-- one turn: e is what the next member adds
module _ {n : ℕ} {f : ℕ → ℤ} {s k : ℕ} {left rest : List ℕ} {z e : ℤ} (few : n ≤ 64) (so : Sofar n f s left z) (split : left ≡ k ∷ rest) (is : e ≡ f k) (small : mag e < range_end) where
  pub more_fits : SFits w64 (z +ℤ e)
  more_fits = record { sfits = omega (arith, so.size, mag_sum z e) }

  pub one_further : Sofar n f s rest (z +ℤ e)
  unfolding sum_over
  one_further =
      record {
        total = +ℤ_assoc z e (sum_over f rest) ∙ ap (λ (x : ℤ). z +ℤ (x +ℤ sum_over f rest)) is ∙ (rw split at so.total);
        size = omega (arith, so.size, ap length split, mag_sum z e);
      }

pub done : (n : ℕ) (f : ℕ → ℤ) (s : ℕ) (left : List ℕ) (z : ℤ) → left ≡ [] → Sofar n f s left z → (z ≡ sum_over f (members s)) × (mag z ≤ n * range_end)
unfolding sum_over
done n f s left z none so = (sym (+ℤ_idr z) ∙ (rw none at so.total), omega (arith, so.size))

-- ---- two functions that agree on the members

cons_agrees : (f g : ℕ → ℤ) (d k : ℕ) (l : List ℕ) → f k ≡ g k → sum_over f l ≡ sum_over g l → sum_over f (cons_if d k l) ≡ sum_over g (cons_if d k l)
unfolding sum_over cons_if
cons_agrees f g zero k l e h = h
cons_agrees f g (suc d) k l e h = rw (e, h)

from_agrees : (f g : ℕ → ℤ) (n k s : ℕ) → ((i : ℕ) → i < k + n → f i ≡ g i) → sum_over f (members_from n k s) ≡ sum_over g (members_from n k s)
unfolding sum_over members_from
from_agrees f g zero k s same = refl
from_agrees f g (suc n) k s same =
    rw (from_step n k s)
    (cons_agrees f g (s % 2) k (members_from n (suc k) (s / 2)) (same k (omega arith)) (from_agrees f g n (suc k) (s / 2) (λ i h. same i (omega arith))))

pub sum_agrees : (f g : ℕ → ℤ) (n s : ℕ) → s < 2 ^ n → ((i : ℕ) → i < n → f i ≡ g i) → sum_over f (members s) ≡ sum_over g (members s)
sum_agrees f g n s h same = rw (members_within n s h) (from_agrees f g n 0 s (λ i l. same i (omega arith)))

-- ---- two halves

pub halves_fit : (a b : ℤ) → mag a ≤ 32 * range_end → mag b ≤ 32 * range_end → SFits w64 (a +ℤ b)
halves_fit a b ha hb = record { sfits = omega (arith, mag_sum a b) }

-- a is the sum over objects 0 to 31, b over 32 to 63
pub by_halves : (f : ℕ → ℤ) (s : ℕ) {a b : ℤ} → a ≡ sum_over (λ i. f (0 + i)) (members (s % 2 ^ 32)) → b ≡ sum_over (λ i. f (32 + i)) (members (s / 2 ^ 32)) → a +ℤ b ≡ sum_over f (members s)
by_halves f s ha hb = rw (ha, hb) (simp zero-add (sym (sum_by_parts 32 f s)))
