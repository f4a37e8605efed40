-- One turn of each loop over the order array: filling, the test of a place, the halving. The shifts stand in Shifts.
use Prim.Native.Nat.{ℕ, zero, suc, ◌+◌, ◌*◌, ◌≤◌, ◌<◌}
use mathlib.Core.Path.{◌≡◌, refl, sym, ap, ◌∙◌}
use mathlib.Core.Bool.{Bool, true, false, true≢false}
use mathlib.Core.List.{List, [], ◌∷◌, ◌++◌}
use native.Mathlib.Nat.{add-zero, zero-add}
use native.Mathlib.Omega.{arith}
use native.Mathlib.Numerals.{add-one}
use lib.Dec.{ltb}
use lib.ListN.{length, take, drop, get_or, set}
use lib.Seq.{get_or-take, get_or-drop, take-suc-set, take_all}
use Rattle.beam_order.specs.Slots.{slot_words, f_at, f_moves_at, h_at, words_in, earlier}
use Rattle.beam_order.specs.Order.{up_from, Rising}
use Rattle.beam_order.proofs.Tests.{tests}

-- ---- filling

up_more : (i n : ℕ) → up_from i (suc n) ≡ up_from i n ++ ((i + n) ∷ [])
unfolding up_from
up_more i zero = rw add-zero
up_more i (suc n) =
    let e : suc i + n ≡ i + suc n = omega arith in
    ap (λ (l : List ℕ). i ∷ l) (rw e at (up_more (suc i) n))

pub fill_start : (l : List ℕ) → take 0 l ≡ up_from 0 0
unfolding up_from
fill_start l = refl

pub fill_more : (l : List ℕ) (i : ℕ) → i < length l → take i l ≡ up_from 0 i → take (i + 1) (set l i i) ≡ up_from 0 (i + 1)
fill_more l i h e = rw (add-one, take-suc-set l i, e, up_more 0 i, zero-add)

pub fill_end : (l m : List ℕ) (i : ℕ) → length l ≡ length m → length l ≤ i → i ≤ length l → take i l ≡ up_from 0 i → l ≡ up_from 0 (length m)
fill_end l m i s h k e =
    let z : i ≡ length m = omega arith in
    sym (take_all i l h) ∙ e ∙ ap (up_from 0) z

-- ---- the test of a place

-- word q of a slot
pub word_in : (slots : List ℕ) (s q : ℕ) → q < slot_words → get_or (words_in slots s) q 0 ≡ get_or slots (s * slot_words + q) 0
unfolding words_in
word_in slots s q h = get_or-take slot_words (drop (s * slot_words) slots) q 0 h ∙ get_or-drop (s * slot_words) slots q 0

module _ (n slots : List ℕ) (s : ℕ) where
  abbrev other : ℕ → ℕ
  other q = get_or slots (s * slot_words + q) 0

  -- the test of a slot is that of its words where they stand
  pub earlier_there : earlier n (words_in slots s) ≡ tests (get_or n f_at 0) (other f_at) (tests (get_or n f_moves_at 0) (other f_moves_at) (ltb (get_or n h_at 0) (other h_at)))
  unfolding earlier
  earlier_there = rw (word_in slots s f_at (omega arith), word_in slots s f_moves_at (omega arith), word_in slots s h_at (omega arith))

-- ---- the halving

-- before a place that fails all fail
pub fails_below : (t : ℕ → Bool) (n k i : ℕ) → Rising t n → k < n → t k ≡ false → i ≤ k → t i ≡ false
fails_below t n k i rise h e l = by_test (t i) refl
  where
    by_test : (b : Bool) → t i ≡ b → b ≡ false
    by_test false f = refl
    by_test true f = absurd (true≢false (sym (rise i k l h f) ∙ e))
