-- The masks that are prepared take of a word what is compared, and what is hashed.
use Prim.Native.Nat.{ℕ, ◌+◌, ◌*◌, ◌-◌, ◌%◌, ◌^◌, ◌<◌}
use mathlib.Core.Path.{◌≡◌, ap, ◌∙◌}
use mathlib.Core.Bool.{Bool, true, false, cond}
use mathlib.Core.List.{List}
use native.Mathlib.Nat.{mod-eq_of_lt}
use lib.ListN.{get_or}
use lib.Dec.{eqb, leb}
use lib.Bits.{bit_and, and_mask, and_zero_r}
use Rattle.model.specs.Numbers.{most_objects}
use Rattle.outline.specs.Outline.{kinds_from, preferences_from}
use Rattle.prepare.specs.Layout.{masks_from}
use Rattle.prepare.specs.Prepared.{compared_mask, hashed_mask, MasksAt}
use Rattle.steps.specs.Order.{compared_word, no_worse_by, no_worse_at}
use Rattle.steps.specs.Hashes.{mix_word, hashed_word, mix_at}

-- ---- a word under a mask, by its variable's kind and preference

module _ (w : ℕ) (small : w < 2 ^ 64) where
  compared_under : (kind : ℕ) → bit_and w (compared_mask kind) ≡ compared_word kind w
  unfolding compared_mask compared_word
  compared_under kind = by_kind (eqb kind 0) (leb kind most_objects)
    where
      by_kind : (p q : Bool) → bit_and w (cond p (2 ^ 32 - 1) (cond q (most_objects - 1) (2 ^ 64 - 1))) ≡ cond p (w % 2 ^ 32) (cond q (w % most_objects) w)
      by_kind true q = and_mask w 32
      by_kind false true = and_mask w 6
      by_kind false false = and_mask w 64 ∙ mod-eq_of_lt small

  hashed_under : (kind preference : ℕ) → bit_and w (hashed_mask kind preference) ≡ hashed_word kind preference w
  unfolding hashed_mask hashed_word
  hashed_under kind preference = by_preference (eqb preference 0)
    where
      by_preference : (p : Bool) → bit_and w (cond p (compared_mask kind) 0) ≡ cond p (compared_word kind w) 0
      by_preference true = compared_under kind
      by_preference false = and_zero_r w

-- ---- by the words of the masks

module _ {words : List ℕ} {v : ℕ} (masks : MasksAt words v) where
  compared_at : {w mask : ℕ} → w < 2 ^ 64 → mask ≡ get_or words (masks_from + 2 * v) 0 → bit_and w mask ≡ compared_word (get_or words (kinds_from + v) 0) w
  compared_at {w} small e = ap (bit_and w) (e ∙ masks.compared) ∙ compared_under w small (get_or words (kinds_from + v) 0)

  module _ {mask preference : ℕ} (e : mask ≡ get_or words (masks_from + 2 * v) 0) (p : preference ≡ get_or words (preferences_from + v) 0) where
    pub no_worse_under : (t s : List ℕ) {x y : ℕ} → x < 2 ^ 64 → y < 2 ^ 64 → x ≡ get_or t v 0 → y ≡ get_or s v 0 → no_worse_by preference (bit_and x mask) (bit_and y mask) ≡ no_worse_at words v t s
    unfolding no_worse_at
    no_worse_under t s l k f g = rw (compared_at l e, compared_at k e, p, f, g)

  pub mixed_under : (state : List ℕ) (m : ℕ) {x mask : ℕ} → x < 2 ^ 64 → x ≡ get_or state v 0 → mask ≡ get_or words (masks_from + 2 * v + 1) 0 → mix_word m (bit_and x mask) ≡ mix_at words state v m
  unfolding mix_at
  mixed_under state m {x} l f e =
      let hashed = ap (bit_and x) (e ∙ masks.hashed) ∙ hashed_under x l (get_or words (kinds_from + v) 0) (get_or words (preferences_from + v) 0) in
      rw (hashed, f)
