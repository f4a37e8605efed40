-- The hash of a state: a number made of the words of the variables without preference, as they are compared.
-- A state that dominates another has the same ones, so any such function would do.
use Rattle.std.specs.Prelude.{ℕ, zero, suc, ◌+◌, ◌*◌, ◌/◌, ◌%◌, cond, List, eqb, get_or}
use Rattle.model.specs.Readers.{word_end}
use Rattle.outline.specs.Outline.{variable_count_at, kinds_from, preferences_from}
use Rattle.steps.specs.Order.{compared_word}

-- 32 bits of x mixed into m
unfoldable pub mix : (m x : ℕ) → ℕ
mix m x =
    let p = (m % word_end + x % word_end) % word_end * 2654435761 in
    p / word_end + p % word_end

-- 64 bits
unfoldable pub mix_word : (m x : ℕ) → ℕ
mix_word m x = mix (mix m x) (x / word_end)

-- what is hashed of a word: what is compared of it, and nothing where there is a preference
unfoldable pub hashed_word : (kind preference word : ℕ) → ℕ
hashed_word k p w = cond (eqb p 0) (compared_word k w) 0

module _ (outline state : List ℕ) where
  -- the word of variable v mixed into m
  unfoldable pub mix_at : (v m : ℕ) → ℕ
  mix_at v m = mix_word m (hashed_word (get_or outline (kinds_from + v) 0) (get_or outline (preferences_from + v) 0) (get_or state v 0))

  -- n variables from v on
  unfoldable pub mix_from : (n v m : ℕ) → ℕ
  mix_from zero v m = m
  mix_from (suc n) v m = mix_from n (suc v) (mix_at v m)

  unfoldable pub hash_of : ℕ
  hash_of = mix_from (get_or outline variable_count_at 0) 0 1
