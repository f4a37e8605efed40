-- How three lists of words hold a layer in the making: w slots, an order of them whose first n are kept, and an index of these by buckets.
use Rattle.std.specs.Prelude.{ℕ, ◌+◌, ◌*◌, ◌^◌, ◌≤◌, ◌<◌, ◌≡◌, Bool, cond, List, ◌++◌, length, take, drop}
use Rattle.beam_order.specs.Slots.{slot_words, words_in, Sorted}
use Rattle.beam_order.specs.Order.{Distinct, used, kept_in, Inside}
use Rattle.beam_index.specs.Links.{Index, Falling}
use Rattle.beam.specs.Nodes.{state_words, beats}
use Rattle.beam.specs.Buckets.{bucket_of}

-- the bucket of the node in slot s
unfoldable pub bucket_in : (outline slots : List ℕ) (size s : ℕ) → ℕ
bucket_in outline slots size s = bucket_of outline (state_words (words_in slots s)) size

pub record IndexedParts (outline : List ℕ) (w size n : ℕ) (slots order links : List ℕ) : Type 0 where
  pub few : n ≤ w
  pub some_bucket : 0 < size
  pub few_buckets : size ≤ 2 ^ 32
  pub slots_long : w * slot_words ≤ length slots
  pub order_long : length order ≡ w
  pub links_long : length links ≡ w + size
  pub distinct : Distinct w order
  pub falling : Falling w links
  pub index : Index w (used order n) (bucket_in outline slots size) links
  pub sorted : Sorted (kept_in slots order n)

-- slots with these words in slot s
unfoldable pub written : (slots : List ℕ) (s : ℕ) (words : List ℕ) → List ℕ
written slots s words = take (s * slot_words) slots ++ (words ++ drop slot_words (drop (s * slot_words) slots))

-- whether the node in slot s beats the child, or, for beaten, the child it
unfoldable pub sought : (bytes slots child : List ℕ) (beaten : Bool) (s : ℕ) → Bool
sought bytes slots child beaten s = cond beaten (beats bytes child (words_in slots s)) (beats bytes (words_in slots s) child)

-- what is left of a held layer to those that only read it
pub record LayerParts (w n : ℕ) (slots order : List ℕ) : Type 0 where
  pub slots_long : w * slot_words ≤ length slots
  pub inside : Inside w n order
  pub sorted : Sorted (kept_in slots order n)
