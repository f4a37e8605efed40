-- An array of slot numbers, each once: the first n are the kept ones, in order; behind them stand the free ones.
use Rattle.std.specs.Prelude.{ℕ, zero, suc, ◌+◌, ◌-◌, ◌≤◌, ◌<◌, ◌≡◌, Bool, true, false, cond, List, [], ◌∷◌, ◌++◌, map, ltb, eqb, length, take, drop, get_or}
use Rattle.beam_order.specs.Slots.{words_in, earlier}

-- how often x stands in the list
unfoldable pub count : ℕ → List ℕ → ℕ
count x [] = 0
count x (y ∷ ys) = cond (eqb x y) 1 0 + count x ys

-- only numbers below w, each at most once; with w of them, a permutation
pub record Distinct (w : ℕ) (l : List ℕ) : Type 0 where
  pub once : (x : ℕ) → count x l ≤ 1
  pub below : (x : ℕ) → w ≤ x → count x l ≡ 0

-- whether s is among the first n
unfoldable pub used : (order : List ℕ) (n s : ℕ) → Bool
used order n s = ltb 0 (count s (take n order))

-- the words of the kept slots, in order
unfoldable pub kept_in : (slots order : List ℕ) (n : ℕ) → List (List ℕ)
kept_in slots order n = map (words_in slots) (take n order)

-- x at p, and those from p to n one place further
unfoldable pub inserted : List ℕ → (n p x : ℕ) → List ℕ
inserted l n p x = take p l ++ (x ∷ (take (n - p) (drop p l) ++ drop (suc n) l))

-- the one at p behind those up to n, which are one place nearer
unfoldable pub removed : List ℕ → (n p : ℕ) → List ℕ
removed l n p = take p l ++ (take (n - suc p) (drop (suc p) l) ++ (get_or l p 0 ∷ drop n l))

-- the list without its member at i
unfoldable pub without : {A : Type 0} → (i : ℕ) → List A → List A
without i [] = []
without zero (x ∷ xs) = xs
without (suc i) (x ∷ xs) = x ∷ without i xs

-- n numbers from i on
unfoldable pub up_from : (i n : ℕ) → List ℕ
up_from i zero = []
up_from i (suc n) = i ∷ up_from (suc i) n

-- whether node n goes before the one at place i
unfoldable pub earlier_at : (slots order n : List ℕ) (i : ℕ) → Bool
earlier_at slots order n i = earlier n (words_in slots (get_or order i 0))

-- the first r of n places fail the test, the others pass
pub record Cutoff (t : ℕ → Bool) (n r : ℕ) : Type 0 where
  pub within : r ≤ n
  pub fails : (i : ℕ) → i < r → t i ≡ false
  pub passes : (i : ℕ) → r ≤ i → i < n → t i ≡ true

-- behind a place that passes all pass
abbrev pub Rising : (ℕ → Bool) → ℕ → Type 0
Rising t n = (i j : ℕ) → i ≤ j → j < n → t i ≡ true → t j ≡ true

-- the first n places hold slots below w
pub record Inside (w n : ℕ) (order : List ℕ) : Type 0 where
  pub room : n ≤ length order
  pub each : (i : ℕ) → i < n → get_or order i 0 < w

-- r is the last place below p that holds x, or p where none does
pub record FoundBelow (order : List ℕ) (p x r : ℕ) : Type 0 where
  pub within : r ≤ p
  pub found : (i : ℕ) → i < p → get_or order i 0 ≡ x → (r < p) × (get_or order r 0 ≡ x)
