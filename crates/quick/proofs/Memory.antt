-- The memory of the bounds' last sums, and of the last sum of any total: nothing remembered, and one sum written.
use Prim.Native.Nat.{ℕ, zero, suc, ◌+◌, ◌*◌, ◌/◌, ◌%◌, ◌<◌}
use mathlib.Core.Path.{◌≡◌, refl, sym, ap, ◌∙◌}
use mathlib.Core.Bool.{Bool, true, false}
use mathlib.Core.List.{List, [], ◌∷◌}
use native.Mathlib.Omega.{arith}
use lib.ListN.{length, get_or, set, length-set}
use lib.Seq.{get_or-set_same, get_or-set_other}
use lib.Dec.{eqb}
use lib.IntN.{ℤ, pos, ◌+ℤ◌, ◌-ℤ◌}
use borrow.Author.Tests.{eqb-true, eqb-false}
use Rattle.model.specs.Numbers.{range_end, range_size, most_bounds}
use Rattle.model.specs.Sets.{members, members_from}
use Rattle.model.specs.Syntax.{a_number}
use Rattle.model.specs.Meaning.{sum_over}
use Rattle.words.specs.States.{value_of}
use Rattle.words.specs.Tables.{column_sum}
use Rattle.words.proofs.Integers.{word_back}
use Rattle.eval_sets.specs.Runs.{table_in, entry_of}
use Rattle.quick.specs.Sums.{summed_column, sum_of, sum_place, bound_place, column_over, VariableTotal, total_in, summed_set, Remembers, Forgotten, Remembering}

abbrev zeros : List ℕ
zeros = 0 ∷ 2147483648 ∷ 0 ∷ 2147483648 ∷ 0 ∷ 2147483648 ∷ 0 ∷ 2147483648 ∷ 0 ∷ 2147483648 ∷ 0 ∷ 2147483648 ∷ 0 ∷ 2147483648 ∷ 0 ∷ 2147483648 ∷ 0 ∷ 0 ∷ 2147483648 ∷ []

zeros_are : (k : ℕ) → k < 8 → (get_or zeros (2 * k) 0 ≡ 0) × (get_or zeros (2 * k + 1) 0 ≡ 2147483648)
zeros_are zero h = (refl, refl)
zeros_are (suc zero) h = (refl, refl)
zeros_are (suc (suc zero)) h = (refl, refl)
zeros_are (suc (suc (suc zero))) h = (refl, refl)
zeros_are (suc (suc (suc (suc zero)))) h = (refl, refl)
zeros_are (suc (suc (suc (suc (suc zero))))) h = (refl, refl)
zeros_are (suc (suc (suc (suc (suc (suc zero)))))) h = (refl, refl)
zeros_are (suc (suc (suc (suc (suc (suc (suc zero))))))) h = (refl, refl)
zeros_are (suc (suc (suc (suc (suc (suc (suc (suc k)))))))) h = absurd (omega arith)

no_total : (bytes : List ℕ) (at : ℕ) (words : List ℕ) → value_of a_number 2147483648 ≡ sum_of bytes at words 0
unfolding value_of sum_of sum_over members members_from
no_total bytes at words = refl

no_column : (bytes words : List ℕ) → value_of a_number 2147483648 ≡ column_over bytes words 0 0
unfolding value_of column_over sum_over members members_from
no_column bytes words = refl

pub forgotten : Forgotten zeros
forgotten bytes words = record {
  room = refl;
  sums_are = λ k h. let z = zeros_are k h in rw (z.0, z.1) (no_total bytes (sum_place bytes (bound_place words k)) words);
  last_is = no_column bytes words;
}

-- the sum w over s, remembered of bound k
pub remembers_one : {bytes words sums : List ℕ} → Remembers bytes words sums → (k s w : ℕ) → k < most_bounds → value_of a_number w ≡ sum_of bytes (sum_place bytes (bound_place words k)) words s
    → Remembers bytes words (set (set sums (2 * k) s) (2 * k + 1) w)
remembers_one {bytes} {words} {sums} m k s w few is = record {
  room = length-set (set sums (2 * k) s) (2 * k + 1) w ∙ length-set sums (2 * k) s ∙ m.room;
  sums_are = λ i h. at i h (eqb i k) refl;
  last_is = rw (kept 16 (omega (arith, few)) (omega (arith, few)), kept 17 (omega (arith, few)) (omega (arith, few)), kept 18 (omega (arith, few)) (omega (arith, few))) m.last_is;
}
  where
    long : length (set sums (2 * k) s) ≡ 19
    long = length-set sums (2 * k) s ∙ m.room

    kept : (i : ℕ) → (i ≡ 2 * k → ⊥) → (i ≡ 2 * k + 1 → ⊥) → get_or (set (set sums (2 * k) s) (2 * k + 1) w) i 0 ≡ get_or sums i 0
    kept i h l = get_or-set_other (set sums (2 * k) s) (2 * k + 1) i w 0 l ∙ get_or-set_other sums (2 * k) i s 0 h

    at : (i : ℕ) → i < most_bounds → (t : Bool) → eqb i k ≡ t
        → value_of a_number (get_or (set (set sums (2 * k) s) (2 * k + 1) w) (2 * i + 1) 0) ≡ sum_of bytes (sum_place bytes (bound_place words i)) words (get_or (set (set sums (2 * k) s) (2 * k + 1) w) (2 * i) 0)
    at i h true e =
        rw (eqb-true i k e, get_or-set_same (set sums (2 * k) s) (2 * k + 1) w 0 (omega (arith, few, long)), get_or-set_other (set sums (2 * k) s) (2 * k + 1) (2 * k) w 0 (λ q. absurd (omega (arith, q))), get_or-set_same sums (2 * k) s 0 (omega (arith, few, m.room))) is
    at i h false e =
        let other : (i ≡ k → ⊥) = eqb-false i k e in
        rw (get_or-set_other (set sums (2 * k) s) (2 * k + 1) (2 * i + 1) w 0 (λ q. other (omega (arith, q))), get_or-set_other (set sums (2 * k) s) (2 * k + 1) (2 * i) w 0 (λ q. absurd (omega (arith, q))), get_or-set_other sums (2 * k) (2 * i + 1) s 0 (λ q. absurd (omega (arith, q))), get_or-set_other sums (2 * k) (2 * i) s 0 (λ q. other (omega (arith, q)))) (m.sums_are i h)

-- a column's sum, by the table's word and the column
pub sum_is : (bytes : List ℕ) (at : ℕ) (words : List ℕ) (s : ℕ) {table j : ℕ} → table ≡ table_in words (get_or bytes (at + 1) 0) → j ≡ summed_column bytes at → column_sum bytes table s j ≡ sum_of bytes at words s
unfolding sum_of entry_of
sum_is bytes at words s ht hj = rw (ht, hj)

-- where the total of a bound stands
module _ (bytes : List ℕ) (at : ℕ) where
  pub place_here : get_or bytes at 0 ≡ 0x2a → sum_place bytes at ≡ at
  unfolding sum_place
  place_here e = rw e

  pub place_behind_lem : get_or bytes at 0 ≡ 0x2b → sum_place bytes at ≡ at + 15
  unfolding sum_place
  place_behind_lem e = rw e

  pub place_inside : get_or bytes at 0 ≡ 0x23 → sum_place bytes at ≡ at + 14
  unfolding sum_place
  place_inside e = rw e

module _ {bytes : List ℕ} {at : ℕ} {words sums : List ℕ} {k : ℕ} (m : Remembering bytes at words sums k) where
  -- the last sum is one over the set that is remembered
  pub known_sum : {z : ℤ} {table j : ℕ} → z ≡ pos (get_or sums (2 * k + 1) 0 % range_size) -ℤ pos range_end → table ≡ table_in words (get_or bytes (at + 1) 0) → j ≡ summed_column bytes at → z ≡ column_sum bytes table (get_or sums (2 * k) 0) j
  unfolding value_of
  known_sum hz ht hj =
      let is : value_of a_number (get_or sums (2 * k + 1) 0) ≡ sum_of bytes at words (get_or sums (2 * k) 0) = rw m.place at (m.memory.sums_are k m.bound) in
      hz ∙ is ∙ sym (sum_is bytes at words (get_or sums (2 * k) 0) ht hj)

  -- z, the sum over s, in its word
  pub remembers_total : (s w : ℕ) (z : ℤ) → pos w ≡ z +ℤ pos range_end → w < range_size → z ≡ sum_of bytes at words s → Remembers bytes words (set (set sums (2 * k) s) (2 * k + 1) w)
  unfolding value_of
  remembers_total s w z e h is = remembers_one m.memory k s w m.bound (word_back w z e h ∙ is ∙ ap (λ (i : ℕ). sum_of bytes i words s) (sym m.place))

-- ---- the last sum

-- the sum w over s of the column that a key names, written
pub remembers_last : {bytes words sums : List ℕ} → Remembers bytes words sums → (key s w : ℕ) → value_of a_number w ≡ column_over bytes words key s → Remembers bytes words (set (set (set sums 16 key) 17 s) 18 w)
remembers_last {bytes} {words} {sums} m key s w is = record {
  room = length-set (set (set sums 16 key) 17 s) 18 w ∙ long_two;
  sums_are = λ k h. rw (kept (2 * k) (omega (arith, h)), kept (2 * k + 1) (omega (arith, h))) (m.sums_are k h);
  last_is =
      rw (get_or-set_same (set (set sums 16 key) 17 s) 18 w 0 (omega (arith, long_two)), get_or-set_other (set (set sums 16 key) 17 s) 18 17 w 0 (λ q. absurd (omega (arith, q))), get_or-set_same (set sums 16 key) 17 s 0 (omega (arith, long_one)), get_or-set_other (set (set sums 16 key) 17 s) 18 16 w 0 (λ q. absurd (omega (arith, q))), get_or-set_other (set sums 16 key) 17 16 s 0 (λ q. absurd (omega (arith, q))), get_or-set_same sums 16 key 0 (omega (arith, m.room))) is;
}
  where
    long_one : length (set sums 16 key) ≡ 19
    long_one = length-set sums 16 key ∙ m.room

    long_two : length (set (set sums 16 key) 17 s) ≡ 19
    long_two = length-set (set sums 16 key) 17 s ∙ long_one

    kept : (i : ℕ) → i < 16 → get_or (set (set (set sums 16 key) 17 s) 18 w) i 0 ≡ get_or sums i 0
    kept i h = get_or-set_other (set (set sums 16 key) 17 s) 18 i w 0 (λ q. absurd (omega (arith, h, q))) ∙ get_or-set_other (set sums 16 key) 17 i s 0 (λ q. absurd (omega (arith, h, q))) ∙ get_or-set_other sums 16 i key 0 (λ q. absurd (omega (arith, h, q)))

module _ {bytes : List ℕ} {at : ℕ} (words state : List ℕ) (f : VariableTotal bytes at) {t j s : ℕ} (ht : t ≡ get_or bytes (at + 1) 0) (low : t < 256) (hj : j ≡ get_or bytes (at + 5) 0) (hs : s ≡ get_or state (get_or bytes (at + 3) 0) 0) where
  -- the sum over s of the column that the total's key names is the total
  column_total : column_over bytes words (t + 256 * j) s ≡ total_in bytes at words state
  unfolding column_over sum_of summed_column summed_set
  column_total =
      let table : (t + 256 * j) % 256 ≡ t = omega (arith, low) in
      let column : (t + 256 * j) / 256 ≡ j = omega (arith, low) in
      rw (f.variable, table, column, ht, hj, hs)

  -- the last sum, where key and set are the same
  pub last_known : {sums : List ℕ} {z : ℤ} → Remembers bytes words sums → get_or sums 16 0 ≡ t + 256 * j → get_or sums 17 0 ≡ s → z ≡ pos (get_or sums 18 0 % range_size) -ℤ pos range_end → z ≡ total_in bytes at words state
  unfolding value_of
  last_known {sums} m hk hd hz =
      let is : value_of a_number (get_or sums 18 0) ≡ column_over bytes words (t + 256 * j) s = rw (hk, hd) at m.last_is in
      hz ∙ is ∙ column_total

  -- the total z, in its word
  pub remembers_anew : {sums : List ℕ} (w : ℕ) (z : ℤ) → Remembers bytes words sums → pos w ≡ z +ℤ pos range_end → w < range_size → z ≡ total_in bytes at words state → Remembers bytes words (set (set (set sums 16 (t + 256 * j)) 17 s) 18 w)
  unfolding value_of
  remembers_anew w z m e h is = remembers_last m (t + 256 * j) s w (word_back w z e h ∙ is ∙ sym column_total)
